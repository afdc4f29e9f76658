-- What is read of a store: the tables of its plain values, and what its rows keep for computed fields; or the first row that can't be read.
use Rattle.std.proofs.Common.{◌≡◌, ◌≤◌, ◌++◌, List, [], ◌∷◌, map, Option, Some, None, sym, ap, subst, ◌∙◌}
use Rattle.std.specs.Prelude.{⊤, All, IfSome}
use Rattle.std.specs.List.{AllByRecursion, flat_map}
use Rattle.std.proofs.lemmas.List.Elements.{All-from_recursion}
use Rattle.ob_base.specs.Limits.{max_models}
use Rattle.ob_base.specs.declared.id.Cell.{Cell}
use Rattle.ob_base.specs.declared.value.Value.{Value}
use Rattle.ob_audit.specs.Reading.{AreStored, AreTold, IsFitStored, IsOneOf, IsReadRow, ReadRow, ReadsModels, StopsReading, StopsStore, edit_of, tests_of}
use Rattle.ob_audit.specs.Rows.{ArePlain, Keeps}
use Rattle.ob_audit.specs.declared.fault.ReadingFault.{ReadingFault}
use Rattle.ob_audit.specs.declared.fault.ReadingFault.TheVariants as reading_fault
use Rattle.ob_audit.specs.declared.kept_rows.ReadRows.{ReadRows}
use Rattle.ob_audit.proofs.FirstUnread.{kept-tested, unread-first}
use Rattle.ob_audit.proofs.MadeTables.{edit-fit}
use Rattle.ob_audit.proofs.PagedRows.{all-appended}
use Rattle.ob_audit.proofs.StoreTables.{HaveOneBody, are-plain, of-each, of-one}
use Rattle.ob_audit.proofs.StoredCells.{one-of-flat, test-fits, test-kept}
use Rattle.ob_audit.proofs.StoredRising.{tests-rise}
use Rattle.ob_io.specs.Store.{Store, row_at as kept_row_at}
use Rattle.ob_schema.specs.Models.{IsRegistry}
use Rattle.ob_schema.specs.Tables.{Fits, Standing, Tables, next_of}
use Rattle.ob_schema.specs.declared.info.ModelInfo.{ModelInfo}
use Rattle.ob_tables.specs.After.{after}
use Rattle.ob_tables.specs.Fitting.{IsFitEdit}
use Rattle.ob_tables.specs.declared.edit.Edit.{Edit}

-- reading stops at the first row that can't be read
pub reading-stops : (models : List ModelInfo) → IsRegistry models → (kept : Option Store) (rose : Type 0) (fault : ReadingFault) → StopsReading models kept rose (λ _. ⊤) fault → StopsStore models kept rose fault
reading-stops models registry kept rose reading_fault.Keeper stops = stops
reading-stops models registry kept rose reading_fault.NoMemory stops = tt
reading-stops models registry None rose (reading_fault.Unreadable cell) stops = tt
reading-stops models registry (Some store) rose (reading_fault.Unreadable cell) stops = unread-first models registry store cell stops

module _ (models : List ModelInfo) (kept : Option Store) (before : Tables) (none rows : ReadRows) (no_edits : none.edits ≡ []) (no_tests : none.stored ≡ []) (read : ReadsModels models kept max_models before none rows) where
  edits-are : rows.edits ≡ map edit_of read.reads
  edits-are = read.adds.edits ∙ ap (λ (l : List Edit). l ++ map edit_of read.reads) no_edits

  tests-are : rows.stored ≡ flat_map tests_of read.reads
  tests-are = read.adds.stored ∙ ap (λ (l : List (Cell × Value)). l ++ flat_map tests_of read.reads) no_tests

  -- the rows make edits that fit
  pub edits-fit : All (IsFitEdit models) rows.edits
  edits-fit = subst (All (IsFitEdit models)) (sym edits-are) (All-from_recursion (IsFitEdit models) (map edit_of read.reads) (each read.reads read.each))
    where
      each : (reads : List ReadRow) → AllByRecursion (λ r. IsReadRow models r.model (next_of before r.model) r × (r.model.0 ≤ max_models)) reads → AllByRecursion (IsFitEdit models) (map edit_of reads)
      each [] all = tt
      each (r ∷ reads) all = (edit-fit models r.model (next_of before r.model) r (read.fits r.model) all.0.0, each reads all.1)

  -- what is tested is of fields that may hold it
  pub tests-fit : All (IsFitStored models) rows.stored
  tests-fit = subst (All (IsFitStored models)) (sym tests-are) (All-from_recursion (IsFitStored models) (flat_map tests_of read.reads) (each read.reads read.each))
    where
      each : (reads : List ReadRow) → AllByRecursion (λ r. IsReadRow models r.model (next_of before r.model) r × (r.model.0 ≤ max_models)) reads → AllByRecursion (IsFitStored models) (flat_map tests_of reads)
      each [] all = tt
      each (r ∷ reads) all =
          all-appended (IsFitStored models) (tests_of r) (flat_map tests_of reads) (of-each (IsFitStored models) (tests_of r) (test-fits models (next_of before r.model) r all.0.0)) (each reads all.1)

  -- the tables that the rows make
  abbrev pub read_tables : Tables
  read_tables = after models before (map edit_of read.reads)

  pub read-standing : (over : List ModelInfo) (edits : List Edit) (s : Standing) → over ≡ models → edits ≡ rows.edits
      → s ≡ record { models = over; tables = after over before edits } → s ≡ record { models = models; tables = read_tables }
  read-standing over edits s over_is edits_is is = is ∙ (λ i. record { models = over_is i; tables = after (over_is i) before ((edits_is ∙ edits-are) i) })

  module _ (registry : IsRegistry models) (one : HaveOneBody) where
    -- they are those of the plain values that are kept
    pub read-plain : Fits models read_tables → IfSome kept (λ store. ArePlain models store read_tables)
    read-plain fits = by kept read.told
      where
        by : (o : Option Store) → IfSome o (AreTold models max_models before read.reads) → IfSome o (λ store. ArePlain models store read_tables)
        by None told = tt
        by (Some store) told = are-plain models registry one before read.reads store read.each read.empty told fits

    -- and what is tested is what rows keep for computed fields
    pub read-stored : IfSome kept (λ store. AreStored models store rows.stored)
    read-stored = by kept read.told
      where
        by : (o : Option Store) → IfSome o (AreTold models max_models before read.reads) → IfSome o (λ store. AreStored models store rows.stored)
        by None told = tt
        by (Some store) told = subst (AreStored models store) (sym tests-are) (record {
          right = of-each (λ s. Keeps models store s.0 s.1) (flat_map tests_of read.reads) right;
          all = kept-tested models registry store one before read.reads read.each read.empty told;
          rising = tests-rise read.reads told.rising;
        })
          where
            right : (s : Cell × Value) → IsOneOf s (flat_map tests_of read.reads) → Keeps models store s.0 s.1
            right s among =
                let (r, is_read, tested) = one-of-flat tests_of s read.reads among in
                test-kept models (next_of before r.model) r (of-one (λ q. IsReadRow models q.model (next_of before q.model) q × (q.model.0 ≤ max_models)) read.reads r read.each is_read).0 store
                (of-one (λ q. kept_row_at store q.model q.row.id ≡ Some q.row) read.reads r told.row is_read) s tested
