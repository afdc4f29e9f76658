-- What a store is opened as, by the rows that were read of it: sound tables with its rows, or a cell that shows that there are none.
use Rattle.std.proofs.Common.{◌≡◌, ◌<◌, ◌≤◌, ◌^◌, ◌++◌, inl, inr, ℕ, Bool, true, false, cond, List, [], ◌∷◌, map, Option, Some, None, IsSome, Ok, refl, sym, ap, subst, ◌∙◌, arith}
use Rattle.std.specs.Prelude.{⊤, All, IfSome, IsOk}
use Rattle.std.specs.List.{AllByRecursion, cons_option, filter_map, flat_map}
use Rattle.std.proofs.lemmas.List.Elements.{All-from_recursion, recursion_from_All}
use Rattle.ob_base.specs.Limits.{max_models}
use Rattle.ob_base.specs.declared.id.Cell.{Cell}
use Rattle.ob_base.specs.declared.id.ModelNo.{ModelNo}
use Rattle.ob_base.specs.declared.id.RecId.{RecId}
use Rattle.ob_base.specs.declared.refusal.Broken.{Broken}
use Rattle.ob_base.specs.declared.value.Value.{Value}
use Rattle.ob_cache.specs.Kept.{Kept, kept_columns}
use Rattle.ob_cache.specs.Native.{IsNativeRegistry}
use Rattle.ob_cache.specs.Opening.{IsFirstInconsistent, StopsOpening}
use Rattle.ob_cache.specs.Reading.{AreTold, DiffersAmong, IsOneOf, IsReadRow, ReadRow, ReadsModels, StopsReading, edit_of, entries, stored_of, tests_of}
use Rattle.ob_cache.specs.Rooms.{AreReadable}
use Rattle.ob_cache.specs.Standing.{FitNextIds, max_next_id}
use Rattle.ob_cache.specs.declared.fault.OpenFault.{OpenFault}
use Rattle.ob_cache.specs.declared.fault.OpenFault.TheVariants as open_fault
use Rattle.ob_cache.specs.declared.kept_rows.ReadRows.{ReadRows}
use Rattle.ob_cache.proofs.Inconsistent.{broken-inconsistent, other-inconsistent, unread-inconsistent}
use Rattle.ob_cache.proofs.KeptForms.{IsColumn, columns-at, each-back, each_of, with_values, zip-map}
use Rattle.ob_cache.proofs.MadeTables.{edit-fit, next-after}
use Rattle.ob_cache.proofs.NativeValues.{native-values}
use Rattle.ob_cache.proofs.OpenedTables.{are-plain, keeps-made}
use Rattle.ob_cache.proofs.FirstShown.{broken-first, other-first, unread-first}
use Rattle.ob_cache.proofs.PagedRows.{all-appended, one-right}
use Rattle.ob_cache.proofs.SameTables.{HaveOneBody}
use Rattle.ob_cache.proofs.SoundForms.{field-of}
use Rattle.ob_definition.specs.Values.{IsNative}
use Rattle.ob_io.specs.Store.{Store}
use Rattle.ob_schema.specs.Broken.{AreSound, IsFirstBroken}
use Rattle.ob_schema.specs.Fields.{Column, Holds, is_kept, is_plain_kept}
use Rattle.ob_schema.specs.Models.{IsRegistry, field_at, is_computed_from, model_at}
use Rattle.ob_schema.specs.Tables.{Fits, Standing, Tables, next_of, row_at}
use Rattle.ob_schema.specs.Val.{val}
use Rattle.ob_schema.specs.declared.info.FieldInfo.{FieldInfo}
use Rattle.ob_schema.specs.declared.info.ModelInfo.{ModelInfo}
use Rattle.ob_tables.specs.After.{after}
use Rattle.ob_tables.specs.Fitting.{IsFitEdit}
use Rattle.ob_tables.specs.declared.edit.Edit.{Edit}
use Rattle.ob_tables.proofs.CallerLemmas.{there_is}

-- a law of tables: those that are sound can be read
abbrev pub AllReadable : List ModelInfo → Type 0
AllReadable models = (tables : Tables) → AreSound models tables → AreReadable models tables

pub all-readable : (models : List ModelInfo) → IsRegistry models → IsNativeRegistry models
    → ((models : List ModelInfo) (tables : Tables) → IsRegistry models → AreSound models tables → (cell : Cell) → IsSome (row_at tables cell.model cell.id)
    → IsSome (field_at models cell.model cell.field) → IsOk (val models tables cell))
    → ((models : List ModelInfo) (tables : Tables) → IsRegistry models → AreSound models tables → (cell : Cell) (info : FieldInfo) → field_at models cell.model cell.field ≡ Some info → is_computed_from info.origin ≡ true
    → (v : Value) → val models tables cell ≡ Ok v → IsNative v → Holds info v)
    → AllReadable models
all-readable models registry native valued typed =
    λ tables sound. record { sound = sound; typed = typed models tables registry sound; valued = valued models tables registry sound; native = native-values models tables registry native sound }

-- a cell of a field of the models
abbrev pub IsOfField : List ModelInfo → Cell × Value → Type 0
IsOfField models s = IsSome (field_at models s.0.model s.0.field)

-- what is tested of a row is of fields
module _ (models : List ModelInfo) (model : ModelNo) (info : ModelInfo) (is : model_at models model ≡ Some info) (id : RecId) (g : Column → Value) where
  columns-there : (cols : List Column) → AllByRecursion (IsColumn is_kept info.fields) cols → AllByRecursion (IsOfField models) (filter_map (stored_of model id) (with_values g cols))
  columns-there [] at = tt
  columns-there (c ∷ cols) at = by (is_plain_kept c.1) (columns-there cols at.1)
    where
      by : (b : Bool) → AllByRecursion (IsOfField models) (filter_map (stored_of model id) (with_values g cols))
          → AllByRecursion (IsOfField models) (cons_option (cond b None (Some (record { model = model; id = id; field = record { 0 = c.0 } }, g c))) (filter_map (stored_of model id) (with_values g cols)))
      by true rest = rest
      by false rest = (there_is (field_at models model (record { 0 = c.0 })) c.1 (field-of models model info c.0 c.1 is at.0.at), rest)

tests-there : (models : List ModelInfo) (next : ℕ) (r : ReadRow) → IsReadRow models r.model next r → AllByRecursion (IsOfField models) (tests_of r)
tests-there models next r read =
    let g = each_of r.info r.values in
    let entries_are = ap (entries r.info.fields) (sym (each-back r.info r.values read.read_as.hold)) ∙ zip-map g (kept_columns r.info) in
    subst (λ (es : List (Column × Value)). AllByRecursion (IsOfField models) (filter_map (stored_of r.model r.row.id) es)) (sym entries_are)
    (columns-there models r.model r.info read.info_is r.row.id g (kept_columns r.info) (columns-at is_kept r.info))

-- reading stops where no sound tables have the rows
pub reading-stops : (models : List ModelInfo) → IsRegistry models → AllReadable models → HaveOneBody → (kept : Option Store) (rose : Type 0) (fault : OpenFault)
    → StopsReading models kept rose (λ _. ⊤) fault → StopsOpening models kept rose fault
reading-stops models registry readable one kept rose open_fault.Keeper stops = stops
reading-stops models registry readable one kept rose open_fault.NoMemory stops = tt
reading-stops models registry readable one None rose (open_fault.Inconsistent cell) stops = tt
reading-stops models registry readable one (Some store) rose (open_fault.Inconsistent cell) stops =
    record { inconsistent = unread-inconsistent models registry readable one store cell stops.shows; first = inl (unread-first models registry store cell stops) }

module _ (models : List ModelInfo) (kept : Option Store) (before : Tables) (none rows : ReadRows) (no_edits : none.edits ≡ []) (no_tests : none.stored ≡ []) (read : ReadsModels models kept max_models before none rows) where
  pub edits-are : rows.edits ≡ map edit_of read.reads
  edits-are = read.adds.edits ∙ ap (λ (l : List Edit). l ++ map edit_of read.reads) no_edits

  pub tests-are : rows.stored ≡ flat_map tests_of read.reads
  tests-are = read.adds.stored ∙ ap (λ (l : List (Cell × Value)). l ++ flat_map tests_of read.reads) no_tests

  -- the rows make edits that fit
  pub edits-fit : All (IsFitEdit models) rows.edits
  edits-fit = subst (All (IsFitEdit models)) (sym edits-are) (All-from_recursion (IsFitEdit models) (map edit_of read.reads) (each read.reads read.each))
    where
      each : (reads : List ReadRow) → AllByRecursion (λ r. IsReadRow models r.model (next_of before r.model) r × (r.model.0 ≤ max_models)) reads → AllByRecursion (IsFitEdit models) (map edit_of reads)
      each [] all = tt
      each (r ∷ reads) all = (edit-fit models r.model (next_of before r.model) r (read.fits r.model) all.0.0, each reads all.1)

  -- what is tested is of fields
  pub tests-fit : All (IsOfField models) rows.stored
  tests-fit = subst (All (IsOfField models)) (sym tests-are) (All-from_recursion (IsOfField models) (flat_map tests_of read.reads) (each read.reads read.each))
    where
      each : (reads : List ReadRow) → AllByRecursion (λ r. IsReadRow models r.model (next_of before r.model) r × (r.model.0 ≤ max_models)) reads → AllByRecursion (IsOfField models) (flat_map tests_of reads)
      each [] all = tt
      each (r ∷ reads) all = all-appended (IsOfField models) (tests_of r) (flat_map tests_of reads) (tests-there models (next_of before r.model) r all.0.0) (each reads all.1)

  -- the tables that the rows make
  abbrev pub opened : Tables
  opened = after models before (map edit_of read.reads)

  pub opened-standing : (over : List ModelInfo) (edits : List Edit) (s : Standing) → over ≡ models → edits ≡ rows.edits
      → s ≡ record { models = over; tables = after over before edits } → s ≡ record { models = models; tables = opened }
  opened-standing over edits s over_is edits_is is = is ∙ (λ i. record { models = over_is i; tables = after (over_is i) before ((edits_is ∙ edits-are) i) })

  -- a keeper can keep their next ids
  pub next-fit : FitNextIds models opened
  next-fit model has = by (next_of opened model) (next_of before model) (next-after models read.reads before model (each read.reads read.each)) (read.fits model)
    where
      by : (a b : ℕ) → a ≡ b → b < 2 ^ 63 → a ≤ max_next_id
      by a b same low = omega arith

      each : (reads : List ReadRow) → AllByRecursion (λ r. IsReadRow models r.model (next_of before r.model) r × (r.model.0 ≤ max_models)) reads
          → AllByRecursion (λ r. (model_at models r.model ≡ Some r.info) × (r.row.id.0 < next_of before r.model)) reads
      each [] all = tt
      each (r ∷ reads) all = ((all.0.0.info_is, all.0.0.below), each reads all.1)

  module _ (registry : IsRegistry models) (readable : AllReadable models) (one : HaveOneBody) where
    -- where they break something, no sound tables have the rows
    pub broken-stops : Fits models opened → (broken : Broken) → IsFirstBroken models opened broken → IfSome kept (λ store. IsFirstInconsistent models store broken.cell)
    broken-stops fits broken breaks = by kept read.told
      where
        by : (o : Option Store) → IfSome o (AreTold models max_models before read.reads) → IfSome o (λ store. IsFirstInconsistent models store broken.cell)
        by None told = tt
        by (Some store) told =
            let are = are-plain models registry one before read.reads store read.each read.empty told fits in
            record { inconsistent = broken-inconsistent models registry readable one store opened are broken breaks.there; first = inr (inl (broken-first models registry store one opened are broken breaks)) }

    -- nor where a stored cell is another
    pub differs-stops : AreSound models opened → (rose : Type 0) (fault : OpenFault) → DiffersAmong (record { models = models; tables = opened }) rows.stored fault → StopsOpening models kept rose fault
    differs-stops sound rose open_fault.Keeper differs = absurd differs
    differs-stops sound rose open_fault.NoMemory differs = tt
    differs-stops sound rose (open_fault.Inconsistent cell) (front, v, rest, split, right, differs) = by kept read.told
      where
        by : (o : Option Store) → IfSome o (AreTold models max_models before read.reads) → IfSome o (λ store. IsFirstInconsistent models store cell)
        by None told = tt
        by (Some store) told =
            let are = are-plain models registry one before read.reads store read.each read.empty told sound.fits in
            let parts : flat_map tests_of read.reads ≡ front ++ (cell, v) ∷ rest = sym tests-are ∙ split in
            let both = other-inconsistent models registry readable one store before read.reads read.each opened are sound told.row cell v
            (subst (IsOneOf (cell, v)) (sym parts) (one-right (cell, v) front ((cell, v) ∷ rest) (inl refl))) differs in
            record { inconsistent = both.0; first = inr (inr (other-first models registry store one opened are before read.reads read.each read.empty told cell v front rest parts right both.1)) }

    -- else the store keeps them
    pub all-kept : AreSound models opened → All (λ s. val models opened s.0 ≡ Ok s.1) rows.stored → IfSome kept (Kept models opened)
    all-kept sound tested = by kept read.told
      where
        by : (o : Option Store) → IfSome o (AreTold models max_models before read.reads) → IfSome o (Kept models opened)
        by None told = tt
        by (Some store) told =
            keeps-made models registry one before read.reads store read.each read.empty told sound
            (recursion_from_All (λ s. val models opened s.0 ≡ Ok s.1) (flat_map tests_of read.reads) (subst (All (λ s. val models opened s.0 ≡ Ok s.1)) tests-are tested))
