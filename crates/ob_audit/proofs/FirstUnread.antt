-- The first row that can't be read is told, since a row has one field `id`; and what a row keeps for a stored computed field is tested.
use Rattle.std.proofs.Common.{◌≡◌, ◌≤◌, ◌&&◌, inl, inr, ℕ, Bool, true, false, List, refl, sym, ap, subst, ◌∙◌}
use Rattle.std.specs.Prelude.{⊤, IsSomeAnd}
use Rattle.std.specs.FinMap as finite
use Rattle.std.specs.List.{AllByRecursion, flat_map}
use Rattle.std.specs.declared.cmp.Ordering.TheVariants.{Less}
use Rattle.std.proofs.lemmas.Bool.{and_parts}
use Rattle.std.proofs.lemmas.Option.{same_Some}
use Rattle.ob_base.specs.BrokenOrder.{cell_order}
use Rattle.ob_base.specs.Limits.{max_models}
use Rattle.ob_base.specs.declared.id.Cell.{Cell}
use Rattle.ob_base.specs.declared.id.ModelNo.{ModelNo}
use Rattle.ob_base.specs.declared.value.Value.{Value}
use Rattle.ob_audit.specs.Reading.{AreTold, IsFirstUnread, IsOneOf, IsReadRow, IsStoredCell, ReadRow, tests_of}
use Rattle.ob_audit.specs.Report.{is_stored}
use Rattle.ob_audit.specs.Rows.{IsFirstTo, Keeps, ShowsUnread, kept_columns, kept_entries}
use Rattle.ob_audit.proofs.CellOrder.{less-parts}
use Rattle.ob_audit.proofs.IdFields.{one-id}
use Rattle.ob_audit.proofs.KeptForms.{IsColumn, columns-at}
use Rattle.ob_audit.proofs.ModelFields.{field-of}
use Rattle.ob_audit.proofs.StoreTables.{HaveOneBody, is-made, of-one}
use Rattle.ob_audit.proofs.StoredRising.{looked-up, one-in-flat, stored-among}
use Rattle.ob_io.specs.Store.{Store}
use Rattle.ob_schema.specs.Fields.{is_kept, is_own, is_plain_from, is_plain_kept, kept_fields}
use Rattle.ob_schema.specs.Models.{IsRegistry, field_at, is_computed_from, is_id_from}
use Rattle.ob_schema.specs.Tables.{Tables, next_of}
use Rattle.ob_schema.specs.declared.info.ModelInfo.{ModelInfo}
use Rattle.ob_schema.specs.declared.info.Origin.{Origin}
use Rattle.ob_schema.specs.declared.info.Origin.TheVariants as origin
use Rattle.ob_tables.proofs.CallerLemmas.{told_and}

-- a field that a formula computes isn't a plain one
not-plain : (o : Origin) (own : Bool) → is_computed_from o ≡ true → (is_plain_from o && own) ≡ false
not-plain origin.Id own computed = refl
not-plain origin.Plain own computed = absurd cc
not-plain (origin.Delegated at) own computed = refl
not-plain (origin.Computed formula) own computed = refl

module _ (models : List ModelInfo) (registry : IsRegistry models) (store : Store) where
  -- the first row that can't be read is shown first
  pub unread-first : (cell : Cell) → IsFirstUnread models store (λ _. ⊤) cell → IsFirstTo (ShowsUnread models store) cell
  unread-first cell first = record { shows = first.shows; none_before = none }
    where
      none : (other : Cell) → ShowsUnread models store other → cell_order other cell ≡ Less → ⊥
      none other shows less = elim (less-parts other cell less) [
        | inl before ↦ first.none_before other tt shows before
        | inr same ↦ one-id models registry cell.model other.field cell.field
            (subst (λ (m : ModelNo). IsSomeAnd (field_at models m other.field) (λ field. is_id_from field.origin ≡ true)) (ap (λ (n : ℕ). record { 0 = n }) same.0) shows.0) first.shows.0 same.2
      ]

  module _ (one : HaveOneBody) (before : Tables) (reads : List ReadRow) (each : AllByRecursion (λ r. IsReadRow models r.model (next_of before r.model) r × (r.model.0 ≤ max_models)) reads) (empty : before.rows ≡ finite.empty)
      (told : AreTold models max_models before reads store) where
    -- what a row keeps for a stored computed field is tested
    pub kept-tested : (cell : Cell) (v : Value) → IsStoredCell models cell → Keeps models store cell v → IsOneOf (cell, v) (flat_map tests_of reads)
    kept-tested cell v stored keeps =
        let info = keeps.info in
        let made = is-made models registry one before reads store each empty told cell.model info keeps.info_is cell.id keeps.kept keeps.kept_is in
        let values : keeps.values ≡ made.from.values = one (kept_fields info) keeps.values made.from.values keeps.read_as.hold made.read_as.hold (sym keeps.read_as.body ∙ made.read_as.body) in
        let (c, among, entry, number) = looked-up cell.field.0 v (kept_columns info) keeps.values keeps.value_is in
        let column = of-one (IsColumn is_kept info.fields) (kept_columns info) c (columns-at is_kept info) among in
        let field = told_and (field_at models cell.model cell.field) (λ f. is_stored f ≡ true) stored in
        let field_is : c.1 ≡ field.0 =
        same_Some c.1 field.0 (sym (field-of models cell.model info c.0 c.1 keeps.info_is column.at) ∙ ap (λ (n : ℕ). field_at models cell.model (record { 0 = n })) number ∙ field.1) in
        let computed : is_plain_kept c.1 ≡ false = ap is_plain_kept field_is ∙ not-plain field.0.origin (is_own field.0) (and_parts (is_computed_from field.0.origin) field.0.store field.2).0 in
        let tested = stored-among made.from.model made.from.row.id c v (kept_entries made.from.info made.from.values)
        (subst (λ (i : ModelInfo). IsOneOf (c, v) (kept_entries i made.from.values)) (sym made.info_is) (subst (λ (vs : List Value). IsOneOf (c, v) (kept_entries info vs)) values entry)) computed in
        one-in-flat tests_of (cell, v) made.from reads made.among
        (subst (λ (d : Cell). IsOneOf (d, v) (tests_of made.from)) (λ i. record { model = made.model_is i; id = made.id_is i; field = record { 0 = number i } }) tested)
