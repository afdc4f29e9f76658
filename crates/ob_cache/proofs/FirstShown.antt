-- Of several cells that show that no sound tables have the rows of a store, the first is told.
use Rattle.std.proofs.Common.{◌≡◌, ◌≢◌, ◌≤◌, ◌++◌, inl, inr, ℕ, Bool, true, false, ◌&&◌, List, ◌∷◌, Ok, refl, sym, ap, subst, ◌∙◌}
use Rattle.std.specs.Prelude.{⊤, IsSomeAnd}
use Rattle.std.specs.FinMap as finite
use Rattle.std.specs.List.{AllByRecursion, flat_map}
use Rattle.std.specs.Ordering.{nat_cmp, ordering_then}
use Rattle.std.specs.declared.cmp.Ordering.{Ordering}
use Rattle.std.specs.declared.cmp.Ordering.TheVariants.{Less}
use Rattle.std.proofs.lemmas.Option.{same_Some}
use Rattle.ob_base.specs.BrokenOrder.{cell_order, kind_place}
use Rattle.ob_base.specs.Limits.{max_models}
use Rattle.ob_base.specs.declared.id.Cell.{Cell}
use Rattle.ob_base.specs.declared.id.ModelNo.{ModelNo}
use Rattle.ob_base.specs.declared.refusal.Broken.{Broken}
use Rattle.ob_base.specs.declared.value.Value.{Value}
use Rattle.ob_cache.specs.Kept.{kept_columns}
use Rattle.ob_cache.specs.Opening.{ArePlain, IsFirstTo, ShowsBroken, ShowsOther, ShowsUnread, kept_entries, kept_for}
use Rattle.ob_cache.specs.Reading.{AreTold, EachBefore, IsFirstUnread, IsOneOf, IsReadRow, IsRight, ReadRow, tests_of}
use Rattle.ob_cache.proofs.CellOrder.{less-back, less-itself, less-parts, placed}
use Rattle.ob_cache.proofs.IdFields.{one-id}
use Rattle.ob_cache.proofs.KeptForms.{IsColumn, columns-at}
use Rattle.ob_cache.proofs.OpenedTables.{is-made, of-one}
use Rattle.ob_cache.proofs.SameTables.{HaveOneBody, one-plain}
use Rattle.ob_cache.proofs.SoundForms.{field-of}
use Rattle.ob_cache.proofs.StoredRising.{IsTestBefore, looked-up, one-in-flat, stored-among, tests-rise}
use Rattle.ob_io.specs.Store.{Store}
use Rattle.ob_schema.specs.Broken.{BreaksAs, IsFirstBroken}
use Rattle.ob_schema.specs.Fields.{is_kept, is_own, is_plain_from, is_plain_kept, kept_fields}
use Rattle.ob_schema.specs.Models.{IsRegistry, field_at, is_computed_from, is_id_from}
use Rattle.ob_schema.specs.Tables.{Tables, next_of}
use Rattle.ob_schema.specs.Val.{val}
use Rattle.ob_schema.specs.declared.info.ModelInfo.{ModelInfo}
use Rattle.ob_schema.specs.declared.info.Origin.{Origin}
use Rattle.ob_schema.specs.declared.info.Origin.TheVariants as origin
use Rattle.ob_tables.proofs.CallerLemmas.{told_and}

-- a field that a formula computes isn't a plain one
not-plain : (o : Origin) (own : Bool) → is_computed_from o ≡ true → (is_plain_from o && own) ≡ false
not-plain origin.Id own computed = refl
not-plain origin.Plain own computed = absurd cc
not-plain (origin.Delegated at) own computed = refl
not-plain (origin.Computed formula) own computed = refl

module _ (models : List ModelInfo) (registry : IsRegistry models) (store : Store) where
  -- the first row that can't be read is shown first, since a row has one field `id`
  pub unread-first : (cell : Cell) → IsFirstUnread models store (λ _. ⊤) cell → IsFirstTo (ShowsUnread models store) cell
  unread-first cell first = record { shows = first.shows; none_before = none }
    where
      none : (other : Cell) → ShowsUnread models store other → cell_order other cell ≡ Less → ⊥
      none other shows less = elim (less-parts other cell less) [
        | inl before ↦ first.none_before other tt shows before
        | inr same ↦ one-id models registry cell.model other.field cell.field
            (subst (λ (m : ModelNo). IsSomeAnd (field_at models m other.field) (λ field. is_id_from field.origin ≡ true)) (ap (λ (n : ℕ). record { 0 = n }) same.0) shows.0) first.shows.0 same.2
      ]

  module _ (one : HaveOneBody) (plain : Tables) (are : ArePlain models store plain) where
    -- the first that the plain values break is shown first
    pub broken-first : (broken : Broken) → IsFirstBroken models plain broken → IsFirstTo (ShowsBroken models store) broken.cell
    broken-first broken first = record { shows = (plain, are, (broken.kind, first.there)); none_before = none }
      where
        none : (other : Cell) → ShowsBroken models store other → cell_order other broken.cell ≡ Less → ⊥
        none other shows less =
            let (tables, known, (kind, breaks)) = shows in
            first.none_before (record { cell = other; kind = kind }) (subst (λ (t : Tables). BreaksAs models t kind other) (one-plain models registry store one tables plain known are) breaks)
            (ap (λ (o : Ordering). ordering_then o (nat_cmp (kind_place kind) (kind_place broken.kind))) less)

    module _ (before : Tables) (reads : List ReadRow) (each : AllByRecursion (λ r. IsReadRow models r.model (next_of before r.model) r × (r.model.0 ≤ max_models)) reads) (empty : before.rows ≡ finite.empty)
        (told : AreTold models max_models before reads store) where
      -- what shows another value was tested, and fails its test
      other-tested : (cell : Cell) → ShowsOther models store cell → (v : Value) × IsOneOf (cell, v) (flat_map tests_of reads) × (val models plain cell ≢ Ok v)
      other-tested cell shows =
          let info = shows.info in
          let made = is-made models registry one before reads store each empty told cell.model info shows.info_is cell.id shows.kept shows.kept_is in
          let (v, kept, differs) = told_and (kept_for info shows.values cell.field) (λ v. val models shows.tables cell ≢ Ok v) shows.other in
          let values : shows.values ≡ made.from.values = one (kept_fields info) shows.values made.from.values shows.read_as.hold made.read_as.hold (sym shows.read_as.body ∙ made.read_as.body) in
          let (c, among, entry, number) = looked-up cell.field.0 v (kept_columns info) shows.values kept in
          let column = of-one (IsColumn is_kept info.fields) (kept_columns info) c (columns-at is_kept info) among in
          let field = told_and (field_at models cell.model cell.field) (λ f. is_computed_from f.origin ≡ true) shows.computed in
          let field_is : c.1 ≡ field.0 =
          same_Some c.1 field.0 (sym (field-of models cell.model info c.0 c.1 shows.info_is column.at) ∙ ap (λ (n : ℕ). field_at models cell.model (record { 0 = n })) number ∙ field.1) in
          let computed : is_plain_kept c.1 ≡ false = ap is_plain_kept field_is ∙ not-plain field.0.origin (is_own field.0) field.2 in
          let tested = stored-among made.from.model made.from.row.id c v (kept_entries made.from.info made.from.values)
          (subst (λ (i : ModelInfo). IsOneOf (c, v) (kept_entries i made.from.values)) (sym made.info_is) (subst (λ (vs : List Value). IsOneOf (c, v) (kept_entries info vs)) values entry)) computed in (
            v,
            one-in-flat tests_of (cell, v) made.from reads made.among
                (subst (λ (d : Cell). IsOneOf (d, v) (tests_of made.from)) (λ i. record { model = made.model_is i; id = made.id_is i; field = record { 0 = number i } }) tested),
            subst (λ (t : Tables). val models t cell ≢ Ok v) (one-plain models registry store one shows.tables plain shows.plain are) differs,
          )

      -- so the first that fails is shown first
      pub other-first : (cell : Cell) (v : Value) (front rest : List (Cell × Value)) → flat_map tests_of reads ≡ front ++ (cell, v) ∷ rest → AllByRecursion (IsRight (record { models = models; tables = plain })) front
          → ShowsOther models store cell → IsFirstTo (ShowsOther models store) cell
      other-first cell v front rest split right shows = record { shows = shows; none_before = none }
        where
          none : (other : Cell) → ShowsOther models store other → cell_order other cell ≡ Less → ⊥
          none other other_shows less =
              let (w, among, differs) = other-tested other other_shows in
              elim (placed IsTestBefore front (cell, v) rest (other, w) (subst (EachBefore IsTestBefore) split (tests-rise reads told.rising)) (subst (IsOneOf (other, w)) split among)) [
                | inl ahead ↦ differs (of-one (IsRight (record { models = models; tables = plain })) front (other, w) right ahead)
                | inr (inl same) ↦ less-itself other cell (ap (λ (s : Cell × Value). s.0) same) less
                | inr (inr behind) ↦ less-back cell other behind less
              ]
