-- What a change edits by its touched rows is what it edits.
use Rattle.std.proofs.Common.{◌≡◌, ◌≢◌, ◌⊎◌, inl, inr, Bool, true, false, List, [], ◌∷◌, Option, Some, None, is_some, refl, sym, ap, subst, ◌∙◌}
use Rattle.std.specs.Prelude.{◌↔◌, Contains, IsSome, IsSomeAnd}
use Rattle.std.specs.Option.{option_or}
use Rattle.std.specs.Cmp.{tied_itself}
use Rattle.std.specs.Ordering.{is_eq}
use Rattle.std.proofs.lemmas.Map.Views.{tells_apart}
use Rattle.ob_base.specs.Ids.{row_key_cmp}
use Rattle.ob_base.specs.declared.id.Cell.{Cell}
use Rattle.ob_base.specs.declared.id.FieldNo.{FieldNo}
use Rattle.ob_base.specs.declared.id.ModelNo.{ModelNo}
use Rattle.ob_base.specs.declared.id.RecId.{RecId}
use Rattle.ob_base.specs.declared.id.RowKey.{RowKey}
use Rattle.ob_base.specs.declared.value.Value.TheVariants as value
use Rattle.ob_schema.proofs.CallerLemmas.{contains-cases, contains-first, contains-later, contains-none}
use Rattle.ob_schema.specs.Fields.{is_plain_from}
use Rattle.ob_schema.specs.Links.{Sides}
use Rattle.ob_schema.specs.Models.{FieldHas, IsRegistry, field_at, is_given_from}
use Rattle.ob_schema.specs.Plain.{names, naming, naming_back, plain_at}
use Rattle.ob_schema.specs.Tables.{PlainRow, Tables, key_of, kept_in, row_at}
use Rattle.ob_schema.specs.declared.info.FieldInfo.{FieldInfo}
use Rattle.ob_schema.specs.declared.info.ModelInfo.{ModelInfo}
use Rattle.ob_schema.specs.declared.info.Origin.{Origin}
use Rattle.ob_schema.specs.declared.info.Origin.TheVariants as origin
use Rattle.ob_sound.specs.Lists.{IsNamedAlike}
use Rattle.ob_sound.specs.Touched.{TouchesOnly}
use Rattle.ob_tables.proofs.CallerLemmas.{exact_rows, is_there, plain_is, rows_total, some_or_none, tell_and, there_is, told_and}
use Rattle.ob_trigger.specs.Affected.{Edited}
use Rattle.ob_change.proofs.Naming.{naming-has, naming-is, same_naming}
use Rattle.ob_change.proofs.BackFields.{IsBackField, NamesAlike, NamesAlone, back-field, named-has, named-is, plain_given, some_once}
use Rattle.ob_change.proofs.PlainValues.{given-there, list-by, no-field, rowless-none, ungiven-none, value-by}
use Rattle.ob_change.specs.EditedSteps.{EditsBy, IsGiven, IsListBy, IsThere, IsThereOnce, ListsBack, RowEdits, StandsOnce, cell_in, named_by}

-- ---- touched rows

-- rows are one or two
same_key : (a b : RowKey) → (a ≡ b) ⊎ (a ≢ b)
same_key a b = by (is_eq (row_key_cmp a b)) refl
  where
    by : (r : Bool) → is_eq (row_key_cmp a b) ≡ r → (a ≡ b) ⊎ (a ≢ b)
    by true is = inl (tells_apart exact_rows a b is)
    by false is = inr (λ same. let both : true ≡ false = sym (ap (λ (k : RowKey). is_eq (row_key_cmp a k)) (sym same) ∙ ap is_eq (tied_itself rows_total a)) ∙ is in cc)

-- a row is among these, or not
among_or_not : (keys : List RowKey) (key : RowKey) → Contains keys key ⊎ (Contains keys key → ⊥)
among_or_not [] key = inr (contains-none key)
among_or_not (k ∷ keys) key = by (same_key k key) (among_or_not keys key)
  where
    by : (k ≡ key) ⊎ (k ≢ key) → Contains keys key ⊎ (Contains keys key → ⊥) → Contains (k ∷ keys) key ⊎ (Contains (k ∷ keys) key → ⊥)
    by (inl is) rest = inl (subst (λ (x : RowKey). Contains (k ∷ keys) x) is (contains-first k keys))
    by (inr other) (inl later) = inl (contains-later k keys key later)
    by (inr other) (inr not) = inr (λ among. elim (contains-cases k keys key among) [ inl is ↦ other is | inr later ↦ not later ])

-- ---- both sides

module _ (models : List ModelInfo) (registry : IsRegistry models) (sides : Sides) where
  -- the law that a row which is the same on both sides keeps the values of its own fields
  abbrev pub KeepsValues : Type 0
  KeepsValues = (cell : Cell) → row_at sides.before cell.model cell.id ≡ row_at sides.behind cell.model cell.id → FieldHas models (λ info. option_or info.inverse info.mirror ≡ None) cell.model cell.field
      → plain_at sides.before models cell ≡ plain_at sides.behind models cell

  -- a given cell whose row is there on one side alone is edited
  once-edited : (cell : Cell) → FieldHas models IsGiven cell.model cell.field → IsThereOnce sides cell.model cell.id → Edited models sides cell
  once-edited cell given once same =
      let f = told_and (field_at models cell.model cell.field) IsGiven given in
      once (sym (given-there models sides.before cell f.0 f.1 f.2) ∙ ap is_some same ∙ given-there models sides.behind cell f.0 f.1 f.2)

  -- the value of a list
  list-value : (tables : Tables) (cell : Cell) (info : FieldInfo) (model : ModelNo) (back : FieldNo) → field_at models cell.model cell.field ≡ Some info → IsListBy model back info → IsSome (row_at tables cell.model cell.id)
      → plain_at tables models cell ≡ Some (value.Refs (naming tables model back cell.id))
  list-value tables cell info model back at (plain, backs, leads) there =
      let row = is_there (row_at tables cell.model cell.id) there in
      value-by models tables cell info origin.Plain row.0 at (plain_is info.origin plain) row.1
      ∙ ap Some (list-by tables info cell.field cell.id row.0 info.inverse info.mirror back backs ∙ ap (λ (r : Option ModelNo). naming_back tables r back cell.id) leads)

  module _ (own cell : Cell) (info other : FieldInfo) (at : field_at models cell.model cell.field ≡ Some info) (list : IsListBy own.model own.field info)
      (back : field_at models own.model own.field ≡ Some other) (field : IsBackField cell.model other) where
    -- a list that is the same on both sides has the same rows
    same_rows : IsSome (row_at sides.before cell.model cell.id) → IsSome (row_at sides.behind cell.model cell.id) → plain_at sides.before models cell ≡ plain_at sides.behind models cell
        → naming sides.before own.model own.field cell.id ≡ naming sides.behind own.model own.field cell.id
    same_rows was is same = refs (naming sides.before own.model own.field cell.id) (naming sides.behind own.model own.field cell.id) (
        sym (list-value sides.before cell info own.model own.field at list was) ∙ same ∙ list-value sides.behind cell info own.model own.field at list is
        )
      where
        refs : (a b : List RecId) → Some (value.Refs a) ≡ Some (value.Refs b) → a ≡ b
        refs a b e = cc

    -- so no row names its own on one side alone
    not_once : naming sides.before own.model own.field cell.id ≡ naming sides.behind own.model own.field cell.id → StandsOnce (named_by models sides.before own) (named_by models sides.behind own) cell.id → ⊥
    not_once one (inl (was, not)) =
        let named = naming-has sides.before own.model own.field cell.id own.id (named-is models sides.before own other back cell.model field cell.id was) in
        not (named-has models sides.behind own other back cell.model field cell.id (naming-is sides.behind own.model own.field cell.id own.id (subst (λ (l : List RecId). Contains l own.id) one named)))
    not_once one (inr (is, not)) =
        let named = naming-has sides.behind own.model own.field cell.id own.id (named-is models sides.behind own other back cell.model field cell.id is) in
        not (named-has models sides.before own other back cell.model field cell.id (naming-is sides.before own.model own.field cell.id own.id (subst (λ (l : List RecId). Contains l own.id) (sym one) named)))

    -- the row of a list with the same value on both sides is there on both
    there_alike : plain_at sides.before models cell ≡ plain_at sides.behind models cell → is_some (row_at sides.before cell.model cell.id) ≡ is_some (row_at sides.behind cell.model cell.id)
    there_alike same =
        let given = plain_given info.origin list.0 in
        sym (given-there models sides.before cell info at given) ∙ ap is_some same ∙ given-there models sides.behind cell info at given

    -- the list of a row that one row names on one side alone is edited
    once-listed : StandsOnce (named_by models sides.before own) (named_by models sides.behind own) cell.id → IsThere sides cell.model cell.id → Edited models sides cell
    once-listed once is same = not_once (same_rows (there_alike same ∙ is) is same) once

  lists-edited : (own cell : Cell) → StandsOnce (named_by models sides.before own) (named_by models sides.behind own) cell.id → ListsBack models sides own cell → Edited models sides cell
  lists-edited own cell once (there, has) =
      let f = told_and (field_at models cell.model cell.field) (IsListBy own.model own.field) has in
      let back = back-field models registry cell.model own.model cell.field own.field f.0 f.1 f.2 in
      once-listed own cell f.0 back.0 f.1 f.2 back.1 back.2 once there

  -- what a row edits is edited
  row-edits : (key : RowKey) (cell : Cell) → RowEdits models sides key cell → Edited models sides cell
  row-edits key cell (field, edits) =
      let own = cell_in key field in
      let f = told_and (field_at models key.model field) (λ info. IsGiven info × EditsBy models sides (option_or info.inverse info.mirror) info.relation own cell) edits in
      by own (tell_and (field_at models key.model field) f.0 IsGiven f.1 f.2.0) (option_or f.0.inverse f.0.mirror) f.0.relation f.2.1
    where
      by : (own : Cell) → FieldHas models IsGiven own.model own.field → (back : Option FieldNo) (relation : Option ModelNo) → EditsBy models sides back relation own cell → Edited models sides cell
      by own given None relation (inl (is, edited)) = subst (Edited models sides) (sym is) edited
      by own given None relation (inr (leads, once, lists)) = lists-edited own cell once lists
      by own given (Some back) relation (is, once) = subst (Edited models sides) (sym is) (once-edited own given once)

  module _ (keys : List RowKey) (touches : (TouchesOnly keys sides → ⊥) → ⊥) where
    -- a row that isn't the same on both sides is touched
    touched : (model : ModelNo) (id : RecId) → row_at sides.before model id ≢ row_at sides.behind model id → Contains keys (key_of model id)
    touched model id unlike = elim (among_or_not keys (key_of model id)) [
      | inl among ↦ among
      | inr not ↦ absurd (touches (λ only. elim (only model id) [ inl same ↦ unlike same | inr among ↦ not among ]))
    ]

    -- a touched row edits the cell
    abbrev pub IsFound : Cell → Type 0
    IsFound cell = (key : RowKey) × Contains keys key × RowEdits models sides key cell

    module _ (cell : Cell) (info other : FieldInfo) (target : ModelNo) (back : FieldNo) (at : field_at models cell.model cell.field ≡ Some info) (list : IsListBy target back info)
        (leads : field_at models target back ≡ Some other) (field : IsBackField cell.model other)
        (was : IsSome (row_at sides.before cell.model cell.id)) (is : IsSome (row_at sides.behind cell.model cell.id)) where
      -- rows that are the same name it alike
      unlike : (child : RecId) → NamesAlone sides target back cell.id child → row_at sides.before target child ≢ row_at sides.behind target child
      unlike child (inl (named, not)) same = not (subst (λ (r : Option PlainRow). IsSomeAnd r (λ row. names cell.id (kept_in row back) ≡ true)) same named)
      unlike child (inr (named, not)) same = not (subst (λ (r : Option PlainRow). IsSomeAnd r (λ row. names cell.id (kept_in row back) ≡ true)) (sym same) named)

      -- one that names it on one side alone has it among its targets there alone
      stands : (child : RecId) → NamesAlone sides target back cell.id child → StandsOnce (named_by models sides.before (cell_in (key_of target child) back)) (named_by models sides.behind (cell_in (key_of target child) back)) cell.id
      stands child (inl (named, not)) =
          let own = cell_in (key_of target child) back in
          inl (named-has models sides.before own other leads cell.model field cell.id named, λ among. not (named-is models sides.behind own other leads cell.model field cell.id among))
      stands child (inr (named, not)) =
          let own = cell_in (key_of target child) back in
          inr (named-has models sides.behind own other leads cell.model field cell.id named, λ among. not (named-is models sides.before own other leads cell.model field cell.id among))

      -- so it edits the list
      named-found : (child : RecId) → NamesAlone sides target back cell.id child → IsFound cell
      named-found child once =
          let own = cell_in (key_of target child) back in
          let lists : ListsBack models sides own cell = (is, tell_and (field_at models cell.model cell.field) info (IsListBy target back) at list) in
          let kept : EditsBy models sides (option_or other.inverse other.mirror) other.relation own cell =
          subst (λ (b : Option FieldNo). EditsBy models sides b other.relation own cell) (sym field.kept) (inr (field.leads, stands child once, lists)) in (
            key_of target child,
            touched target child (unlike child once),
            (
              back,
              tell_and (field_at models target back) other (λ i. IsGiven i × EditsBy models sides (option_or i.inverse i.mirror) i.relation own cell) leads (ap is_given_from field.plain, kept),
            ),
          )

      all-alike : TouchesOnly keys sides → ((key : RowKey) → Contains keys key → NamesAlike sides target back cell.id key.id) → IsNamedAlike sides target back cell.id
      all-alike only alike child = elim (only target child) [
        | inl same ↦ (
          subst (λ (r : Option PlainRow). IsSomeAnd r (λ row. names cell.id (kept_in row back) ≡ true)) same,
          subst (λ (r : Option PlainRow). IsSomeAnd r (λ row. names cell.id (kept_in row back) ≡ true)) (sym same),
        )
        | inr among ↦ alike (key_of target child) among
      ]

      -- a list of a row that is there on both sides is found by a row that names its row on one side alone
      listed-found : Edited models sides cell → IsFound cell
      listed-found edited = elim (some_once sides target back cell.id keys) [
        | inl (key, among, once) ↦ named-found key.id once
        | inr alike ↦ absurd (touches (λ only. edited (
            list-value sides.before cell info target back at list was ∙ ap (λ (l : List RecId). Some (value.Refs l)) (same_naming sides target back cell.id (all-alike only alike))
            ∙ sym (list-value sides.behind cell info target back at list is)
            )))
      ]

    module _ (same_kept : KeepsValues) (cell : Cell) (edited : Edited models sides cell) (info : FieldInfo) (at : field_at models cell.model cell.field ≡ Some info) (given : IsGiven info) where
      -- a cell of a touched row
      own-found : Contains keys (key_of cell.model cell.id) → EditsBy models sides (option_or info.inverse info.mirror) info.relation cell cell → IsFound cell
      own-found among by = (
        key_of cell.model cell.id,
        among,
        (cell.field, tell_and (field_at models cell.model cell.field) info (λ i. IsGiven i × EditsBy models sides (option_or i.inverse i.mirror) i.relation cell cell) at (given, by)),
      )

      -- one whose value stands in the row
      kept-found : option_or info.inverse info.mirror ≡ None → IsFound cell
      kept-found none = own-found (touched cell.model cell.id (λ same. edited (same_kept cell same (tell_and (field_at models cell.model cell.field) info (λ info. option_or info.inverse info.mirror ≡ None) at none))))
          (subst (λ (b : Option FieldNo). EditsBy models sides b info.relation cell cell) (sym none) (inl (refl, edited)))

      -- one of a row that is there on one side alone
      once-found : (back : FieldNo) → option_or info.inverse info.mirror ≡ Some back → IsThereOnce sides cell.model cell.id → IsFound cell
      once-found back is once = own-found (touched cell.model cell.id (λ same. once (ap is_some same)))
          (subst (λ (b : Option FieldNo). EditsBy models sides b info.relation cell cell) (sym is) (refl, once))

      -- a list of a row that is there on both sides
      both-found : (back : FieldNo) → option_or info.inverse info.mirror ≡ Some back → (was is : PlainRow) → row_at sides.before cell.model cell.id ≡ Some was → row_at sides.behind cell.model cell.id ≡ Some is → IsFound cell
      both-found back backs was is before behind = by info.origin refl given
        where
          listed : info.origin ≡ origin.Plain → (relation : Option ModelNo) → info.relation ≡ relation → IsFound cell
          listed plain None leads = absurd (edited (each sides.before was before ∙ sym (each sides.behind is behind)))
            where
              each : (tables : Tables) (row : PlainRow) → row_at tables cell.model cell.id ≡ Some row → plain_at tables models cell ≡ Some (value.Refs [])
              each tables row there =
                  value-by models tables cell info origin.Plain row at plain there
                  ∙ ap Some (list-by tables info cell.field cell.id row info.inverse info.mirror back backs ∙ ap (λ (r : Option ModelNo). naming_back tables r back cell.id) leads)
          listed plain (Some target) leads =
              let list : IsListBy target back info = (ap is_plain_from plain, backs, leads) in
              let other = back-field models registry cell.model target cell.field back info at list in
              listed-found cell info other.0 target back at list other.1 other.2 (there_is (row_at sides.before cell.model cell.id) was before) (there_is (row_at sides.behind cell.model cell.id) is behind) edited

          by : (o : Origin) → info.origin ≡ o → is_given_from o ≡ true → IsFound cell
          by origin.Id from _ = absurd (edited (value-by models sides.before cell info origin.Id was at from before ∙ sym (value-by models sides.behind cell info origin.Id is at from behind)))
          by origin.Plain from _ = listed from info.relation refl
          by (origin.Delegated to) from h = absurd cc
          by (origin.Computed formula) from h = absurd cc

      backed-found : (back : FieldNo) → option_or info.inverse info.mirror ≡ Some back → IsFound cell
      backed-found back is = by (row_at sides.before cell.model cell.id) (row_at sides.behind cell.model cell.id) refl refl
        where
          by : (r s : Option PlainRow) → row_at sides.before cell.model cell.id ≡ r → row_at sides.behind cell.model cell.id ≡ s → IsFound cell
          by None None before behind = absurd (edited (rowless-none models sides.before cell info at before ∙ sym (rowless-none models sides.behind cell info at behind)))
          by None (Some row) before behind = once-found back is (λ same. let both : false ≡ true = sym (ap is_some before) ∙ same ∙ ap is_some behind in absurd cc)
          by (Some row) None before behind = once-found back is (λ same. let both : true ≡ false = sym (ap is_some before) ∙ same ∙ ap is_some behind in absurd cc)
          by (Some was) (Some now) before behind = both-found back is was now before behind

      given-found : IsFound cell
      given-found = by (option_or info.inverse info.mirror) refl
        where
          by : (back : Option FieldNo) → option_or info.inverse info.mirror ≡ back → IsFound cell
          by None none = kept-found none
          by (Some back) is = backed-found back is

    -- what is edited is found
    edited-found : KeepsValues → (cell : Cell) → Edited models sides cell → IsFound cell
    edited-found same_kept cell edited = elim (some_or_none (field_at models cell.model cell.field)) [
      | inl none ↦ absurd (edited (no-field models sides.before cell none ∙ sym (no-field models sides.behind cell none)))
      | inr some ↦ by some.0 some.1 (is_given_from some.0.origin) refl
    ]
      where
        by : (info : FieldInfo) → field_at models cell.model cell.field ≡ Some info → (b : Bool) → is_given_from info.origin ≡ b → IsFound cell
        by info at true given = given-found same_kept cell edited info at given
        by info at false not = absurd (edited (ungiven-none models sides.before cell info at not ∙ sym (ungiven-none models sides.behind cell info at not)))

    -- so these are the edited cells
    pub found-edited : KeepsValues → (cell : Cell) → IsFound cell ↔ Edited models sides cell
    found-edited same_kept cell = (λ (key, among, edits). row-edits key cell edits, edited-found same_kept cell)
