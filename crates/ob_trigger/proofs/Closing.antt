-- What the closure gives lies within the cells that a change can reach, and holds each that it changes.
use Rattle.std.proofs.Common.{◌≡◌, ◌⊎◌, ◌↔◌, inl, inr, zero, suc, get_or, true, false, List, Option, Some, None, refl, sym, ap, subst, ◌∙◌}
use Rattle.std.specs.Prelude.{All, Any, Contains, IsSome}
use Rattle.std.specs.BTreeSet as sorted
use Rattle.std.proofs.lemmas.List.Elements.{Contains-get_or}
use Rattle.ob_base.specs.declared.id.Cell.{Cell}
use Rattle.ob_base.specs.declared.id.ModelNo.{ModelNo}
use Rattle.ob_base.specs.declared.id.RecId.{RecId}
use Rattle.ob_expr.specs.Reads.{LacksAlongPaths}
use Rattle.ob_expr.specs.TypedTree.{TypedTree}
use Rattle.ob_schema.specs.Links.{Sides}
use Rattle.ob_schema.specs.Models.{FieldHas, IsComputedBy, IsRegistry, field_at, is_computed_from, is_delegated_from, is_id_from}
use Rattle.ob_schema.specs.Plain.{id_value, plain_at, plain_from}
use Rattle.ob_schema.specs.ReadCells.{MeansByReadCells}
use Rattle.ob_schema.specs.Tables.{PlainRow, Tables, row_at}
use Rattle.ob_schema.specs.Tied.{IsTied}
use Rattle.ob_schema.specs.Val.{enough, val}
use Rattle.ob_schema.specs.declared.info.FieldInfo.{FieldInfo}
use Rattle.ob_schema.specs.declared.info.Formula.{Formula}
use Rattle.ob_schema.specs.declared.info.ModelInfo.{ModelInfo}
use Rattle.ob_schema.specs.declared.info.Origin.{Origin}
use Rattle.ob_schema.specs.declared.info.Origin.TheVariants as origin
use Rattle.ob_schema.specs.declared.info.Step.{Step}
use Rattle.ob_trigger.specs.Affected.{Affected, Changed, Edited, HasComputedField, HasNewRow, IsChange, IsComputedBehind, IsComputedField, LeadsToEdited, ReadsIn}
use Rattle.ob_trigger.specs.Marks.{IsClosure, IsIdBeside, IsInEditedRow, HasMark, has_mark}
use Rattle.ob_trigger.proofs.Agreeing.{agree, same_unless}
use Rattle.ob_trigger.proofs.IdFields.{id-there, id_is}
use Rattle.ob_trigger.proofs.Known.{Field-at, is_there, some_or_none, tell_and, there_is, told_and}
use Rattle.ob_trigger.proofs.Lists.{any_is, any_one, both_ways}
use Rattle.ob_trigger.proofs.Marking.{marked-among, marked_or_not}
use Rattle.ob_trigger.proofs.RowsThere.{plain_none, plain_there}

-- the laws of what formulas mean
pub record AreLaws (models : List ModelInfo) : Type 0 where
  pub registry : IsRegistry models
  pub lacks : (tree : TypedTree) → LacksAlongPaths tree
  pub means : (at : Step) (formula : Formula) → IsComputedBy models at formula → MeansByReadCells at.model formula

-- a computed field isn't delegated
computed_own : (models : List ModelInfo) (cell : Cell) → HasComputedField models cell → FieldHas models (λ field. is_delegated_from field.origin ≡ false) cell.model cell.field
computed_own models cell has =
    let t = told_and (field_at models cell.model cell.field) IsComputedField has in
    tell_and (field_at models cell.model cell.field) t.0 (λ field. is_delegated_from field.origin ≡ false) t.1 (by t.0.origin t.2)
  where
    by : (o : Origin) → is_computed_from o ≡ true → is_delegated_from o ≡ false
    by (origin.Computed formula) is = refl
    by origin.Id is = absurd cc
    by origin.Plain is = absurd cc
    by (origin.Delegated at) is = absurd cc

module _ (models : List ModelInfo) (sides : Sides) where
  -- a computed cell has no plain value
  no_plain : (tables : Tables) (cell : Cell) → HasComputedField models cell → plain_at tables models cell ≡ None
  no_plain tables cell has = elim (some_or_none (row_at tables cell.model cell.id)) [
    | inl none ↦ plain_none models tables cell none
    | inr some ↦ (let t = told_and (field_at models cell.model cell.field) IsComputedField has in
        plain_there models tables cell some.0 t.0 t.0.origin some.1 t.1 refl ∙ by t.0.origin t.2 t.0 some.0)
  ]
    where
      by : (o : Origin) → is_computed_from o ≡ true → (f : FieldInfo) (row : PlainRow) → plain_from tables o f cell.field cell.id row ≡ None
      by (origin.Computed formula) is f row = refl
      by origin.Id is f row = absurd cc
      by origin.Plain is f row = absurd cc
      by (origin.Delegated at) is f row = absurd cc

  -- the value of the row's id
  id_there : (tables : Tables) (own : Cell) (row : PlainRow) → row_at tables own.model own.id ≡ Some row → FieldHas models (λ field. field.origin ≡ origin.Id) own.model own.field
      → plain_at tables models own ≡ Some (id_value own.id)
  id_there tables own row there has =
      let t = told_and (field_at models own.model own.field) (λ field. field.origin ≡ origin.Id) has in plain_there models tables own row t.0 origin.Id there t.1 t.2

  -- where the id is edited and the row is there behind, it is new
  edited_new : (own : Cell) → FieldHas models (λ field. field.origin ≡ origin.Id) own.model own.field → Edited models sides own → IsSome (row_at sides.behind own.model own.id)
      → row_at sides.before own.model own.id ≡ None
  edited_new own has edited here = elim (some_or_none (row_at sides.before own.model own.id)) [
    | inl none ↦ none
    | inr some ↦ (let r = is_there (row_at sides.behind own.model own.id) here in
        absurd (edited (id_there sides.before own some.0 some.1 has ∙ sym (id_there sides.behind own r.0 r.1 has))))
  ]

  -- and the id of a new row is edited
  new_edited : (own : Cell) → FieldHas models (λ field. field.origin ≡ origin.Id) own.model own.field → IsSome (row_at sides.behind own.model own.id) → row_at sides.before own.model own.id ≡ None
      → Edited models sides own
  new_edited own has here none same =
      let r = is_there (row_at sides.behind own.model own.id) here in
      let both : None ≡ Some (id_value own.id) = sym (plain_none models sides.before own none) ∙ same ∙ id_there sides.behind own r.0 r.1 has in
      cc

  -- a cell that leads to no edited one has the same value, where its row is there on both sides
  pub kept_value : AreLaws models → IsTied models sides.before → IsTied models sides.behind → (Untouched : Cell → Type 0)
      → ((cell : Cell) → Untouched cell → Edited models sides cell → ⊥) → ((cell other : Cell) → Untouched cell → ReadsIn models sides.before cell other → Untouched other)
      → (cell : Cell) → IsSome (row_at sides.before cell.model cell.id) → IsSome (row_at sides.behind cell.model cell.id) → HasComputedField models cell → Untouched cell
      → val models sides.before cell ≡ val models sides.behind cell
  kept_value laws tied_before tied_behind Untouched free reads cell old new computed untouched =
      agree models laws.registry sides tied_before tied_behind Untouched
      (λ c is. same_unless (plain_at sides.before models c) (plain_at sides.behind models c) (free c is)) reads
      laws.lacks laws.means (enough models sides.before) cell ((old, new), computed_own models cell computed, untouched)

  -- no edited cell is read, or is the cell
  abbrev Unled : Cell → Type 0
  Unled c = Edited models sides c ⊎ LeadsToEdited models sides sides.before c → ⊥

  -- a computed cell that the change can't reach has the same value on both sides
  pub unaffected : AreLaws models → IsTied models sides.before → IsTied models sides.behind → (cell : Cell) → IsComputedBehind models sides cell → (Affected models sides cell → ⊥)
      → val models sides.before cell ≡ val models sides.behind cell
  unaffected laws tied_before tied_behind cell computed not =
      kept_value laws tied_before tied_behind Unled (λ c free edited. free (inl edited)) through cell old computed.0 computed.1 untouched
    where
      through : (c other : Cell) → Unled c → ReadsIn models sides.before c other → Unled other
      through c other free read (inl edited) = free (inr (other, (zero, read), edited))
      through c other free read (inr leads) = free (inr (leads.0, (suc leads.1.0, (other, read, leads.1.1)), leads.2))

      old : IsSome (row_at sides.before cell.model cell.id)
      old = elim (some_or_none (row_at sides.before cell.model cell.id)) [
        | inl none ↦ absurd (not (computed, inl none))
        | inr some ↦ there_is (row_at sides.before cell.model cell.id) some.0 some.1
      ]

      plain : (c : Cell) → HasComputedField models c → Edited models sides c → ⊥
      plain c has edited = edited (no_plain sides.before c has ∙ sym (no_plain sides.behind c has))

      untouched : Unled cell
      untouched (inl edited) = plain cell computed.1 edited
      untouched (inr leads) = not (computed, inr (inl leads))

  module _ (laws : AreLaws models) (edited : List Cell) (change : IsChange models sides edited) (reached all there : sorted.BTreeSet Cell) (found : IsClosure models sides edited reached)
      (computed : (cell : Cell) → HasMark reached cell → HasComputedField models cell)
      (rows : (cell : Cell) → HasMark all cell ↔ (HasMark reached cell ⊎ IsInEditedRow models edited cell))
      (behind : (cell : Cell) → HasMark there cell ↔ (Contains all.keys cell × IsSome (row_at sides.behind cell.model cell.id))) where
    -- a cell of a row whose id is edited, and which is there behind, is new
    row_new : (cell : Cell) → Any (IsIdBeside models cell) edited → IsSome (row_at sides.behind cell.model cell.id) → HasNewRow models sides cell
    row_new cell beside here =
        let one = any_one (IsIdBeside models cell) edited beside in
        let own = one.0 in
        let t = told_and (field_at models own.model own.field) (λ field. is_id_from field.origin ≡ true) one.2.2 in
        let has = tell_and (field_at models own.model own.field) t.0 (λ field. field.origin ≡ origin.Id) t.1 (id_is t.0.origin t.2) in
        let row : (tables : Tables) → row_at tables own.model own.id ≡ row_at tables cell.model cell.id =
        λ tables. ap (λ (m : ModelNo). row_at tables m own.id) one.2.0 ∙ ap (λ (i : RecId). row_at tables cell.model i) one.2.1 in
        sym (row sides.before) ∙ edited_new own has ((change.edited own).0 one.1) (subst (λ (o : Option PlainRow). IsSome o) (sym (row sides.behind)) here)

    affected : (cell : Cell) → Contains there.keys cell → Affected models sides cell
    affected cell among =
        let b = (behind cell).0 ((marked-among there cell).1 among) in
        elim ((rows cell).0 ((marked-among all cell).1 b.0)) [
          | inl marks ↦ (let leads = found.right cell marks in
              ((b.1, computed cell marks), inr (inl (leads.0, leads.1, (change.edited leads.0).0 leads.2))))
          | inr (has, beside) ↦ ((b.1, has), inl (row_new cell beside b.1))
        ]

    pub all_affected : All (Affected models sides) there.keys
    all_affected = λ k d within. affected (get_or there.keys k d) (Contains-get_or there.keys k d within)

    -- what is marked of a row that is there is given
    given : (cell : Cell) → HasMark all cell → IsSome (row_at sides.behind cell.model cell.id) → Contains there.keys cell
    given cell marks here = (marked-among there cell).0 ((behind cell).1 ((marked-among all cell).0 marks, here))

    -- the computed cells of new rows are
    new_marked : (cell : Cell) → IsComputedBehind models sides cell → HasNewRow models sides cell → HasMark all cell
    new_marked cell at none =
        let t = told_and (field_at models cell.model cell.field) IsComputedField at.1 in
        let field = Field-at models cell.model cell.field t.0 laws.registry t.1 in
        let id = id-there models cell.model field.info field.model_is field.valid in
        let own : Cell = record cell { field = id.0 } in
        let edits = (change.edited own).1 (new_edited own id.1 at.0 none) in
        let u = told_and (field_at models cell.model id.0) (λ f. f.origin ≡ origin.Id) id.1 in
        let has : FieldHas models (λ f. is_id_from f.origin ≡ true) cell.model id.0 = tell_and (field_at models cell.model id.0) u.0 (λ f. is_id_from f.origin ≡ true) u.1 (ap (λ (o : Origin). is_id_from o) u.2) in
        (rows cell).1 (inr (at.1, any_is (IsIdBeside models cell) edited own edits (refl, refl, has)))

    -- a cell that isn't marked, of a row that was there, has the same value
    abbrev Untouched : Cell → Type 0
    Untouched cell = (Contains edited cell → ⊥) × (has_mark reached cell ≡ false)

    through : (cell other : Cell) → Untouched cell → ReadsIn models sides.before cell other → Untouched other
    through cell other free read = (λ among. marks (inl among), unmarked)
      where
        marks : Contains edited other ⊎ HasMark reached other → ⊥
        marks either = both_ways (has_mark reached cell) (found.closed cell other read either) free.1

        unmarked : has_mark reached other ≡ false
        unmarked = elim (marked_or_not reached other) [ inl is ↦ absurd (marks (inr is)) | inr not ↦ not ]

    pub changed_given : (cell : Cell) → Changed models sides cell → Contains there.keys cell
    changed_given cell (at, inl none) = given cell (new_marked cell at none) at.0
    changed_given cell (at, inr differs) = elim (marked_or_not all cell) [
      | inl marks ↦ given cell marks at.0
      | inr not ↦ elim (some_or_none (row_at sides.before cell.model cell.id)) [
        | inl none ↦ given cell (new_marked cell at none) at.0
        | inr some ↦ absurd (differs (kept_value laws change.before change.behind Untouched (λ c free edits. free.0 ((change.edited c).1 edits)) through cell
            (there_is (row_at sides.before cell.model cell.id) some.0 some.1) at.0 at.1 (untouched not)))
      ]
    ]
      where
        untouched : has_mark all cell ≡ false → Untouched cell
        untouched not = (
          λ among. (change.edited cell).0 among (no_plain sides.before cell at.1 ∙ sym (no_plain sides.behind cell at.1)),
          elim (marked_or_not reached cell) [ inl is ↦ both_ways (has_mark all cell) ((rows cell).1 (inl is)) not | inr none ↦ none ],
        )

-- what is given is computed
pub all_computed : (models : List ModelInfo) (edited : List Cell) (reached all there : sorted.BTreeSet Cell) → ((cell : Cell) → HasMark reached cell → HasComputedField models cell)
    → ((cell : Cell) → HasMark all cell ↔ (HasMark reached cell ⊎ IsInEditedRow models edited cell)) → ((cell : Cell) → HasMark there cell → Contains all.keys cell) → All (HasComputedField models) there.keys
all_computed models edited reached all there computed rows among =
    λ k d within. by (get_or there.keys k d) (Contains-get_or there.keys k d within)
  where
    by : (cell : Cell) → Contains there.keys cell → HasComputedField models cell
    by cell c = elim ((rows cell).0 ((marked-among all cell).1 (among cell ((marked-among there cell).1 c)))) [ inl marks ↦ computed cell marks | inr in_row ↦ in_row.0 ]

pub listed_computed : (models : List ModelInfo) (edited : List Cell) (reached all : sorted.BTreeSet Cell) (cells : List Cell) → cells ≡ all.keys → ((cell : Cell) → HasMark reached cell → HasComputedField models cell)
    → ((cell : Cell) → HasMark all cell ↔ (HasMark reached cell ⊎ IsInEditedRow models edited cell)) → (cell : Cell) → Contains cells cell → HasComputedField models cell
listed_computed models edited reached all cells is computed rows cell c =
    elim ((rows cell).0 ((marked-among all cell).1 (subst (λ (l : List Cell). Contains l cell) is c))) [ inl marks ↦ computed cell marks | inr in_row ↦ in_row.0 ]
