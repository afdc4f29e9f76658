-- Where rows could be followed before a change they can be behind it, if tests of the edited references and trees pass.
use Rattle.std.proofs.Common.{◌≡◌, inl, inr, true, List, Some, None, arith}
use Rattle.std.specs.Prelude.{IsSomeAnd}
use Rattle.ob_base.specs.declared.id.Cell.{Cell}
use Rattle.ob_base.specs.declared.id.ModelNo.{ModelNo}
use Rattle.ob_base.specs.declared.id.RecId.{RecId}
use Rattle.ob_base.specs.declared.value.Value.{Value}
use Rattle.ob_schema.specs.Fields.{is_plain_kept}
use Rattle.ob_schema.specs.Links.{Sides}
use Rattle.ob_schema.specs.Models.{IsRegistry, field_at}
use Rattle.ob_schema.specs.Plain.{names, plain_at}
use Rattle.ob_schema.specs.Tables.{Tables, row_at}
use Rattle.ob_schema.specs.Tied.{Dangles, IsCircled, IsLeastOf, IsTied, IsTooDeep}
use Rattle.ob_schema.specs.declared.info.FieldInfo.{FieldInfo}
use Rattle.ob_schema.specs.declared.info.ModelInfo.{ModelInfo}
use Rattle.ob_sound.specs.EditsBreak.{EditsTie, IsGone}
use Rattle.ob_tables.proofs.CallerLemmas.{some_or_none, tell_and, there_is, told_and}
use Rattle.ob_trigger.specs.Affected.{Edited}
use Rattle.ob_sound.proofs.InTrees.{ParentField-at, circle_before, deep_before, none_of}
use Rattle.ob_sound.proofs.Unedited.{row_before, value_before}

module _ (models : List ModelInfo) (sides : Sides) (tied : IsTied models sides.before) (tests : EditsTie models sides) where
  -- a value names a row that isn't as one must be
  abbrev NamesOne : (ModelNo → RecId → Type 0) → FieldInfo → Value → Type 0
  NamesOne Is info v = (id : RecId) × (names id v ≡ true) × IsSomeAnd info.relation (λ target. Is target id)

  abbrev IsNone : Tables → ModelNo → RecId → Type 0
  IsNone tables target id = row_at tables target id ≡ None

  -- a plain kept field whose cell names such a row
  abbrev CellNames : Tables → (ModelNo → RecId → Type 0) → Cell → FieldInfo → Type 0
  CellNames tables Is cell info = (is_plain_kept info ≡ true) × IsSomeAnd (plain_at tables models cell) (NamesOne Is info)

  -- no cell names a row that isn't there
  pub none_dangles : (cell : Cell) → Dangles models sides.behind cell → ⊥
  none_dangles cell dangles =
      let f = told_and (field_at models cell.model cell.field) (CellNames sides.behind (IsNone sides.behind) cell) dangles.1 in
      let v = told_and (plain_at sides.behind models cell) (NamesOne (IsNone sides.behind) f.0) f.2.1 in
      let target = told_and f.0.relation (λ target. IsNone sides.behind target v.2.0) v.2.2 in
      let free : Edited models sides cell → ⊥ = λ edited. tests.named cell (inl (edited, dangles)) in
      let named : (tables : Tables) (Is : ModelNo → RecId → Type 0) → plain_at tables models cell ≡ Some v.0 → Is target.0 v.2.0 → IsSomeAnd (field_at models cell.model cell.field) (CellNames tables Is cell) =
      λ tables Is has is. tell_and (field_at models cell.model cell.field) f.0 (CellNames tables Is cell) f.1
      (f.2.0, tell_and (plain_at tables models cell) v.0 (NamesOne Is f.0) has (v.2.0, v.2.1, tell_and f.0.relation target.0 (λ target. Is target v.2.0) target.1 is)) in
      elim (some_or_none (row_at sides.before target.0 v.2.0)) [
        | inl none ↦ tied.0 cell (row_before models sides cell v.0 free v.1, named sides.before (IsNone sides.before) (value_before models sides cell v.0 free v.1) none)
        | inr some ↦ tests.named cell (inr (dangles.0, named sides.behind (IsGone models sides) v.1 (there_is (row_at sides.before target.0 v.2.0) some.0 some.1, target.2)))
      ]

  module _ (registry : IsRegistry models) where
    -- no row is above itself
    none_circled : (cell : Cell) → IsLeastOf models sides.behind (IsCircled models sides.behind) cell → ⊥
    none_circled cell (tree, there, circled, least) =
        let field = ParentField-at models registry cell.model cell.field tree in
        let was = circle_before models sides cell.model cell.field field (λ id round is edited. tests.trees (record cell { id = id }) ((tree, is), edited, round)) cell.id there circled in
        none_of models sides.before (IsCircled models sides.before) cell.model cell.field tree tied.1 cell.id.0 cell.id (omega arith) was.0 was.1

    -- and none too deep
    none_deep : (cell : Cell) → IsLeastOf models sides.behind (IsTooDeep models sides.behind) cell → ⊥
    none_deep cell (tree, there, deep, least) =
        let field = ParentField-at models registry cell.model cell.field tree in
        let was = deep_before models sides cell.model cell.field field none_dangles cell.id there (λ top at edited. tests.depths cell ((tree, there), deep, (top, edited, at))) deep in
        none_of models sides.before (IsTooDeep models sides.before) cell.model cell.field tree tied.2 cell.id.0 cell.id (omega arith) was.0 was.1

    pub all_tied : IsTied models sides.behind
    all_tied = (none_dangles, none_circled, none_deep)
