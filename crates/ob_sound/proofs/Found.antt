-- A test that fails finds something broken.
use Rattle.std.proofs.Common.{◌≡◌, inl, inr, true, List, None, arith}
use Rattle.std.specs.Prelude.{Any, IsSomeAnd}
use Rattle.ob_base.specs.declared.id.Cell.{Cell}
use Rattle.ob_base.specs.declared.id.ModelNo.{ModelNo}
use Rattle.ob_base.specs.declared.id.RecId.{RecId}
use Rattle.ob_base.specs.declared.refusal.BrokenKind.{BrokenKind}
use Rattle.ob_base.specs.declared.refusal.BrokenKind.TheVariants as kind
use Rattle.ob_base.specs.declared.value.Value.{Value}
use Rattle.ob_schema.specs.Broken.{BreaksAs, IsShared, IsSharedSet, Sound}
use Rattle.ob_schema.specs.Fields.{is_plain_kept}
use Rattle.ob_schema.specs.Links.{Sides}
use Rattle.ob_schema.specs.Models.{field_at, model_at}
use Rattle.ob_schema.specs.Plain.{names, plain_at}
use Rattle.ob_schema.specs.Tables.{Tables, row_at}
use Rattle.ob_schema.specs.Tied.{Dangles, IsCircled, IsTied, IsTooDeep}
use Rattle.ob_schema.specs.declared.info.FieldInfo.{FieldInfo}
use Rattle.ob_schema.specs.declared.info.ModelInfo.{ModelInfo}
use Rattle.ob_sound.specs.EditsBreak.{CirclesEdited, EditsBreak, EditsSome, IsGone, NamesGone, SharesEdited, SinksEdited}
use Rattle.ob_sound.specs.FormulasBreak.{FormulasBreak}
use Rattle.ob_tables.proofs.CallerLemmas.{tell_and, told_and}
use Rattle.ob_sound.proofs.InTrees.{none_of}

module _ (models : List ModelInfo) (sides : Sides) (cell : Cell) where
  -- a row that is gone isn't there
  pub gone_dangles : NamesGone models sides cell → Dangles models sides.behind cell
  gone_dangles (there, names_it) =
      let One : (ModelNo → RecId → Type 0) → FieldInfo → Value → Type 0 = λ Is info v. (id : RecId) × (names id v ≡ true) × IsSomeAnd info.relation (λ target. Is target id) in
      let Kept : (ModelNo → RecId → Type 0) → FieldInfo → Type 0 = λ Is info. (is_plain_kept info ≡ true) × IsSomeAnd (plain_at sides.behind models cell) (One Is info) in
      let IsNone : ModelNo → RecId → Type 0 = λ target id. row_at sides.behind target id ≡ None in
      let f = told_and (field_at models cell.model cell.field) (Kept (IsGone models sides)) names_it in
      let v = told_and (plain_at sides.behind models cell) (One (IsGone models sides) f.0) f.2.1 in
      let target = told_and f.0.relation (λ target. IsGone models sides target v.2.0) v.2.2 in (
        there,
        tell_and (field_at models cell.model cell.field) f.0 (Kept IsNone) f.1
            (f.2.0, tell_and (plain_at sides.behind models cell) v.0 (One IsNone f.0) v.1 (v.2.0, v.2.1, tell_and f.0.relation target.0 (λ target. IsNone target v.2.0) target.1 target.2.1)),
      )

  pub missing_found : EditsBreak models sides kind.MissingRef cell → Dangles models sides.behind cell
  missing_found (inl (edited, dangles)) = dangles
  missing_found (inr gone) = gone_dangles gone

  -- a set that is shared, edited or not
  pub shared_found : SharesEdited models sides cell → IsShared models sides.behind cell
  shared_found (there, some) =
      let m = told_and (model_at models cell.model) (λ info. Any (λ set. EditsSome models sides cell.model cell.id set × IsSharedSet models sides.behind cell set) info.unique) some in
      (there, tell_and (model_at models cell.model) m.0 (λ info. Any (IsSharedSet models sides.behind cell) info.unique) m.1 (by m.0 m.2))
    where
      by : (info : ModelInfo) → Any (λ set. EditsSome models sides cell.model cell.id set × IsSharedSet models sides.behind cell set) info.unique → Any (IsSharedSet models sides.behind cell) info.unique
      by info (k, set, within, at, (edited, shared)) = (k, set, within, at, shared)

  -- some row of the tree is the least of its kind
  pub tree_found : CirclesEdited models sides cell → Sound models sides.behind → ⊥
  tree_found ((tree, there), edited, circled) sound =
      none_of models sides.behind (IsCircled models sides.behind) cell.model cell.field tree (λ other least. sound (record { kind = kind.Tree; cell = other }) least) cell.id.0 cell.id (omega arith) there circled

  pub depth_found : SinksEdited models sides cell → Sound models sides.behind → ⊥
  depth_found ((tree, there), deep, top) sound =
      none_of models sides.behind (IsTooDeep models sides.behind) cell.model cell.field tree (λ other least. sound (record { kind = kind.Depth; cell = other }) least) cell.id.0 cell.id (omega arith) there deep

-- what formulas break is broken where rows can be followed
pub formulas_found : (models : List ModelInfo) (tables : Tables) (broken : BrokenKind) (cell : Cell) → IsTied models tables → FormulasBreak models tables broken cell → BreaksAs models tables broken cell
formulas_found models tables kind.Overflow cell tied fails = (tied, fails)
formulas_found models tables kind.TooLong cell tied fails = (tied, fails)
formulas_found models tables kind.ZeroDivisor cell tied fails = (tied, fails)
formulas_found models tables kind.Check cell tied fails = (tied, fails)
formulas_found models tables _ cell tied fails = absurd fails
