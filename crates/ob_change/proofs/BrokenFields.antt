-- What is broken is a cell of a field that there is.
use Rattle.std.proofs.Common.{◌≡◌, inl, inr, List, Option, Some, None, true, subst, arith}
use Rattle.std.specs.Prelude.{All, Any, IfSome}
use Rattle.ob_base.specs.declared.id.Cell.{Cell}
use Rattle.ob_base.specs.declared.id.FieldNo.{FieldNo}
use Rattle.ob_base.specs.declared.id.ModelNo.{ModelNo}
use Rattle.ob_base.specs.declared.id.RecId.{RecId}
use Rattle.ob_base.specs.declared.refusal.Broken.{Broken}
use Rattle.ob_base.specs.declared.refusal.BrokenKind.{BrokenKind}
use Rattle.ob_base.specs.declared.refusal.BrokenKind.TheVariants as kind
use Rattle.ob_definition.specs.declared.field_type.FieldType.TheVariants as type
use Rattle.ob_schema.specs.Broken.{BreaksAs, IsBroken, IsShared, IsSharedSet}
use Rattle.ob_schema.specs.Checks.{IsCheck}
use Rattle.ob_schema.specs.Fields.{is_plain_kept}
use Rattle.ob_schema.specs.Models.{FieldHas, HasField, IsPlainTo, IsRegistry, field_at, model_at}
use Rattle.ob_schema.specs.Tables.{Tables}
use Rattle.ob_schema.specs.Tied.{AtCell, IsCircled, IsLeastOf, IsTooDeep}
use Rattle.ob_schema.specs.declared.info.FieldInfo.{FieldInfo}
use Rattle.ob_schema.specs.declared.info.ModelInfo.{ModelInfo}
use Rattle.ob_change.specs.Changing.{TellsBroken}
use Rattle.ob_tables.proofs.CallerLemmas.{Any-at_all, known_if, there_is, told_and}

module _ (models : List ModelInfo) (tables : Tables) (registry : IsRegistry models) where
  -- a field of which something is known
  known-field : (model : ModelNo) (field : FieldNo) (P : FieldInfo → Type 0) → FieldHas models P model field → HasField models model field
  known-field model field P known = let t = told_and (field_at models model field) P known in there_is (field_at models model field) t.0 t.1

  at-field : (cell : Cell) (P : FieldInfo → Type 0) → AtCell models tables cell P → HasField models cell.model cell.field
  at-field cell P at = known-field cell.model cell.field P at.1

  -- the parent field of a tree
  tree-field : (P : ModelNo → FieldNo → RecId → Type 0) (cell : Cell) → IsLeastOf models tables P cell → HasField models cell.model cell.field
  tree-field P cell least =
      let m = told_and (model_at models cell.model) (λ (info : ModelInfo). info.parent ≡ Some cell.field) least.0 in
      let Q = λ (field : FieldInfo). IsPlainTo cell.model field × (field.field_type ≡ type.Many2one) in
      known-field cell.model cell.field Q (known_if m.0.parent cell.field (FieldHas models Q cell.model) m.2 (registry.each cell.model m.0 m.1).parent)

  -- the first field of a set
  shared-field : (cell : Cell) → IsShared models tables cell → HasField models cell.model cell.field
  shared-field cell shared =
      let m = told_and (model_at models cell.model) (λ (info : ModelInfo). Any (IsSharedSet models tables cell) info.unique) shared.1 in
      let Q = λ (field : FieldInfo). is_plain_kept field ≡ true in
      let set = Any-at_all (IsSharedSet models tables cell) (All (FieldHas models Q cell.model)) m.0.unique (registry.each cell.model m.0 m.1).unique m.2 in
      let all = subst (All (FieldHas models Q cell.model)) set.1.0.1 set.2 in
      known-field cell.model cell.field Q (all 0 cell.field (omega arith))

  by-kind : (k : BrokenKind) (cell : Cell) → BreaksAs models tables k cell → HasField models cell.model cell.field
  by-kind kind.Required cell breaks = at-field cell _ breaks
  by-kind kind.MissingRef cell breaks = at-field cell _ breaks
  by-kind kind.Unique cell breaks = shared-field cell breaks
  by-kind kind.Tree cell breaks = tree-field (IsCircled models tables) cell breaks
  by-kind kind.Depth cell breaks = tree-field (IsTooDeep models tables) cell breaks
  by-kind kind.Limit cell (inl breaks) = at-field cell _ breaks
  by-kind kind.Limit cell (inr breaks) = at-field cell _ breaks
  by-kind kind.Overflow cell breaks = at-field cell _ breaks.1
  by-kind kind.TooLong cell breaks = at-field cell _ breaks.1
  by-kind kind.ZeroDivisor cell breaks = at-field cell _ breaks.1
  by-kind kind.Check cell breaks =
      let m = told_and (model_at models cell.model) (λ (info : ModelInfo). AtCell models tables cell (IsCheck info cell.field)) breaks.1.0 in at-field cell (IsCheck m.0 cell.field) m.2
  by-kind _ cell breaks = absurd breaks

  pub broken-field : (broken : Broken) → IsBroken models tables broken → HasField models broken.cell.model broken.cell.field
  broken-field broken breaks = by-kind broken.kind broken.cell breaks

  -- what tests tell is of a field that there is
  pub told-field : (P : Type 0) (o : Option Broken) → TellsBroken models tables P o → IfSome o (λ broken. HasField models broken.cell.model broken.cell.field)
  told-field P (Some broken) breaks = broken-field broken breaks
  told-field P None told = tt
