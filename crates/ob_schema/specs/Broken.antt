-- What tables can break, each kind at its cells; tables that break nothing are sound.
use Rattle.std.specs.Prelude.{◌≡◌, ◌≢◌, ◌<◌, ◌⊎◌, List, ◌∷◌, All, Any, length, true, false, Some, IsSome, IsSomeAnd, Ok, Err}
use Rattle.std.specs.declared.cmp.Ordering.TheVariants.{Less}
use Rattle.ob_base.specs.BrokenOrder.{broken_order}
use Rattle.ob_base.specs.Limits.{max_id, max_targets}
use Rattle.ob_base.specs.declared.id.Cell.{Cell}
use Rattle.ob_base.specs.declared.id.FieldNo.{FieldNo}
use Rattle.ob_base.specs.declared.id.ModelNo.{ModelNo}
use Rattle.ob_base.specs.declared.id.RecId.{RecId}
use Rattle.ob_base.specs.declared.refusal.Broken.{Broken}
use Rattle.ob_base.specs.declared.refusal.BrokenKind.{BrokenKind}
use Rattle.ob_base.specs.declared.refusal.BrokenKind.TheVariants as kind
use Rattle.ob_base.specs.declared.value.Value.TheVariants as value
use Rattle.ob_definition.specs.declared.field_type.FieldType.TheVariants as type
use Rattle.ob_expr.specs.Computing.{Lack, overflow, too_long, zero_divisor}
use Rattle.ob_schema.specs.declared.info.Formula.{Formula}
use Rattle.ob_schema.specs.declared.info.ModelInfo.{ModelInfo}
use Rattle.ob_schema.specs.declared.info.Origin.TheVariants as origin
use Rattle.ob_schema.specs.Fields.{is_plain_kept}
use Rattle.ob_schema.specs.Models.{is_id_from, model_at}
use Rattle.ob_schema.specs.Checks.{IsCheck}
use Rattle.ob_schema.specs.Plain.{plain_at}
use Rattle.ob_schema.specs.Tables.{Fits, Tables, row_at}
use Rattle.ob_schema.specs.Tied.{AtCell, Dangles, IsCircled, IsLeastOf, IsTied, IsTooDeep}
use Rattle.ob_schema.specs.Val.{formula_value, val}

module _ (models : List ModelInfo) (tables : Tables) where
  -- it must have a value, and has none
  abbrev pub IsWanting : Cell → Type 0
  IsWanting cell = AtCell models tables cell (λ info. (is_plain_kept info ≡ true) × (info.required ≡ true) × (plain_at tables models cell ≡ Some value.Nil))

  -- two rows have the same value for a field, and it isn't unset
  abbrev pub AreAlikeIn : ModelNo → RecId → RecId → FieldNo → Type 0
  AreAlikeIn model id other field =
      IsSomeAnd (plain_at tables models (record { model = model; id = id; field = field })) (λ v. (v ≢ value.Nil) × (plain_at tables models (record { model = model; id = other; field = field }) ≡ Some v))

  -- another row has the same values in a set of fields
  abbrev pub SharesWith : ModelNo → List FieldNo → RecId → RecId → Type 0
  SharesWith model set id other = (id ≢ other) × IsSome (row_at tables model other) × All (AreAlikeIn model id other) set

  -- the set begins with the field of a cell, and another row shares it
  abbrev pub IsSharedSet : Cell → List FieldNo → Type 0
  IsSharedSet cell set = ((rest : List FieldNo) × (set ≡ cell.field ∷ rest)) × ((other : RecId) × SharesWith cell.model set cell.id other)

  -- the first field of a set that no two rows may share, in a row that shares it
  abbrev pub IsShared : Cell → Type 0
  IsShared cell = IsSome (row_at tables cell.model cell.id) × IsSomeAnd (model_at models cell.model) (λ info. Any (IsSharedSet cell) info.unique)

  -- the id of a row past the ids that there are
  abbrev pub IsPastIds : Cell → Type 0
  IsPastIds cell = AtCell models tables cell (λ info. (is_id_from info.origin ≡ true) × ((cell.id.0 ≡ 0) ⊎ (max_id < cell.id.0)))

  -- a list of more targets than there may be
  abbrev pub IsTooFull : Cell → Type 0
  IsTooFull cell = AtCell models tables cell (λ info. (info.field_type ≡ type.Many2many) × ((ids : List RecId) × (plain_at tables models cell ≡ Some (value.Refs ids)) × (max_targets < length ids)))

  -- the cell's own formula has no value for this reason, while all that it reads before has one
  abbrev pub FailsItself : Lack → Cell → Type 0
  FailsItself why cell = AtCell models tables cell (λ info. (formula : Formula) × (info.origin ≡ origin.Computed formula) × (formula_value (val models tables) formula info cell ≡ Err why))

  -- a check that is false
  abbrev pub IsFalseCheck : Cell → Type 0
  IsFalseCheck cell = IsSomeAnd (model_at models cell.model) (λ info. AtCell models tables cell (IsCheck info cell.field)) × (val models tables cell ≡ Ok (value.Bool false))

  -- a cell is broken in this way
  abbrev pub BreaksAs : BrokenKind → Cell → Type 0
  BreaksAs kind.Required cell = IsWanting cell
  BreaksAs kind.MissingRef cell = Dangles models tables cell
  BreaksAs kind.Unique cell = IsShared cell
  BreaksAs kind.Tree cell = IsLeastOf models tables (IsCircled models tables) cell
  BreaksAs kind.Depth cell = IsLeastOf models tables (IsTooDeep models tables) cell
  BreaksAs kind.Limit cell = IsPastIds cell ⊎ IsTooFull cell
  BreaksAs kind.Overflow cell = IsTied models tables × FailsItself overflow cell
  BreaksAs kind.TooLong cell = IsTied models tables × FailsItself too_long cell
  BreaksAs kind.ZeroDivisor cell = IsTied models tables × FailsItself zero_divisor cell
  BreaksAs kind.Check cell = IsTied models tables × IsFalseCheck cell
  BreaksAs _ cell = ⊥

  abbrev pub IsBroken : Broken → Type 0
  IsBroken broken = BreaksAs broken.kind broken.cell

  -- nothing is broken
  abbrev pub Sound : Type 0
  Sound = (broken : Broken) → IsBroken broken → ⊥

  -- tables of the registry that break nothing
  pub record AreSound : Type 0 where
    pub fits : Fits models tables
    pub sound : Sound

  -- the first that is broken: by cell, then kind
  pub record IsFirstBroken (first : Broken) : Type 0 where
    pub there : IsBroken first
    pub none_before : (other : Broken) → IsBroken other → broken_order other first ≡ Less → ⊥
