-- Private: what the tests of cells, of rows that are gone and of sets tell one another.
use Rattle.std.specs.Prelude.{◌≡◌, List, ◌∷◌, Any, Contains, IsSomeAnd, Option, Some, None, true}
use Rattle.ob_base.specs.declared.id.Cell.{Cell}
use Rattle.ob_base.specs.declared.id.FieldNo.{FieldNo}
use Rattle.ob_base.specs.declared.id.ModelNo.{ModelNo}
use Rattle.ob_base.specs.declared.id.RecId.{RecId}
use Rattle.ob_base.specs.declared.id.RowKey.{RowKey}
use Rattle.ob_base.specs.declared.refusal.BrokenKind.{BrokenKind}
use Rattle.ob_schema.specs.Broken.{BreaksAs, IsPastIds, IsTooFull, IsWanting, SharesWith}
use Rattle.ob_schema.specs.Fields.{is_plain_kept}
use Rattle.ob_schema.specs.Models.{FieldHas, model_at}
use Rattle.ob_schema.specs.Plain.{naming}
use Rattle.ob_schema.specs.Tables.{Tables}
use Rattle.ob_schema.specs.Tied.{Dangles}
use Rattle.ob_schema.specs.declared.info.FieldInfo.{FieldInfo}
use Rattle.ob_schema.specs.declared.info.ModelInfo.{ModelInfo}

-- a search tells one that is such; or none, where none is
abbrev pub TellsOne : {X : Type 0} → (X → Type 0) → Option X → Type 0
TellsOne P (Some x) = P x
TellsOne {X} P None = (x : X) → P x → ⊥

-- a row of a model names a row by a field that they keep, a relation to the row's model
pub record IsHeldBy (tables : Tables) (model : ModelNo) (number : FieldNo) (info : FieldInfo) (key : RowKey) (holder : RecId) : Type 0 where
  pub kept : is_plain_kept info ≡ true
  pub leads : info.relation ≡ Some key.model
  pub holds : Contains (naming tables model number key.id) holder

module _ (models : List ModelInfo) (tables : Tables) where
  -- a cell breaks nothing by itself
  pub record BreaksNone (cell : Cell) : Type 0 where
    pub value : IsWanting models tables cell → ⊥
    pub reference : Dangles models tables cell → ⊥
    pub id : IsPastIds models tables cell → ⊥
    pub targets : IsTooFull models tables cell → ⊥

  -- a test of a cell tells in which way it is broken; or none, where it breaks nothing by itself
  abbrev pub TellsKind : Cell → Option BrokenKind → Type 0
  TellsKind cell (Some kind) = BreaksAs models tables kind cell
  TellsKind cell None = BreaksNone cell

  -- a cell names one of some rows
  abbrev pub HoldsOne : List RowKey → Cell → Type 0
  HoldsOne keys cell = FieldHas models (λ info. Any (λ key. IsHeldBy tables cell.model cell.field info key cell.id) keys) cell.model cell.field

  -- a set has the field of a cell, begins with this one, and another row shares it with the cell's
  abbrev pub SharesFrom : Cell → List FieldNo → FieldNo → Type 0
  SharesFrom cell set first = Contains set cell.field × ((rest : List FieldNo) × (set ≡ first ∷ rest)) × ((other : RecId) × SharesWith models tables cell.model set cell.id other)

  -- the row of a cell shares a set that has the cell's field, and begins with this one
  abbrev pub SharesAt : Cell → FieldNo → Type 0
  SharesAt cell first = IsSomeAnd (model_at models cell.model) (λ info. Any (λ set. SharesFrom cell set first) info.unique)
