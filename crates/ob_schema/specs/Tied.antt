-- Tables whose rows lead to rows that are there, and whose trees are trees.
use Rattle.std.specs.Prelude.{◌≡◌, ◌<◌, ◌≤◌, ℕ, zero, suc, List, true, Some, None, IsSome, IsSomeAnd}
use Rattle.ob_base.specs.Limits.{max_tree_depth}
use Rattle.ob_base.specs.declared.id.Cell.{Cell}
use Rattle.ob_base.specs.declared.id.FieldNo.{FieldNo}
use Rattle.ob_base.specs.declared.id.ModelNo.{ModelNo}
use Rattle.ob_base.specs.declared.id.RecId.{RecId}
use Rattle.ob_base.specs.declared.value.Value.TheVariants as value
use Rattle.ob_schema.specs.Chains.{Reaches}
use Rattle.ob_schema.specs.Fields.{is_plain_kept}
use Rattle.ob_schema.specs.Models.{field_at, model_at}
use Rattle.ob_schema.specs.declared.info.FieldInfo.{FieldInfo}
use Rattle.ob_schema.specs.declared.info.ModelInfo.{ModelInfo}
use Rattle.ob_schema.specs.Plain.{names, plain_at}
use Rattle.ob_schema.specs.Tables.{Tables, kept_in, row_at}

module _ (models : List ModelInfo) (tables : Tables) where
  -- a cell of a row that is there, with its field
  abbrev pub AtCell : Cell → (FieldInfo → Type 0) → Type 0
  AtCell cell P = IsSome (row_at tables cell.model cell.id) × IsSomeAnd (field_at models cell.model cell.field) P

  -- it names a row that isn't there
  abbrev pub Dangles : Cell → Type 0
  Dangles cell = AtCell cell (λ info. (is_plain_kept info ≡ true) × IsSomeAnd (plain_at tables models cell) (λ v. (id : RecId) × (names id v ≡ true) × IsSomeAnd info.relation (λ target. row_at tables target id ≡ None)))

  -- the parent of a row of a tree
  abbrev pub IsParentIn : ModelNo → FieldNo → RecId → RecId → Type 0
  IsParentIn model field id parent = IsSomeAnd (row_at tables model id) (λ row. (kept_in row field ≡ value.Ref parent) × IsSome (row_at tables model parent))

  -- a row stands at this depth: a root at 1, another one below its parent
  abbrev pub HasDepth : ModelNo → FieldNo → ℕ → RecId → Type 0
  HasDepth model field zero id = ⊥
  HasDepth model field (suc zero) id = (parent : RecId) → IsParentIn model field id parent → ⊥
  HasDepth model field (suc n) id = (parent : RecId) × IsParentIn model field id parent × HasDepth model field n parent

  -- a row is its own parent, or that of one of its parents
  abbrev pub IsCircled : ModelNo → FieldNo → RecId → Type 0
  IsCircled model field id = Reaches (IsParentIn model field) id id

  -- a row stands deeper than a tree may be
  abbrev pub IsTooDeep : ModelNo → FieldNo → RecId → Type 0
  IsTooDeep model field id = (n : ℕ) × HasDepth model field n id × (max_tree_depth < n)

  -- the parent field of the row of the least id of which this holds
  abbrev pub IsLeastOf : (ModelNo → FieldNo → RecId → Type 0) → Cell → Type 0
  IsLeastOf P cell =
      IsSomeAnd (model_at models cell.model) (λ info. info.parent ≡ Some cell.field) × IsSome (row_at tables cell.model cell.id) × P cell.model cell.field cell.id
      × ((other : RecId) → IsSome (row_at tables cell.model other) → P cell.model cell.field other → cell.id.0 ≤ other.0)

  -- rows lead to rows that are there, and trees are trees: only then cells have values from scratch
  abbrev pub IsTied : Type 0
  IsTied = ((cell : Cell) → Dangles cell → ⊥) × ((cell : Cell) → IsLeastOf IsCircled cell → ⊥) × ((cell : Cell) → IsLeastOf IsTooDeep cell → ⊥)
