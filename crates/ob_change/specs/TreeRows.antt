-- Private: rows of a tree, followed up by their parents and down by levels.
use Rattle.std.specs.Prelude.{◌≡◌, ◌↔◌, ◌≤◌, ℕ, zero, suc, List, Option, Some, None, Contains, IsSomeAnd}
use Rattle.ob_base.specs.Limits.{max_tree_depth}
use Rattle.ob_base.specs.declared.id.Cell.{Cell}
use Rattle.ob_base.specs.declared.id.FieldNo.{FieldNo}
use Rattle.ob_base.specs.declared.id.ModelNo.{ModelNo}
use Rattle.ob_base.specs.declared.id.RecId.{RecId}
use Rattle.ob_base.specs.declared.value.Value.{Value}
use Rattle.ob_base.specs.declared.value.Value.TheVariants as value
use Rattle.ob_schema.specs.Broken.{Sound}
use Rattle.ob_schema.specs.Models.{model_at}
use Rattle.ob_schema.specs.Plain.{naming}
use Rattle.ob_schema.specs.Tables.{Tables}
use Rattle.ob_schema.specs.Tied.{HasDepth, IsCircled, IsParentIn, IsTooDeep}
use Rattle.ob_schema.specs.Links.{Sides}
use Rattle.ob_schema.specs.declared.info.ModelInfo.{ModelInfo}
use Rattle.ob_sound.specs.EditsBreak.{CirclesEdited, SinksEdited}

-- the row to which a value refers
abbrev pub referred : Option Value → Option RecId
referred (Some (value.Ref id)) = Some id
referred _ = None

-- the field makes the rows of the model a tree
abbrev pub HasParentField : List ModelInfo → ModelNo → FieldNo → Type 0
HasParentField models model parent = IsSomeAnd (model_at models model) (λ info. info.parent ≡ Some parent)

module _ (models : List ModelInfo) (tables : Tables) where
  -- what stands above the row of a cell: its parent, or none where it has none
  abbrev pub IsTheParent : Cell → Option RecId → Type 0
  IsTheParent cell None = (other : RecId) → IsParentIn models tables cell.model cell.field cell.id other → ⊥
  IsTheParent cell (Some parent) = IsParentIn models tables cell.model cell.field cell.id parent

  -- so many steps up lead from a row to another
  abbrev pub IsUp : ModelNo → FieldNo → ℕ → RecId → RecId → Type 0
  IsUp model parent zero id top = id ≡ top
  IsUp model parent (suc n) id top = (other : RecId) × IsParentIn models tables model parent id other × IsUp model parent n other top

  -- how deep the row of a cell stands; only in tables that aren't sound is it not told
  abbrev pub TellsDepth : Cell → Option ℕ → Type 0
  TellsDepth cell None = Sound models tables → ⊥
  TellsDepth cell (Some depth) = HasDepth models tables cell.model cell.field depth cell.id × (depth ≤ max_tree_depth)

  -- the rows that name one of these by a field
  abbrev pub AreChildren : ModelNo → FieldNo → List RecId → List RecId → Type 0
  AreChildren model parent rows children = (id : RecId) → Contains children id ↔ ((row : RecId) × Contains rows row × Contains (naming tables model parent row) id)

  -- neither the row of a cell nor one below it stands too deep
  abbrev pub NoneSinks : Cell → Type 0
  NoneSinks cell = (steps : ℕ) (id : RecId) → IsUp cell.model cell.field steps id cell.id → IsTooDeep models tables cell.model cell.field id → ⊥

  -- the row of a cell stands in its tree as it must, and so do those below it
  pub record StandsWell (cell : Cell) : Type 0 where
    pub circled : IsCircled models tables cell.model cell.field cell.id → ⊥
    pub none_sinks : NoneSinks cell

-- no tree that a change edits has a circle, or a row that stands too deep
pub record TreesPass (models : List ModelInfo) (sides : Sides) : Type 0 where
  pub circles : (cell : Cell) → CirclesEdited models sides cell → ⊥
  pub depths : (cell : Cell) → SinksEdited models sides cell → ⊥
