-- Which cells a formula reads, by what cells hold: those along the paths on which it says that its value depends.
use Rattle.std.specs.Prelude.{◌≡◌, ◌⊎◌, List, [], ◌∷◌, Any, Contains, Option}
use Rattle.std.specs.Option.{option_map_or}
use Rattle.ob_base.specs.declared.id.Cell.{Cell}
use Rattle.ob_base.specs.declared.id.ModelNo.{ModelNo}
use Rattle.ob_base.specs.declared.id.RecId.{RecId}
use Rattle.ob_base.specs.declared.value.Value.{Value}
use Rattle.ob_expr.specs.Meaning.{meaning, row_at}
use Rattle.ob_expr.specs.TypedTree.{typed_tree_of}
use Rattle.ob_schema.specs.declared.info.Formula.{Formula}
use Rattle.ob_schema.specs.declared.info.Step.{Step}
use Rattle.ob_schema.specs.Plain.{targets_of}

-- the cell of a step in a row
abbrev pub cell_at : Step → RecId → Cell
cell_at step id = record { model = step.model; id = id; field = step.field }

-- what each cell holds, where it has a value
module _ (held : Cell → Option Value) where
  -- the rows that a cell's value names
  abbrev pub targets_at : Cell → List RecId
  targets_at cell = option_map_or targets_of (held cell) []

  -- a cell along steps from a row: that of the first in the row itself, and those along the others from the rows that it names
  abbrev pub IsAlongSteps : RecId → List Step → Cell → Type 0
  IsAlongSteps id [] cell = ⊥
  IsAlongSteps id (step ∷ steps) cell =
      (cell ≡ cell_at step id) ⊎ ((target : RecId) × Contains (targets_at (cell_at step id)) target × IsAlongSteps target steps cell)

  -- a cell that a formula reads in a row: one along one of its declared paths
  abbrev pub ReadsCell : Formula → RecId → Cell → Type 0
  ReadsCell formula id cell = Any (λ path. IsAlongSteps id path.steps cell) formula.depends

-- what a formula of a model means is the same wherever the cells that it reads hold the same
abbrev pub MeansByReadCells : ModelNo → Formula → Type 0
MeansByReadCells model formula =
    (held other : Cell → Option Value) (id : RecId) → ((cell : Cell) → ReadsCell held formula id cell → other cell ≡ held cell)
    → meaning other (row_at model id) (typed_tree_of formula.typed) ≡ meaning held (row_at model id) (typed_tree_of formula.typed)
