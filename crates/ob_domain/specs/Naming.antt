-- Which fields a tree names, and by what the answer of `holds` goes.
use Rattle.std.specs.Prelude.{◌≡◌, ◌==◌, ◌++◌, ◌||◌, Bool, true, false, List, [], ◌∷◌, Contains}
use Rattle.ob_base.specs.declared.id.FieldNo.{FieldNo}
use Rattle.ob_base.specs.declared.id.ModelNo.{ModelNo}
use Rattle.ob_base.specs.declared.id.RecId.{RecId}
use Rattle.ob_base.specs.declared.value.Value.{Value}
use Rattle.ob_domain.specs.Over.{end_of}
use Rattle.ob_domain.specs.Trees.{Item, Tree, leaf, both, either, negation, criterion, any}
use Rattle.ob_domain.specs.declared.term.Test.{Test}
use Rattle.ob_domain.specs.declared.term.Test.TheVariants as test
use Rattle.ob_expr.specs.Meaning.{cell_in, row_at}
use Rattle.ob_expr.specs.declared.typed.Link.{Link}
use Rattle.ob_schema.specs.Facts.{Told}
use Rattle.ob_schema.specs.Paths.{step_at}
use Rattle.ob_schema.specs.declared.info.Step.{Step}

-- the fields of links, each of the model to which those before it lead
abbrev pub fields_along : ModelNo → List Link → List Step
fields_along model [] = []
fields_along model (link ∷ links) = step_at model link.field ∷ fields_along link.target links

-- the fields that a tree of a model names, in written order, as often as it does
abbrev pub named_fields : ModelNo → Tree → List Step
named_fields model (both a b) = named_fields model a ++ named_fields model b
named_fields model (either a b) = named_fields model a ++ named_fields model b
named_fields model (negation a) = named_fields model a
named_fields model (criterion field asked) = step_at model field ∷ []
named_fields model (any links tree) = fields_along model links ++ named_fields (end_of model links) tree
named_fields model _ = []

-- a criterion on the field stands outside `any`
abbrev pub asks_field : FieldNo → Tree → Bool
asks_field field (both a b) = asks_field field a || asks_field field b
asks_field field (either a b) = asks_field field a || asks_field field b
asks_field field (negation a) = asks_field field a
asks_field field (criterion own asked) = own.0 == field.0
asks_field field _ = false

-- the field with the paths of the tree in which a test asks where rows stand
abbrev pub paths_of_test : Test → List Step
paths_of_test (test.ChildOf paths operands) = paths ∷ []
paths_of_test (test.ParentOf paths operands) = paths ∷ []
paths_of_test _ = []

-- the same of each criterion of a tree, inner ones among them
abbrev pub paths_asked : Tree → List Step
paths_asked (both a b) = paths_asked a ++ paths_asked b
paths_asked (either a b) = paths_asked a ++ paths_asked b
paths_asked (negation a) = paths_asked a
paths_asked (criterion field asked) = paths_of_test asked
paths_asked (any links tree) = paths_asked tree
paths_asked _ = []

-- what the field holds in a row of its model
abbrev pub held_in : Told → Step → RecId → Value
held_in told field id = told.held (cell_in (row_at field.model id) field.field)

-- both know the same rows, and tell the same of these fields of each known one
pub record AgreeOn (fields : List Step) (one other : Told) : Type 0 where
  pub rows : (model : ModelNo) (id : RecId) → one.knows model id ≡ other.knows model id
  pub cells : (field : Step) (id : RecId) → Contains fields field → one.knows field.model id ≡ true → held_in one field id ≡ held_in other field id

-- the fields that an item names, and whether it asks a field: an operator does nothing of its own
abbrev pub item_fields : ModelNo → Item → List Step
item_fields model (leaf tree) = named_fields model tree
item_fields model _ = []

abbrev pub item_asks : FieldNo → Item → Bool
item_asks field (leaf tree) = asks_field field tree
item_asks field _ = false
