-- Checked expressions: their kinds, and the paths that they read. A form of the tree that is added has its kind and its paths here.
use Rattle.std.specs.Prelude.{◌≡◌, ⊤, ℕ, ℤ, List, [], ◌∷◌, ◌++◌, map, Bool, true, ◌&&◌, not, IsTrue}
use Rattle.ob_base.specs.declared.id.ModelNo.{ModelNo}
use Rattle.ob_expr.specs.declared.kind.Kind.{Kind}
use Rattle.ob_expr.specs.declared.kind.Kind.TheVariants as kind
use Rattle.ob_base.specs.declared.syntax.Operator.{Operator}
use Rattle.ob_base.specs.declared.syntax.Operator.TheVariants.{Or, And, Equal, NotEqual, Less, LessOrEqual, Greater, GreaterOrEqual, Add, Subtract, Multiply, Divide, Modulo}
use Rattle.ob_base.specs.declared.syntax.Prefix.{Prefix}
use Rattle.ob_base.specs.declared.syntax.Prefix.TheVariants.{Not, Minus}
use Rattle.ob_expr.specs.declared.typed.Aggregate.{Aggregate}
use Rattle.ob_expr.specs.declared.typed.Aggregate.TheVariants.{Count, Sum, Extreme as AnExtreme}
use Rattle.ob_expr.specs.declared.typed.Extreme.{Extreme}
use Rattle.ob_expr.specs.declared.typed.Typed.{Typed, Id, Integer, Text, Truth, Unset, Path, Prefix', Binary', Chosen', If', Joined', Digits', Over', Row_of-Typed, end_of-Typed, more_of-Typed}
use Rattle.ob_expr.specs.Kinds.{can_be_unset, is_ordered, same_kind}
use Rattle.ob_expr.specs.Route.{Route, through, behind}

mutual
  pub data TypedTree : Type 0 where
    row_id : TypedTree
    integer : ℤ → TypedTree
    a_text : List ℕ → TypedTree
    truth : Bool → TypedTree
    unset : Kind → TypedTree
    path : Route → TypedTree
    prefix : Prefix → TypedTree → TypedTree
    binary : Operator → TypedTree → TypedTree → TypedTree
    chosen : Extreme → TypedTree → TypedTree → TypedTree
    choice : TypedTree → TypedTree → TypedTree → TypedTree
    joined : TypedTrees → TypedTree
    digits : TypedTree → TypedTree
    over : Aggregate → Route → ModelNo → TypedTree → TypedTree

  pub data TypedTrees : Type 0 where
    no_trees : TypedTrees
    one_more : TypedTree → TypedTrees → TypedTrees

-- trees from a list
abbrev pub all_of : List TypedTree → TypedTrees
all_of [] = no_trees
all_of (tree ∷ trees) = one_more tree (all_of trees)

-- the tree in the boxes
abbrev mutual
  pub typed_tree_of : Typed → TypedTree
  typed_tree_of Id = row_id
  typed_tree_of (Integer n) = integer n
  typed_tree_of (Text bytes) = a_text bytes
  typed_tree_of (Truth b) = truth b
  typed_tree_of (Unset k) = unset k
  typed_tree_of (Path route) = path route
  typed_tree_of (Prefix' word p inner) = prefix word (typed_tree_of inner)
  typed_tree_of (Binary' op p left q right) = binary op (typed_tree_of left) (typed_tree_of right)
  typed_tree_of (Chosen' which p left q right) = chosen which (typed_tree_of left) (typed_tree_of right)
  typed_tree_of (If' p condition q first r second) = choice (typed_tree_of condition) (typed_tree_of first) (typed_tree_of second)
  typed_tree_of (Joined' shape all) = joined (typed_trees_of all)
  typed_tree_of (Digits' p inner) = digits (typed_tree_of inner)
  typed_tree_of (Over' aggregate route target p inner) = over aggregate route target (typed_tree_of inner)

  pub typed_trees_of : {m : _} → Row_of-Typed m → TypedTrees
  typed_trees_of end_of-Typed = no_trees
  typed_trees_of (more_of-Typed typed rest) = one_more (typed_tree_of typed) (typed_trees_of rest)

abbrev pub prefix_kind : Prefix → Kind
prefix_kind Not = kind.Bool
prefix_kind Minus = kind.Int

-- arithmetic gives integers; comparisons, `and` and `or` give truth
abbrev pub operator_kind : Operator → Kind
operator_kind Add = kind.Int
operator_kind Subtract = kind.Int
operator_kind Multiply = kind.Int
operator_kind Divide = kind.Int
operator_kind Modulo = kind.Int
operator_kind _ = kind.Bool

-- a least and a greatest value are of the values' kind
abbrev pub aggregate_kind : Aggregate → Kind → Kind
aggregate_kind Count inner = kind.Int
aggregate_kind Sum inner = kind.Int
aggregate_kind (AnExtreme which) inner = inner
aggregate_kind _ inner = kind.Bool

-- the kind of the values
abbrev pub kind_of : TypedTree → Kind
kind_of row_id = kind.Int
kind_of (integer n) = kind.Int
kind_of (a_text bytes) = kind.Word
kind_of (truth b) = kind.Bool
kind_of (unset k) = k
kind_of (path route) = route.kind
kind_of (prefix word inner) = prefix_kind word
kind_of (binary op left right) = operator_kind op
kind_of (chosen which left right) = kind.Int
kind_of (choice condition first second) = kind_of first
kind_of (joined all) = kind.Word
kind_of (digits inner) = kind.Word
kind_of (over aggregate route target inner) = aggregate_kind aggregate (kind_of inner)

-- whether an operator takes operands of the kind
abbrev pub takes : Operator → Kind → Bool
takes Or k = same_kind k kind.Bool
takes And k = same_kind k kind.Bool
takes Equal k = true
takes NotEqual k = true
takes Less k = is_ordered k
takes LessOrEqual k = is_ordered k
takes Greater k = is_ordered k
takes GreaterOrEqual k = is_ordered k
takes _ k = same_kind k kind.Int

-- whether values of the kind are counted, tried, summed or compared over targets
abbrev pub gathers : Aggregate → Kind → Bool
gathers Sum k = same_kind k kind.Int
gathers (AnExtreme which) k = is_ordered k && not (same_kind k kind.Word)
gathers _ k = same_kind k kind.Bool

-- each part has the kind that its place takes
abbrev mutual
  pub IsWellKinded : TypedTree → Type 0
  IsWellKinded (unset k) = IsTrue (can_be_unset k)
  IsWellKinded (prefix word inner) = (kind_of inner ≡ prefix_kind word) × IsWellKinded inner
  IsWellKinded (binary op left right) = IsTrue (takes op (kind_of left)) × (kind_of right ≡ kind_of left) × IsWellKinded left × IsWellKinded right
  IsWellKinded (chosen which left right) = (kind_of left ≡ kind.Int) × (kind_of right ≡ kind.Int) × IsWellKinded left × IsWellKinded right
  IsWellKinded (choice condition first second) = (kind_of condition ≡ kind.Bool) × (kind_of second ≡ kind_of first) × IsWellKinded condition × IsWellKinded first × IsWellKinded second
  IsWellKinded (joined all) = AreTexts all
  IsWellKinded (digits inner) = (kind_of inner ≡ kind.Int) × IsWellKinded inner
  IsWellKinded (over aggregate route target inner) = IsTrue (gathers aggregate (kind_of inner)) × (route.kind ≡ kind.Refs target) × IsWellKinded inner
  IsWellKinded _ = ⊤

  pub AreTexts : TypedTrees → Type 0
  AreTexts no_trees = ⊤
  AreTexts (one_more tree rest) = (kind_of tree ≡ kind.Word) × IsWellKinded tree × AreTexts rest

-- the paths that the expression reads, from its row; those over targets lead through the path to them
abbrev mutual
  pub paths_of : TypedTree → List Route
  paths_of (path route) = route ∷ []
  paths_of (prefix word inner) = paths_of inner
  paths_of (binary op left right) = paths_of left ++ paths_of right
  paths_of (chosen which left right) = paths_of left ++ paths_of right
  paths_of (choice condition first second) = paths_of condition ++ paths_of first ++ paths_of second
  paths_of (joined all) = paths_of_all all
  paths_of (digits inner) = paths_of inner
  paths_of (over aggregate route target inner) = route ∷ map (behind (through route target)) (paths_of inner)
  paths_of _ = []

  pub paths_of_all : TypedTrees → List Route
  paths_of_all no_trees = []
  paths_of_all (one_more tree rest) = paths_of tree ++ paths_of_all rest

-- each path, from the model in which it stands; what stands over targets, from theirs
module _ (P : ModelNo → Route → Type 0) where
  abbrev mutual
    pub EachPath : ModelNo → TypedTree → Type 0
    EachPath model (path route) = P model route
    EachPath model (prefix word inner) = EachPath model inner
    EachPath model (binary op left right) = EachPath model left × EachPath model right
    EachPath model (chosen which left right) = EachPath model left × EachPath model right
    EachPath model (choice condition first second) = EachPath model condition × EachPath model first × EachPath model second
    EachPath model (joined all) = EachPathOfAll model all
    EachPath model (digits inner) = EachPath model inner
    EachPath model (over aggregate route target inner) = P model route × EachPath target inner
    EachPath model _ = ⊤

    pub EachPathOfAll : ModelNo → TypedTrees → Type 0
    EachPathOfAll model no_trees = ⊤
    EachPathOfAll model (one_more tree rest) = EachPath model tree × EachPathOfAll model rest
