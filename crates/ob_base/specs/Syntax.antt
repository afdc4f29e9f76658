-- The tree of an expression as it was written. A form of the language that is added has its node here, and its rule in the grammar.
use Rattle.std.specs.Prelude.{◌≡◌, ℕ, ℤ, ◌+◌, max, Bool, List, [], ◌∷◌, map, Option, Some, None, Vec}
use Rattle.std.specs.Global.{Global}
use Rattle.ob_base.specs.declared.syntax.Operator.{Operator}
use Rattle.ob_base.specs.declared.syntax.Prefix.{Prefix}
use Rattle.ob_base.specs.declared.syntax.Expr.{Expr, Integer, Text, Truth, Unset, Path, Prefix', Binary', Call, Call', Row_of-Expr, end_of-Expr, more_of-Expr}

-- an expression as it was written; each part has the offset of its first token
mutual
  pub data Tree : Type 0 where
    integer : ℤ → ℕ → Tree
    a_text : List ℕ → ℕ → Tree
    truth : Bool → ℕ → Tree
    unset : ℕ → Tree
    path : List (List ℕ) → ℕ → Tree
    prefix : Prefix → Tree → ℕ → Tree
    binary : Operator → Tree → Tree → ℕ → Tree
    call : List ℕ → Arguments → ℕ → Tree

  pub data Arguments : Type 0 where
    no_arguments : Arguments
    argument : Tree → Arguments → Arguments

-- the tree in the boxes
abbrev mutual
  pub tree_of : Expr → Tree
  tree_of (Integer n at) = integer n at
  tree_of (Text bytes at) = a_text bytes at
  tree_of (Truth b at) = truth b at
  tree_of (Unset at) = unset at
  tree_of (Path names at) = path names.items at
  tree_of (Prefix' word p inner at) = prefix word (tree_of inner) at
  tree_of (Binary' op p left q right at) = binary op (tree_of left) (tree_of right) at
  tree_of (Call' bytes shape given at) = call bytes (arguments_of given) at

  pub arguments_of : {m : _} → Row_of-Expr m → Arguments
  arguments_of end_of-Expr = no_arguments
  arguments_of (more_of-Expr expr rest) = argument (tree_of expr) (arguments_of rest)

-- the arguments in front of others
abbrev pub given_before : List Tree → Arguments → Arguments
given_before [] rest = rest
given_before (tree ∷ trees) rest = argument tree (given_before trees rest)

-- a call's tree has the trees of its arguments, in their order
abbrev pub CallsKeepTheirOrder : Type 0
CallsKeepTheirOrder = (name : List ℕ) (given : Vec Expr Global) (at : ℕ) → tree_of (Call name given at) ≡ call name (given_before (map tree_of given.items) no_arguments) at

-- the offset of the first token
abbrev pub offset_of_tree : Tree → ℕ
offset_of_tree (integer n at) = at
offset_of_tree (a_text bytes at) = at
offset_of_tree (truth b at) = at
offset_of_tree (unset at) = at
offset_of_tree (path names at) = at
offset_of_tree (prefix word inner at) = at
offset_of_tree (binary op left right at) = at
offset_of_tree (call bytes given at) = at

-- the names of a path; no other tree has any
abbrev pub path_names : Tree → Option (List (List ℕ))
path_names (path names at) = Some names
path_names _ = None

-- how deep a tree nests: what has no parts is 1 deep, and parentheses are no node
abbrev mutual
  pub depth : Tree → ℕ
  depth (prefix word inner at) = depth inner + 1
  depth (binary op left right at) = max (depth left) (depth right) + 1
  depth (call bytes given at) = depth_of_arguments given + 1
  depth _ = 1

  pub depth_of_arguments : Arguments → ℕ
  depth_of_arguments no_arguments = 0
  depth_of_arguments (argument tree rest) = max (depth tree) (depth_of_arguments rest)
