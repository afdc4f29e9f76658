-- Words between the checker's helpers and the definitions, for this crate alone.
use Rattle.std.specs.Prelude.{◌≡◌, ◌≢◌, List, map, Option, Result, Ok, Err, MatchResult, Vec}
use Rattle.std.specs.Global.{Global}
use Rattle.ob_expr.specs.declared.checker.TypeFault.{TypeFault}
use Rattle.ob_expr.specs.declared.checker.TypeFault.TheVariants.{NoMemory}
use Rattle.ob_base.specs.declared.syntax.Expr.{Expr}
use Rattle.ob_expr.specs.declared.typed.Typed.{Typed}
use Rattle.ob_base.specs.Syntax.{given_before, Arguments, no_arguments, tree_of}
use Rattle.ob_expr.specs.Told.{part_tree}
use Rattle.ob_expr.specs.TypedTree.{TypedTree, typed_tree_of}

-- the arguments of a call, from a list
abbrev pub given_of : List Expr → Arguments
given_of exprs = given_before (map tree_of exprs) no_arguments

-- one tree, or the fault: no memory is needed
abbrev pub TellsTree : Result Typed TypeFault → Result TypedTree TypeFault → Type 0
TellsTree answer meant = MatchResult answer (λ typed. meant ≡ Ok (typed_tree_of typed)) (λ fault. meant ≡ Err fault)

-- all parts of a list, in their turn
abbrev pub TellsParts : Result (Vec (Option Typed) Global) TypeFault → Result (List (Option TypedTree)) TypeFault → Type 0
TellsParts answer meant = MatchResult answer (λ parts. meant ≡ Ok (map part_tree parts.items)) (λ fault. fault ≢ NoMemory → meant ≡ Err fault)
