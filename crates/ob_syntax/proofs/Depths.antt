-- How deep the whole nests at least, by the number of nodes that wait.
use Rattle.std.proofs.Common.{◌≡◌, ℕ, ◌+◌, max, ◌<◌, ◌≤◌, true, false, nat_le, List, [], ◌∷◌, Some, Ok, Err, refl, arith}
use Rattle.std.proofs.lemmas.Bool.{le-leb, lt-leb}
use Rattle.ob_base.specs.Limits.{max_expression_depth}
use Rattle.ob_base.specs.declared.expr_fault.ExprFault.TheVariants.{TooDeep}
use Rattle.ob_base.specs.Syntax.{Tree, depth}
use Rattle.ob_syntax.specs.Parsing.{Pending, before, behind, group, calling, State, at_hand, least, need, nodes_of, nodes_in, part_in, deepest_of, closed, closes_at, made, made_first, within}
use Rattle.ob_syntax.proofs.Spelling.{least-mono}

pub least-nodes : (pending : List Pending) (deep : ℕ) → least pending deep ≡ max (nodes_of pending + deep) (least pending 0)
least-nodes [] deep = omega arith
least-nodes (before word at ∷ pending) deep = omega (arith, least-nodes pending (deep + 1), least-nodes pending (0 + 1))
least-nodes (behind op left at ∷ pending) deep = omega (arith, least-nodes pending (max (depth left) deep + 1), least-nodes pending (max (depth left) 0 + 1))
least-nodes (group at ∷ pending) deep = omega (arith, least-nodes pending deep)
least-nodes (calling bytes given at ∷ pending) deep = omega (arith, least-nodes pending (max (deepest_of given) deep + 1), least-nodes pending (max (deepest_of given) 0 + 1))

pub least-operand : (pending : List Pending) (deep : ℕ) → deep ≤ least pending deep
least-operand pending deep = omega (arith, least-nodes pending deep)

-- with one frame more, the whole nests as deep at least
pub least-inside : (frame : Pending) (pending : List Pending) (deep : ℕ) → least pending deep ≤ least (frame ∷ pending) deep
least-inside (before word at) pending deep = least-mono pending deep (deep + 1) (omega arith)
least-inside (behind op left at) pending deep = least-mono pending deep (max (depth left) deep + 1) (omega arith)
least-inside (group at) pending deep = omega arith
least-inside (calling bytes given at) pending deep = least-mono pending deep (max (deepest_of given) deep + 1) (omega arith)

-- what a frame makes is no deeper than the whole
pub least-alone : (frame : Pending) (pending : List Pending) (deep : ℕ) → least (frame ∷ []) deep ≤ least (frame ∷ pending) deep
least-alone (before word at) pending deep = least-operand pending (deep + 1)
least-alone (behind op left at) pending deep = least-operand pending (max (depth left) deep + 1)
least-alone (group at) pending deep = least-operand pending deep
least-alone (calling bytes given at) pending deep = least-operand pending (max (deepest_of given) deep + 1)

-- and with it, the whole nests so deep
pub least-frame : (frame : Pending) (pending : List Pending) (deep : ℕ) → least (frame ∷ pending) deep ≡ max (nodes_of (frame ∷ pending) + max (part_in frame) deep) (least pending 0)
least-frame (before word at) pending deep = omega (arith, least-nodes pending (deep + 1))
least-frame (behind op left at) pending deep = omega (arith, least-nodes pending (max (depth left) deep + 1))
least-frame (group at) pending deep = omega (arith, least-nodes pending deep)
least-frame (calling bytes given at) pending deep = omega (arith, least-nodes pending (max (deepest_of given) deep + 1))

pub nodes_in-few : (frame : Pending) → nodes_in frame ≤ 1
nodes_in-few (group at) = omega arith
nodes_in-few _ = omega arith

-- the test of the limit
pub within-fits : (at : ℕ) (state : State) → need state ≤ max_expression_depth → within max_expression_depth at (Some state) ≡ Ok state
within-fits at state fits = let test : nat_le (need state) max_expression_depth ≡ true = le-leb (need state) max_expression_depth fits in rw test refl

pub within-deep : (at : ℕ) (state : State) → max_expression_depth < need state → within max_expression_depth at (Some state) ≡ Err (TooDeep at)
within-deep at state above = let test : nat_le (need state) max_expression_depth ≡ false = lt-leb (need state) max_expression_depth above in rw test refl

-- one frame closes, or none
pub closed-once : (level : ℕ) (frame : Pending) (pending : List Pending) (tree : Tree) (first : ℕ) → closes_at level (frame ∷ pending) ≡ true
    → closed level (frame ∷ pending) tree first ≡ closed level pending (made frame tree) (made_first frame first)
closed-once level (before word at) pending tree first is = rw is refl
closed-once level (behind op left at) pending tree first is = rw is refl
closed-once level (group at) pending tree first is = absurd (cc)
closed-once level (calling bytes given at) pending tree first is = absurd (cc)

pub closed-none : (level : ℕ) (pending : List Pending) (tree : Tree) (first : ℕ) → closes_at level pending ≡ false → closed level pending tree first ≡ at_hand pending tree first
closed-none level [] tree first is = refl
closed-none level (before word at ∷ pending) tree first is = rw is refl
closed-none level (behind op left at ∷ pending) tree first is = rw is refl
closed-none level (group at ∷ pending) tree first is = refl
closed-none level (calling bytes given at ∷ pending) tree first is = refl

-- what a closing frame makes is as deep as the whole was
pub least-made : (level : ℕ) (frame : Pending) (pending : List Pending) (tree : Tree) → closes_at level (frame ∷ pending) ≡ true → least pending (depth (made frame tree)) ≡ least (frame ∷ pending) (depth tree)
least-made level (before word at) pending tree is = refl
least-made level (behind op left at) pending tree is = refl
least-made level (group at) pending tree is = absurd (cc)
least-made level (calling bytes given at) pending tree is = absurd (cc)
