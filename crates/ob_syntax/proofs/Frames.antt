-- The stack's frames, innermost last in the code, and what is counted of them.
use Rattle.std.proofs.Common.{◌≡◌, ℕ, ◌+◌, ◌-◌, max, ◌<◌, ◌≤◌, List, [], ◌∷◌, ◌++◌, map, reverse, Ok, refl, ap, ◌∙◌, arith}
use Rattle.std.proofs.lemmas.List.{reverse-append}
use Rattle.ob_base.specs.Limits.{max_expression_depth}
use Rattle.ob_syntax.specs.declared.frame.Calling.{Calling}
use Rattle.ob_syntax.specs.declared.frame.Frame.{Frame}
use Rattle.ob_syntax.specs.declared.frame.Frame.TheVariants.{Call}
use Rattle.ob_syntax.specs.declared.frame.Operand.{Operand}
use Rattle.ob_base.specs.Syntax.{given_before, call as a_call, argument, no_arguments, depth, tree_of}
use Rattle.ob_syntax.specs.Parsing.{Read, had, calling, at_hand, call_of, deepest_of, ended_in, least, need, nodes_of, nodes_in, part_in, within}
use Rattle.ob_syntax.specs.Waits.{all_pending, call_pending, pending, read_of}
use Rattle.ob_syntax.proofs.Spelling.{least-mono, deepest_of-more, depth-given_before, given_before-more}
use Rattle.ob_syntax.proofs.Depths.{least-nodes, least-operand, least-inside, least-frame, nodes_in-few, within-fits}

-- what the stack keeps of its frames
abbrev pub IsCounted : ℕ → List Frame → Type 0
IsCounted nodes frames = (nodes ≡ nodes_of (all_pending (reverse frames))) × (least (all_pending (reverse frames)) 1 ≤ max_expression_depth)

pub reverse-last : (frames rest : List Frame) (frame : Frame) → frames ≡ rest ++ frame ∷ [] → reverse frames ≡ frame ∷ reverse rest
reverse-last frames rest frame is = ap reverse is ∙ reverse-append rest (frame ∷ [])

pub counted-few : (nodes : ℕ) (frames : List Frame) → IsCounted nodes frames → nodes < max_expression_depth
counted-few nodes frames counted = omega (arith, counted.0, counted.1, least-nodes (all_pending (reverse frames)) 1)

pub counted-popped : (nodes own : ℕ) (frames rest : List Frame) (frame : Frame) → frames ≡ rest ++ frame ∷ [] → IsCounted nodes frames → own ≡ nodes_in (pending frame) → IsCounted (nodes - own) rest
counted-popped nodes own frames rest frame is counted own_is =
    let below = all_pending (reverse rest) in
    let parts = reverse-last frames rest frame is in
    let count : nodes ≡ nodes_of (pending frame ∷ below) = rw parts at counted.0 in
    let fits : least (pending frame ∷ below) 1 ≤ max_expression_depth = rw parts at counted.1 in
    (omega arith, omega (arith, least-inside (pending frame) below 1))

-- how deep the whole nests at least with one frame more
pub least-pushed : (nodes own part : ℕ) (frames : List Frame) (frame : Frame) → IsCounted nodes frames → own ≡ nodes_in (pending frame) → part ≡ part_in (pending frame)
    → max part 1 ≤ max_expression_depth - (nodes + own) → least (pending frame ∷ all_pending (reverse frames)) 1 ≤ max_expression_depth
least-pushed nodes own part frames frame counted own_is part_is room =
    let below = all_pending (reverse frames) in
    let few = counted-few nodes frames counted in
    omega (arith, counted.0, counted.1, nodes_in-few (pending frame), least-frame (pending frame) below 1, least-mono below 0 1 (omega arith))

pub least-too_deep : (nodes own part : ℕ) (frames : List Frame) (frame : Frame) → IsCounted nodes frames → own ≡ nodes_in (pending frame) → part ≡ part_in (pending frame)
    → max_expression_depth - (nodes + own) < max part 1 → max_expression_depth < least (pending frame ∷ all_pending (reverse frames)) 1
least-too_deep nodes own part frames frame counted own_is part_is room =
    let below = all_pending (reverse frames) in
    omega (arith, counted.0, least-frame (pending frame) below 1)

pub counted-pushed : (nodes own part : ℕ) (frames more : List Frame) (frame : Frame) → more ≡ frames ++ frame ∷ [] → IsCounted nodes frames → own ≡ nodes_in (pending frame) → part ≡ part_in (pending frame)
    → max part 1 ≤ max_expression_depth - (nodes + own) → IsCounted (nodes + own) more
counted-pushed nodes own part frames more frame is counted own_is part_is room =
    let fits = least-pushed nodes own part frames frame counted own_is part_is room in
    rw (reverse-last more frames frame is) (omega (arith, counted.0), fits)

-- a call that its last argument completes
module _ (waiting rest : List Frame) (call : Calling) (last : Operand) (more : Calling) (is : waiting ≡ Call call ∷ rest) (fits : least (all_pending waiting) last.deep ≤ max_expression_depth)
    (longer : call_pending more ≡ calling call.name (map tree_of call.arguments.items ++ tree_of last.expr ∷ []) call.first) where
  called-fits : least (all_pending rest) (more.deep + 1) ≤ max_expression_depth
  called-fits =
      let given = map tree_of call.arguments.items in
      let items : map tree_of more.arguments.items ≡ given ++ tree_of last.expr ∷ [] = cc in
      let deep : more.deep ≡ max (deepest_of given) last.deep =
      omega (arith, more.counted, last.counted, ap deepest_of items, deepest_of-more given (tree_of last.expr)) in
      let room : least (all_pending rest) (max (deepest_of given) last.deep + 1) ≤ max_expression_depth = rw is at fits in
      rw deep room

  pub called-room : more.deep < max_expression_depth
  called-room = omega (arith, called-fits, least-operand (all_pending rest) (more.deep + 1))

  pub called-tells : (done : Operand) (at : ℕ) → tree_of done.expr ≡ a_call more.name (given_before (map tree_of more.arguments.items) no_arguments) more.first → done.first ≡ more.first
      → within max_expression_depth at (ended_in (all_pending waiting) (tree_of last.expr)) ≡ Ok (had (read_of (all_pending rest) done))
  called-tells done at tree first =
      let given = map tree_of call.arguments.items in
      let items : map tree_of more.arguments.items ≡ given ++ tree_of last.expr ∷ [] = cc in
      let name_is : more.name ≡ call.name = cc in
      let first_is : more.first ≡ call.first = cc in
      let whole : tree_of done.expr ≡ call_of call.name given (tree_of last.expr) call.first =
      rw (items, given_before-more given (tree_of last.expr) no_arguments, name_is, first_is) at tree in
      let read = at_hand (all_pending rest) (call_of call.name given (tree_of last.expr) call.first) call.first in
      let deep : depth read.tree ≡ more.deep + 1 =
      omega (arith, more.counted, ap deepest_of items, deepest_of-more given (tree_of last.expr), depth-given_before given (argument (tree_of last.expr) no_arguments)) in
      let room : need (had read) ≤ max_expression_depth = rw deep called-fits in
      let same : read ≡ read_of (all_pending rest) done = rw (whole, first, first_is) refl in
      rw is (within-fits at (had read) room ∙ ap (λ (r : Read). Ok (had r)) same)
