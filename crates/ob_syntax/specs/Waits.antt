-- What the parser's types stand for among the words of its steps: for this crate alone.
use Rattle.std.specs.Prelude.{◌≡◌, ◌≢◌, List, map, Result, Ok, Err, MatchResult}
use Rattle.ob_base.specs.declared.expr_fault.ExprFault.{ExprFault}
use Rattle.ob_base.specs.declared.expr_fault.ExprFault.TheVariants.{NoMemory}
use Rattle.ob_syntax.specs.declared.frame.Frame.{Frame}
use Rattle.ob_syntax.specs.declared.frame.Frame.TheVariants as frame
use Rattle.ob_syntax.specs.declared.frame.Calling.{Calling}
use Rattle.ob_syntax.specs.declared.frame.Operand.{Operand}
use Rattle.ob_syntax.specs.declared.parser.State.{State as the_state}
use Rattle.ob_syntax.specs.declared.parser.State.TheVariants as state
use Rattle.ob_base.specs.Syntax.{tree_of}
use Rattle.ob_syntax.specs.Parsing.{Pending, before, behind, group, calling, Read, at_hand, State, wanted, named, dotted, had}

abbrev pub call_pending : Calling → Pending
call_pending call = calling call.name (map tree_of call.arguments.items) call.first

abbrev pub pending : Frame → Pending
pending (frame.Prefix word at) = before word at
pending (frame.Left op left) = behind op (tree_of left.expr) left.first
pending (frame.Group at) = group at
pending (frame.Call call) = call_pending call

abbrev pub all_pending : List Frame → List Pending
all_pending frames = map pending frames

abbrev pub read_of : List Pending → Operand → Read
read_of waiting operand = at_hand waiting (tree_of operand.expr) operand.first

abbrev pub state_of : List Pending → the_state → State
state_of waiting state.Wanted = wanted waiting
state_of waiting (state.Named names first) = named waiting names.items first
state_of waiting (state.Dotted names first) = dotted waiting names.items first
state_of waiting (state.Had operand) = had (read_of waiting operand)

-- the code's answer is what is meant, or want of memory
abbrev pub Tells : {A B : Type 0} → Result A ExprFault → Result B ExprFault → (A → B) → Type 0
Tells answer meant is = MatchResult answer (λ value. meant ≡ Ok (is value)) (λ fault. fault ≢ NoMemory → meant ≡ Err fault)
