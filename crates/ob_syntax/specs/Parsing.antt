-- Reading a tree from tokens, one step a token: words between the parser and the grammar, for this crate alone. A form of the language that is added has its frame and its step here.
use Rattle.std.specs.Prelude.{ℕ, suc, ◌+◌, max, nat_le, List, [], ◌∷◌, ◌++◌, Bool, false, Option, Some, None, Result, Ok, Err, if◌then◌else◌}
use Rattle.ob_base.specs.declared.expr_fault.ExprFault.{ExprFault}
use Rattle.ob_base.specs.declared.expr_fault.ExprFault.TheVariants.{At, TooDeep}
use Rattle.ob_base.specs.declared.syntax.Operator.{Operator}
use Rattle.ob_base.specs.declared.syntax.Operator.TheVariants.{Subtract}
use Rattle.ob_syntax.specs.declared.sign.Sign.TheVariants as sign
use Rattle.ob_base.specs.declared.syntax.Prefix.{Prefix}
use Rattle.ob_base.specs.declared.syntax.Prefix.TheVariants.{Not, Minus}
use Rattle.ob_syntax.specs.Lexemes.{Lexeme, name, number, text, sign as a_sign, offset_of}
use Rattle.ob_base.specs.Syntax.{given_before, Tree, integer, a_text, truth, unset, path, prefix, binary, call, no_arguments, argument, depth}
use Rattle.ob_syntax.specs.Grammar.{level_of, level_of_prefix, left_level}

-- what waits for an operand: a prefix, an operator behind its left operand with the offset where that begins, a parenthesis, or a function with its arguments so far
pub data Pending : Type 0 where
  before : Prefix → ℕ → Pending
  behind : Operator → Tree → ℕ → Pending
  group : ℕ → Pending
  calling : List ℕ → List Tree → ℕ → Pending

-- an operand that was read, the offset of its first token, and what waits for it, the innermost first
pub record Read : Type 0 where
  pub pending : List Pending
  pub tree : Tree
  pub first : ℕ

abbrev pub at_hand : List Pending → Tree → ℕ → Read
at_hand pending tree first = record { pending = pending; tree = tree; first = first }

-- what the token before leaves: an operand is wanted, a path so far behind a name or a dot, or an operand is there
pub data State : Type 0 where
  wanted : List Pending → State
  named : List Pending → List (List ℕ) → ℕ → State
  dotted : List Pending → List (List ℕ) → ℕ → State
  had : Read → State

-- the call that its last argument completes
abbrev pub call_of : List ℕ → List Tree → Tree → ℕ → Tree
call_of bytes given last at = call bytes (given_before given (argument last no_arguments)) at

-- how deep the arguments nest
abbrev pub deepest_of : List Tree → ℕ
deepest_of [] = 0
deepest_of (tree ∷ trees) = max (depth tree) (deepest_of trees)

-- how tightly the operand that comes next binds at least
abbrev pub takes : List Pending → ℕ
takes [] = 0
takes (before word at ∷ pending) = level_of_prefix word
takes (behind op left at ∷ pending) = suc (level_of op)
takes (group at ∷ pending) = 0
takes (calling bytes given at ∷ pending) = 0

-- how deep the whole nests at least, with an operand so deep
abbrev pub least : List Pending → ℕ → ℕ
least [] deep = deep
least (before word at ∷ pending) deep = least pending (deep + 1)
least (behind op left at ∷ pending) deep = least pending (max (depth left) deep + 1)
least (group at ∷ pending) deep = least pending deep
least (calling bytes given at ∷ pending) deep = least pending (max (deepest_of given) deep + 1)

abbrev pub need : State → ℕ
need (wanted pending) = least pending 1
need (named pending names at) = least pending 1
need (dotted pending names at) = least pending 1
need (had read) = least read.pending (depth read.tree)

-- what waits as tightly as a level is made a node, the innermost first
abbrev pub closed : ℕ → List Pending → Tree → ℕ → Read
closed level [] tree first = record { pending = []; tree = tree; first = first }
closed level (before word at ∷ pending) tree first =
    if nat_le level (level_of_prefix word) then closed level pending (prefix word tree at) at
    else record { pending = before word at ∷ pending; tree = tree; first = first }
closed level (behind op left at ∷ pending) tree first =
    if nat_le level (level_of op) then closed level pending (binary op left tree at) at
    else record { pending = behind op left at ∷ pending; tree = tree; first = first }
closed level (group at ∷ pending) tree first = record { pending = group at ∷ pending; tree = tree; first = first }
closed level (calling bytes given at ∷ pending) tree first = record { pending = calling bytes given at ∷ pending; tree = tree; first = first }

-- whether the innermost frame's node binds as tightly as a level
abbrev pub closes_at : ℕ → List Pending → Bool
closes_at level [] = false
closes_at level (before word at ∷ pending) = nat_le level (level_of_prefix word)
closes_at level (behind op left at ∷ pending) = nat_le level (level_of op)
closes_at level (group at ∷ pending) = false
closes_at level (calling bytes given at ∷ pending) = false

-- the node that a frame makes of its operand, and where that begins
abbrev pub made : Pending → Tree → Tree
made (before word at) tree = prefix word tree at
made (behind op left at) tree = binary op left tree at
made (group at) tree = tree
made (calling bytes given at) tree = tree

abbrev pub made_first : Pending → ℕ → ℕ
made_first (before word at) first = at
made_first (behind op left at) first = at
made_first (group at) first = first
made_first (calling bytes given at) first = first

-- how many nodes a frame makes round its operand, and how deep its parts so far nest
abbrev pub nodes_in : Pending → ℕ
nodes_in (group at) = 0
nodes_in _ = 1

abbrev pub part_in : Pending → ℕ
part_in (behind op left at) = depth left
part_in (calling bytes given at) = deepest_of given
part_in _ = 0

abbrev pub nodes_of : List Pending → ℕ
nodes_of [] = 0
nodes_of (frame ∷ pending) = nodes_of pending + nodes_in frame

-- a prefix where an operand is wanted
abbrev pub prefixed : Prefix → ℕ → List Pending → Option State
prefixed word at pending = if nat_le (takes pending) (level_of_prefix word) then Some (wanted (before word at ∷ pending)) else None

-- a token where an operand is wanted
abbrev pub begun : List Pending → Lexeme → Option State
begun pending (number n at) = Some (had (record { pending = pending; tree = integer n at; first = at }))
begun pending (text bytes at) = Some (had (record { pending = pending; tree = a_text bytes at; first = at }))
begun pending (name bytes at) = Some (named pending (bytes ∷ []) at)
begun pending (a_sign (sign.Truth b) at) = Some (had (record { pending = pending; tree = truth b at; first = at }))
begun pending (a_sign sign.Unset at) = Some (had (record { pending = pending; tree = unset at; first = at }))
begun pending (a_sign sign.Open at) = Some (wanted (group at ∷ pending))
begun pending (a_sign sign.Not at) = prefixed Not at pending
begun pending (a_sign (sign.Operator Subtract) at) = prefixed Minus at pending
begun pending _ = None

-- an operator behind its left operand
abbrev pub joined_by : Operator → Read → Option State
joined_by op read = if nat_le (takes read.pending) (level_of op) then Some (wanted (behind op read.tree read.first ∷ read.pending)) else None

-- a comma behind an argument
abbrev pub next_in : List Pending → Tree → Option State
next_in (calling bytes given at ∷ pending) tree = Some (wanted (calling bytes (given ++ tree ∷ []) at ∷ pending))
next_in _ tree = None

-- a closing parenthesis
abbrev pub ended_in : List Pending → Tree → Option State
ended_in (group at ∷ pending) tree = Some (had (record { pending = pending; tree = tree; first = at }))
ended_in (calling bytes given at ∷ pending) tree = Some (had (record { pending = pending; tree = call_of bytes given tree at; first = at }))
ended_in _ tree = None

-- a token behind an operand
abbrev pub gone_on : Read → Lexeme → Option State
gone_on read (a_sign (sign.Operator op) at) = joined_by op (closed (left_level op) read.pending read.tree read.first)
gone_on read (a_sign sign.Comma at) = next_in (closed 0 read.pending read.tree read.first).pending (closed 0 read.pending read.tree read.first).tree
gone_on read (a_sign sign.Close at) = ended_in (closed 0 read.pending read.tree read.first).pending (closed 0 read.pending read.tree read.first).tree
gone_on read _ = None

-- a parenthesis behind a name: a function has one name
abbrev pub called_by : List Pending → List (List ℕ) → ℕ → Option State
called_by pending (bytes ∷ []) first = Some (wanted (calling bytes [] first ∷ pending))
called_by pending _ first = None

abbrev pub path_read : List Pending → List (List ℕ) → ℕ → Read
path_read pending names first = record { pending = pending; tree = path names first; first = first }

-- a token behind a name
abbrev pub behind_name : List Pending → List (List ℕ) → ℕ → Lexeme → Option State
behind_name pending names first (a_sign sign.Dot at) = Some (dotted pending names first)
behind_name pending names first (a_sign sign.Open at) = called_by pending names first
behind_name pending names first token = gone_on (path_read pending names first) token

-- a token behind a dot
abbrev pub behind_dot : List Pending → List (List ℕ) → ℕ → Lexeme → Option State
behind_dot pending names first (name bytes at) = Some (named pending (names ++ bytes ∷ []) first)
behind_dot pending names first _ = None

-- one token further, where expressions may nest as deep as they will; none where no expression goes on
abbrev pub moved : State → Lexeme → Option State
moved (wanted pending) token = begun pending token
moved (named pending names first) token = behind_name pending names first token
moved (dotted pending names first) token = behind_dot pending names first token
moved (had read) token = gone_on read token

-- the same within a limit
abbrev pub within : ℕ → ℕ → Option State → Result State ExprFault
within limit at None = Err (At at)
within limit at (Some state) = if nat_le (need state) limit then Ok state else Err (TooDeep at)

abbrev pub stepped : ℕ → State → Lexeme → Result State ExprFault
stepped limit state token = within limit (offset_of token) (moved state token)

-- where tokens lead
abbrev pub run : ℕ → Result State ExprFault → List Lexeme → Result State ExprFault
run limit state [] = state
run limit (Err fault) (token ∷ tokens) = Err fault
run limit (Ok state) (token ∷ tokens) = run limit (stepped limit state token) tokens

-- what is read where an operand is there, as far as it closes
abbrev pub closing : ℕ → State → Option Read
closing level (wanted pending) = None
closing level (dotted pending names first) = None
closing level (named pending names first) = Some (closed level pending (path names first) first)
closing level (had read) = Some (closed level read.pending read.tree read.first)

-- nothing may wait at the end of a text
abbrev pub whole : ℕ → List Pending → Tree → Result Tree ExprFault
whole end [] tree = Ok tree
whole end (frame ∷ pending) tree = Err (At end)

abbrev pub finished_by : ℕ → Option Read → Result Tree ExprFault
finished_by end None = Err (At end)
finished_by end (Some read) = whole end read.pending read.tree

abbrev pub finished : ℕ → Result State ExprFault → Result Tree ExprFault
finished end (Err fault) = Err fault
finished end (Ok state) = finished_by end (closing 0 state)

-- the tree, or the first fault, where trees nest no deeper than the limit and a text has an end
abbrev pub parsed : ℕ → ℕ → List Lexeme → Result Tree ExprFault
parsed limit end tokens = finished end (run limit (Ok (wanted [])) tokens)
