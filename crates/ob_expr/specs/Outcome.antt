-- What contracts see of an evaluation without a value. A fault that a form of the tree can have is added here.
use Rattle.std.specs.Prelude.{◌≡◌, ⊤, Option, None, Result, Err}
use Rattle.ob_base.specs.declared.id.Cell.{Cell}
use Rattle.ob_base.specs.declared.value.Value.{Value}
use Rattle.ob_expr.specs.declared.fault.EvalFault.{EvalFault}
use Rattle.ob_expr.specs.declared.fault.EvalFault.TheVariants.{Overflow, TooLong, ZeroDivisor, Read, NoMemory}
use Rattle.ob_expr.specs.Computing.{Lack, overflow, too_long, zero_divisor, unread}

-- the fault of an evaluation: what the expression means, a fault of a read that is known to have come at a cell (which the expression lacks first, where it has no value), or want of memory
abbrev pub IsEvalFault : {F T : Type 0} → (F → Cell → Type 0) → (Cell → Option Value) → Result T Lack → EvalFault F → Type 0
IsEvalFault has_failed held meant Overflow = meant ≡ Err overflow
IsEvalFault has_failed held meant TooLong = meant ≡ Err too_long
IsEvalFault has_failed held meant ZeroDivisor = meant ≡ Err zero_divisor
IsEvalFault has_failed held meant (Read fault) = (cell : Cell) × has_failed fault cell × (held cell ≡ None → meant ≡ Err (unread cell))
IsEvalFault has_failed held meant NoMemory = ⊤
