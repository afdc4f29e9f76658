-- The state of an open move, by how much of its demand is reserved.
use Rattle.std.specs.Prelude.{◌≡◌, ℤ, pos, ◌<ℤ◌, int_lt, ◌&&◌, Bool, true, false, if◌then◌else◌}
use Rattle.std.specs.Ordering.{int_eq}
use Rattle.wh_move.specs.declared.state.MoveState.{MoveState}
use Rattle.wh_move.specs.declared.state.MoveState.TheVariants.{Waiting, Confirmed, PartiallyAvailable, Assigned}

-- the state of a move of which so much of the demand is reserved, and which waits for moves before it or doesn't
pub record IsNextState (reserved demand : ℤ) (waits : Bool) (state : MoveState) : Type 0 where
  pub whole : reserved ≡ demand → state ≡ Assigned
  pub part : pos 0 <ℤ reserved → reserved <ℤ demand → state ≡ PartiallyAvailable
  pub held_up : reserved ≡ pos 0 → reserved <ℤ demand → waits ≡ true → state ≡ Waiting
  pub free : reserved ≡ pos 0 → reserved <ℤ demand → waits ≡ false → state ≡ Confirmed

-- the state by both numbers, whatever they are: all is reserved, or a part, or nothing while it waits
abbrev pub next_state_of : ℤ → ℤ → Bool → MoveState
next_state_of reserved demand waits =
    if int_eq reserved demand then Assigned
    else if int_lt (pos 0) reserved && int_lt reserved demand then PartiallyAvailable
    else if int_eq reserved (pos 0) && waits then Waiting
    else Confirmed
