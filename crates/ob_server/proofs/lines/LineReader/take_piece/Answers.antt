use Rattle.std.proofs.Common.{refl, arith, rules, take, drop, ◌-◌}
use Rattle.ob_server.proofs.ReadingSteps.{takes_piece, held_rest, taken_within, piece_too_long-by_line, piece_too_long-by_input}
use Rattle.ob_server.proofs.lines.LineReader.take_piece.Goals as goal
use Rattle.ob_server.proofs.lines.LineReader.take_piece.Goals.{then-length-gt-MAX_BODY_BYTES-via-then-length-gt-MAX_BODY_BYTES, then-length-gt-MAX_BODY_BYTES-via-else-length-gt-MAX_BODY_BYTES+then-consumed-gt-MAX_INPUT_BYTES}

pub returns-clause-piece : goal.returns-clause-piece
returns-clause-piece c =
    let s = c.self.inside in
    let held = take (s.end - s.start) (drop s.start s.room.items) in
    let room = c.deref.ensures.value in
    let step = rw room at c.from.ensures in
    let below = rw room at c.line_len-count.ensures.bound in
    rw (← c.self.view_is, room) (takes_piece held _ s.line.items _ s.lines _ s.consumed _ c.line_len-count.result c.from.result
    (rw room at c.line_len-count.ensures.value)
    step
    (held_rest s.room.items s.start s.end _ (taken_within s.room.items s.start s.end _ _ step below (omega (arith, c.self.invariant))))
    (rw room at c.in_ok-extend_from_slice.ensures.items)
    (search rules) refl)

pub returns-then-length-gt-MAX_BODY_BYTES-clause-too_long :
    goal.returns-then-length-gt-MAX_BODY_BYTES-clause-too_long
returns-then-length-gt-MAX_BODY_BYTES-clause-too_long c n is =
    let s = c.self.inside in
    let held = take (s.end - s.start) (drop s.start s.room.items) in
    let room = c.deref.ensures.value in
    let at = rw room at c.line_len-count.ensures.value in
    let step = rw room at c.from.ensures in
    elim c.then-length-gt-MAX_BODY_BYTES.branch [
      | then-length-gt-MAX_BODY_BYTES-via-then-length-gt-MAX_BODY_BYTES w ↦ rw (← c.self.view_is) (piece_too_long-by_line held _ s.lines s.consumed c.line_len-count.result at (omega (arith, w.if-length-gt-MAX_BODY_BYTES.true)))
      | then-length-gt-MAX_BODY_BYTES-via-else-length-gt-MAX_BODY_BYTES+then-consumed-gt-MAX_INPUT_BYTES w ↦ rw (← c.self.view_is) (piece_too_long-by_input held s.line.items s.lines s.consumed
          c.line_len-count.result c.from.result at step (omega (arith, w.if-consumed-gt-MAX_INPUT_BYTES.true)))
    ]
