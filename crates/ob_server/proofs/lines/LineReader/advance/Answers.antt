use Rattle.std.proofs.Common.{arith, sym, ap, ◌∙◌, Err}
use Rattle.std.proofs.lemmas.Result.{err_from_is_err_and}
use Rattle.ob_server.proofs.ReadingSteps.{within_fill, within_piece, reads_whole, reads_last, stops_within, too_long_within, ends_still, none_came}
use Rattle.ob_server.proofs.lines.LineReader.advance.Goals as goal

pub returns-in_err-take_piece-clause-too_long : goal.returns-in_err-take_piece-clause-too_long
returns-in_err-take_piece-clause-too_long g c n is =
    let p = err_from_is_err_and c.from_residual.result c.from_residual.ensures.1 in
    too_long_within c.pieces.invariant.0 (c.in_err-take_piece.ensures.too_long n (sym (p.1 ∙ ap Err p.2) ∙ is))

pub returns-in_err-fill-clause-within : goal.returns-in_err-fill-clause-within
returns-in_err-fill-clause-within g c is =
    let piece = rw c.if-not-branch.true at c.in_ok-take_piece.ensures.piece in
    let taken = within_piece c.pieces.invariant.0 piece in
    stops_within (within_fill taken.0 taken.1 c.fill.ensures.given c.fill.ensures.reading) c.in_err-fill.ensures.err

pub returns-then-not-branch-2-clause-line : goal.returns-then-not-branch-2-clause-line
returns-then-not-branch-2-clause-line g c is =
    let piece = rw c.if-not-branch.true at c.in_ok-take_piece.ensures.piece in
    let taken = within_piece c.pieces.invariant.0 piece in
    let filled = within_fill taken.0 taken.1 c.fill.ensures.given c.fill.ensures.reading in
    let none = none_came c.fill.new.self.held _ c.in_ok-fill.ensures.more.1 c.if-not-branch-2.true in
    let ends = ends_still _ _ c.fill.new.self.held c.fill.ensures.given (c.in_ok-fill.ensures.end c.if-not-branch-2.true) in
    reads_last filled none ends (c.end_line.ensures.some.0 is) (rw is at c.end_line.ensures.reading)

pub pieces-preserved : goal.pieces-preserved
pieces-preserved g c =
    let piece = rw c.if-not-branch.true at c.in_ok-take_piece.ensures.piece in
    let taken = within_piece c.pieces.invariant.0 piece in
    let filled = within_fill taken.0 taken.1 c.fill.ensures.given c.fill.ensures.reading in
    (filled, omega (arith, c.fill.ensures.cause.no_fall, c.pieces.invariant.1), c.pieces.invariant.2)

pub returns-clause-line : goal.returns-clause-line
returns-clause-line g c is =
    reads_whole c.pieces.invariant.0 (rw c.if-not-branch.false at c.in_ok-take_piece.ensures.piece)
