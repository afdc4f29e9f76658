-- The next line feed ends the next line, and where there is none all bytes were searched.
use Rattle.std.proofs.Common.{refl}
use Rattle.std.proofs.lemmas.List.{take_rest}
use Rattle.ob_http.proofs.SoFarLaws.{next_feed, no_next_feed, so_far_all, no_head_yet}
use Rattle.ob_http.proofs.lines.LinesSoFar.take_all.Goals as goal

pub take-requires-clause-at : goal.take-requires-clause-at
take-requires-clause-at c =
    next_feed c.args.bytes.now _ c.loop-offset.self.searched c.in-Some.offset (take_rest c.args.bytes.now c.loop-offset.self.searched) c.in-Some.ensures.0 c.in-Some.ensures.1

pub returns-clause-more : goal.returns-clause-more
returns-clause-more c none =
    let all = so_far_all c.loop-offset.invariant (no_next_feed c.args.bytes.now _ c.loop-offset.self.searched (take_rest c.args.bytes.now c.loop-offset.self.searched) c.in_default.ensures) in
    (all, refl, no_head_yet all refl)
