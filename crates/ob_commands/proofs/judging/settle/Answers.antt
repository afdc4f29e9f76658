-- Rows that are touched, what is broken, all edits at once, and rows that are made.
use Rattle.std.proofs.Common.{◌≤◌, arith}
use Rattle.ob_cache.specs.Standing.{max_next_id}
use Rattle.ob_commands.proofs.JudgedEdits.{asks-settles, causes-later, engine-settles, judges-before, made-judges, settles-asks, whatever-done, whatever-refused}
use Rattle.ob_effect.proofs.CallerLemmas.{asks_edits, asks_keeps, asks_then, keeps_then, spoiled_keeps}
use Rattle.ob_effect.specs.Effect.{Keeps}
use Rattle.ob_commands.specs.Judging.{DeniesMade, Judges, Settles}
use Rattle.ob_commands.proofs.judging.settle.Goals as goal

pub returns-in_err-test_touched-clause-kept : goal.returns-in_err-test_touched-clause-kept
returns-in_err-test_touched-clause-kept g c =
    whatever-refused c.from_residual.result (Keeps g.K.Keeper c.args.engine.now c.test_touched.new.engine) (asks_keeps g.K.Keeper _ _ c.test_touched.ensures.asked)

pub returns-in_err-broken-clause-kept : goal.returns-in_err-broken-clause-kept
returns-in_err-broken-clause-kept g c =
    whatever-refused c.from_residual-in_err-broken.result (Keeps g.K.Keeper c.args.engine.now c.own_broken.new.engine)
    (asks_keeps g.K.Keeper _ _ (asks_then g.K.Keeper _ _ _ c.test_touched.ensures.asked c.own_broken.ensures.asked))

pub returns-in-Some-clause-kept : goal.returns-in-Some-clause-kept
returns-in-Some-clause-kept g c = asks_keeps g.K.Keeper _ _ (asks_then g.K.Keeper _ _ _ c.test_touched.ensures.asked c.own_broken.ensures.asked)

pub returns-in_err-settle-clause-kept : goal.returns-in_err-settle-clause-kept
returns-in_err-settle-clause-kept g c =
    let asked = asks_then g.K.Keeper _ _ _ c.test_touched.ensures.asked c.own_broken.ensures.asked in
    whatever-refused c.from_residual-in_err-settle.result (Keeps g.K.Keeper c.args.engine.now c.settle.new.self)
    (keeps_then g.K.Keeper _ _ _ (asks_keeps g.K.Keeper _ _ asked) (spoiled_keeps g.K.Keeper c.own_broken.new.engine c.settle.new.self c.settle.ensures.lender c.settle.ensures.cause.no_fall c.in_err-settle.ensures.spoiled))

pub returns-clause-settled : goal.returns-clause-settled
returns-clause-settled g c =
    let asked = asks_then g.K.Keeper _ _ _ c.test_touched.ensures.asked c.own_broken.ensures.asked in
    let low : max_next_id ≤ max_next_id = omega arith in
    let first = asked.same.next_ids max_next_id low (c.requires.noted.low (c.in_ok-broken.ensures.low c.in_default.is)) in
    let settled = engine-settles g.K.Keeper c.own_broken.new.engine c.settle.new.self c.settle.ensures.lender c.settle.ensures.same c.settle.ensures.cause.no_fall c.settle.ensures.models c.in_ok-settle.ensures.phase
    (c.in_ok-settle.ensures.next_ids max_next_id low first) c.in_ok-settle.ensures.settled in
    whatever-done c.test_made.result (Settles g.K.Keeper c.args.engine.now c.test_made.new.engine)
    (settles-asks g.K.Keeper _ _ _ (asks-settles g.K.Keeper _ _ _ asked settled) c.test_made.ensures.asked)

pub returns-clause-kept : goal.returns-clause-kept
returns-clause-kept g c =
    let asked = asks_then g.K.Keeper _ _ _ c.test_touched.ensures.asked c.own_broken.ensures.asked in
    let low : max_next_id ≤ max_next_id = omega arith in
    let first = asked.same.next_ids max_next_id low (c.requires.noted.low (c.in_ok-broken.ensures.low c.in_default.is)) in
    let settled = engine-settles g.K.Keeper c.own_broken.new.engine c.settle.new.self c.settle.ensures.lender c.settle.ensures.same c.settle.ensures.cause.no_fall c.settle.ensures.models c.in_ok-settle.ensures.phase
    (c.in_ok-settle.ensures.next_ids max_next_id low first) c.in_ok-settle.ensures.settled in
    let all = settles-asks g.K.Keeper _ _ _ (asks-settles g.K.Keeper _ _ _ asked settled) c.test_made.ensures.asked in
    whatever-refused c.test_made.result (Keeps g.K.Keeper c.args.engine.now c.test_made.new.engine) all.keeps

pub returns-clause-refused : goal.returns-clause-refused
returns-clause-refused g c =
    let faults = g.K.Keeper.faults in
    let old = c.args.engine.now in
    let by = c.args.writer.now.by in
    let asked = asks_then g.K.Keeper _ _ _ c.test_touched.ensures.asked c.own_broken.ensures.asked in
    let up : faults old.keeper.now ≤ faults c.settle.new.self.keeper.now = (let one = asked.count in let more = c.settle.ensures.cause.no_fall in omega (arith, one, more)) in
    causes-later c.test_made.result (faults old.keeper.now) (faults c.settle.new.self.keeper.now) (faults c.test_made.new.engine.keeper.now) up (DeniesMade g.K.Keeper by c.settle.new.self) (Judges g.K.Keeper by old)
    (λ w denies. judges-before g.K.Keeper by old c.own_broken.new.engine (asks_edits g.K.Keeper _ _ c.requires.usable asked) w
    (made-judges g.K.Keeper by c.own_broken.new.engine c.settle.new.self c.in_ok-settle.ensures.settled w denies)) c.test_made.ensures.refused
