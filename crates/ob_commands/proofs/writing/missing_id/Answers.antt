use Rattle.std.proofs.Common.{get_or}
use Rattle.std.proofs.lemmas.List.Elements.{Contains-get_or}
use Rattle.ob_effect.proofs.CallerLemmas.{asks_then}
use Rattle.ob_commands.proofs.TakenIds.{least-known, misses-one}
use Rattle.ob_effect.specs.Effect.{Asks}
use Rattle.ob_commands.specs.Making.{MissesSome}
use Rattle.ob_commands.proofs.writing.missing_id.Goals as goal
use Rattle.ob_commands.proofs.writing.missing_id.Goals.{then-not-there, else-not-there}

pub returns-in_err-there-clause-asked : goal.returns-in_err-there-clause-asked
returns-in_err-there-clause-asked g c =
    let asked : Asks g.K.Keeper c.loop-id.engine c.has_row.new.self = record { lender = c.has_row.ensures.lender; same = c.has_row.ensures.same; count = c.has_row.ensures.cause.no_fall } in
    asks_then g.K.Keeper _ _ _ c.loop-id.invariant.asked asked

pub loop-id-preserved : goal.loop-id-preserved
loop-id-preserved g c =
    let a = c.args.engine.now in
    let mid = c.loop-id.engine in
    let model = c.args.model in
    let ids = c.args.ids.now in
    let id = get_or ids c.loop-id.id-index 0 in
    let so_far = c.loop-id.invariant in
    let asked : Asks g.K.Keeper mid c.has_row.new.self = record { lender = c.has_row.ensures.lender; same = c.has_row.ensures.same; count = c.has_row.ensures.cause.no_fall } in
    record {
      asked = asks_then g.K.Keeper a mid c.has_row.new.self so_far.asked asked;
      missing = elim c.if-not-there.branch [
        | then-not-there w ↦ rw w.missing-is (least-known (MissesSome g.K.Keeper model ids a) c.loop-id.missing w.least-missing.result id w.least-missing.ensures so_far.missing
            (misses-one g.K.Keeper model a mid ids id c.in_ok-there.there so_far.asked (Contains-get_or ids c.loop-id.id-index 0 c.loop-id-test.true) c.in_ok-there.ensures.there w.if-not-there.true))
        | else-not-there w ↦ rw w.missing-is so_far.missing
      ];
    }
