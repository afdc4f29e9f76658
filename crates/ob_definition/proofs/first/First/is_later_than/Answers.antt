use Rattle.std.proofs.Common.{sym, ◌∙◌}
use Rattle.ob_definition.specs.declared.fault.Spot.{Spot}
use Rattle.ob_definition.specs.Ranking.{Rank}
use Rattle.ob_definition.proofs.Ranks.{is_lesser-by}
use Rattle.ob_definition.proofs.first.First.is_later_than.Goals as goal

pub returns-in-Some : goal.returns-in-Some
returns-in-Some c =
    let spot : Spot = record { entry = c.args.entry; field = c.args.field.now } in
    let own : Rank = record { entry = c.rank_of-own_entry.result.0; field = c.rank_of-own_entry.result.1.now; variant = c.rank_of-own_entry.result.2 } in
    let by = is_lesser-by c.args.wrong.now spot c.args.self.now c.in-Some.fault own (sym c.self.view_is ∙ c.in-Some.is) c.rank_of-own_entry.ensures in
    rw (by, c.is_lt.ensures, c.then-in-Some.ensures, c.then.ensures, c.cmp.ensures, c.cmp-in-Some.ensures, c.cmp-by_variant.ensures, c.variant.ensures)
