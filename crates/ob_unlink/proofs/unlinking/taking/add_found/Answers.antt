-- The cells, and maybe the rows.
use Rattle.ob_rows.proofs.CallerLemmas.{both_ways, denied}
use Rattle.ob_unlink.proofs.TakenRows.{takes-none}
use Rattle.ob_unlink.proofs.unlinking.taking.add_found.Goals as goal

pub returns-then-not-relation-clause-rows : goal.returns-then-not-relation-clause-rows
returns-then-not-relation-clause-rows c = takes-none _ _ _ (λ row of. both_ways c.args.relation.cascades of.0 (denied c.args.relation.cascades c.if-not-relation.true))
