-- One id more.
use Rattle.std.proofs.Common.{List, ℕ, [], refl, subst}
use Rattle.std.specs.Prelude.{Contains}
use Rattle.std.proofs.lemmas.List.{take_all}
use Rattle.ob_unlink.specs.DeletionSteps.{TakesMore}
use Rattle.ob_rows.specs.Rights.{rows_named}
use Rattle.ob_unlink.proofs.TakenRows.{counts-none, counts-then, takes-as, takes-none, takes-then}
use Rattle.ob_unlink.proofs.TakenMore.{named-more, named-none}
use Rattle.ob_unlink.proofs.unlinking.taking.take_named.Goals as goal

pub loop-id-init : goal.loop-id-init
loop-id-init c = record { rows = takes-none _ _ _ (λ row. named-none c.args.model [] row refl); count = counts-none _ _ }

pub loop-id-preserved : goal.loop-id-preserved
loop-id-preserved c = record {
  rows = takes-as _ _ _ _ _ _ (takes-then _ _ _ _ _ _ _ _ c.loop-id.invariant.rows c.in_ok-take.ensures.rows) (named-more c.args.model c.args.ids.now c.loop-id.id-index c.loop-id-test.true);
  count = counts-then _ _ _ _ _ _ c.loop-id.invariant.count c.in_ok-take.ensures.count;
}

pub returns-clause-rows : goal.returns-clause-rows
returns-clause-rows c =
    subst (λ (l : List ℕ). TakesMore c.args.rows.now c.loop-id.rows c.args.waiting.now.items c.loop-id.waiting.items (Contains (rows_named c.args.model l))) (take_all c.loop-id.id-index c.args.ids.now c.loop-id-test.false)
    c.loop-id.invariant.rows
