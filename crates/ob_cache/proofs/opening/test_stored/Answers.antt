use Rattle.std.proofs.Common.{◌≡◌, ◌∙◌, suc, take, drop, Ok, sym}
use Rattle.std.proofs.lemmas.Bool.{false≢true}
use Rattle.ob_cache.proofs.ReadPages.{all-more, parted}
use Rattle.ob_schema.specs.Val.{val}
use Rattle.ob_cache.proofs.opening.test_stored.Goals as goal

pub returns-then-not-branch-clause-fault : goal.returns-then-not-branch-clause-fault
returns-then-not-branch-clause-fault c =
    let stored = c.args.stored.now in
    let item = c.loop-cell-item.result in
    let index = c.loop-cell.cell-index in (
      take index stored,
      item.1,
      drop (suc index) stored,
      parted stored index item c.loop-cell-test.true c.loop-cell-item.is,
      c.loop-cell.invariant,
      λ is. false≢true (sym c.if-not-branch.true ∙ c.in_ok-has_value.ensures.1 is),
    )

pub loop-cell-preserved : goal.loop-cell-preserved
loop-cell-preserved c =
    all-more (λ s. val c.args.whole.now.models c.args.whole.now.tables s.0 ≡ Ok s.1) c.args.stored.now c.loop-cell.cell-index c.loop-cell-item.result c.loop-cell-test.true c.loop-cell-item.is
    c.loop-cell.invariant (c.in_ok-has_value.ensures.0 c.if-not-branch.false)
