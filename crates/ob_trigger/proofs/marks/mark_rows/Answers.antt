-- One row more.
use Rattle.std.proofs.Common.{◌≡◌, List, subst, ◌∙◌}
use Rattle.std.specs.Prelude.{Contains}
use Rattle.std.proofs.lemmas.List.{take_all}
use Rattle.ob_base.specs.declared.id.RecId.{RecId}
use Rattle.ob_schema.specs.ReadCells.{cell_at}
use Rattle.ob_trigger.specs.Marks.{MarksMore}
use Rattle.ob_trigger.proofs.Marking.{cells-more, cells-none, counts-none, counts-then, marks-as, marks-none, marks-then}
use Rattle.ob_trigger.proofs.marks.mark_rows.Goals as goal

pub loop-id-init : goal.loop-id-init
loop-id-init c = record {
  marked = marks-none _ _ _ (cells-none c.args.field);
  count = counts-none _ _;
  items = c.as_slice-id-items.ensures.value ∙ c.in_ok-ids.ensures;
}

pub loop-id-preserved : goal.loop-id-preserved
loop-id-preserved c = record {
  marked = marks-as _ _ _ _ _ _ (marks-then _ _ _ _ _ _ _ _ c.loop-id.invariant.marked c.in_ok-mark.ensures.marked) (cells-more c.args.field c.as_slice-id-items.result.now c.loop-id.id-index _ c.loop-id-test.true);
  count = counts-then _ _ _ _ _ _ c.loop-id.invariant.count c.in_ok-mark.ensures.count;
  items = c.loop-id.invariant.items;
}

pub returns-clause-marked : goal.returns-clause-marked
returns-clause-marked c =
    let all = take_all c.loop-id.id-index c.as_slice-id-items.result.now c.loop-id-test.false ∙ c.loop-id.invariant.items in
    subst (λ (l : List RecId). MarksMore c.args.marked.now c.loop-id.marked c.args.waiting.now.items c.loop-id.waiting.items (λ cell. (cell ≡ cell_at c.args.field cell.id) × Contains l cell.id)) all c.loop-id.invariant.marked
