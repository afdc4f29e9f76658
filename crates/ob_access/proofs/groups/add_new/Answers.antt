-- One group more.
use Rattle.std.proofs.Common.{sym, ◌∙◌}
use Rattle.ob_access.proofs.Searching.{fewer_turn, found_end, found_turn, open_end, open_turn}
use Rattle.ob_access.proofs.groups.add_new.Goals as goal

pub loop-id-preserved : goal.loop-id-preserved
loop-id-preserved c = record {
  found = λ id. found_turn c.loop-id.found.keys c.add_if_new.new.found.keys c.args.ids.now c.loop-id.id-index _ c.loop-id-test.true c.in_ok-add_if_new.ensures.found id ∙ c.loop-id.invariant.found id;
  pending = λ id. open_turn c.loop-id.found.keys c.add_if_new.new.found.keys c.args.ids.now c.loop-id.id-index _ c.loop-id-test.true c.in_ok-add_if_new.ensures.found
      c.loop-id.pending.items c.add_if_new.new.pending.items c.in_ok-add_if_new.ensures.pending id ∙ c.loop-id.invariant.pending id;
  fewer = λ count all. fewer_turn c.loop-id.found.keys c.add_if_new.new.found.keys c.args.ids.now c.loop-id.id-index _ c.loop-id-test.true c.in_ok-add_if_new.ensures.found
      c.loop-id.pending.items c.add_if_new.new.pending.items c.in_ok-add_if_new.ensures.pending count _ all (c.loop-id.invariant.fewer count all);
}

pub returns-clause-found : goal.returns-clause-found
returns-clause-found c = λ id. sym (found_end c.loop-id.found.keys c.loop-id.pending.items c.args.ids.now c.loop-id.id-index c.loop-id-test.false id) ∙ c.loop-id.invariant.found id

pub returns-clause-pending : goal.returns-clause-pending
returns-clause-pending c = λ id. sym (open_end c.loop-id.found.keys c.loop-id.pending.items c.args.ids.now c.loop-id.id-index c.loop-id-test.false id) ∙ c.loop-id.invariant.pending id
