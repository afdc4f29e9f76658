use Rattle.std.proofs.Common.{sym, ap, ◌∙◌}
use Rattle.std.specs.Vec.Iter.{into_iter_items}
use Rattle.std.proofs.lemmas.List.Elements.{All-head, All-tail, All-weaker, All-same}
use Rattle.ob_io.specs.Store.{all_changed, IsChangeFit}
use Rattle.ob_io.specs.Slots.{shown_store, HasRoom}
use Rattle.ob_io.proofs.slots.Slots.carry_out.Goals as goal

pub carry_out_one-requires-clause-room : goal.carry_out_one-requires-clause-room
carry_out_one-requires-clause-room c =
    let room = HasRoom c.loop-change.self in
    All-head room c.in-Some.change (into_iter_items c.next.new.self) (All-same room _ _ (sym c.in-Some.ensures.steps.0) c.loop-change.invariant.room)

pub carry_out_one-requires-clause-fit : goal.carry_out_one-requires-clause-fit
carry_out_one-requires-clause-fit c =
    All-head IsChangeFit c.in-Some.change (into_iter_items c.next.new.self) (All-same IsChangeFit _ _ (sym c.in-Some.ensures.steps.0) c.loop-change.invariant.fit)

pub loop-change-preserved : goal.loop-change-preserved
loop-change-preserved c =
    let old = HasRoom c.loop-change.self in
    let new = HasRoom c.carry_out_one.new.self in
    let left = into_iter_items c.next.new.self in
    let is = sym c.in-Some.ensures.steps.0 in
    record {
      rest = ap (all_changed left) c.carry_out_one.ensures.carried ∙ ap (λ changes. all_changed changes (shown_store c.loop-change.self)) is ∙ c.loop-change.invariant.rest;
      room = All-weaker old new c.carry_out_one.ensures.kept left (All-tail old c.in-Some.change left (All-same old _ _ is c.loop-change.invariant.room));
      fit = All-tail IsChangeFit c.in-Some.change left (All-same IsChangeFit _ _ is c.loop-change.invariant.fit);
    }
