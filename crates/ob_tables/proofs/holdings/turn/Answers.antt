use Rattle.std.proofs.Common.{◌≡◌, cond, List, Some, None, ap, drop, length, subst, sym, take, ◌-◌, ◌∙◌}
use Rattle.std.specs.BTreeMap as tree
use Rattle.std.specs.Ordering.{eq_by_cmp}
use Rattle.std.proofs.lemmas.List.{take_rest}
use Rattle.ob_base.specs.declared.id.RecId.{RecId}
use Rattle.ob_tables.specs.Holdings.{IsStep, holding_order}
use Rattle.ob_tables.specs.declared.holdings.Holding.{Holding}
use Rattle.ob_tables.proofs.Held.{Turning, turn-begins, turn-comes, turn-goes, turn-passes, turn-stays}
use Rattle.ob_tables.proofs.holdings.turn.Goals as goal

pub loop-step-init : goal.loop-step-init
loop-step-init c =
    let cell = c.args.cell in
    let old = c.args.old.now in
    let new = c.args.new.now in
    let held = c.args.holdings.now in
    let same = c.same_front-same.result in
    subst (λ (l : List RecId). Turning cell new held held l (take (length new - same) (drop same new))) (sym (take_rest old same))
    (subst (Turning cell new held held (drop same old)) (sym (take_rest new same))
    (turn-passes cell new held same held old new c.same_front-same.ensures.within.0 c.same_front-same.ensures.within.1 c.same_front-same.ensures.same (turn-begins cell new held old c.requires.rising c.requires.held)))

pub loop-step-preserved-in-Goes : goal.loop-step-preserved-in-Goes
loop-step-preserved-in-Goes c =
    let gone = c.loop-step.gone.now in
    let come = c.loop-step.come.now in
    let now = c.loop-step.holdings in
    let next = c.remove.new.self in
    let step = subst (IsStep gone come) (c.in-Some.is ∙ ap Some c.in-Goes.is) c.next_step.ensures in
    turn-goes c.args.cell c.args.new.now c.args.holdings.now now next gone come c.loop-step.invariant c.in-Goes.target c.in-Goes.rest.now step
    (subst (λ (k : Holding). (q : Holding) → tree.get holding_order next q ≡ cond (eq_by_cmp holding_order k q) None (tree.get holding_order now q)) c.holding_of.ensures c.in_ok-remove-in-Goes.ensures.updates.0)

pub loop-step-preserved-in-Comes : goal.loop-step-preserved-in-Comes
loop-step-preserved-in-Comes c =
    let gone = c.loop-step.gone.now in
    let come = c.loop-step.come.now in
    let now = c.loop-step.holdings in
    let next = c.insert.new.self in
    let step = subst (IsStep gone come) (c.in-Some.is ∙ ap Some c.in-Comes.is) c.next_step.ensures in
    turn-comes c.args.cell c.args.new.now c.args.holdings.now now next gone come c.loop-step.invariant tt c.in-Comes.target c.in-Comes.rest.now step.0 step.1
    (subst (λ (k : Holding). (q : Holding) → tree.get holding_order next q ≡ cond (eq_by_cmp holding_order k q) (Some tt) (tree.get holding_order now q)) c.holding_of-in-Comes.ensures c.in_ok-insert-in-Comes.ensures.updates.0)

pub loop-step-preserved : goal.loop-step-preserved
loop-step-preserved c =
    let gone = c.loop-step.gone.now in
    let come = c.loop-step.come.now in
    let step = subst (IsStep gone come) (c.in-Some.is ∙ ap Some c.in-Stays.is) c.next_step.ensures in
    turn-stays c.args.cell c.args.new.now c.args.holdings.now c.loop-step.holdings gone come c.loop-step.invariant c.in-Stays.field-0 c.in-Stays.rest.now c.in-Stays.others.now step.0 step.1
