use Rattle.std.proofs.Common.{List, true, ap, sym, subst, ◌∙◌}
use Rattle.ob_base.specs.declared.id.Cell.{Cell}
use Rattle.ob_base.specs.declared.id.RecId.{RecId}
use Rattle.ob_tables.specs.Holdings.{CellHeld, has_id, names_by, names_where}
use Rattle.ob_tables.proofs.Held.{named-where, value-named, walk-passes, walk-there, walk-turns}
use Rattle.ob_tables.proofs.holdings.add_fields.Goals as goal

pub loop-field-preserved-in-Continue-1 : goal.loop-field-preserved-in-Continue-1
loop-field-preserved-in-Continue-1 c =
    let old = c.args.old.now in
    let new = c.args.new.now in
    let before = names_where old new in
    let after = names_by new in
    let k = c.in-Some.field.now in
    let v = c.in-Some.value.now in
    let walking = c.loop-field.invariant in
    let there = walk-there c.args.key before after new c.args.holdings.now c.loop-field.holdings k v c.loop-field.field-iterator c.next.new.self c.in-Some.ensures.steps walking in
    let held = subst (λ (cell : Cell). CellHeld cell c.targets_of.result.now c.loop-field.holdings c.turn.new.holdings) c.cell_at.ensures c.in_ok-turn.ensures in
    walk-turns c.args.key before after new c.args.holdings.now c.loop-field.holdings k v c.loop-field.field-iterator c.next.new.self c.in-Some.ensures.steps walking c.turn.new.holdings
    (λ target. held.here target ∙ ap (λ (l : List RecId). has_id l target) c.targets_of.ensures.same ∙ sym (value-named new (record { 0 = k }) target v there))
    held.elsewhere

pub loop-field-preserved : goal.loop-field-preserved
loop-field-preserved c =
    let old = c.args.old.now in
    let new = c.args.new.now in
    let k = c.in-Some.field.now in
    walk-passes c.args.key (names_where old new) (names_by new) new c.args.holdings.now c.loop-field.holdings k c.in-Some.value.now c.loop-field.field-iterator c.next.new.self c.in-Some.ensures.steps
    c.loop-field.invariant (λ target. named-where old new (record { 0 = k }) target true (sym c.contains_key.ensures ∙ c.if-not-contains_key.false))
