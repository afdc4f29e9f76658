use Rattle.std.proofs.Common.{List, true, is_some, ap, sym, subst, ◌∙◌}
use Rattle.ob_base.specs.declared.id.Cell.{Cell}
use Rattle.ob_base.specs.declared.id.RecId.{RecId}
use Rattle.ob_tables.specs.Holdings.{CellHeld, has_id, holding_of, is_held, kept_by, names_by, names_where}
use Rattle.ob_tables.proofs.Held.{named-where, names-has, value-named, walk-before, walk-there, walk-turns}
use Rattle.ob_tables.proofs.holdings.turn_fields.Goals as goal

pub turn-requires-clause-held : goal.turn-requires-clause-held
turn-requires-clause-held c target =
    let old = c.args.old.now in
    let before = names_by old in
    let after = names_where old c.args.new.now in
    let k = c.in-Some.field.now in
    let v = c.in-Some.value.now in
    let walking = c.loop-field.invariant in
    let there = walk-there c.args.key before after old c.args.holdings.now c.loop-field.holdings k v c.loop-field.field-iterator c.next.new.self c.in-Some.ensures.steps walking in
    ap (λ (cell : Cell). is_held c.loop-field.holdings (holding_of cell target)) c.cell_at.ensures
    ∙ walk-before c.args.key before after old c.args.holdings.now c.loop-field.holdings k v c.loop-field.field-iterator c.next.new.self c.in-Some.ensures.steps walking target
    ∙ value-named old (record { 0 = k }) target v there ∙ ap (λ (l : List RecId). has_id l target) (sym c.targets_of.ensures.same)

pub loop-field-preserved : goal.loop-field-preserved
loop-field-preserved c =
    let old = c.args.old.now in
    let new = c.args.new.now in
    let before = names_by old in
    let after = names_where old new in
    let k = c.in-Some.field.now in
    let v = c.in-Some.value.now in
    let walking = c.loop-field.invariant in
    let there = walk-there c.args.key before after old c.args.holdings.now c.loop-field.holdings k v c.loop-field.field-iterator c.next.new.self c.in-Some.ensures.steps walking in
    let held = subst (λ (cell : Cell). CellHeld cell c.targets_by-after.result.now c.loop-field.holdings c.turn.new.holdings) c.cell_at.ensures c.in_ok-turn.ensures in
    walk-turns c.args.key before after old c.args.holdings.now c.loop-field.holdings k v c.loop-field.field-iterator c.next.new.self c.in-Some.ensures.steps walking c.turn.new.holdings
    (λ target. held.here target ∙ ap (λ (l : List RecId). has_id l target) c.targets_by-after.ensures ∙ names-has target (kept_by new (record { 0 = k }))
    ∙ sym (named-where old new (record { 0 = k }) target true (ap is_some there)))
    held.elsewhere
