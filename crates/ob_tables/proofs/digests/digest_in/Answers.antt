use Rattle.std.proofs.Common.{◌+◌, Some, drop, option_map, sym, ap, ◌∙◌}
use Rattle.std.specs.Hash.FoldHasher as folding
use Rattle.ob_tables.specs.Digests.{fed_in}
use Rattle.ob_tables.specs.Rooms.{shown_row}
use Rattle.ob_tables.proofs.Digesting.{fed-all, fed-more, fed-none}
use Rattle.ob_tables.proofs.digests.digest_in.Goals as goal

pub loop-field-init : goal.loop-field-init
loop-field-init c = ap (fed_in (shown_row c.args.row.now) c.args.set.now) c.default-hasher.ensures

pub returns-in_err-value : goal.returns-in_err-value
returns-in_err-value c =
    let none = sym c.value_in.ensures ∙ ap (option_map (λ value. value.now)) c.in_err-value.was in
    c.from_residual.ensures
    ∙ sym (ap (option_map folding.finish) (sym c.loop-field.invariant ∙ fed-none (shown_row c.args.row.now) c.args.set.now c.loop-field.field-index (record { 0 = 0 }) c.loop-field.hasher c.loop-field-test.true none))

pub loop-field-preserved : goal.loop-field-preserved
loop-field-preserved c =
    let row = shown_row c.args.row.now in
    let i = c.loop-field.field-index in
    let is = sym c.value_in.ensures ∙ ap (option_map (λ value. value.now)) c.in_ok-value.was in
    ap (fed_in row (drop (i + 1) c.args.set.now)) c.feed.ensures
    ∙ sym (fed-more row c.args.set.now i (record { 0 = 0 }) c.loop-field.hasher c.in_ok-value.value.now c.loop-field-test.true is) ∙ c.loop-field.invariant

pub returns : goal.returns
returns c =
    ap Some c.finish.ensures
    ∙ sym (ap (option_map folding.finish) (sym c.loop-field.invariant ∙ fed-all (shown_row c.args.row.now) c.args.set.now c.loop-field.field-index c.loop-field.hasher c.loop-field-test.false))
