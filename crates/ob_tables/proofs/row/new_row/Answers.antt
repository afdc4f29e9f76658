use Rattle.std.proofs.Common.{[], ap, sym, ◌∙◌}
use Rattle.std.specs.Ordering.{nat_cmp, eq_by_cmp}
use Rattle.std.specs.Cmp.{nat_cmp_total}
use Rattle.std.specs.FinMap as finite
use Rattle.std.specs.Map.{update_all}
use Rattle.std.proofs.lemmas.List.{take_all}
use Rattle.std.proofs.lemmas.Map.Lookups.{exact_unsigned}
use Rattle.ob_tables.specs.After.{row_of}
use Rattle.ob_tables.specs.Rooms.{shown_row}
use Rattle.ob_tables.proofs.Shown.{get-shown_row}
use Rattle.ob_tables.proofs.GivenValues.{by_number, given-all}
use Rattle.ob_tables.proofs.row.new_row.Goals as goal

pub loop-field-init : goal.loop-field-init
loop-field-init c q = sym (get-shown_row c.in_ok-row.row q) ∙ ap (λ row. finite.get row q) c.in_ok-row.ensures

pub returns : goal.returns
returns c =
    let info = c.args.info.now in
    let values = c.args.values.now in
    finite.same_map nat_cmp_total exact_unsigned (shown_row c.loop-field.row) (row_of info values) (λ q.
    get-shown_row c.loop-field.row q ∙ c.loop-field.invariant q
    ∙ ap (λ given. update_all (eq_by_cmp nat_cmp) (finite.get (row_of info [])) (by_number given) q) (take_all c.loop-field.field-index values c.loop-field-test.false)
    ∙ given-all info values c.requires.conditions c.requires.fit q)
