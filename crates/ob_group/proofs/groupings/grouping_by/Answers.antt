use Rattle.std.proofs.Common.{◌≡◌, true, Some, Bor, List, ℕ, option_map, refl, rules, sym, ◌∙◌}
use Rattle.ob_query.proofs.CallerLemmas.{found_named}
use Rattle.ob_group.specs.GroupForms.{can_group, period_of}
use Rattle.ob_group.proofs.groupings.grouping_by.Goals as goal

pub returns-clause-grouping : goal.returns-clause-grouping
returns-clause-grouping c =
    let info = c.info-info.result.now in
    let named = found_named c.args.schema.now c.args.model c.args.name.now c.in_ok-field.field info c.in_ok-field.ensures.named c.info-info.ensures in
    let can : can_group info ≡ true = search rules in
    let period : period_of info.field_type (option_map (λ (part : Bor (List ℕ)). part.now) c.args.part) ≡ Some c.in_ok-period.period = sym c.in_ok-period.ensures in
    rw named.named (rw named.own (rw can (rw period refl)))
