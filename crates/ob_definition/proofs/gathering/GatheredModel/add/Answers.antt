use Rattle.std.proofs.Common.{List, length, ap, ◌∙◌}
use Rattle.ob_definition.specs.Gathered.{DeclaredCheck, Gathered}
use Rattle.ob_definition.proofs.Taking.{found-added-by}
use Rattle.ob_definition.proofs.gathering.GatheredModel.add.Goals as goal

pub returns-in-Some-clause-faults : goal.returns-in-Some-clause-faults
returns-in-Some-clause-faults c =
    let model = c.args.self.now in
    let limit = rw c.then_some.ensures at c.in_ok-at_entry.ensures.found in
    found-added-by c.args.entry c.args.def.now model c.self.inside.fields c.self.inside.checks c.as_slice.result.now c.as_slice-2.result.now c.len-has_many.result c.args.first.now
    c.add_fields.new.first c.add_checks.new.first c.at_entry.new.self
    (ap (λ (g : Gathered). g.fields) c.self.view_is) (ap (λ (g : Gathered). g.checks) c.self.view_is) c.as_slice.ensures c.as_slice-2.ensures
    (c.len-has_many.ensures ∙ ap (λ (cs : List DeclaredCheck). length cs) c.in_ok-add_checks.ensures.checks) c.in_ok-add_fields.ensures.faults c.in_ok-add_checks.ensures.faults limit

pub returns-in_default-clause-faults : goal.returns-in_default-clause-faults
returns-in_default-clause-faults c =
    let model = c.args.self.now in
    let limit = rw c.then_some.ensures at c.in_ok-at_entry.ensures.found in
    found-added-by c.args.entry c.args.def.now model c.self.inside.fields c.self.inside.checks c.as_slice.result.now c.as_slice-2.result.now c.len-has_many.result c.args.first.now
    c.add_fields.new.first c.add_checks.new.first c.at_entry.new.self
    (ap (λ (g : Gathered). g.fields) c.self.view_is) (ap (λ (g : Gathered). g.checks) c.self.view_is) c.as_slice.ensures c.as_slice-2.ensures
    (c.len-has_many.ensures ∙ ap (λ (cs : List DeclaredCheck). length cs) c.in_ok-add_checks.ensures.checks) c.in_ok-add_fields.ensures.faults c.in_ok-add_checks.ensures.faults limit
