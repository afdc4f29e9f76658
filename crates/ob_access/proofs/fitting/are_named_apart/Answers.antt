-- A group is apart from those before it exactly where none of them has its name.
use Rattle.std.proofs.Common.{ap, refl, subst, sym, ◌∙◌}
use Rattle.std.proofs.lemmas.List.{take_all}
use Rattle.ob_access.specs.Policies.{AreNamedApart}
use Rattle.ob_access.specs.declared.policy.Group.{Group}
use Rattle.ob_access.proofs.Apart.{named_next, named_twice}
use Rattle.ob_access.proofs.fitting.are_named_apart.Goals as goal

pub loop-place-preserved : goal.loop-place-preserved
loop-place-preserved c =
    let here = c.as_str.ensures ∙ ap (λ (group : Group). group.name) c.index-groups-place.is in
    named_next c.args.groups.now c.loop-place.place c.index-groups-place.result c.as_str.result.now c.loop-place-test.true here
    (λ named. let e = sym (c.is_named.ensures.1 named) ∙ c.if-is_named.false in absurd cc) c.loop-place.invariant

pub returns-then-is_named : goal.returns-then-is_named
returns-then-is_named c =
    let here = c.as_str.ensures ∙ ap (λ (group : Group). group.name) c.index-groups-place.is in
    (λ e. absurd cc, λ apart. absurd (named_twice c.args.groups.now c.loop-place.place c.index-groups-place.result c.as_str.result.now c.loop-place-test.true here (c.is_named.ensures.0 c.if-is_named.true) apart))

pub returns : goal.returns
returns c = (λ e. subst AreNamedApart (take_all c.loop-place.place c.args.groups.now c.loop-place-test.false) c.loop-place.invariant, λ apart. refl)
