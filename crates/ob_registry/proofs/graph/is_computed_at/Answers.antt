use Rattle.std.proofs.Common.{refl, sym, ap, ◌∙◌}
use Rattle.std.proofs.lemmas.Option.{same_Some}
use Rattle.ob_definition.specs.Definitions.{is_computed}
use Rattle.ob_definition.specs.Members.{Member, model_at}
use Rattle.ob_registry.specs.ModelFields.{member_of}
use Rattle.ob_registry.proofs.Readings.{some_of}
use Rattle.ob_registry.proofs.graph.is_computed_at.Goals as goal

pub returns-in-Some : goal.returns-in-Some
returns-in-Some c =
    let g = some_of (model_at c.args.models.now c.args.step.model.0) c.requires in (
      λ is. (g.0, member_of c.in-Some.member.now, (c.in-Some.ensures.is g.0 (member_of c.in-Some.member.now)).1 (g.1, refl), sym c.is_computed.ensures ∙ is),
      λ found. c.is_computed.ensures ∙ ap (λ (m : Member). is_computed m.def) (same_Some (member_of c.in-Some.member.now) found.1 ((c.in-Some.ensures.is found.0 found.1).0 found.2).1) ∙ found.3,
    )
