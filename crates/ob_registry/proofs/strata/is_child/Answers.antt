use Rattle.std.proofs.Common.{◌≡◌, true, Some, sym, ap, ◌∙◌, rules}
use Rattle.std.specs.Prelude.{◌↔◌, IsTrue}
use Rattle.std.proofs.lemmas.Option.{none-some}
use Rattle.ob_definition.specs.Members.{Member}
use Rattle.ob_definition.specs.Types.{is_one2many}
use Rattle.ob_schema.specs.Finds.{relation_of}
use Rattle.ob_registry.specs.ModelFields.{member_of, named_in, number_in}
use Rattle.ob_registry.proofs.TreeSteps.{from-children, no-children, number-at, to-children}
use Rattle.ob_registry.proofs.strata.is_child.Goals as goal
use Rattle.ob_registry.proofs.strata.is_child.Goals.{in-Some-inverse, in-None}
use Rattle.ob_registry.proofs.strata.is_child.Goals.{then-is_one2many, else-is_one2many}

pub returns-then-eq : goal.returns-then-eq
returns-then-eq c =
    let member : Member = member_of c.in-Some.member.now in
    let parent = c.in-Some-parent_of.parent in
    let is-parent = sym c.parent_of.ensures ∙ c.in-Some-parent_of.is in
    let back : IsTrue c.eq-then-eq.result ↔ (c.match-def.inverse ≡ Some parent) = search rules in
    let kind : (is_one2many member.def.field_type ≡ true) × (relation_of c.args.models.now member.def ≡ Some c.args.number) = elim c.if-is_one2many.branch [
      | then-is_one2many v ↦ (let leads : IsTrue v.eq.result ↔ (v.relation.result ≡ Some c.args.number) = search rules in
          (sym c.is_one2many.ensures ∙ v.if-is_one2many.true, sym v.relation.ensures ∙ leads.0 (sym v.value-is ∙ c.if-eq.true)))
      | else-is_one2many v ↦ absurd (cc)
    ] in
    elim c.match-def.branch [
      | in-Some-inverse w ↦ (
          let at = sym (number-at c.args.models.now c.args.number w.model.result.now w.model.ensures w.in-Some-inverse.name)
          ∙ ap (number_in (named_in w.model.result.now.named w.model.result.now.members.items)) (sym w.as_str.ensures) ∙ sym w.number-inverse.ensures.at ∙ sym w.inverse-is in (
            λ r. to-children c.args.models.now c.args.number c.args.step member c.in-Some.ensures.is c.in-Some.ensures.there w.in-Some-inverse.name parent kind.0 kind.1 w.in-Some-inverse.is is-parent (at ∙ back.0 r),
            λ to. back.1 (sym at ∙ from-children c.args.models.now c.args.number c.args.step member c.in-Some.ensures.is to w.in-Some-inverse.name parent w.in-Some-inverse.is is-parent),
          ))
      | in-None w ↦ (
        (λ r. absurd (none-some parent (sym w.inverse-is ∙ back.0 r))),
        λ to. absurd (no-children c.args.models.now c.args.number c.args.step member c.in-Some.ensures.is to w.in-None.is),
      )
    ]
