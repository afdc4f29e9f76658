use Rattle.std.proofs.Common.{◌≡◌, ◌∙◌, ◌+◌, List, Option, subst, sym, take}
use Rattle.std.proofs.lemmas.List.{take_all}
use Rattle.ob_definition.specs.declared.fault.SchemaFault.{SchemaFault}
use Rattle.ob_definition.specs.Findings.{Adds}
use Rattle.ob_definition.specs.Members.{model_at}
use Rattle.ob_registry.specs.declared.model.Member.{Member as KeptMember}
use Rattle.ob_registry.specs.ModelFields.{members_in}
use Rattle.ob_registry.specs.Modelling.{IsModelled}
use Rattle.ob_registry.specs.Telling.{AreMemberFaults}
use Rattle.ob_registry.proofs.KeyRooms.{AreKeptFaults, delegated_more, kept_more, members_told, none_kept}
use Rattle.ob_schema.proofs.CallerLemmas.{known_on}
use Rattle.ob_registry.proofs.build.member_faults.Goals as goal
use Rattle.ob_registry.proofs.build.member_faults.Goals.{then-not-is_delegated+in_ok-field_faults, else-not-is_delegated}

pub loop-member-init : goal.loop-member-init
loop-member-init c = none_kept c.args.models.now c.args.number c.args.first.now

pub loop-member-preserved : goal.loop-member-preserved
loop-member-preserved c =
    let models = c.args.models.now in
    let number = c.args.number in
    let items = c.deref-member-items.result.now in
    let next = members_in (take (c.loop-member.member-index + 1) items) in
    elim c.if-not-is_delegated.branch [
      | then-not-is_delegated+in_ok-field_faults w ↦ subst (λ (f : Option SchemaFault). Adds (AreKeptFaults models number next) c.args.first.now f) (sym w.first-is)
          (kept_more models number items c.loop-member.member-index c.member-item.result c.args.first.now c.loop-member.first w.field_faults.new.first c.loop-member-test.true c.member-item.is c.loop-member.invariant
          (sym w.if-not-is_delegated.ensures) w.in_ok-field_faults.ensures)
      | else-not-is_delegated w ↦ subst (λ (f : Option SchemaFault). Adds (AreKeptFaults models number next) c.args.first.now f) (sym w.first-is)
          (delegated_more models number items c.loop-member.member-index c.member-item.result c.args.first.now c.loop-member.first c.loop-member-test.true c.member-item.is c.loop-member.invariant (sym w.if-not-is_delegated.ensures))
    ]

pub returns : goal.returns
returns c =
    let models = c.args.models.now in
    let number = c.args.number in
    let model = c.model-model.result.now in
    let all : take c.loop-member.member-index c.deref-member-items.result.now ≡ model.members.items =
    take_all c.loop-member.member-index c.deref-member-items.result.now c.loop-member-test.false ∙ c.deref-member-items.ensures.value in
    let told = subst (λ (l : List KeptMember). Adds (AreKeptFaults models number (members_in l)) c.args.first.now c.loop-member.first) all c.loop-member.invariant in
    known_on (model_at models number.0) (λ g. IsModelled models g model) (λ g. Adds (AreMemberFaults models number g) c.args.first.now c.loop-member.first)
    (λ g _ is. members_told models number g model is c.args.first.now c.loop-member.first told) c.model-model.ensures
