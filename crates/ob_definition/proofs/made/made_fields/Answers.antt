use Rattle.std.proofs.Common.{◌≡◌, ◌+◌, List, [], take, sym, subst, ◌∙◌}
use Rattle.std.proofs.lemmas.List.{take_all}
use Rattle.std.specs.List.{AllZip}
use Rattle.ob_definition.specs.declared.made.Made.{Made}
use Rattle.ob_definition.specs.Findings.{Adds}
use Rattle.ob_definition.specs.Gathered.{Gathered}
use Rattle.ob_definition.specs.Making.{AreMadeFaults, IsMade}
use Rattle.ob_definition.proofs.Copies.{zip_more}
use Rattle.ob_definition.proofs.MadeSteps.{made-found, made-none}
use Rattle.ob_definition.proofs.made.made_fields.Goals as goal

pub loop-model-init : goal.loop-model-init
loop-model-init c = (subst (λ (ms : List Made). AllZip (IsMade c.args.gathering.now) [] ms) (sym c.new-made.ensures.items) tt, made-none c.args.gathering.now c.args.first.now)

pub loop-model-preserved : goal.loop-model-preserved
loop-model-preserved c =
    let models = c.args.gathering.now in
    let items = c.models-model-items.result.now in
    let index = c.loop-model.model-index in
    let g = c.model-item.result in
    let one : Made = record { path = c.in_ok-path_field.field-0; links = c.in_ok-link_fields.field-0; hidden = c.in_ok-hidden_fields.field-0 } in
    let is : IsMade models g one = record { path = c.in_ok-path_field.ensures.path; links = c.in_ok-link_fields.ensures.links; hidden = c.in_ok-hidden_fields.ensures } in
    let made : AllZip (IsMade models) (take (index + 1) items) c.push.new.self.items =
    subst (λ (ms : List Made). AllZip (IsMade models) (take (index + 1) items) ms) (sym c.in_ok-push.ensures.items)
    (zip_more (IsMade models) items index g c.loop-model.made.items one c.loop-model-test.true c.model-item.is c.loop-model.invariant.0 is) in (
      made,
      made-found models items index g c.args.first.now c.loop-model.first c.path_field.new.first c.link_fields.new.first c.loop-model-test.true c.model-item.is c.loop-model.invariant.1 c.in_ok-path_field.ensures.faults
          c.in_ok-link_fields.ensures.faults,
    )

pub returns : goal.returns
returns c =
    let models = c.args.gathering.now in
    let all : take c.loop-model.model-index c.models-model-items.result.now ≡ models = take_all c.loop-model.model-index c.models-model-items.result.now c.loop-model-test.false ∙ c.models-model-items.ensures in
    record {
      made = subst (λ (gs : List Gathered). AllZip (IsMade models) gs c.loop-model.made.items) all c.loop-model.invariant.0;
      faults = subst (λ (gs : List Gathered). Adds (AreMadeFaults models gs) c.args.first.now c.loop-model.first) all c.loop-model.invariant.1;
    }
