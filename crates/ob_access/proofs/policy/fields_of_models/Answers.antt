-- The fields of one model more.
use Rattle.std.proofs.Common.{◌+◌, ◌-◌, List, map, option_map, ap, sym, ◌∙◌, arith}
use Rattle.std.proofs.lemmas.List.{take_all}
use Rattle.ob_access.specs.Policies.{field_access}
use Rattle.ob_schema.specs.Models.{fields_of}
use Rattle.ob_schema.specs.declared.info.ModelInfo.{ModelInfo}
use Rattle.ob_access.proofs.Numbering.{numbered_more, numbered_none}
use Rattle.ob_access.specs.declared.policy.FieldAccess.{FieldAccess}
use Rattle.ob_access.proofs.policy.fields_of_models.Goals as goal
use Rattle.ob_access.proofs.policy.fields_of_models.Goals.{else-loop-number-test, then-loop-number-test+in_default, then-loop-number-test+in-Some+in_ok-fields_of_model+in_ok-push+else-number-lt65535}

pub loop-number-preserved : goal.loop-number-preserved
loop-number-preserved c =
    numbered_more (λ (info : ModelInfo). map (field_access c.args.groups.now) (fields_of info)) c.args.schema.now c.loop-number.number c.in-Some.info.now c.loop-number.fields c.push.new.self _
    c.loop-number.auto.number (sym c.in-Some.ensures) c.loop-number.invariant c.in_ok-push.ensures.ok c.in_ok-fields_of_model.ensures

pub returns : goal.returns
returns c =
    let made : List ModelInfo → List (List FieldAccess) = λ models. map (λ (info : ModelInfo). map (field_access c.args.groups.now) (fields_of info)) models in
    elim c.loop-number-test.branch [
      | else-loop-number-test w ↦ absurd (omega arith)
      | then-loop-number-test+in_default w ↦ w.fields-is ∙ c.loop-number.invariant ∙ ap made (numbered_none c.args.schema.now c.loop-number.number c.loop-number.auto.number (sym w.find_model.ensures ∙ ap (option_map (λ info. info.now)) w.in_default.is))
      | then-loop-number-test+in-Some+in_ok-fields_of_model+in_ok-push+else-number-lt65535 w ↦ w.fields-is
          ∙ numbered_more (λ (info : ModelInfo). map (field_access c.args.groups.now) (fields_of info)) c.args.schema.now c.loop-number.number w.in-Some.info.now c.loop-number.fields w.push.new.self _
          c.loop-number.auto.number (sym w.in-Some.ensures) c.loop-number.invariant w.in_ok-push.ensures.ok w.in_ok-fields_of_model.ensures
          ∙ ap made (take_all (c.loop-number.number + 1 - 1) c.args.schema.now (let few = c.parts_fit_together.ensures.few in omega arith))
    ]
