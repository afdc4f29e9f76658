use Rattle.std.proofs.Common.{◌≡◌, ◌+◌, ◌++◌, ◌∷◌, [], List, ap, get_or, refl, take, rules, subst, sym, ◌∙◌}
use Rattle.std.specs.Prelude.{Contains}
use Rattle.std.proofs.lemmas.List.{take_all, take_more}
use Rattle.std.proofs.lemmas.List.Elements.{Contains-get_or}
use Rattle.ob_cache.proofs.CallerLemmas.{stays-then}
use Rattle.ob_orm.proofs.TouchedRules.{doing-more, doing-none}
use Rattle.ob_orm.proofs.touching.touched_by.Goals as goal
use Rattle.ob_orm.specs.NewRowSteps.{MayFit}
use Rattle.ob_rows.specs.Rights.{Asking}
use Rattle.ob_orm.specs.TouchSteps.{IsTouched}
use Rattle.ob_schema.specs.declared.info.ModelInfo.{ModelInfo}
use Rattle.ob_tables.specs.declared.edit.Edit.{Edit}

pub loop-edit-init : goal.loop-edit-init
loop-edit-init g c = (
  doing-none _ _ c.args.first c.args.edits.now _ (c.in_ok-push.ensures.items ∙ ap (λ (askings : List Asking). askings ++ c.args.first ∷ []) c.new.ensures.items) c.new-2.ensures.empty c.new-3.ensures.empty,
  search rules,
  refl,
)

pub touch-requires : goal.touch-requires
touch-requires g c =
    let edit = c.edit-item.result in
    let fit = subst (MayFit c.args.engine.now.held.models) (sym c.edit-item.is) (c.requires.fit c.loop-edit.edit-index edit c.loop-edit-test.true) in
    record { fit = subst (λ (ms : List ModelInfo). MayFit ms edit) (sym c.loop-edit.invariant.0.same.models) fit }

pub returns-in_err-touch-clause-same : goal.returns-in_err-touch-clause-same
returns-in_err-touch-clause-same g c = stays-then _ _ _ _ _ _ c.loop-edit.invariant.0.same c.touch.ensures.same

pub loop-edit-preserved : goal.loop-edit-preserved
loop-edit-preserved g c =
    let edits = c.args.edits.now in let i = c.loop-edit.edit-index in let edit = c.edit-item.result in
    let more : take (i + 1) edits ≡ take i edits ++ edit ∷ [] = take_more edits i edit c.loop-edit-test.true ∙ ap (λ (e : Edit). take i edits ++ e ∷ []) (sym c.edit-item.is) in
    let fit = subst (MayFit c.args.engine.now.held.models) (sym c.edit-item.is) (c.requires.fit i edit c.loop-edit-test.true) in
    let among = subst (Contains edits) (sym c.edit-item.is) (Contains-get_or edits i edit c.loop-edit-test.true) in (
      rw more (doing-more _ _ _ _ _ _ c.args.first edits (take i edits) edit c.loop-edit.touched c.touch.new.touched c.loop-edit.invariant.0 among fit c.in_ok-touch.ensures.adds c.in_ok-touch.ensures.within c.touch.ensures.same),
      search rules,
      search rules,
    )

pub returns-clause-touched : goal.returns-clause-touched
returns-clause-touched g c = λ tables rests.
    subst (λ (es : List Edit). IsTouched c.args.engine.now.held.models tables c.args.first es c.loop-edit.touched) (take_all c.loop-edit.edit-index c.args.edits.now c.loop-edit-test.false) (c.loop-edit.invariant.0.done tables rests).done

pub returns-clause-within : goal.returns-clause-within
returns-clause-within g c = c.loop-edit.invariant.0.within
