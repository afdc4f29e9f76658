use Rattle.std.proofs.Common.{sym, subst}
use Rattle.std.proofs.lemmas.List.Elements.{All-push}
use Rattle.ob_base.specs.declared.value.Value.{Value}
use Rattle.ob_effect.proofs.GivenValues.{item_of}
use Rattle.ob_effect.specs.Objects.{IsTypedValue}
use Rattle.ob_effect.proofs.effect.own.own_values.Goals as goal
use Rattle.ob_effect.proofs.effect.own.own_values.Goals.{then-is_own+then-is_none+in_ok-value+in_ok-push, else-is_own}

pub loop-one-preserved : goal.loop-one-preserved
loop-one-preserved c =
    let typed = IsTypedValue c.args.schema.now c.args.model in
    let one = c.one-item.result in
    let own = item_of typed c.args.object.now.values.items c.deref-one-items.result.now c.deref-one-items.ensures.value c.requires.values c.loop-one.one-index one c.loop-one-test.true c.one-item.is in
    elim c.if-is_own.branch [
      | then-is_own+then-is_none+in_ok-value+in_ok-push w ↦ rw (w.values-is, w.in_ok-push.ensures.items) (All-push typed c.loop-one.values.items (one.0, w.in_ok-value.value) c.loop-one.invariant
          (subst (λ (v : Value). typed (one.0, v)) (sym w.in_ok-value.ensures) own))
      | else-is_own w ↦ rw w.values-is c.loop-one.invariant
    ]
