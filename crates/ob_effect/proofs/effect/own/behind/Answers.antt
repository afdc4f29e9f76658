use Rattle.std.proofs.Common.{sym, subst}
use Rattle.std.proofs.lemmas.List.Elements.{All-push}
use Rattle.ob_base.specs.declared.value.Value.{Value}
use Rattle.ob_effect.proofs.GivenValues.{behind_typed, item_of}
use Rattle.ob_effect.specs.Objects.{IsTypedValue}
use Rattle.ob_effect.proofs.effect.own.behind.Goals as goal
use Rattle.ob_effect.proofs.effect.own.behind.Goals.{in-Some+in_ok-value+in_ok-push, in_default}

pub loop-one-preserved : goal.loop-one-preserved
loop-one-preserved c =
    let models = c.args.schema.now in
    let typed = IsTypedValue models c.args.parent.model in
    let one = c.one-item.result in
    let own = item_of (IsTypedValue models c.args.model) c.args.object.now.values.items c.deref-one-items.result.now c.deref-one-items.ensures.value c.requires.object.values
    c.loop-one.one-index one c.loop-one-test.true c.one-item.is in
    elim c.match-field_behind.branch [
      | in-Some+in_ok-value+in_ok-push w ↦ rw (w.values-is, w.in_ok-push.ensures.items) (All-push typed c.loop-one.values.items (w.in-Some.field, w.in_ok-value.value) c.loop-one.invariant
          (subst (λ (v : Value). typed (w.in-Some.field, v)) (sym w.in_ok-value.ensures) (behind_typed models c.args.model c.args.parent.model one.0 w.in-Some.field one.1 w.in-Some.ensures own)))
      | in_default w ↦ rw w.values-is c.loop-one.invariant
    ]
