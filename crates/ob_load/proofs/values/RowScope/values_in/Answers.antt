-- Field by field.
use Rattle.std.proofs.Common.{◌≡◌, ◌+◌, List, Option, Some, refl, sym, subst, ◌∙◌}
use Rattle.std.specs.Prelude.{IfSome, slice_get}
use Rattle.toml.specs.View.{view}
use Rattle.ob_load.specs.Rooms.{IsPlainHeld}
use Rattle.ob_load.proofs.AccessSteps.{stands-at}
use Rattle.ob_load.proofs.ValueSteps.{AreValuesTo, Given, values-with, values-without}
use Rattle.ob_load.proofs.values.RowScope.values_in.Goals as goal
use Rattle.ob_load.proofs.values.RowScope.values_in.Goals.{in-Some+in_ok-push, in_default}
use Rattle.ob_schema.specs.declared.preset.PresetValue.{PresetValue}

pub loop-place-preserved : goal.loop-place-preserved
loop-place-preserved c =
    let s = c.args.self.now in
    let models = s.scope.schema.now in
    let groups = s.scope.groups.now in
    let first = s.first in
    let refs = s.refs.now in
    let values = view c.args.values.now in
    let fields = c.args.fields.now in
    let n = c.loop-place.place in
    let field = c.index-fields-place.result in
    let at : slice_get fields n ≡ Some field = stands-at fields n field c.loop-place-test.true c.index-fields-place.is in
    elim c.match-branch-2.branch [
      | in-Some+in_ok-push w ↦
          (let held : IsPlainHeld field w.in-Some.value = subst (λ (o : Option PresetValue). IfSome o (IsPlainHeld field)) w.in-Some.is c.in_ok-value.ensures.held in
          subst (λ (l : List Given). AreValuesTo models groups first refs values fields (n + 1) l) (sym (w.given-is ∙ w.in_ok-push.ensures.ok))
          (values-with models groups first refs values fields n field at c.loop-place.given c.loop-place.invariant (record { 0 = n + 1 }) w.in-Some.value refl (sym c.in_ok-value.ensures.given ∙ w.in-Some.is) held))
      | in_default w ↦
          subst (λ (l : List Given). AreValuesTo models groups first refs values fields (n + 1) l) (sym w.given-is)
          (values-without models groups first refs values fields n field at c.loop-place.given c.loop-place.invariant (sym c.in_ok-value.ensures.given ∙ w.in_default.is))
    ]
