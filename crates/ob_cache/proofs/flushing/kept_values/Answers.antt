use Rattle.std.proofs.Common.{◌≡◌, ◌+◌, List, Some, subst, sym, ◌∙◌}
use Rattle.std.specs.Prelude.{option_map}
use Rattle.ob_cache.specs.Kept.{kept_value}
use Rattle.ob_cache.proofs.KeptValues.{GivenTo, are-kept, given-all, given-more, given-passed, kept-hold, scratch-kept}
use Rattle.ob_codec.specs.RowForm.{HoldAll}
use Rattle.ob_schema.specs.Models.{HasModel, kept_at, model_at}
use Rattle.ob_schema.specs.declared.info.ModelInfo.{ModelInfo}
use Rattle.ob_cache.proofs.flushing.kept_values.Goals as goal
use Rattle.ob_cache.proofs.flushing.kept_values.Goals.{then-is_kept+in_ok-value_there+in_ok-push, else-is_kept}

pub loop-place-preserved : goal.loop-place-preserved
loop-place-preserved c =
    let s = c.args.whole.now in
    let model = c.args.model in
    let id = c.args.id in
    let g = kept_value s.models s.tables model id in
    let fields = c.fields-field-items.result.now in
    let place = c.loop-place.place in
    let f = c.field-item.result in
    elim c.if-is_kept.branch [
      | then-is_kept+in_ok-value_there+in_ok-push w ↦ subst (GivenTo g fields (place + 1)) (sym w.values-is) (subst (GivenTo g fields (place + 1)) (sym w.in_ok-push.ensures.ok)
          (given-more g fields place f c.loop-place-test.true c.field-item.is c.loop-place.values c.loop-place.invariant (sym c.is_kept.ensures ∙ w.if-is_kept.true)
          w.in_ok-value_there.field-0 (scratch-kept s model id (place + 1) f w.in_ok-value_there.field-0 w.in_ok-value_there.ensures)))
      | else-is_kept w ↦ subst (GivenTo g fields (place + 1)) (sym w.values-is)
          (given-passed g fields place f c.loop-place-test.true c.field-item.is c.loop-place.values c.loop-place.invariant (sym c.is_kept.ensures ∙ w.if-is_kept.false))
    ]

pub returns-clause-hold : goal.returns-clause-hold
returns-clause-hold c =
    let s = c.args.whole.now in
    let model = c.args.model in
    let id = c.args.id in
    let g = kept_value s.models s.tables model id in
    let fields = c.fields-field-items.result.now in
    let has = subst (λ (m : List ModelInfo). HasModel m model) (sym c.requires.over) c.requires.model in
    let same = subst (λ (m : List ModelInfo). option_map (λ info. info.fields) (model_at m model) ≡ Some fields) (sym c.requires.over) c.fields-field-items.ensures.same in
    subst (λ (m : List ModelInfo). HoldAll (kept_at m model) c.loop-place.values) c.requires.over
    (kept-hold s c.laws.ensures.registry c.laws.ensures.readable model id has c.requires.row c.loop-place.values
    (are-kept s model id fields same c.loop-place.values has (given-all g fields c.loop-place.place c.loop-place-test.false c.loop-place.values c.loop-place.invariant)))
