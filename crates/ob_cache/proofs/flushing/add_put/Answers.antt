use Rattle.std.proofs.Common.{◌≡◌, List, Some, ap, subst, sym, ◌∙◌}
use Rattle.std.specs.Prelude.{IfSome}
use Rattle.ob_base.specs.declared.value.Value.{Value}
use Rattle.ob_cache.specs.Changing.{TurnsRow, form_of}
use Rattle.ob_cache.proofs.Gathering.{turned-alike, turned-put}
use Rattle.ob_cache.proofs.KeptValues.{form-of, form_by, values-alike}
use Rattle.ob_cache.proofs.PutForms.{forms-alike, put-fit, put-form, put-id}
use Rattle.ob_codec.specs.RowForm.{HoldAll}
use Rattle.ob_schema.specs.Models.{kept_at, model_at}
use Rattle.ob_schema.specs.declared.info.ModelInfo.{ModelInfo}
use Rattle.ob_tables.proofs.CallerLemmas.{is_there}
use Rattle.ob_cache.proofs.flushing.add_put.Goals as goal
use Rattle.ob_cache.proofs.flushing.add_put.Goals.{then-not-branch+in_ok-row+in_ok-push, else-not-branch}

pub kept_row-requires-clause-hold : goal.kept_row-requires-clause-hold
kept_row-requires-clause-hold c = subst (HoldAll (kept_at c.args.schema.now c.args.key.model)) (sym c.as_slice-then-not-branch.ensures) c.in_ok-values.ensures.hold

pub returns : goal.returns
returns c =
    let old = c.args.old.now in
    let new = c.args.new.now in
    let key = c.args.key in
    let info = is_there (model_at old.models key.model) c.requires.model in
    let is_new : model_at new.models key.model ≡ Some info.0 = ap (λ (m : List ModelInfo). model_at m key.model) (sym c.requires.same) ∙ info.1 in
    let known = c.laws-2.ensures.readable in
    let registry = c.laws-2.ensures.registry in
    let values = c.in_ok-values.values in
    let So_far = TurnsRow old.models key (form_of old key) (form_of new key) c.args.changes.now in
    elim c.if-not-branch.branch [
      | then-not-branch+in_ok-row+in_ok-push w ↦
          let put = w.in_ok-row.row in
          let put_is = form-of new c.args.schema.now (sym c.requires.same ∙ c.requires.over) key.model info.0 is_new key.id values c.in_ok-values.ensures.values put
          (subst (λ (l : List Value). IfSome (model_at c.args.schema.now key.model) (λ i. put ≡ form_by c.args.schema.now key.model i key.id l)) w.as_slice-then-not-branch.ensures w.in_ok-row.ensures) in
          subst So_far (sym w.changes-is)
          (turned-put old.models key (form_of old key) (form_of new key) c.requires.model c.args.changes.now w.push.new.self put
          (put-id new registry known key.model info.0 is_new key.id c.requires.row put put_is) (put-fit new registry known key.model info.0 is_new key.id c.requires.row put put_is)
          (put-form new registry known key.model info.0 is_new key.id c.requires.row put put_is) w.in_ok-push.ensures.ok)
      | else-not-branch w ↦
          let has = c.in_ok-has_values.ensures w.if-not-branch.false in
          let are_old = has.1 ∙ ap (λ (l : List Value). Some l) c.as_slice.ensures in
          subst So_far (sym w.changes-is)
          (turned-alike old.models key (form_of old key) (form_of new key)
          (forms-alike old new c.laws.ensures.registry c.laws.ensures.readable known c.requires.same key.model info.0 info.1 key.id has.0 c.requires.row
          (values-alike old new c.requires.same key.model info.0 info.1 key.id values are_old c.in_ok-values.ensures.values)) c.args.changes.now)
    ]
