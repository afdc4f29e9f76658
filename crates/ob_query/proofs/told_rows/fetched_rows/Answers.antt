use Rattle.std.proofs.Common.{◌≡◌, ◌+◌, ◌++◌, ◌∷◌, [], false, Ok, Some, None, Option, Result, get_or, subst, take, arith}
use Rattle.std.specs.Prelude.{IfOk, IfSome}
use Rattle.serde_json.specs.View.{view}
use Rattle.serde_json.specs.Written.{has_float}
use Rattle.serde_json.specs.declared.value.Value.{Value as Json}
use Rattle.ob_base.specs.declared.refusal.Refusal.{Refusal}
use Rattle.ob_query.specs.SearchQuestions.{TellsTo}
use Rattle.ob_schema.specs.Facts.{OfAllTold}
use Rattle.ob_schema.specs.Models.{model_at}
use Rattle.std.proofs.lemmas.List.{take_more, take_all}
use Rattle.ob_call.proofs.CallerLemmas.{least_of}
use Rattle.ob_query.proofs.Asked.{asked_then}
use Rattle.ob_query.proofs.ReadSteps.{IsFetching-row, IsFetching-gap, ObjectIn}
use Rattle.ob_query.proofs.told_rows.fetched_rows.Goals as goal
use Rattle.ob_query.proofs.told_rows.fetched_rows.Goals.{in-Some+in_ok-push-in-Some, in-None}

pub returns-in_err-object-clause-asked : goal.returns-in_err-object-clause-asked
returns-in_err-object-clause-asked g c = asked_then g.K.Keeper c.args.engine.now c.loop-id.engine c.row_object.new.engine c.loop-id.invariant.asked c.row_object.ensures.asked

pub returns-in_err-push-in-Some-clause-asked : goal.returns-in_err-push-in-Some-clause-asked
returns-in_err-push-in-Some-clause-asked g c = asked_then g.K.Keeper c.args.engine.now c.loop-id.engine c.row_object.new.engine c.loop-id.invariant.asked c.row_object.ensures.asked

pub loop-id-preserved : goal.loop-id-preserved
loop-id-preserved g c =
    let old = c.args.engine.now in let mid = c.loop-id.engine in let next = c.row_object.new.engine in
    let ids = c.args.ids.now in let i = c.loop-id.id-index in let id = get_or ids i 0 in
    let more : take (i + 1) ids ≡ take i ids ++ id ∷ [] = take_more ids i 0 c.loop-id-test.true in
    let told = λ (r : Result (Option Json) Refusal). IfOk r (λ object. OfAllTold (TellsTo g.K.Keeper c.args.by.now mid) (λ seen. ObjectIn seen (model_at mid.held.models c.args.model) c.args.model c.args.fields.now id object)) in
    let plain = λ (r : Result (Option Json) Refusal). IfOk r (λ object. IfSome object (λ json. has_float (view json) ≡ false)) in
    elim c.match-branch-2.branch [
      | in-Some+in_ok-push-in-Some w ↦ (
          let made : c.row_object.result ≡ Ok (Some w.in-Some.object) = grind arith in
          let found = subst told made c.row_object.ensures.told in
          let plain = subst plain made c.row_object.ensures.plain in
          let pushed : c.match-branch-2.objects.items ≡ c.loop-id.objects.items ++ w.in-Some.object ∷ [] = grind arith in
          rw (more, pushed, w.hidden-is)
          (IsFetching-row g.K.Keeper c.args.by.now old c.args.model c.args.fields.now mid next (take i ids) c.loop-id.objects.items c.loop-id.hidden id w.in-Some.object found plain c.row_object.ensures.asked c.loop-id.invariant))
      | in-None w ↦ (
          let made : c.row_object.result ≡ Ok None = grind arith in
          let found = subst told made c.row_object.ensures.told in
          let lesser : c.match-branch-2.hidden ≡ Some (least_of c.loop-id.hidden id) = grind arith in
          rw (more, lesser, w.objects-is)
          (IsFetching-gap g.K.Keeper c.args.by.now old c.args.model c.args.fields.now mid next (take i ids) c.loop-id.objects.items c.loop-id.hidden id found c.row_object.ensures.asked c.loop-id.invariant))
    ]

pub returns-clause-told : goal.returns-clause-told
returns-clause-told g c =
    let ids = c.args.ids.now in
    let whole : take c.loop-id.id-index ids ≡ ids = take_all c.loop-id.id-index ids c.loop-id-test.false in
    let fetched = rw whole at c.loop-id.invariant in
    fetched.told

pub returns-clause-hidden : goal.returns-clause-hidden
returns-clause-hidden g c =
    let ids = c.args.ids.now in
    let whole : take c.loop-id.id-index ids ≡ ids = take_all c.loop-id.id-index ids c.loop-id-test.false in
    let fetched = rw whole at c.loop-id.invariant in
    fetched.among
