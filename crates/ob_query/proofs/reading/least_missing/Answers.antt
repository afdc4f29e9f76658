use Rattle.std.proofs.Common.{◌≡◌, ◌+◌, ◌++◌, ◌∷◌, [], true, false, ℕ, List, Ok, Some, get_or, take, sym, subst, arith, ◌∙◌}
use Rattle.std.proofs.lemmas.Grind.{common_steps}
use Rattle.std.proofs.lemmas.List.{take_all, take_more}
use Rattle.std.proofs.lemmas.Result.{IfOk-at_ok}
use Rattle.ob_call.proofs.CallerLemmas.{least_of}
use Rattle.ob_query.proofs.Asked.{asked_then}
use Rattle.ob_query.proofs.Missing.{IsSeeking, IsSeeking-gap, IsSeeking-there}
use Rattle.ob_query.specs.SearchQuestions.{TellsOf}
use Rattle.ob_schema.specs.Facts.{OfAllTold, Told}
use Rattle.ob_query.proofs.reading.least_missing.Goals as goal
use Rattle.ob_query.proofs.reading.least_missing.Goals.{then-not-branch, else-not-branch}

pub returns-in_err-exists-clause-asked : goal.returns-in_err-exists-clause-asked
returns-in_err-exists-clause-asked g c = asked_then g.K.Keeper c.args.engine.now c.loop-id.engine c.exists.new.engine c.loop-id.invariant.asked c.exists.ensures.asked

pub loop-id-preserved : goal.loop-id-preserved
loop-id-preserved g c =
    let old = c.args.engine.now in let mid = c.loop-id.engine in let next = c.exists.new.engine in
    let ids = c.args.ids.now in let i = c.loop-id.id-index in let id = get_or ids i 0 in
    let more : take (i + 1) ids ≡ take i ids ++ id ∷ [] = take_more ids i 0 c.loop-id-test.true in
    let known = c.in_ok-exists.ensures.told in
    elim c.if-not-branch.branch [
      | then-not-branch w ↦ (
          let none : c.in_ok-exists.field-0 ≡ false = grind (arith, common_steps) in
          let lesser : c.if-not-branch.missing ≡ Some (least_of c.loop-id.missing id) = grind (arith, common_steps) in
          rw (more, lesser) (IsSeeking-gap g.K.Keeper old c.args.model mid next (take i ids) c.loop-id.missing id c.exists.ensures.asked (λ told tells. sym (known told tells) ∙ none) c.loop-id.invariant))
      | else-not-branch w ↦ (
          let there : c.in_ok-exists.field-0 ≡ true = grind (arith, common_steps) in
          rw (more, w.missing-is) (IsSeeking-there g.K.Keeper old c.args.model mid next (take i ids) c.loop-id.missing id c.exists.ensures.asked (λ told tells. sym (known told tells) ∙ there) c.loop-id.invariant))
    ]

pub returns-clause-told : goal.returns-clause-told
returns-clause-told g c =
    let whole : take c.loop-id.id-index c.args.ids.now ≡ c.args.ids.now = take_all c.loop-id.id-index c.args.ids.now c.loop-id-test.false in
    let sought = subst (λ (ids : List ℕ). IsSeeking g.K.Keeper c.args.engine.now c.args.model c.loop-id.engine ids c.loop-id.missing) whole c.loop-id.invariant in
    sought.told

pub returns-clause-among : goal.returns-clause-among
returns-clause-among g c =
    let whole : take c.loop-id.id-index c.args.ids.now ≡ c.args.ids.now = take_all c.loop-id.id-index c.args.ids.now c.loop-id-test.false in
    let sought = subst (λ (ids : List ℕ). IsSeeking g.K.Keeper c.args.engine.now c.args.model c.loop-id.engine ids c.loop-id.missing) whole c.loop-id.invariant in
    sought.among
