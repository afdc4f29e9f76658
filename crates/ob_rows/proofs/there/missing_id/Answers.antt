use Rattle.std.proofs.Common.{◌≡◌, ◌+◌, ◌++◌, ◌∷◌, [], Bool, Some, get_or, take, refl, subst, arith, rules}
use Rattle.std.proofs.lemmas.List.{take_more, take_all}
use Rattle.ob_cache.proofs.CallerLemmas.{stays-then}
use Rattle.ob_call.proofs.CallerLemmas.{least_of}
use Rattle.ob_rows.proofs.MissingRows.{IsSeeking-all, IsSeeking-gap, IsSeeking-known, IsSeeking-none, IsSeeking-there, TellsRow}
use Rattle.ob_rows.proofs.there.missing_id.Goals as goal
use Rattle.ob_rows.proofs.there.missing_id.Goals.{then-not-there, else-not-there}

pub loop-id-init : goal.loop-id-init
loop-id-init g c = (IsSeeking-none (g.K.Keeper.kept c.args.engine.now.keeper.now) c.args.engine.now.held c.args.model, search rules, refl)

pub returns-in_err-there-clause-same : goal.returns-in_err-there-clause-same
returns-in_err-there-clause-same g c = stays-then _ _ _ _ _ _ c.loop-id.invariant.0.same c.is_there.ensures.same

pub loop-id-preserved : goal.loop-id-preserved
loop-id-preserved g c =
    let ids = c.args.ids.now in let i = c.loop-id.id-index in let id = get_or ids i 0 in
    let more : take (i + 1) ids ≡ take i ids ++ id ∷ [] = take_more ids i 0 c.loop-id-test.true in
    let tells = c.in_ok-there.ensures.told in
    let Tells : Bool → Type 0 = λ there. TellsRow (g.K.Keeper.kept c.loop-id.engine.keeper.now) c.loop-id.engine.held c.args.model id there in
    elim c.if-not-there.branch [
      | then-not-there w ↦ (
          let lesser : c.if-not-there.missing ≡ Some (least_of c.loop-id.missing id) = grind arith in (
            rw (more, lesser) (IsSeeking-gap _ _ _ _ _ _ _ _ _ _ (subst Tells w.if-not-there.true tells) c.is_there.ensures.same c.loop-id.invariant.0),
            search rules,
            search rules,
          ))
      | else-not-there w ↦ (
        rw (more, w.missing-is) (IsSeeking-there _ _ _ _ _ _ _ _ _ _ (subst Tells w.if-not-there.false tells) c.is_there.ensures.same c.loop-id.invariant.0),
        search rules,
        search rules,
      )
    ]

pub returns-clause-told : goal.returns-clause-told
returns-clause-told g c = (IsSeeking-all _ _ _ _ _ _ _ _ (take_all c.loop-id.id-index c.args.ids.now c.loop-id-test.false) c.loop-id.invariant.0).told

pub returns-clause-asked : goal.returns-clause-asked
returns-clause-asked g c = (IsSeeking-all _ _ _ _ _ _ _ _ (take_all c.loop-id.id-index c.args.ids.now c.loop-id-test.false) c.loop-id.invariant.0).asked

pub returns-clause-known : goal.returns-clause-known
returns-clause-known g c = IsSeeking-known _ _ _ _ _ _ _ (IsSeeking-all _ _ _ _ _ _ _ _ (take_all c.loop-id.id-index c.args.ids.now c.loop-id-test.false) c.loop-id.invariant.0)
