-- One id more: it stands in the other list nowhere, or at the place where none is lower.
use Rattle.std.proofs.Common.{◌≡◌, ◌∙◌, List, true, false, get_or, subst, sym, take}
use Rattle.std.specs.Prelude.{Contains}
use Rattle.std.proofs.lemmas.List.{take_all}
use Rattle.ob_base.specs.declared.id.RecId.{RecId}
use Rattle.ob_change.proofs.Gaining.{gains_pushed}
use Rattle.ob_change.proofs.Naming.{placed-among}
use Rattle.ob_change.proofs.StandingAlone.{alone_next, alone_passed, at_place, lower-all, passed-more}
use Rattle.ob_change.proofs.edited.add_alone.Goals as goal
use Rattle.ob_change.proofs.edited.add_alone.Goals.{then-not-stands_at+in_ok-push, else-not-stands_at}
use Rattle.ob_change.specs.EditedSteps.{Gains, StandsAlone}

pub loop-id-preserved : goal.loop-id-preserved
loop-id-preserved c =
    let none : RecId = record { 0 = 0 } in
    let from = c.args.from.now in
    let others = c.args.others.now in
    let i = c.loop-id.id-index in
    let id : RecId = get_or from i none in
    let place = c.place_from-place.result in
    let lower = lower-all from others c.requires.from i none c.loop-id-test.true c.loop-id.place place c.loop-id.invariant.passed c.place_from-place.ensures.lower in
    let at = at_place others c.requires.others place id lower c.place_from-place.ensures.not_lower in
    record {
      gained = elim c.if-not-stands_at.branch [
        | then-not-stands_at+in_ok-push w ↦ (
            let not : Contains others id → ⊥ = λ among. let both : true ≡ false = sym (c.stands_at.ensures.1 (at among)) ∙ w.if-not-stands_at.true in absurd cc in
            let moved : c.if-not-stands_at.ids.items ≡ w.push.new.self.items = λ k. (w.ids-is k).items in
            alone_next from others c.requires.from i none c.loop-id-test.true c.args.ids.now.items c.loop-id.ids.items c.if-not-stands_at.ids.items not c.loop-id.invariant.gained
            (gains_pushed c.loop-id.ids.items c.if-not-stands_at.ids.items id (moved ∙ w.in_ok-push.ensures.items))
            )
        | else-not-stands_at w ↦ (
            let there = placed-among others id (place, c.stands_at.ensures.0 w.if-not-stands_at.false) in
            let moved : c.loop-id.ids.items ≡ c.if-not-stands_at.ids.items = sym (λ k. (w.ids-is k).items) in
            alone_passed from others c.requires.from i none c.loop-id-test.true c.args.ids.now.items c.if-not-stands_at.ids.items there
            (subst (λ (l : List RecId). Gains (StandsAlone (take i from) others) c.args.ids.now.items l) moved c.loop-id.invariant.gained)
            )
      ];
      within = c.place_from-place.ensures.within;
      passed = passed-more from others c.requires.from i none c.loop-id-test.true c.loop-id.place place c.loop-id.invariant.passed c.place_from-place.ensures.lower;
    }

pub returns : goal.returns
returns c = subst (λ (l : List RecId). Gains (StandsAlone l c.args.others.now) c.args.ids.now.items c.loop-id.ids.items) (take_all c.loop-id.id-index c.args.from.now c.loop-id-test.false) c.loop-id.invariant.gained
