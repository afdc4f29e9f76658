use Rattle.std.proofs.Common.{◌≡◌, ◌+◌, ◌++◌, ◌∷◌, [], List, get_or, refl, take, rules, subst, sym}
use Rattle.std.specs.Prelude.{filter}
use Rattle.std.proofs.lemmas.List.{take_all, take_more}
use Rattle.std.proofs.lemmas.List.Elements.{Contains-get_or}
use Rattle.ob_base.specs.declared.id.RowKey.{RowKey}
use Rattle.ob_cache.proofs.CallerLemmas.{stays-then}
use Rattle.ob_orm.proofs.TouchedRules.{finding-kept, finding-none, finding-passed}
use Rattle.ob_orm.proofs.touching.rows_there.Goals as goal
use Rattle.ob_orm.proofs.touching.rows_there.Goals.{then-branch+in_ok-push, else-branch}
use Rattle.ob_orm.specs.TouchSteps.{knows_row}

abbrev none : RowKey
none = record { model = record { 0 = 0 }; id = record { 0 = 0 } }

pub loop-row-init : goal.loop-row-init
loop-row-init g c = rw c.new-there.ensures.items (finding-none (g.K.Keeper.kept c.args.engine.now.keeper.now) c.args.engine.now.held c.args.rows.now, search rules, refl)

pub returns-in_err-was_there-clause-same : goal.returns-in_err-was_there-clause-same
returns-in_err-was_there-clause-same g c = stays-then _ _ _ _ _ _ c.loop-row.invariant.0.same c.was_there.ensures.same

pub returns-in_err-push-clause-same : goal.returns-in_err-push-clause-same
returns-in_err-push-clause-same g c = stays-then _ _ _ _ _ _ c.loop-row.invariant.0.same c.was_there.ensures.same

pub loop-row-preserved : goal.loop-row-preserved
loop-row-preserved g c =
    let rows = c.args.rows.now in let i = c.loop-row.row-index in let row = get_or rows i none in
    let more : take (i + 1) rows ≡ take i rows ++ row ∷ [] = take_more rows i none c.loop-row-test.true in
    elim c.if-branch.branch [
      | then-branch+in_ok-push w ↦ (
        rw (more, w.there-is, w.in_ok-push.ensures.items) (finding-kept _ _ _ _ _ _ rows (take i rows) c.loop-row.there.items c.loop-row.invariant.0 row c.in_ok-was_there.field-0 c.in_ok-was_there.ensures.told c.was_there.ensures.same w.if-branch.true
            (Contains-get_or rows i none c.loop-row-test.true)),
        search rules,
        search rules,
      )
      | else-branch w ↦ (
        rw (more, w.there-is) (finding-passed _ _ _ _ _ _ rows (take i rows) c.loop-row.there.items c.loop-row.invariant.0 row c.in_ok-was_there.field-0 c.in_ok-was_there.ensures.told c.was_there.ensures.same w.if-branch.false),
        search rules,
        search rules,
      )
    ]

pub returns-clause-told : goal.returns-clause-told
returns-clause-told g c = λ told tells.
    subst (λ (rs : List RowKey). c.loop-row.there.items ≡ filter (knows_row told) rs) (take_all c.loop-row.row-index c.args.rows.now c.loop-row-test.false) (c.loop-row.invariant.0.told told tells)

pub returns-clause-among : goal.returns-clause-among
returns-clause-among g c = c.loop-row.invariant.0.among
