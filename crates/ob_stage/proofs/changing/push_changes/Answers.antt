-- Where the row isn't there, its edits would change nothing.
use Rattle.std.proofs.Common.{◌≡◌, ◌++◌, false, subst, sym}
use Rattle.std.specs.Prelude.{All}
use Rattle.std.proofs.lemmas.List.Elements.{All-append}
use Rattle.ob_orm.proofs.CallerLemmas.{row_fit}
use Rattle.ob_orm.specs.NewRows.{filled, row_edits}
use Rattle.ob_orm.specs.WriteSteps.{SetsFit}
use Rattle.ob_stage.proofs.ChangedRows.{set-in_vain}
use Rattle.ob_stage.proofs.changing.push_changes.Goals as goal

pub returns-then-not-branch-clause-told : goal.returns-then-not-branch-clause-told
returns-then-not-branch-clause-told g c = λ at is.
    let models = c.args.maker.now.schema.now in
    set-in_vain models at.staged c.args.edits.now.items c.args.model c.args.row (filled models c.args.maker.now.author false c.args.model c.args.given.now) c.requires.fit (c.in_ok-is_there.ensures.absent c.if-not-branch.true at is)

pub returns-clause-fit : goal.returns-clause-fit
returns-clause-fit g c =
    let models = c.args.maker.now.schema.now in let values = c.in_ok-changed.changed in
    let pushed : c.push_row_edits.new.edits.items ≡ c.args.edits.now.items ++ row_edits c.args.model values c.args.row.0 = rw c.as_slice.ensures at c.in_ok-push_row_edits.ensures in
    subst (All (SetsFit models)) (sym pushed)
    (All-append (SetsFit models) c.args.edits.now.items (row_edits c.args.model values c.args.row.0) c.requires.fit
    (row_fit models c.args.model values c.args.row c.in_ok-changed.ensures.fit (c.in_ok-is_there.ensures.there c.if-not-branch.false)))
