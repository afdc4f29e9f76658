use Rattle.std.proofs.Common.{sym, ◌∙◌}
use Rattle.std.proofs.lemmas.Result.{IfOk-weaker}
use Rattle.ob_orm.proofs.LinkedRows.{linked-given, linked-kept, named-fit}
use Rattle.ob_orm.proofs.ParentFields.{value-typed}
use Rattle.ob_orm.proofs.writing.edits.linked_row.Goals as goal

pub returns-in-Some-clause-told : goal.returns-in-Some-clause-told
returns-in-Some-clause-told g c = λ tables rests.
    c.row_named.ensures ∙ linked-given c.args.engine.now.held.models c.args.model tables c.args.given.now c.args.id c.args.parent.link c.in-Some.value.now (sym c.in-Some.ensures)

pub returns-in-Some-clause-fit : goal.returns-in-Some-clause-fit
returns-in-Some-clause-fit g c =
    rw c.row_named.ensures (named-fit c.in-Some.value.now
    (value-typed c.args.engine.now.held.models c.args.model c.args.given.now c.args.parent.link c.in-Some.value.now c.requires.typed (sym c.in-Some.ensures)).1)

pub returns-clause-told : goal.returns-clause-told
returns-clause-told g c =
    IfOk-weaker c.kept_row.result _ _ (λ row told tables rests.
    told tables rests ∙ linked-kept c.args.engine.now.held.models c.args.model tables c.args.given.now c.args.id c.args.parent.link (sym c.in_default.ensures)) c.kept_row.ensures.told
