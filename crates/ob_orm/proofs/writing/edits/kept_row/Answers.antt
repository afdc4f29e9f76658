use Rattle.std.proofs.Common.{subst}
use Rattle.ob_rows.proofs.CallerLemmas.{rests-sound}
use Rattle.ob_orm.proofs.LinkedRows.{link-there, link-told}
use Rattle.ob_orm.proofs.writing.edits.kept_row.Goals as goal
use Rattle.ob_schema.specs.Models.{IsRegistry}

pub settled_value-requires-clause-field : goal.settled_value-requires-clause-field
settled_value-requires-clause-field g c =
    let registry = subst IsRegistry c.schema.ensures c.parts_fit_together.ensures in
    link-there c.args.engine.now.held.models registry c.args.cell c.args.parent c.requires.parent c.requires.link

pub returns-clause-told : goal.returns-clause-told
returns-clause-told g c = λ tables rests.
    let registry = subst IsRegistry c.schema.ensures c.parts_fit_together.ensures in
    link-told c.args.engine.now.held.models registry c.args.cell c.args.parent c.requires.parent c.requires.link tables (rests-sound _ _ tables rests)
    c.in_ok-value.value c.row_within.result (c.in_ok-value.ensures.told tables rests) c.row_within.ensures.named
