-- A set that is shared has a first field.
use Rattle.std.proofs.Common.{◌∙◌}
use Rattle.ob_change.proofs.EditedSets.{first-shared}
use Rattle.ob_change.proofs.sets.shared_by.Goals as goal

pub returns : goal.returns
returns c =
    first-shared c.args.tables.now.models c.args.tables.now.tables c.args.cell c.args.set.now c.copied.result (c.copied.ensures ∙ c.first.ensures.value)
    (c.has_field.ensures.0 c.if-not-has_field.false) (c.in_ok-shares_set.ensures.0 c.if-not-branch.false)
