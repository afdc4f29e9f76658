use Rattle.std.proofs.Common.{take, ◌∙◌, arith}
use Rattle.std.proofs.lemmas.List.{take_all}
use Rattle.ob_install.proofs.ForbiddenRows.{unmanaged-all}
use Rattle.ob_install.proofs.installing.forbidding.managed_row.Goals as goal

pub returns : goal.returns
returns c = let out = c.loop-edit-test.false in
    unmanaged-all c.args.schema.now c.args.placed.now c.requires (take c.loop-edit.edit-index c.as_slice-edit-items.result.now)
    (take_all c.loop-edit.edit-index c.as_slice-edit-items.result.now (omega (arith, out)) ∙ c.as_slice-edit-items.ensures.value) c.loop-edit.invariant
