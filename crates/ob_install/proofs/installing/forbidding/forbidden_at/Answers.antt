use Rattle.std.proofs.Common.{false, true, sym, ◌∙◌}
use Rattle.std.proofs.lemmas.Bool.{false≢true}
use Rattle.ob_install.proofs.GivenCells.{fixed-found, managed-found}
use Rattle.ob_install.proofs.installing.forbidding.forbidden_at.Goals as goal
use Rattle.ob_install.proofs.installing.forbidding.forbidden_at.Goals.{else-info-via-then-info+in_ok-changes+else-branch, else-info-via-else-info}

pub returns-then-branch : goal.returns-then-branch
returns-then-branch c =
    fixed-found c.args.maker.now.schema.now c.args.placed.now c.requires.whole.fit c.args.number c.args.cell c.args.info.now c.requires.field c.if-info.true (c.in_ok-changes.ensures.owned c.if-branch.true)
    (c.in_ok-changes.ensures.told.0 c.if-branch.true)

pub returns-then-is_readonly : goal.returns-then-is_readonly
returns-then-is_readonly c =
    managed-found c.args.maker.now.schema.now c.args.placed.now c.requires.whole.fit c.args.number c.args.cell c.args.info.now c.requires.field c.managed.result (sym c.is_readonly.ensures ∙ c.if-is_readonly.true)
    (λ fixed changes. elim c.else-info.branch [
      | else-info-via-then-info+in_ok-changes+else-branch w ↦ false≢true (sym w.if-branch.false ∙ w.in_ok-changes.ensures.told.1 changes)
      | else-info-via-else-info w ↦ false≢true (sym w.if-info.false ∙ fixed)
    ])
    c.managed.ensures.is c.managed.ensures.owned c.managed.ensures.none
