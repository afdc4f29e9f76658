use Rattle.std.proofs.Common.{sym, ◌∙◌}
use Rattle.std.proofs.lemmas.Bool.{false≢true}
use Rattle.ob_install.proofs.GivenCells.{changes-told, computed-stays, new-stays}
use Rattle.ob_install.proofs.installing.forbidding.changes.Goals as goal
use Rattle.ob_install.proofs.installing.forbidding.changes.Goals.{then-not-is_given-via-then-not-is_given, then-not-is_given-via-else-not-is_given+then-not-is_made_before}

pub returns-clause-told : goal.returns-clause-told
returns-clause-told c =
    changes-told c.args.maker.now.schema.now c.args.placed.now c.requires.whole.fit c.args.cell c.args.number c.in_ok-tables_of.field-0 c.in_ok-tables_of-2.field-0 c.in_ok-before.before c.in_ok-behind.behind c.differ.result
    c.in_ok-tables_of.ensures c.in_ok-before.ensures c.in_ok-tables_of-2.ensures c.in_ok-behind.ensures c.differ.ensures

pub returns-then-not-is_given-clause-told : goal.returns-then-not-is_given-clause-told
returns-then-not-is_given-clause-told c =
    let models = c.args.maker.now.schema.now in
    let placed = c.args.placed.now in (
      λ wrong. absurd (false≢true wrong),
      λ changes. absurd (elim c.then-not-is_given.branch [
        | then-not-is_given-via-then-not-is_given w ↦
            computed-stays models placed c.requires.whole.fit c.args.cell c.args.number c.args.info.now c.requires.field (sym c.is_given.ensures ∙ w.if-not-is_given.true) changes
        | then-not-is_given-via-else-not-is_given+then-not-is_made_before w ↦
            new-stays models placed c.requires.whole.fit c.args.cell c.args.number (w.is_made_before.ensures.unmade w.if-not-is_made_before.true) changes
      ]),
    )
