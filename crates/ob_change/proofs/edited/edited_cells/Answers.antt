-- The cells that it edits row by row are these, each once.
use Rattle.std.proofs.Common.{subst, sym}
use Rattle.std.proofs.lemmas.Result.{IfOk-weaker}
use Rattle.ob_change.proofs.MetCells.{AreSame}
use Rattle.ob_change.proofs.edited.edited_cells.Goals as goal
use Rattle.ob_change.specs.Changing.{AreEdited}

pub returns : goal.returns
returns c =
    let change = c.args.change in
    let cells = c.as_slice.result.now in
    let edited = subst (AreEdited change) (sym c.as_slice.ensures.value) c.in_ok-cells.ensures in
    IfOk-weaker c.once_each.result (λ once. AreSame once.items cells) (λ once. AreEdited change once.items)
    (λ once same cell. (λ listed. (edited cell).0 ((same cell).0 listed), λ is. (same cell).1 ((edited cell).1 is))) c.once_each.ensures
