use Rattle.std.proofs.lemmas.Result.{IfOk-weaker}
use Rattle.ob_tables.specs.Holdings.{RowHeld, names_by, names_where}
use Rattle.ob_tables.proofs.Held.{row-again}
use Rattle.ob_tables.proofs.holdings.turn_row.Goals as goal

pub returns : goal.returns
returns c =
    let mid = names_where c.args.old.now c.args.new.now in
    let last = names_by c.args.new.now in
    IfOk-weaker c.add_fields.result (λ _. RowHeld c.args.key last c.turn_fields.new.holdings c.add_fields.new.holdings) (λ _. RowHeld c.args.key last c.args.holdings.now c.add_fields.new.holdings)
    (λ _ held. row-again c.args.key mid last c.args.holdings.now c.turn_fields.new.holdings c.add_fields.new.holdings c.in_ok-turn_fields.ensures held) c.add_fields.ensures
