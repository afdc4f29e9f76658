use Rattle.std.proofs.lemmas.Result.{on_err_weaker}
use Rattle.ob_commands.proofs.SettledCalls.{keeps-back}
use Rattle.ob_commands.proofs.writing.change_whole.Goals as goal

pub returns-then-is_err-clause-back : goal.returns-then-is_err-clause-back
returns-then-is_err-clause-back g c =
    let says = c.forget.ensures in
    on_err_weaker c.change_rows-changed.result (λ keeps. keeps-back g.K.Keeper c.args.engine.now c.change_rows-changed.new.engine c.forget.new.self keeps says.same says.forgotten says.rests) c.change_rows-changed.ensures.kept

pub returns-then-is_err-clause-refused : goal.returns-then-is_err-clause-refused
returns-then-is_err-clause-refused g c = rw c.forget.ensures.same c.change_rows-changed.ensures.refused
