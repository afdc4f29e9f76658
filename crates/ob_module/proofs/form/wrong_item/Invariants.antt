use Rattle.std.proofs.Common.{◌≡◌}
use Rattle.ob_module.proofs.Wrongs.{wrong_from}
use Rattle.ob_module.proofs.form.wrong_item.Given as goal

abbrev pub invariant-loop-number : goal.invariant-loop-number
invariant-loop-number g l = wrong_from (g.F.Form.wrong l.form) 0 l.items ≡ wrong_from (g.F.Form.wrong l.form) l.number l.items
