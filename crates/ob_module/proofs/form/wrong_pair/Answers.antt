use Rattle.std.proofs.Common.{◌≡◌, List, Some, length, ap, sym, ◌∙◌, arith}
use Rattle.ob_base.specs.declared.place.PathStep.{PathStep}
use Rattle.ob_module.proofs.Wrongs.{no-pair}
use Rattle.ob_module.proofs.form.wrong_pair.Goals as goal
use Rattle.ob_module.proofs.form.wrong_pair.Goals.{in_default-via-then-items-lt2, in_default-via-else-items-lt2+else-items-lt3}

pub returns-in_default : goal.returns-in_default
returns-in_default g c =
    let other : length c.args.items.now ≡ 2 → ⊥ =
    elim c.in_default.branch [ in_default-via-then-items-lt2 w ↦ λ two. grind arith | in_default-via-else-items-lt2+else-items-lt3 w ↦ λ two. grind arith ] in
    ap (λ (path : List PathStep). Some path) c.here.ensures ∙ sym (no-pair (g.A.Form.wrong c.args.form.now.first) (g.B.Form.wrong c.args.form.now.second) c.args.items.now other)
