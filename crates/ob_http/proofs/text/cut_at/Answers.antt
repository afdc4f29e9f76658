-- The first part ends where the first such byte stands.
use Rattle.std.proofs.Common.{sym, ◌∙◌}
use Rattle.std.specs.Bool.{◌==◌}
use Rattle.ob_http.proofs.Cuts.{cut_some, cut_none}
use Rattle.ob_http.proofs.text.cut_at.Goals as goal

pub returns-in_err-end-clause-none : goal.returns-in_err-end-clause-none
returns-in_err-end-clause-none c =
    rw c.from_residual.ensures (cut_none (λ other. other == c.args.byte) c.args.text.now (sym c.first_place.ensures ∙ c.in_err-end.was))

pub returns-clause-some : goal.returns-clause-some
returns-clause-some c = cut_some (λ other. other == c.args.byte) c.args.text.now c.in_ok-end.end (sym c.first_place.ensures ∙ c.in_ok-end.was)
