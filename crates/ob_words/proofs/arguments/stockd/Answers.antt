-- The arguments come one after the other.
use Rattle.std.proofs.Common.{◌≡◌, ap, ◌∙◌}
use Rattle.std.proofs.lemmas.Result.{IfOk-weaker}
use Rattle.clap.specs.Simple.{App, with_rule}
use Rattle.clap.specs.Walk.{Rule}
use Rattle.ob_words.proofs.arguments.stockd.Goals as goal

-- one more argument of the same command
then : (rule : Rule) {command same more : App} → more ≡ with_rule command rule → command ≡ same → more ≡ with_rule same rule
then rule adds is = adds ∙ ap (λ (app : App). with_rule app rule) is

pub returns : goal.returns
returns c =
    let said = then _ c.in_ok-command-7.ensures (then _ c.in_ok-command-6.ensures (then _ c.in_ok-command-5.ensures (then _ c.in_ok-command-4.ensures
    (then _ c.in_ok-command-3.ensures (then _ c.in_ok-command-2.ensures (then _ c.in_ok-command.ensures c.bare-command.ensures)))))) in
    IfOk-weaker c.with_default-5.result _ _ (λ command adds. then _ adds said) c.with_default-5.ensures
