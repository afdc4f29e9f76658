use Rattle.std.specs.Prelude.{All}
use Rattle.ob_domain.specs.Over.{IsOver}
use Rattle.ob_domain.specs.Trees.{tree_of_domain}
use Rattle.probe_access.proofs.policies.rules_from.Given as goal

-- the rules so far have domains of their models
abbrev pub invariant-loop-json : goal.invariant-loop-json
invariant-loop-json l = All (λ rule. IsOver l.schema rule.model (tree_of_domain rule.domain)) l.rules
