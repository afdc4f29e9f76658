use Rattle.std.proofs.Common.{◌≡◌, map, take}
use Rattle.ob_schema.specs.Paths.{step_at}
use Rattle.ob_query.proofs.naming.order_naming.Given as goal

abbrev pub invariant-loop-term : goal.invariant-loop-term
invariant-loop-term l = l.fields.items ≡ map (λ term. step_at l.model term.field) (take l.term-index l.order)
