use Rattle.std.proofs.Common.{◌≡◌, ◌++◌, drop}
use Rattle.ob_schema.specs.Paths.{steps_along}
use Rattle.ob_registry.proofs.paths.steps_along.Given as goal

abbrev pub invariant-loop-link : goal.invariant-loop-link
invariant-loop-link l = steps_along l.fn.number l.fn.path.links l.fn.path.field ≡ l.steps ++ steps_along l.model (drop l.link-index l.fn.path.links) l.fn.path.field
