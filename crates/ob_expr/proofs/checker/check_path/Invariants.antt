use Rattle.std.proofs.Common.{◌≡◌, length}
use Rattle.ob_expr.specs.Checking.{route_of}
use Rattle.ob_expr.proofs.Routes.{route_left}
use Rattle.ob_expr.proofs.checker.check_path.Given as goal

abbrev pub invariant-loop-rest : goal.invariant-loop-rest
invariant-loop-rest g l = route_of (g.S.Scope.finds l.scope) l.at l.fn.model l.fn.names ≡ route_left (g.S.Scope.finds l.scope) l.at l.links.items l.model l.rest

abbrev pub decreases-loop-rest : goal.decreases-loop-rest
decreases-loop-rest g l = length l.rest
