use Rattle.std.proofs.Common.{◌≡◌, drop, map}
use Rattle.std.specs.Prelude.{find, not}
use Rattle.ob_query.specs.Callers.{may_read_field, named_of, named_where}
use Rattle.ob_query.proofs.naming.first_where.Given as goal

abbrev pub invariant-loop-naming : goal.invariant-loop-naming
invariant-loop-naming l =
    find (λ field. not (may_read_field l.by field)) (named_where l.positioned (map named_of l.namings)) ≡ find (λ field. not (may_read_field l.by field)) (named_where l.positioned (map named_of (drop l.naming-index l.namings)))
