-- The fields of the terms so far are added.
use Rattle.std.proofs.Common.{◌≡◌, ◌++◌, drop}
use Rattle.std.specs.List.{flat_map}
use Rattle.ob_domain.proofs.Named.{term_fields}
use Rattle.ob_domain.proofs.naming.+naming.Given as goal

abbrev pub invariant-add_fields-loop-term : goal.invariant-add_fields-loop-term
invariant-add_fields-loop-term l =
    l.fields.items ++ flat_map (term_fields l.model) (drop l.term-index l.terms) ≡ l.fn.fields.items ++ flat_map (term_fields l.model) l.terms
