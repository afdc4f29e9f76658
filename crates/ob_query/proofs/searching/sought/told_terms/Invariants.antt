use Rattle.std.proofs.Common.{◌≡◌, take}
use Rattle.ob_query.specs.Search.{told_order}
use Rattle.ob_query.proofs.searching.sought.told_terms.Given as goal

abbrev pub invariant-loop-term : goal.invariant-loop-term
invariant-loop-term l = l.terms ≡ told_order l.sought.by.policy.now l.sought.by.groups.now l.sought.by.user l.sought.model (take l.term-index l.sought.order)
