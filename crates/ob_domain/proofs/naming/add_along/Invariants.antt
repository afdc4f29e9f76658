-- The links so far are gone through, and what is left leads on from there.
use Rattle.std.proofs.Common.{◌≡◌, ◌++◌, drop}
use Rattle.ob_domain.specs.Naming.{fields_along}
use Rattle.ob_domain.specs.Over.{end_of}
use Rattle.ob_domain.proofs.naming.add_along.Given as goal

abbrev pub invariant-loop-link : goal.invariant-loop-link
invariant-loop-link l = record {
  fields : l.fields.items ++ fields_along l.model (drop l.link-index l.links) ≡ l.fn.fields.items ++ fields_along l.fn.model l.links;
  end : end_of l.model (drop l.link-index l.links) ≡ end_of l.fn.model l.links;
}
