-- The fields of all terms are those of their tree; behind links stand those of the inner terms.
use Rattle.ob_domain.proofs.Named.{named_behind, named_end}
use Rattle.ob_domain.proofs.naming.+naming.Goals as goal

pub add_fields-returns : goal.add_fields-returns
add_fields-returns t c =
    named_end c.args.model c.args.terms.now c.loop-term.term-index c.args.fields.now.items c.loop-term.fields.items c.loop-term-test.false c.loop-term.invariant

pub add_named-returns-in_ok-end-in-Any : goal.add_named-returns-in_ok-end-in-Any
add_named-returns-in_ok-end-in-Any t c =
    named_behind c.args.term.now c.in-Any.field-0 c.in-Any.links c.in-Any.inner c.deref.result.now c.deref-in-Any.result.now c.in-Any.is c.deref.ensures.value c.deref-in-Any.ensures.value
    c.add_fields.result c.args.model c.in_ok-end-in-Any.end c.args.fields.now.items c.add_along.new.fields.items c.add_fields.new.fields.items
    c.in_ok-end-in-Any.ensures.fields c.in_ok-end-in-Any.ensures.end c.add_fields.ensures
