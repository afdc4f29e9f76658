-- A list is read as its terms so far, and then what is left of it.
use Rattle.std.proofs.Common.{map}
use Rattle.std.specs.List.{AllByRecursion}
use Rattle.ob_domain.proofs.Lists.{IsReadTo}
use Rattle.ob_domain.specs.Over.{IsItemOver}
use Rattle.ob_domain.specs.Trees.{item_of}
use Rattle.ob_domain.proofs.reading.Reader.+reading.Given as goal

abbrev pub invariant-terms-loop-number : goal.invariant-terms-loop-number
invariant-terms-loop-number l = record {
  told : IsReadTo l.self.schema.now l.within.model l.within.numbers.now l.initial.left l.item-items l.number (map item_of l.terms.items) l.left;
  over : AllByRecursion (IsItemOver l.self.schema.now l.within.model) (map item_of l.terms.items);
}
