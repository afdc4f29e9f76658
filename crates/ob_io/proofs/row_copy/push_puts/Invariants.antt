use Rattle.std.proofs.Common.{◌≡◌, ◌++◌, map}
use Rattle.std.specs.Vec.Iter.{into_iter_items}
use Rattle.ob_io.specs.declared.store.Change.TheVariants.{Put}
use Rattle.ob_io.proofs.row_copy.push_puts.Given as goal

abbrev pub invariant-loop-model : goal.invariant-loop-model
invariant-loop-model l = l.changes.items ++ map (λ p. Put p.0 p.1) (into_iter_items l.model-iterator) ≡ l.fn.changes.items ++ map (λ p. Put p.0 p.1) l.fn.rows.items
