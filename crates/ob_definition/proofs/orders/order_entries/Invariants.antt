use Rattle.std.specs.List.{slice_split}
use Rattle.std.proofs.Common.{◌==◌, length}
use Rattle.ob_definition.specs.Orders.{term_of, terms_of, words}
use Rattle.ob_definition.proofs.ReadForms.{IsReadTo}
use Rattle.ob_definition.proofs.orders.order_entries.Given as goal

abbrev pub invariant-loop-piece : goal.invariant-loop-piece
invariant-loop-piece l = IsReadTo (λ piece. term_of (words piece)) (slice_split (λ b. b == 44) l.text) (length l.yielded) (terms_of l.entries)
