use Rattle.std.proofs.Common.{◌≡◌, drop, IsOk}
use Rattle.ob_base.specs.declared.id.Cell.{Cell}
use Rattle.ob_base.specs.declared.id.RecId.{RecId}
use Rattle.ob_expr.specs.declared.typed.Typed.{Typed}
use Rattle.ob_expr.specs.Chain.{each}
use Rattle.ob_expr.specs.Meaning.{meaning, row_at}
use Rattle.ob_expr.specs.Reads.{EachInTurn, MayRead}
use Rattle.ob_expr.specs.TypedTree.{typed_tree_of}
use Rattle.ob_expr.proofs.Outcomes.{with_left}
use Rattle.ob_expr.proofs.evaluator.+values.Given as goal

abbrev pub invariant-values_at-loop-id : goal.invariant-values_at-loop-id
invariant-values_at-loop-id g l = record {
  told : each (λ (id : RecId). meaning (g.R.Reads.held l.fn.reads) (row_at l.model id) (typed_tree_of l.typed)) l.ids
      ≡ with_left (λ (id : RecId). meaning (g.R.Reads.held l.fn.reads) (row_at l.model id) (typed_tree_of l.typed)) l.values.items (drop l.id-index l.ids);
  may : EachInTurn (λ (id : RecId). IsOk (meaning (g.R.Reads.held l.fn.reads) (row_at l.model id) (typed_tree_of l.typed)))
      (λ (id : RecId). MayRead (g.R.Reads.held l.fn.reads) (g.R.Reads.can_read l.fn.reads) (row_at l.model id) (typed_tree_of l.typed)) (drop l.id-index l.ids);
  kept : g.R.Reads.held l.reads ≡ g.R.Reads.held l.fn.reads;
  readable : (c : Cell) → g.R.Reads.can_read l.fn.reads c → g.R.Reads.can_read l.reads c;
}

abbrev pub invariant-values_of-loop-part : goal.invariant-values_of-loop-part
invariant-values_of-loop-part g l = record {
  told : each (λ (part : Typed). meaning (g.R.Reads.held l.fn.reads) l.row (typed_tree_of part)) l.parts
      ≡ with_left (λ (part : Typed). meaning (g.R.Reads.held l.fn.reads) l.row (typed_tree_of part)) l.values.items (drop l.part-index l.parts);
  may : EachInTurn (λ (part : Typed). IsOk (meaning (g.R.Reads.held l.fn.reads) l.row (typed_tree_of part)))
      (λ (part : Typed). MayRead (g.R.Reads.held l.fn.reads) (g.R.Reads.can_read l.fn.reads) l.row (typed_tree_of part)) (drop l.part-index l.parts);
  kept : g.R.Reads.held l.reads ≡ g.R.Reads.held l.fn.reads;
  readable : (c : Cell) → g.R.Reads.can_read l.fn.reads c → g.R.Reads.can_read l.reads c;
}
