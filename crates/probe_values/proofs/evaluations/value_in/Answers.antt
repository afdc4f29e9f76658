use Rattle.ob_expr.specs.Meaning.{row_of}
use Rattle.ob_expr.specs.TypedTree.{typed_tree_of}
use Rattle.probe_values.proofs.Holding.{holds_kinds, may_read}
use Rattle.probe_values.proofs.evaluations.value_in.Goals as goal

pub eval-requires-clause-readable : goal.eval-requires-clause-readable
eval-requires-clause-readable c =
    may_read _ c.hold_their_kinds.ensures c.reads_along_paths.ensures.reads (row_of c.args.cell) (typed_tree_of c.args.typed.now)

pub eval-requires-clause-held : goal.eval-requires-clause-held
eval-requires-clause-held c =
    holds_kinds _ _ c.hold_their_kinds.ensures c.args.cell.model (typed_tree_of c.args.typed.now) c.requires.found
