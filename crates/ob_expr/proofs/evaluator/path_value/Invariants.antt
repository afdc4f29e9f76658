use Rattle.std.proofs.Common.{◌≡◌, drop}
use Rattle.ob_base.specs.declared.id.Cell.{Cell}
use Rattle.ob_expr.specs.Meaning.{at_end}
use Rattle.ob_expr.specs.Reads.{MayReadPath}
use Rattle.ob_expr.proofs.evaluator.path_value.Given as goal

abbrev pub invariant-loop-link : goal.invariant-loop-link
invariant-loop-link g l = record {
  told : at_end (g.R.Reads.held l.fn.reads) l.fn.row l.path.links l.path.field l.path.kind ≡ at_end (g.R.Reads.held l.fn.reads) l.row (drop l.link-index l.path.links) l.path.field l.path.kind;
  may : MayReadPath (g.R.Reads.held l.fn.reads) (g.R.Reads.can_read l.fn.reads) l.row (drop l.link-index l.path.links) l.path.field;
  kept : g.R.Reads.held l.reads ≡ g.R.Reads.held l.fn.reads;
  readable : (c : Cell) → g.R.Reads.can_read l.fn.reads c → g.R.Reads.can_read l.reads c;
  items : l.link-items ≡ l.path.links;
}
