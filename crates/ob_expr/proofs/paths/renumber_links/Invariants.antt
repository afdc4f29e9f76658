use Rattle.std.proofs.Common.{◌≡◌, ◌++◌, take, drop}
use Rattle.ob_expr.specs.Renumbering.{end_model, renumbered_links}
use Rattle.ob_expr.proofs.paths.renumber_links.Given as goal

abbrev pub invariant-loop-link : goal.invariant-loop-link
invariant-loop-link g l = record {
  told : renumbered_links (g.N.Renumbering.renumbers l.numbers) l.fn.model l.fn.links
      ≡ take l.link-index l.links ++ renumbered_links (g.N.Renumbering.renumbers l.numbers) l.model (drop l.link-index l.fn.links);
  ends : end_model l.fn.model l.fn.links ≡ end_model l.model (drop l.link-index l.fn.links);
  left : drop l.link-index l.links ≡ drop l.link-index l.fn.links;
}
