use Rattle.std.proofs.Common.{◌≡◌, ◌++◌, map, take, drop}
use Rattle.ob_expr.specs.TypedTree.{typed_tree_of}
use Rattle.ob_expr.proofs.Renumbered.{other_tree}
use Rattle.ob_expr.proofs.+new_numbers.Given as goal

abbrev pub invariant-paths::renumber_parts-loop-part : goal.invariant-paths::renumber_parts-loop-part
invariant-paths::renumber_parts-loop-part g l = record {
  told : map (other_tree (g.N.Renumbering.renumbers l.numbers) l.model) l.fn.parts
      ≡ map typed_tree_of (take l.part-index l.parts) ++ map (other_tree (g.N.Renumbering.renumbers l.numbers) l.model) (drop l.part-index l.fn.parts);
  left : drop l.part-index l.parts ≡ drop l.part-index l.fn.parts;
  unvisited : goal.unvisited-paths::renumber_parts-loop-part g l;
}
