use Rattle.std.proofs.Common.{◌≡◌, take}
use Rattle.std.specs.List.{flat_map}
use Rattle.ob_expr.specs.Meaning.{row_of}
use Rattle.ob_expr.specs.TypedTree.{paths_of, typed_tree_of}
use Rattle.ob_schema.specs.Plain.{plain_at}
use Rattle.ob_tables.specs.Settling.{ends_along}
use Rattle.ob_tables.proofs.reading.Given.ends_of.Given as goal

-- the cells at the ends of the paths so far
abbrev pub invariant-loop-path : goal.invariant-loop-path
invariant-loop-path l = record {
  done : l.ends.items ≡ flat_map (λ route. ends_along (plain_at l.self.tables.now.tables l.self.tables.now.models) (row_of l.cell) route.links route.field) (take l.path-index l.path-items);
  items : l.path-items ≡ paths_of (typed_tree_of l.fn.typed);
}
