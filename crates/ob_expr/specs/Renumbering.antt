-- A checked expression over other numbers of fields. A form of the tree that is added has its parts here.
use Rattle.std.specs.Prelude.{List, [], ◌∷◌}
use Rattle.ob_base.specs.declared.id.FieldNo.{FieldNo}
use Rattle.ob_base.specs.declared.id.ModelNo.{ModelNo}
use Rattle.ob_expr.specs.declared.typed.Link.{Link}
use Rattle.ob_expr.specs.Route.{Route}
use Rattle.ob_expr.specs.TypedTree.{TypedTree, TypedTrees, no_trees, one_more, path, prefix, binary, chosen, choice, joined, digits, over}

-- the model whose rows links from a row of a model lead to
abbrev pub end_model : ModelNo → List Link → ModelNo
end_model model [] = model
end_model model (link ∷ links) = end_model link.target links

-- the other number of each field of each model
module _ (renumbers : ModelNo → FieldNo → FieldNo) where
  -- links from a row of the model
  abbrev pub renumbered_links : ModelNo → List Link → List Link
  renumbered_links model [] = []
  renumbered_links model (link ∷ links) = record { field = renumbers model link.field; target = link.target } ∷ renumbered_links link.target links

  -- a path from a row of the model
  abbrev pub renumbered_route : ModelNo → Route → Route
  renumbered_route model route = record { links = renumbered_links model route.links; field = renumbers (end_model model route.links) route.field; kind = route.kind }

  -- an expression in rows of the model
  abbrev mutual
    pub renumbered : ModelNo → TypedTree → TypedTree
    renumbered model (path route) = path (renumbered_route model route)
    renumbered model (prefix word inner) = prefix word (renumbered model inner)
    renumbered model (binary op left right) = binary op (renumbered model left) (renumbered model right)
    renumbered model (chosen which left right) = chosen which (renumbered model left) (renumbered model right)
    renumbered model (choice condition first second) = choice (renumbered model condition) (renumbered model first) (renumbered model second)
    renumbered model (joined all) = joined (renumbered_all model all)
    renumbered model (digits inner) = digits (renumbered model inner)
    renumbered model (over aggregate route target inner) = over aggregate (renumbered_route model route) target (renumbered target inner)
    renumbered model tree = tree

    pub renumbered_all : ModelNo → TypedTrees → TypedTrees
    renumbered_all model no_trees = no_trees
    renumbered_all model (one_more tree rest) = one_more (renumbered model tree) (renumbered_all model rest)
