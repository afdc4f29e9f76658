-- What contracts see of a path (`Path`).
use Rattle.std.specs.Prelude.{List, [], ◌∷◌, ◌++◌, map}
use Rattle.ob_base.specs.declared.id.FieldNo.{FieldNo}
use Rattle.ob_base.specs.declared.id.ModelNo.{ModelNo}
use Rattle.ob_expr.specs.declared.kind.Kind.{Kind}
use Rattle.ob_expr.specs.declared.typed.Link.{Link}

-- links from a row, and the field at their end with its kind
pub record Route : Type 0 where
  pub links : List Link
  pub field : FieldNo
  pub kind : Kind

-- the links, and a last one through the field at their end
abbrev pub through : Route → ModelNo → List Link
through route target = route.links ++ record { field = route.field; target = target } ∷ []

-- the path from the rows where links lead
abbrev pub behind : List Link → Route → Route
behind links route = record route { links = links ++ route.links }

-- the fields of the steps
abbrev pub fields_of : Route → List FieldNo
fields_of route = map (λ link. link.field) route.links ++ route.field ∷ []
