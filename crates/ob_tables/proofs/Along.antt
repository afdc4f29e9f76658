-- What lies along the paths of a formula: plain cells, and the fields at the ends.
use Rattle.std.proofs.Common.{◌≡◌, ◌⊎◌, inl, inr, ℕ, suc, true, List, [], ◌∷◌, Option, Some, Result, refl, sym, ap, subst}
use Rattle.std.specs.Prelude.{All}
use Rattle.std.proofs.lemmas.List.Elements.{All-head, All-tail}
use Rattle.ob_base.specs.declared.id.Cell.{Cell}
use Rattle.ob_base.specs.declared.id.FieldNo.{FieldNo}
use Rattle.ob_base.specs.declared.id.ModelNo.{ModelNo}
use Rattle.ob_base.specs.declared.id.RecId.{RecId}
use Rattle.ob_base.specs.declared.value.Value.{Value}
use Rattle.ob_expr.specs.declared.kind.Kind.{Kind}
use Rattle.ob_expr.specs.declared.row.Row.{Row}
use Rattle.ob_expr.specs.declared.typed.Link.{Link}
use Rattle.ob_expr.specs.Computing.{Lack}
use Rattle.ob_expr.specs.Meaning.{cell_in, row_at as place_at}
use Rattle.ob_expr.specs.Reads.{IsAlongAny, IsAlongPath, LeadsTo}
use Rattle.ob_expr.specs.Route.{Route}
use Rattle.ob_schema.specs.declared.info.FieldInfo.{FieldInfo}
use Rattle.ob_schema.specs.declared.info.ModelInfo.{ModelInfo}
use Rattle.ob_schema.specs.declared.info.Origin.{Origin}
use Rattle.ob_schema.specs.declared.info.Origin.TheVariants as origin
use Rattle.ob_schema.specs.Fields.{is_plain_from}
use Rattle.ob_schema.specs.Models.{FieldHas, IsPlainTo, IsRouted, field_at}
use Rattle.ob_schema.specs.Plain.{plain_at}
use Rattle.ob_schema.specs.Tables.{Tables}
use Rattle.ob_tables.proofs.KnownFields.{told_and}
use Rattle.ob_tables.proofs.Stable.{IsDeep, held_by, plain_read}

-- the one origin of plain fields
pub plain_is : (o : Origin) → is_plain_from o ≡ true → o ≡ origin.Plain
plain_is origin.Plain plain = refl
plain_is origin.Id plain = absurd cc
plain_is (origin.Delegated at) plain = absurd cc
plain_is (origin.Computed formula) plain = absurd cc

-- the model at the end of links
abbrev pub end_model : ModelNo → List Link → ModelNo
end_model model [] = model
end_model model (link ∷ links) = end_model link.target links

-- what lies along one of the paths lies along one of which all is known that is known of each
pub along_one : (held : Cell → Option Value) (row : Row) (P : Route → Type 0) (routes : List Route) (c : Cell) → All P routes → IsAlongAny held row routes c
    → (route : Route) × P route × IsAlongPath held row route.links route.field c
along_one held row P [] c all along = absurd along
along_one held row P (route ∷ routes) c all (inl here) = (route, All-head P route routes all, here)
along_one held row P (route ∷ routes) c all (inr later) = along_one held row P routes c (All-tail P route routes all) later

module _ (models : List ModelInfo) (tables : Tables) where
  -- links lead from a row to this one
  abbrev pub Leads : Row → List Link → Row → Type 0
  Leads row [] end = row ≡ end
  Leads row (link ∷ links) end = (id : RecId) × LeadsTo (plain_at tables models (cell_in row link.field)) id × Leads (place_at link.target id) links end

  -- the row at the end is one of the model there
  pub leads-model : (row : Row) (links : List Link) (end : Row) → Leads row links end → end.model ≡ end_model row.model links
  leads-model row [] end leads = ap (λ (r : Row). r.model) (sym leads)
  leads-model row (link ∷ links) end leads = leads-model (place_at link.target leads.0) links end leads.2

  -- a cell of a plain field
  abbrev pub IsPlainCell : Cell → Type 0
  IsPlainCell c = (info : FieldInfo) × (field_at models c.model c.field ≡ Some info) × (info.origin ≡ origin.Plain)

  -- the cell of a link is one
  plain_cell : (model : ModelNo) (id : RecId) (field : FieldNo) (target : ModelNo) → FieldHas models (IsPlainTo target) model field → IsPlainCell (record { model = model; id = id; field = field })
  plain_cell model id field target has = let t = told_and (field_at models model field) (IsPlainTo target) has in (t.0, t.1, plain_is t.0.origin t.2.plain)

  -- a link's cell holds the plain value
  pub link_held : (n : ℕ) (f : Cell → Result Value Lack) → IsDeep models tables (suc n) f → (row : Row) (link : Link) → FieldHas models (IsPlainTo link.target) row.model link.field
      → held_by f (cell_in row link.field) ≡ plain_at tables models (cell_in row link.field)
  link_held n f deep row link has = let t = plain_cell row.model row.id link.field link.target has in plain_read models tables n f (cell_in row link.field) t.0 deep t.1 t.2

  -- a cell along a path is plain, or that of the field at the end
  pub along_ends : (n : ℕ) (f : Cell → Result Value Lack) → IsDeep models tables (suc n) f → (row : Row) (links : List Link) (field : FieldNo) (k : Kind) → IsRouted models row.model links field k → (c : Cell)
      → IsAlongPath (held_by f) row links field c → IsPlainCell c ⊎ ((end : Row) × Leads row links end × (c ≡ cell_in end field))
  along_ends n f deep row [] field k routed c along = inr (row, refl, along)
  along_ends n f deep row (link ∷ links) field k routed c (inl is) = inl (subst IsPlainCell (sym is) (plain_cell row.model row.id link.field link.target routed.0))
  along_ends n f deep row (link ∷ links) field k routed c (inr on) =
      let leads = subst (λ (o : Option Value). LeadsTo o on.0) (link_held n f deep row link routed.0) on.1 in
      behind leads (along_ends n f deep (place_at link.target on.0) links field k routed.1 c on.2)
    where
      behind : (LeadsTo (plain_at tables models (cell_in row link.field)) on.0) → IsPlainCell c ⊎ ((end : Row) × Leads (place_at link.target on.0) links end × (c ≡ cell_in end field))
          → IsPlainCell c ⊎ ((end : Row) × Leads row (link ∷ links) end × (c ≡ cell_in end field))
      behind leads (inl plain) = inl plain
      behind leads (inr (end, rest, is)) = inr (end, (on.0, leads, rest), is)
