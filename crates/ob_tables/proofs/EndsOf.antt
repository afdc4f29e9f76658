-- The cells at the ends of an expression's paths: they lie along its paths, and what lies along its paths else is plain.
use Rattle.std.proofs.Common.{◌≡◌, ◌⊎◌, inl, inr, List, [], ◌∷◌, ◌++◌, Option, Some, None, Result, refl, sym, ap, subst}
use Rattle.std.specs.Prelude.{All}
use Rattle.std.specs.List.{flat_map}
use Rattle.std.proofs.lemmas.List.Elements.{All-head, All-tail}
use Rattle.ob_base.specs.declared.id.Cell.{Cell}
use Rattle.ob_base.specs.declared.id.FieldNo.{FieldNo}
use Rattle.ob_base.specs.declared.id.RecId.{RecId}
use Rattle.ob_base.specs.declared.value.Value.{Value}
use Rattle.ob_base.specs.declared.value.Value.TheVariants as value
use Rattle.ob_expr.specs.declared.kind.Kind.{Kind}
use Rattle.ob_expr.specs.declared.row.Row.{Row}
use Rattle.ob_expr.specs.declared.typed.Link.{Link}
use Rattle.ob_expr.specs.Computing.{Lack}
use Rattle.ob_expr.specs.Meaning.{cell_in, row_at as place_at}
use Rattle.ob_expr.specs.Reads.{IsAlongAny, IsAlongPath, IsAmong, LeadsTo}
use Rattle.ob_expr.specs.Route.{Route}
use Rattle.ob_schema.specs.declared.info.ModelInfo.{ModelInfo}
use Rattle.ob_schema.specs.Models.{IsRouted}
use Rattle.ob_schema.specs.Plain.{plain_at}
use Rattle.ob_tables.specs.Settling.{ends_along, rows_led}
use Rattle.ob_schema.specs.Tables.{Tables}
use Rattle.ob_tables.proofs.Along.{IsPlainCell, Leads, along_ends, link_held}
use Rattle.ob_tables.proofs.NamedBack.{Stands, stands-among}
use Rattle.ob_tables.proofs.Stable.{IsDeep, held_by}

-- ---- lists of lists

-- what stands in the first list or in the second stands in both
pub stands-left : {X : Type 0} (x : X) (xs ys : List X) → Stands x xs → Stands x (xs ++ ys)
stands-left x [] ys among = absurd among
stands-left x (y ∷ xs) ys (inl is) = inl is
stands-left x (y ∷ xs) ys (inr later) = inr (stands-left x xs ys later)

pub stands-right : {X : Type 0} (x : X) (xs ys : List X) → Stands x ys → Stands x (xs ++ ys)
stands-right x [] ys among = among
stands-right x (y ∷ xs) ys among = inr (stands-right x xs ys among)

-- what stands in both stands in one of them
pub stands-either : {X : Type 0} (x : X) (xs ys : List X) → Stands x (xs ++ ys) → Stands x xs ⊎ Stands x ys
stands-either x [] ys among = inr among
stands-either x (y ∷ xs) ys (inl is) = inl (inl is)
stands-either x (y ∷ xs) ys (inr later) = by (stands-either x xs ys later)
  where
    by : Stands x xs ⊎ Stands x ys → Stands x (y ∷ xs) ⊎ Stands x ys
    by (inl left) = inl (inr left)
    by (inr right) = inr right

-- what stands in the list of one stands in all lists
pub stands-flat : {X Y : Type 0} (f : Y → List X) (x : X) (y : Y) (ys : List Y) → Stands y ys → Stands x (f y) → Stands x (flat_map f ys)
stands-flat f x y [] among here = absurd among
stands-flat {X = X} f x y (z ∷ ys) (inl is) here = stands-left x (f z) (flat_map f ys) (subst (λ (w : _). Stands x (f w)) is here)
stands-flat f x y (z ∷ ys) (inr later) here = stands-right x (f z) (flat_map f ys) (stands-flat f x y ys later here)

-- and what stands in all lists stands in that of one
pub stands-of_flat : {X Y : Type 0} (f : Y → List X) (x : X) (ys : List Y) → Stands x (flat_map f ys) → (y : Y) × Stands y ys × Stands x (f y)
stands-of_flat f x [] among = absurd among
stands-of_flat {X = X} {Y = Y} f x (z ∷ ys) among = by (stands-either x (f z) (flat_map f ys) among) (λ later. stands-of_flat f x ys later)
  where
    by : Stands x (f z) ⊎ Stands x (flat_map f ys) → (Stands x (flat_map f ys) → (y : Y) × Stands y ys × Stands x (f y)) → (y : Y) × Stands y (z ∷ ys) × Stands x (f y)
    by (inl here) rest = (z, inl refl, here)
    by (inr later) rest = let r = rest later in (r.0, inr r.1, r.2)

-- ---- ends

-- an id that stands among ids is one of them
stands-is_among : (id : RecId) (ids : List RecId) → Stands id ids → IsAmong id ids
stands-is_among id [] among = absurd among
stands-is_among id (x ∷ ids) (inl is) = inl is
stands-is_among id (x ∷ ids) (inr later) = inr (stands-is_among id ids later)

-- the rows to which a cell leads
led-stands : (o : Option Value) (id : RecId) → LeadsTo o id → Stands id (rows_led o)
led-stands None id leads = absurd leads
led-stands (Some (value.Ref other)) id leads = inl leads
led-stands (Some (value.Refs ids)) id leads = stands-among id ids leads
led-stands (Some value.Nil) id leads = absurd leads
led-stands (Some (value.Bool b)) id leads = absurd leads
led-stands (Some (value.Int n)) id leads = absurd leads
led-stands (Some (value.Word text)) id leads = absurd leads
led-stands (Some (value.Day n)) id leads = absurd leads
led-stands (Some (value.Moment n)) id leads = absurd leads

stands-led : (o : Option Value) (id : RecId) → Stands id (rows_led o) → LeadsTo o id
stands-led None id among = absurd among
stands-led (Some (value.Ref other)) id (inl is) = is
stands-led (Some (value.Ref other)) id (inr none) = absurd none
stands-led (Some (value.Refs ids)) id among = stands-is_among id ids among
stands-led (Some value.Nil) id among = absurd among
stands-led (Some (value.Bool b)) id among = absurd among
stands-led (Some (value.Int n)) id among = absurd among
stands-led (Some (value.Word text)) id among = absurd among
stands-led (Some (value.Day n)) id among = absurd among
stands-led (Some (value.Moment n)) id among = absurd among

module _ (models : List ModelInfo) (tables : Tables) where
  -- the cell at the end of links that lead there is among the ends
  leads-ends : (row : Row) (links : List Link) (field : FieldNo) (end : Row) → Leads models tables row links end → Stands (cell_in end field) (ends_along (plain_at tables models) row links field)
  leads-ends row [] field end leads = inl (ap (λ (r : Row). cell_in r field) (sym leads))
  leads-ends row (link ∷ links) field end leads =
      stands-flat (λ (id : RecId). ends_along (plain_at tables models) (place_at link.target id) links field) (cell_in end field) leads.0 (rows_led (plain_at tables models (cell_in row link.field)))
      (led-stands (plain_at tables models (cell_in row link.field)) leads.0 leads.1) (leads-ends (place_at link.target leads.0) links field end leads.2)

  module _ (f : Cell → Result Value Lack) (deep : IsDeep models tables 1 f) where
    -- each of the ends lies along the path
    end-along : (row : Row) (links : List Link) (field : FieldNo) (k : Kind) → IsRouted models row.model links field k → (d : Cell) → Stands d (ends_along (plain_at tables models) row links field)
        → IsAlongPath (held_by f) row links field d
    end-along row [] field k routed d (inl is) = is
    end-along row [] field k routed d (inr none) = absurd none
    end-along row (link ∷ links) field k routed d among =
        let one = stands-of_flat (λ (id : RecId). ends_along (plain_at tables models) (place_at link.target id) links field) d (rows_led (plain_at tables models (cell_in row link.field))) among in
        inr (
          one.0,
          subst (λ (o : Option Value). LeadsTo o one.0) (sym (link_held models tables 0 f deep row link routed.0)) (stands-led (plain_at tables models (cell_in row link.field)) one.0 one.1),
          end-along (place_at link.target one.0) links field k routed.1 d one.2,
        )

    -- what lies along the path is plain, or one of the ends
    along-end : (row : Row) (links : List Link) (field : FieldNo) (k : Kind) → IsRouted models row.model links field k → (d : Cell) → IsAlongPath (held_by f) row links field d
        → IsPlainCell models tables d ⊎ Stands d (ends_along (plain_at tables models) row links field)
    along-end row links field k routed d along = by (along_ends models tables 0 f deep row links field k routed d along)
      where
        by : IsPlainCell models tables d ⊎ ((end : Row) × Leads models tables row links end × (d ≡ cell_in end field)) → IsPlainCell models tables d ⊎ Stands d (ends_along (plain_at tables models) row links field)
        by (inl plain) = inl plain
        by (inr (end, leads, is)) = inr (subst (λ (c : Cell). Stands c (ends_along (plain_at tables models) row links field)) (sym is) (leads-ends row links field end leads))

    -- the ends of all paths
    abbrev ends_in : Row → List Route → List Cell
    ends_in row routes = flat_map (λ route. ends_along (plain_at tables models) row route.links route.field) routes

    -- each lies along one of them
    pub ends-along : (row : Row) (routes : List Route) → All (λ route. IsRouted models row.model route.links route.field route.kind) routes → (d : Cell) → Stands d (ends_in row routes) → IsAlongAny (held_by f) row routes d
    ends-along row [] routed d among = absurd among
    ends-along row (route ∷ routes) routed d among =
        by (stands-either d (ends_along (plain_at tables models) row route.links route.field) (ends_in row routes) among)
        (λ later. ends-along row routes (All-tail (λ r. IsRouted models row.model r.links r.field r.kind) route routes routed) d later)
      where
        by : Stands d (ends_along (plain_at tables models) row route.links route.field) ⊎ Stands d (ends_in row routes) → (Stands d (ends_in row routes) → IsAlongAny (held_by f) row routes d)
            → IsAlongAny (held_by f) row (route ∷ routes) d
        by (inl here) rest = inl (end-along row route.links route.field route.kind (All-head (λ r. IsRouted models row.model r.links r.field r.kind) route routes routed) d here)
        by (inr later) rest = inr (rest later)

    -- what lies along one of them is plain, or an end
    pub along-ends : (row : Row) (routes : List Route) → All (λ route. IsRouted models row.model route.links route.field route.kind) routes → (d : Cell) → IsAlongAny (held_by f) row routes d
        → IsPlainCell models tables d ⊎ Stands d (ends_in row routes)
    along-ends row [] routed d along = absurd along
    along-ends row (route ∷ routes) routed d (inl here) = by (along-end row route.links route.field route.kind (All-head (λ r. IsRouted models row.model r.links r.field r.kind) route routes routed) d here)
      where
        by : IsPlainCell models tables d ⊎ Stands d (ends_along (plain_at tables models) row route.links route.field) → IsPlainCell models tables d ⊎ Stands d (ends_in row (route ∷ routes))
        by (inl plain) = inl plain
        by (inr end) = inr (stands-left d (ends_along (plain_at tables models) row route.links route.field) (ends_in row routes) end)
    along-ends row (route ∷ routes) routed d (inr later) = by (along-ends row routes (All-tail (λ r. IsRouted models row.model r.links r.field r.kind) route routes routed) d later)
      where
        by : IsPlainCell models tables d ⊎ Stands d (ends_in row routes) → IsPlainCell models tables d ⊎ Stands d (ends_in row (route ∷ routes))
        by (inl plain) = inl plain
        by (inr end) = inr (stands-right d (ends_along (plain_at tables models) row route.links route.field) (ends_in row routes) end)
