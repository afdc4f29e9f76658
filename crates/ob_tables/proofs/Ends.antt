-- The fields at the ends of a formula's paths, and whether the formula depends on its own field.
use Rattle.std.proofs.Common.{◌≡◌, ◌⊎◌, inl, inr, ℕ, ◌≤◌, ◌≢◌, true, false, ◌++◌, List, [], ◌∷◌, length, Some, refl, sym, ap, subst, ◌∙◌, append-nil}
use Rattle.std.specs.Prelude.{All, Any, Contains}
use Rattle.std.proofs.lemmas.Bool.Decides.{eqb_tells}
use Rattle.ob_base.specs.Limits.{max_path_steps}
use Rattle.ob_base.specs.declared.id.FieldNo.{FieldNo}
use Rattle.ob_base.specs.declared.id.ModelNo.{ModelNo}
use Rattle.ob_expr.specs.declared.kind.Kind.{Kind}
use Rattle.ob_expr.specs.declared.typed.Link.{Link}
use Rattle.ob_expr.specs.Route.{Route}
use Rattle.ob_expr.specs.TypedTree.{paths_of, typed_tree_of}
use Rattle.ob_schema.specs.declared.info.FieldInfo.{FieldInfo}
use Rattle.ob_schema.specs.declared.info.Formula.{Formula}
use Rattle.ob_schema.specs.declared.info.ModelInfo.{ModelInfo}
use Rattle.ob_schema.specs.declared.info.Origin.TheVariants as origin
use Rattle.ob_schema.specs.declared.info.Path.{Path}
use Rattle.ob_schema.specs.declared.info.Step.{Step}
use Rattle.ob_schema.specs.Fields.{has_value_of, is_plain_from}
use Rattle.ob_schema.specs.Models.{AreSteps, DependsOn, EndsOwn, FieldHas, IsFormulaIn, IsRouted, LeadsOn, field_at, is_delegated_from, kind_of_info}
use Rattle.ob_schema.specs.Paths.{BeginsWith, EndsIn, step_at, steps_along, steps_of_route}
use Rattle.ob_schema.proofs.CallerLemmas.{Any-cases, Any-first, Any-later, Any-none, contains-cases, contains-first, contains-later, contains-none}
use Rattle.ob_tables.proofs.Along.{end_model}
use Rattle.ob_tables.proofs.KnownFields.{known_at}

-- ---- deciding

-- two numbers are one or two
same_number : (a b : ℕ) → (a ≡ b) ⊎ (a ≢ b)
same_number a b = elim (eqb_tells a b) [ inl is ↦ inl is.1 | inr not ↦ inr not.1 ]

-- two steps are one or two
pub same_step : (a b : Step) → (a ≡ b) ⊎ (a ≢ b)
same_step a b = elim (same_number a.model.0 b.model.0) [
  | inr apart ↦ inr (λ is. apart (ap (λ (s : Step). s.model.0) is))
  | inl model ↦ elim (same_number a.field.0 b.field.0) [
    | inr apart ↦ inr (λ is. apart (ap (λ (s : Step). s.field.0) is))
    | inl field ↦ inl (λ i. record { model = record { 0 = model i }; field = record { 0 = field i } })
  ]
]

-- steps contain a step, or they don't
contains_or_not : (steps : List Step) (own : Step) → Contains steps own ⊎ (Contains steps own → ⊥)
contains_or_not [] own = inr (contains-none own)
contains_or_not (s ∷ steps) own = by (same_step s own) (contains_or_not steps own)
  where
    by : (s ≡ own) ⊎ (s ≢ own) → Contains steps own ⊎ (Contains steps own → ⊥) → Contains (s ∷ steps) own ⊎ (Contains (s ∷ steps) own → ⊥)
    by (inl is) rest = inl (subst (λ (t : Step). Contains (s ∷ steps) t) is (contains-first s steps))
    by (inr apart) (inl later) = inl (contains-later s steps own later)
    by (inr apart) (inr none) = inr (λ among. elim (contains-cases s steps own among) [ inl is ↦ apart is | inr later ↦ none later ])

-- one of a list is so, or none is
any_or_none : {X : Type 0} (P : X → Type 0) → ((x : X) → P x ⊎ (P x → ⊥)) → (xs : List X) → Any P xs ⊎ (Any P xs → ⊥)
any_or_none P decide [] = inr (Any-none P)
any_or_none {X = X} P decide (x ∷ xs) = by (decide x) (any_or_none P decide xs)
  where
    by : P x ⊎ (P x → ⊥) → Any P xs ⊎ (Any P xs → ⊥) → Any P (x ∷ xs) ⊎ (Any P (x ∷ xs) → ⊥)
    by (inl here) rest = inl (Any-first P x xs here)
    by (inr not) (inl later) = inl (Any-later P x xs later)
    by (inr not) (inr none) = inr (λ any. elim (Any-cases P x xs any) [ inl here ↦ not here | inr later ↦ none later ])

-- a formula depends on a field, or it doesn't
pub depends_or_not : (formula : Formula) (own : Step) → DependsOn formula own ⊎ (DependsOn formula own → ⊥)
depends_or_not formula own = any_or_none (λ (path : Path). Contains path.steps own) (λ path. contains_or_not path.steps own) formula.depends

-- ---- ends

-- steps end in the field at the end of the links
pub along-EndsIn : (at : ModelNo) (links : List Link) (field : FieldNo) → EndsIn (steps_along at links field) (step_at (end_model at links) field)
along-EndsIn at [] field = ([], refl)
along-EndsIn at (link ∷ links) field = let rest = along-EndsIn link.target links field in (step_at at link.field ∷ rest.0, ap (λ (l : List Step). step_at at link.field ∷ l) rest.1)

module _ (models : List ModelInfo) where
  -- the field at the end of a typed path is there
  pub routed_end : (at : ModelNo) (links : List Link) (field : FieldNo) (k : Kind) → IsRouted models at links field k → FieldHas models (λ info. (kind_of_info info ≡ Some k) × (has_value_of info ≡ true)) (end_model at links) field
  routed_end at [] field k routed = routed
  routed_end at (link ∷ links) field k routed = routed_end link.target links field k routed.1

  -- and isn't delegated
  pub own_end : (at : ModelNo) (links : List Link) (field : FieldNo) → EndsOwn models at links field → FieldHas models (λ info. is_delegated_from info.origin ≡ false) (end_model at links) field
  own_end at [] field own = own
  own_end at (link ∷ links) field own = own_end link.target links field own

  -- where steps go on, the field is plain
  plain_on : (at : ModelNo) (links : List Link) (field : FieldNo) (s : Step) (rest : List Step) → AreSteps models at (steps_along at links field ++ s ∷ rest) → FieldHas models (LeadsOn s.model) (end_model at links) field
  plain_on at [] field s rest are = are.1
  plain_on at (link ∷ []) field s rest are = plain_on link.target [] field s rest are.2
  plain_on at (link ∷ next ∷ links) field s rest are = plain_on link.target (next ∷ links) field s rest are.2

  -- a path of a formula, with what is known of it
  pub record RouteOf (model : ModelNo) (formula : Formula) (route : Route) : Type 0 where
    pub routed : IsRouted models model route.links route.field route.kind
    pub own : EndsOwn models model route.links route.field
    pub covered : Any (λ path. BeginsWith path.steps (steps_of_route model route)) formula.depends

  -- what is known of a formula's paths
  pub routes_of : (model : ModelNo) (f : FieldInfo) (formula : Formula) → IsFormulaIn models model f formula → All (RouteOf model formula) (paths_of (typed_tree_of formula.typed))
  routes_of model f formula right = λ k d within. record { routed = right.routed k d within; own = right.own k d within; covered = right.covered k d within }

  -- a path that ends in a computed field is one on which the formula depends
  pub computed_end : (model : ModelNo) (f : FieldInfo) (formula : Formula) (route : Route) (g : FieldInfo) (theirs : Formula) → IsFormulaIn models model f formula → RouteOf model formula route
      → field_at models (end_model model route.links) route.field ≡ Some g → g.origin ≡ origin.Computed theirs → Any (λ path. path.steps ≡ steps_of_route model route) formula.depends
  computed_end model f formula route g theirs right known at from = by known.covered
    where
      whole : (path : Path) → AreSteps models model path.steps × (length path.steps ≤ max_path_steps) → (rest : List Step) → path.steps ≡ steps_of_route model route ++ rest → path.steps ≡ steps_of_route model route
      whole path are [] is = is ∙ append-nil (steps_of_route model route)
      whole path are (s ∷ rest) is =
          let on = plain_on model route.links route.field s rest (subst (AreSteps models model) is are.0) in
          let plain = (known_at (field_at models (end_model model route.links) route.field) g (LeadsOn s.model) at on).plain in
          let not : is_plain_from (origin.Computed theirs) ≡ true = sym (ap is_plain_from from) ∙ plain in absurd cc

      by : Any (λ path. BeginsWith path.steps (steps_of_route model route)) formula.depends → Any (λ path. path.steps ≡ steps_of_route model route) formula.depends
      by (k, path, within, is, begins) =
          (k, path, within, is, whole path (subst (λ (p : Path). AreSteps models model p.steps × (length p.steps ≤ max_path_steps)) is (right.steps k path within)) begins.0 begins.1)
