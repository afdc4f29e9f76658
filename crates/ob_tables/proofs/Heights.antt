-- How many steps give a cell its value: down the strata, and in each up or down a tree; behind a link one more.
use Rattle.std.proofs.Common.{◌≡◌, ◌⊎◌, inl, inr, ℕ, zero, suc, ◌+◌, ◌*◌, ◌<◌, ◌≤◌, ◌≢◌, true, false, ◌++◌, List, [], ◌∷◌, Some, refl, sym, ap, subst, ◌∙◌, arith, eq-zero-or-pos}
use Rattle.std.specs.Prelude.{All, Any, IsSome}
use Rattle.ob_base.specs.declared.id.Cell.{Cell}
use Rattle.ob_base.specs.declared.id.FieldNo.{FieldNo}
use Rattle.ob_base.specs.declared.id.ModelNo.{ModelNo}
use Rattle.ob_base.specs.declared.id.RecId.{RecId}
use Rattle.ob_expr.specs.declared.row.Row.{Row}
use Rattle.ob_expr.specs.Meaning.{cell_in, row_at as place_at}
use Rattle.ob_expr.specs.Route.{Route}
use Rattle.ob_expr.specs.TypedTree.{paths_of, typed_tree_of}
use Rattle.ob_schema.specs.declared.info.FieldInfo.{FieldInfo}
use Rattle.ob_schema.specs.declared.info.Formula.{Formula}
use Rattle.ob_schema.specs.declared.info.ModelInfo.{ModelInfo}
use Rattle.ob_schema.specs.declared.info.Origin.{Origin}
use Rattle.ob_schema.specs.declared.info.Origin.TheVariants as origin
use Rattle.ob_schema.specs.declared.info.Path.{Path}
use Rattle.ob_schema.specs.declared.info.Step.{Step}
use Rattle.ob_schema.specs.Fields.{has_value_of}
use Rattle.ob_schema.specs.Models.{DependsOn, IsRegistry, LeadsDown, LeadsUp, ReachesItselfBy, field_at, is_delegated_from, is_given_from, kind_of_info}
use Rattle.ob_schema.specs.Paths.{step_at, steps_along, steps_of_route}
use Rattle.ob_schema.specs.Tied.{HasDepth, IsTied}
use Rattle.ob_schema.specs.Tables.{Fits, Tables, row_at}
use Rattle.ob_tables.proofs.Along.{Leads, along_ends, along_one, end_model, leads-model}
use Rattle.ob_tables.proofs.Climbs.{StandsDown, StandsUp, StepsBy, Tree, Tree-at, climbs, none_down, none_up, steps_down, steps_up}
use Rattle.ob_tables.proofs.Depths.{depth_low, depth_of}
use Rattle.ob_schema.proofs.CallerLemmas.{end-contained}
use Rattle.ob_tables.proofs.Ends.{RouteOf, along-EndsIn, computed_end, depends_or_not, own_end, routed_end, routes_of, same_step}
use Rattle.ob_tables.proofs.KnownFields.{Any-at_all, Field-at, Formula-at, known_at, some_or_none, tell_and, there_is, told_and}
use Rattle.ob_tables.proofs.Stable.{Rules, deep_less, held_by}

module _ (models : List ModelInfo) (tables : Tables) (Good : ℕ → Cell → Type 0) (rules : Rules models tables Good) (registry : IsRegistry models)
    (fits : Fits models tables) (tied : IsTied models tables) where
  module _ (model : ModelNo) (number : FieldNo) (f : FieldInfo) (formula : Formula) (at : field_at models model number ≡ Some f) (from : f.origin ≡ origin.Computed formula) (b : ℕ) (low : 1 ≤ b)
      (lower : (c : Cell) (g : FieldInfo) (theirs : Formula) → field_at models c.model c.field ≡ Some g → g.origin ≡ origin.Computed theirs → theirs.stratum < formula.stratum → Good b c) where
    -- the field itself, as a step
    abbrev own : Step
    own = step_at model number

    -- the field's cell in a row
    abbrev cell_of : RecId → Cell
    cell_of id = record { model = model; id = id; field = number }

    -- one of the formula's paths is this one
    abbrev IsPath : Route → Type 0
    IsPath route = Any (λ path. path.steps ≡ steps_of_route model route) formula.depends

    -- where one of the paths is a route, the formula depends on the field at its end
    depends : (route : Route) → IsPath route → DependsOn formula (step_at (end_model model route.links) route.field)
    depends route (k, path, within, is, same) =
        let ends = along-EndsIn model route.links route.field in
        let last = step_at (end_model model route.links) route.field in
        (k, path, within, is, end-contained path.steps last (ends.0, same ∙ ends.1))

    -- the cell at the end of a path, where the field's own cell there settles
    end_settles : (m : ℕ) → b ≤ m → (route : Route) → RouteOf models model formula route → (end : Row) → end.model ≡ end_model model route.links
        → (IsPath route → step_at (end_model model route.links) route.field ≡ own → Good m (cell_of end.id)) → Good m (cell_in end route.field)
    end_settles m high route known end end_is again =
        let t = told_and (field_at models (end_model model route.links) route.field) (λ info. (kind_of_info info ≡ Some route.kind) × (has_value_of info ≡ true))
        (routed_end models model route.links route.field route.kind known.routed) in
        let there : field_at models end.model route.field ≡ Some t.0 = ap (λ (m : ModelNo). field_at models m route.field) end_is ∙ t.1 in
        by t.0 t.1 there t.0.origin refl
      where
        given : (g : FieldInfo) → field_at models end.model route.field ≡ Some g → is_given_from g.origin ≡ true → Good m (cell_in end route.field)
        given g there is = rules.later 1 m (cell_in end route.field) (omega arith) (rules.given 0 (cell_in end route.field) g there is)

        by : (g : FieldInfo) → field_at models (end_model model route.links) route.field ≡ Some g → field_at models end.model route.field ≡ Some g → (o : Origin) → g.origin ≡ o → Good m (cell_in end route.field)
        by g found there origin.Id is = given g there (ap is_given_from is)
        by g found there origin.Plain is = given g there (ap is_given_from is)
        by g found there (origin.Delegated to) is =
            absurd (let not = known_at (field_at models (end_model model route.links) route.field) g (λ info. is_delegated_from info.origin ≡ false) found (own_end models model route.links route.field known.own) in
            let both : is_delegated_from (origin.Delegated to) ≡ false = sym (ap is_delegated_from is) ∙ not in cc)
        by g found there (origin.Computed theirs) is =
            let right = Formula-at models model number f formula (Field-at models model number f registry at) from in
            let path = computed_end models model f formula route g theirs right known found is in
            elim (same_step (step_at (end_model model route.links) route.field) own) [
              | inl same ↦ (let model_is : model ≡ end.model = sym (end_is ∙ ap (λ (s : Step). s.model) same) in
                  let field_is : number ≡ route.field = sym (ap (λ (s : Step). s.field) same) in
                  let is_cell : cell_of end.id ≡ cell_in end route.field = λ i. record { model = model_is i; id = end.id; field = field_is i } in
                  subst (Good m) is_cell (again path same))
              | inr apart ↦ (let strata = (Field-at models model number f registry at).valid.strata number f formula at from in
                  let less = strata.lower (step_at (end_model model route.links) route.field) theirs (depends route path) (λ same. apart (sym same))
                  (tell_and (field_at models (end_model model route.links) route.field) g (λ field. field.origin ≡ origin.Computed theirs) found is) in
                  rules.later b m (cell_in end route.field) high (lower (cell_in end route.field) g theirs there is less))
            ]

    -- what a step through the tree does to a row of which so many are left: with each way that leads back to the field there are fewer
    abbrev Fewer : (ℕ → RecId → Type 0) → Type 0
    Fewer Stands =
        (route : Route) → RouteOf models model formula route → IsPath route → step_at (end_model model route.links) route.field ≡ own → (n : ℕ) (id : RecId) → Stands (suc n) id → (end : Row)
        → Leads models tables (place_at model id) route.links end → Stands n end.id

    -- where so many steps of its own are left in each row
    climb : (Stands : ℕ → RecId → Type 0) → ((id : RecId) → Stands 0 id → ⊥) → Fewer Stands → (n : ℕ) (id : RecId) → Stands n id → Good (n + b) (cell_of id)
    climb Stands none steps zero id stands = absurd (none id stands)
    climb Stands none steps (suc n) id stands =
        let right = Formula-at models model number f formula (Field-at models model number f registry at) from in
        let tree = typed_tree_of formula.typed in
        let again : (other : RecId) → Stands n other → Good (n + b) (cell_of other) = λ other. climb Stands none steps n other in
        rules.later (suc (n + b)) (suc n + b) (cell_of id) (omega arith)
        (rules.computed (n + b) (cell_of id) f formula (omega arith) at from
        (λ h deep d along.
        let deep_enough = deep_less models tables 1 (n + b) h (omega arith) deep in
        let known = routes_of models model f formula right in
        let one = along_one (held_by h) (place_at model id) (RouteOf models model formula) (paths_of tree) d known along in
        elim (along_ends models tables 0 h deep_enough (place_at model id) one.0.links one.0.field one.0.kind one.1.routed d one.2) [
          | inl plain ↦ rules.later 1 (n + b) d (omega arith) (rules.given 0 d plain.0 plain.1 (ap is_given_from plain.2))
          | inr (end, leads, is) ↦ subst (Good (n + b)) (sym is)
              (end_settles (n + b) (omega arith) one.0 one.1 end (leads-model models tables (place_at model id) one.0.links end leads)
              (λ path same. again end.id (steps one.0 one.1 path same n id stands end leads)))
        ]))

    -- steps of one direction alone leave fewer
    goes : (parent : FieldNo) (tree : Tree models model parent) (Through : Step → Type 0) (Stands : ℕ → RecId → Type 0) → StepsBy models tables registry fits tied model parent tree Through Stands
        → ((n : ℕ) (id : RecId) → Stands n id → Stands (suc n) id) → ReachesItselfBy Through own formula → Fewer Stands
    goes parent tree Through Stands step more by route known path same n id stands end leads =
        let ends = along-EndsIn model route.links route.field in
        let is : steps_along model route.links route.field ≡ ends.0 ++ own ∷ [] = ends.1 ∙ ap (λ (s : Step). ends.0 ++ s ∷ []) same in
        let Ways : Path → Type 0 = λ path. (front : List Step) → path.steps ≡ front ++ own ∷ [] → (front ≢ []) × All Through front in
        let one = Any-at_all (λ (path : Path). path.steps ≡ steps_of_route model route) Ways formula.depends by path in
        let fronts = one.2 ends.0 (one.1 ∙ is) in
        climbs models tables registry fits tied model parent tree Through Stands step more n model id route.links route.field route.kind end own ends.0 refl known.routed is fronts.0 fronts.1 stands leads

    -- a row up its tree, and down
    upward : (parent : FieldNo) (tree : Tree models model parent) → ReachesItselfBy (LeadsUp model parent) own formula → (id : RecId) → StandsUp models tables registry fits tied model parent tree 64 id → Good (64 + b) (cell_of id)
    upward parent tree by =
        climb (StandsUp models tables registry fits tied model parent tree) (none_up models tables registry fits tied model parent tree)
        (goes parent tree (LeadsUp model parent) (StandsUp models tables registry fits tied model parent tree) (steps_up models tables registry fits tied model parent tree)
        (λ n id stands. (stands.0, (stands.1.0, stands.1.1, more stands.1.0 n stands.1.2))) by) 64
      where
        more : (d n : ℕ) → d ≤ n → d ≤ suc n
        more d n le = omega arith

    -- and where it reads itself down
    downward : (parent : FieldNo) (tree : Tree models model parent) → ReachesItselfBy (LeadsDown models model parent) own formula → (id : RecId) → StandsDown models tables registry fits tied model parent tree 64 id
        → Good (64 + b) (cell_of id)
    downward parent tree by =
        climb (StandsDown models tables registry fits tied model parent tree) (none_down models tables registry fits tied model parent tree)
        (goes parent tree (LeadsDown models model parent) (StandsDown models tables registry fits tied model parent tree) (steps_down models tables registry fits tied model parent tree)
        (λ n id stands. (stands.0, (stands.1.0, stands.1.1, more stands.1.0 n stands.1.2))) by) 64
      where
        more : (d n : ℕ) → 65 ≤ d + n → 65 ≤ d + suc n
        more d n le = omega arith

    -- the field's cell in each row
    pub formula_settles : (id : RecId) → Good (64 + b) (cell_of id)
    formula_settles id = elim (some_or_none (row_at tables model id)) [
      | inl none ↦ rules.later 1 (64 + b) (cell_of id) (omega arith) (rules.absent 0 (cell_of id) none)
      | inr some ↦ by (there_is (row_at tables model id) some.0 some.1) (depends_or_not formula own)
    ]
      where
        by : IsSome (row_at tables model id) → DependsOn formula own ⊎ (DependsOn formula own → ⊥) → Good (64 + b) (cell_of id)
        by there (inr not) =
            rules.later (1 + b) (64 + b) (cell_of id) (omega arith)
            (climb (λ n id. 0 < n) (λ id none. omega arith) (λ route known path same n id stands end leads. absurd (not (subst (DependsOn formula) same (depends route path)))) 1 id (omega arith))
        by there (inl depends_on) =
            let field = Field-at models model number f registry at in
            let strata = field.valid.strata number f formula at from in
            let itself = strata.itself depends_on in
            let t = told_and field.info.parent (λ parent. ReachesItselfBy (LeadsUp model parent) own formula ⊎ ReachesItselfBy (LeadsDown models model parent) own formula) itself.1 in
            let parent = t.0 in
            let tree = Tree-at models model parent field.info registry field.model_is t.1 in
            let depth = depth_of models tables fits tied model parent field.info field.model_is t.1 id there in
            let few = depth_low models tables fits tied model parent field.info field.model_is t.1 id depth.0 there depth.1 in
            elim t.2 [
              | inl up ↦ upward parent tree up id (there, (depth.0, depth.1, few))
              | inr down ↦ downward parent tree down id (there, (depth.0, depth.1, far depth.0 (λ none. subst (λ (d : ℕ). HasDepth models tables model parent d id) none depth.1)))
            ]
          where
            far : (d : ℕ) → (d ≡ 0 → ⊥) → 65 ≤ d + 64
            far d some = elim (eq-zero-or-pos d) [ inl none ↦ absurd (some none) | inr low ↦ omega arith ]

  -- by strata: a computed cell of a stratum below this one
  pub computed_settles : (s : ℕ) (c : Cell) (f : FieldInfo) (formula : Formula) → field_at models c.model c.field ≡ Some f → f.origin ≡ origin.Computed formula → formula.stratum < s → Good (64 * s + 1) c
  computed_settles zero c f formula at from low = absurd (omega arith)
  computed_settles (suc s) c f formula at from low =
      rules.later (64 + (64 * s + 1)) (64 * suc s + 1) c (omega arith)
      (formula_settles c.model c.field f formula at from (64 * s + 1) (omega arith) (λ d g theirs there is less. computed_settles s d g theirs there is (below theirs.stratum formula.stratum s less low)) c.id)
    where
      below : (a b s : ℕ) → a < b → b < suc s → a < s
      below a b s less low = omega arith
