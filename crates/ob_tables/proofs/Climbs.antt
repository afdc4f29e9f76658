-- How deep the rows stand to which the links of a formula lead that reads itself, up its tree or down.
use Rattle.std.proofs.Common.{◌≡◌, ℕ, zero, suc, ◌+◌, ◌≤◌, ◌≢◌, true, false, ◌++◌, List, [], ◌∷◌, Option, Some, None, refl, sym, ap, subst, ◌∙◌, arith, eqb-true}
use Rattle.std.specs.Prelude.{All, IfSome, IsSome, IsSomeAnd, is_some, unwrap_or}
use Rattle.std.proofs.lemmas.List.Elements.{All-head, All-tail}
use Rattle.std.specs.FinMap as finite
use Rattle.std.specs.Option.{option_map_or}
use Rattle.ob_base.specs.declared.id.Cell.{Cell}
use Rattle.ob_base.specs.declared.id.FieldNo.{FieldNo}
use Rattle.ob_base.specs.declared.id.ModelNo.{ModelNo}
use Rattle.ob_base.specs.declared.id.RecId.{RecId}
use Rattle.ob_base.specs.declared.value.Value.{Value}
use Rattle.ob_base.specs.declared.value.Value.TheVariants as value
use Rattle.ob_definition.specs.Values.{HasType}
use Rattle.ob_definition.specs.declared.field_type.FieldType.{FieldType}
use Rattle.ob_definition.specs.declared.field_type.FieldType.TheVariants as type
use Rattle.ob_definition.specs.Keys.{is_many2many}
use Rattle.ob_definition.specs.Types.{is_one2many}
use Rattle.ob_expr.specs.declared.kind.Kind.{Kind}
use Rattle.ob_expr.specs.declared.row.Row.{Row}
use Rattle.ob_expr.specs.declared.typed.Link.{Link}
use Rattle.ob_expr.specs.Meaning.{cell_in, row_at as place_at}
use Rattle.ob_expr.specs.Reads.{LeadsTo}
use Rattle.ob_schema.specs.declared.info.FieldInfo.{FieldInfo}
use Rattle.ob_schema.specs.declared.info.ModelInfo.{ModelInfo}
use Rattle.ob_schema.specs.declared.info.Origin.TheVariants as origin
use Rattle.ob_schema.specs.declared.info.Step.{Step}
use Rattle.ob_schema.specs.Models.{FieldHas, HoldsChildren, IsPlainTo, IsRegistry, IsRouted, LeadsDown, LeadsUp, field_at, model_at}
use Rattle.ob_schema.specs.Paths.{step_at, steps_along}
use Rattle.ob_schema.specs.Tied.{HasDepth, IsParentIn, IsTied}
use Rattle.ob_schema.specs.Fields.{IsGivable}
use Rattle.ob_schema.specs.Plain.{names, naming, plain_at, plain_by}
use Rattle.ob_schema.specs.Tables.{Fits, PlainRow, Tables, kept_in, row_at}
use Rattle.ob_tables.proofs.Along.{Leads, plain_is}
use Rattle.ob_tables.proofs.Depths.{depth_down, depth_low, depth_up, up_there}
use Rattle.ob_tables.proofs.KnownFields.{Field-at, is_there, known_at, known_if, tell_and, there_is, told_and}
use Rattle.ob_tables.proofs.NamedBack.{naming-there}
use Rattle.ob_tables.proofs.LedTo.{leads-names, plain_there, step_there}

-- a single step has nothing before it
one_end : (x : Step) (front : List Step) (own : Step) → x ∷ [] ≡ front ++ own ∷ [] → front ≢ [] → ⊥
one_end x [] own is some = some refl
one_end x (s ∷ []) own is some = cc
one_end x (s ∷ t ∷ front) own is some = cc

-- a path has a step
steps_some : (at : ModelNo) (links : List Link) (field : FieldNo) → steps_along at links field ≡ [] → ⊥
steps_some at [] field is = cc
steps_some at (link ∷ links) field is = cc

-- the parent field of a tree
pub record Tree (models : List ModelInfo) (model : ModelNo) (parent : FieldNo) : Type 0 where
  pub info : ModelInfo
  pub model_is : model_at models model ≡ Some info
  pub parent_is : info.parent ≡ Some parent
  pub field : FieldInfo
  pub at : field_at models model parent ≡ Some field
  pub plain : field.origin ≡ origin.Plain
  pub leads : field.relation ≡ Some model
  pub many2one : field.field_type ≡ type.Many2one
  pub inverse : field.inverse ≡ None
  pub mirror : field.mirror ≡ None

-- there is none where nothing is there
none_where : {X : Type 0} (o : Option X) → is_some o ≡ false → o ≡ None
none_where None is = refl
none_where (Some x) is = absurd cc

-- nor where nothing can be
none_unless : {X : Type 0} (o : Option X) → (is_some o ≡ true → ⊥) → o ≡ None
none_unless None not = refl
none_unless (Some x) not = absurd (not refl)

-- a model with a parent field is a tree: the field is a plain many2one of its own, kept in the row
pub Tree-at : (models : List ModelInfo) (model : ModelNo) (parent : FieldNo) (info : ModelInfo) → IsRegistry models → model_at models model ≡ Some info → info.parent ≡ Some parent → Tree models model parent
Tree-at models model parent info registry model_is parent_is =
    let valid = registry.each model info model_is in
    let P : FieldInfo → Type 0 = λ field. IsPlainTo model field × (field.field_type ≡ type.Many2one) in
    let t = told_and (field_at models model parent) P (known_if info.parent parent (FieldHas models P model) parent_is valid.parent) in
    let right = (Field-at models model parent t.0 registry t.1).right in
    record {
      info = info;
      model_is = model_is;
      parent_is = parent_is;
      field = t.0;
      at = t.1;
      plain = plain_is t.0.origin t.2.0.plain;
      leads = t.2.0.leads;
      many2one = t.2.1;
      inverse = none_where t.0.inverse (right.inverse ∙ ap is_one2many t.2.1);
      mirror = none_unless t.0.mirror (λ has. let both : is_many2many type.Many2one ≡ true = sym (ap is_many2many t.2.1) ∙ right.mirror has in cc);
    }

module _ (models : List ModelInfo) (tables : Tables) (registry : IsRegistry models) (fits : Fits models tables) (tied : IsTied models tables) (model : ModelNo) (parent : FieldNo) (tree : Tree models model parent) where
  -- a row names by its parent field its parent alone
  kept_ref : (id : RecId) (row : PlainRow) (other : RecId) → row_at tables model id ≡ Some row → names other (kept_in row parent) ≡ true → kept_in row parent ≡ value.Ref other
  kept_ref id row other there is = by (finite.get row parent.0) refl is
    where
      given : (v : Value) → finite.get row parent.0 ≡ Some v → IsGivable tree.field v
      given v has =
          known_at (field_at models model parent) tree.field (λ info. IsGivable info v) tree.at
          (known_if (finite.get row parent.0) v (λ v. IsSomeAnd (field_at models model parent) (λ info. IsGivable info v)) has
          (known_if (row_at tables model id) row (λ row. IfSome (finite.get row parent.0) (λ v. IsSomeAnd (field_at models model parent) (λ info. IsGivable info v))) there (fits.values model id parent)))

      of : (v : Value) → IsGivable tree.field v → names other v ≡ true → v ≡ value.Ref other
      of (value.Ref id) fit is = (let same : id.0 ≡ other.0 = eqb-true id.0 other.0 is in λ i. value.Ref (record { 0 = same i }))
      of (value.Refs ids) fit is = absurd (subst (λ (t : FieldType). HasType t tree.field.selection (value.Refs ids)) tree.many2one fit)
      of value.Nil fit is = absurd cc
      of (value.Bool b) fit is = absurd cc
      of (value.Int n) fit is = absurd cc
      of (value.Word text) fit is = absurd cc
      of (value.Day n) fit is = absurd cc
      of (value.Moment n) fit is = absurd cc

      by : (o : Option Value) → finite.get row parent.0 ≡ o → names other (unwrap_or o value.Nil) ≡ true → kept_in row parent ≡ value.Ref other
      by None has is = absurd cc
      by (Some v) has is = ap (λ (o : Option Value). unwrap_or o value.Nil) has ∙ of v (given v has) is

  -- the parent field leads to the parent
  pub leads_up : (id other : RecId) → IsSome (row_at tables model id) → LeadsTo (plain_at tables models (record { model = model; id = id; field = parent })) other → IsParentIn models tables model parent id other
  leads_up id other there leads =
      let r = is_there (row_at tables model id) there in
      let c : Cell = record { model = model; id = id; field = parent } in
      let kept : plain_at tables models c ≡ Some (kept_in r.0 parent) =
      plain_there models tables c r.0 tree.field r.1 tree.at tree.plain ∙ ap (λ (o : Option FieldNo). Some (plain_by tables o tree.field.mirror tree.field parent id r.0)) tree.inverse
      ∙ ap (λ (o : Option FieldNo). Some (plain_by tables None o tree.field parent id r.0)) tree.mirror in
      let named : names other (kept_in r.0 parent) ≡ true = leads-names (kept_in r.0 parent) other (subst (λ (o : Option Value). LeadsTo o other) kept leads) in
      tell_and (row_at tables model id) r.0 (λ row. (kept_in row parent ≡ value.Ref other) × IsSome (row_at tables model other)) r.1
      (kept_ref id r.0 other r.1 named, step_there models tables registry tied c r.0 tree.field model other r.1 tree.at tree.plain tree.leads leads)

  -- a field of children leads to them
  pub leads_down : (id child : RecId) (field : FieldNo) (f : FieldInfo) → IsSome (row_at tables model id) → field_at models model field ≡ Some f → f.origin ≡ origin.Plain → HoldsChildren model parent f
      → LeadsTo (plain_at tables models (record { model = model; id = id; field = field })) child → IsParentIn models tables model parent child id
  leads_down id child field f there at from children leads =
      let r = is_there (row_at tables model id) there in
      let c : Cell = record { model = model; id = id; field = field } in
      let kept : plain_at tables models c ≡ Some (value.Refs (naming tables model parent id)) =
      plain_there models tables c r.0 f r.1 at from ∙ ap (λ (o : Option FieldNo). Some (plain_by tables o f.mirror f field id r.0)) children.2
      ∙ ap (λ (o : Option ModelNo). Some (value.Refs (option_map_or (λ target. naming tables target parent id) o []))) children.1 in
      let named = naming-there tables model parent id child (subst (λ (o : Option Value). LeadsTo o child) kept leads) in
      tell_and (row_at tables model child) named.0 (λ row. (kept_in row parent ≡ value.Ref id) × IsSome (row_at tables model id)) named.1 (kept_ref child named.0 id named.1 named.2, there)

  -- ---- so many steps are left

  -- a row up its tree, and down
  abbrev pub StandsUp : ℕ → RecId → Type 0
  StandsUp n id = IsSome (row_at tables model id) × ((d : ℕ) × HasDepth models tables model parent d id × (d ≤ n))

  -- the same, by how much deeper a row may stand
  abbrev pub StandsDown : ℕ → RecId → Type 0
  StandsDown n id = IsSome (row_at tables model id) × ((d : ℕ) × HasDepth models tables model parent d id × (65 ≤ d + n))

  -- one step through such a field
  abbrev pub StepsBy : (Step → Type 0) → (ℕ → RecId → Type 0) → Type 0
  StepsBy Through Stands =
      (link : Link) (n : ℕ) (id other : RecId) → Through (step_at model link.field) → FieldHas models (IsPlainTo link.target) model link.field → Stands (suc n) id
      → LeadsTo (plain_at tables models (record { model = model; id = id; field = link.field })) other → (link.target ≡ model) × Stands n other

  -- a step up leaves one fewer
  pub steps_up : StepsBy (LeadsUp model parent) StandsUp
  steps_up link n id other through has stands leads =
      let at_parent : link.field ≡ parent = ap (λ (s : Step). s.field) through in
      let known = known_at (field_at models model parent) tree.field (IsPlainTo link.target) tree.at (subst (λ (x : FieldNo). FieldHas models (IsPlainTo link.target) model x) at_parent has) in
      let up = leads_up id other stands.0 (subst (λ (x : FieldNo). LeadsTo (plain_at tables models (record { model = model; id = id; field = x })) other) at_parent leads) in
      let higher = depth_up models tables fits tied model parent tree.info tree.model_is tree.parent_is stands.1.0 id other stands.1.1 up in
      let there = up_there models tables fits tied model parent tree.info tree.model_is tree.parent_is id other up in
      let low : higher.0 ≤ n = below stands.1.0 higher.0 n higher.1 stands.1.2 in
      let target : link.target ≡ model = cc (known.leads, tree.leads) in
      (target, (there, (higher.0, higher.2, low)))
    where
      below : (d e n : ℕ) → d ≡ suc e → d ≤ suc n → e ≤ n
      below d e n is low = omega arith

  -- so does a step down
  pub steps_down : StepsBy (LeadsDown models model parent) StandsDown
  steps_down link n id other through has stands leads =
      let t = told_and (field_at models model link.field) (IsPlainTo link.target) has in
      let children = known_at (field_at models model link.field) t.0 (HoldsChildren model parent) t.1 through.1 in
      let up = leads_down id other link.field t.0 stands.0 t.1 (plain_is t.0.origin t.2.plain) children leads in
      let deeper = depth_down models tables fits tied model parent tree.info tree.model_is tree.parent_is stands.1.0 other id stands.1.1 up in
      let there = told_and (row_at tables model other) (λ row. (kept_in row parent ≡ value.Ref id) × IsSome (row_at tables model id)) up in
      let target : link.target ≡ model = cc (t.2.leads, children.1) in
      let far : 65 ≤ suc stands.1.0 + n = beyond stands.1.0 n stands.1.2 in
      (target, (there_is (row_at tables model other) there.0 there.1, (suc stands.1.0, deeper, far)))
    where
      beyond : (d n : ℕ) → 65 ≤ d + suc n → 65 ≤ suc d + n
      beyond d n far = omega arith

  -- where none is left, no row stands
  pub none_up : (id : RecId) → StandsUp 0 id → ⊥
  none_up id stands = by stands.1.0 stands.1.1 stands.1.2
    where
      by : (d : ℕ) → HasDepth models tables model parent d id → d ≤ 0 → ⊥
      by zero has low = has
      by (suc d) has low = omega arith

  -- nor down
  pub none_down : (id : RecId) → StandsDown 0 id → ⊥
  none_down id stands = let low = depth_low models tables fits tied model parent tree.info tree.model_is tree.parent_is id stands.1.0 stands.0 stands.1.1 in let far = stands.1.2 in omega arith

  -- a step from a model that is this one
  one_step : (Through : Step → Type 0) (Stands : ℕ → RecId → Type 0) → StepsBy Through Stands → (n : ℕ) (at : ModelNo) (id : RecId) (link : Link) (other : RecId) (s : Step) → at ≡ model → step_at at link.field ≡ s
      → Through s → FieldHas models (IsPlainTo link.target) at link.field → Stands (suc n) id → LeadsTo (plain_at tables models (cell_in (place_at at id) link.field)) other → (link.target ≡ model) × Stands n other
  one_step Through Stands step n at id link other s same first through has stands leads =
      step link n id other (subst Through (sym first ∙ ap (λ (m : ModelNo). step_at m link.field) same) through) (subst (λ (m : ModelNo). FieldHas models (IsPlainTo link.target) m link.field) same has) stands
      (subst (λ (m : ModelNo). LeadsTo (plain_at tables models (record { model = m; id = id; field = link.field })) other) same leads)

  -- by such steps alone, and by one at least, there are fewer left
  pub climbs : (Through : Step → Type 0) (Stands : ℕ → RecId → Type 0) → StepsBy Through Stands → ((n : ℕ) (id : RecId) → Stands n id → Stands (suc n) id)
      → (n : ℕ) (at : ModelNo) (id : RecId) (links : List Link) (field : FieldNo) (k : Kind) (end : Row) (own : Step) (front : List Step) → at ≡ model → IsRouted models at links field k
      → steps_along at links field ≡ front ++ own ∷ []
      → front ≢ [] → All Through front → Stands (suc n) id → Leads models tables (place_at at id) links end → Stands n end.id
  climbs Through Stands step more n at id [] field k end own front same routed is some all stands leads = absurd (one_end (step_at at field) front own is some)
  climbs Through Stands step more n at id (link ∷ links) field k end own [] same routed is some all stands leads = absurd (some refl)
  climbs Through Stands step more n at id (link ∷ []) field k end own (s ∷ front) same routed is some all stands leads =
      subst (λ (r : Row). Stands n r.id) leads.2 (one_step Through Stands step n at id link leads.0 s same (first is) (All-head Through s front all) routed.0 stands leads.1).1
    where
      first : step_at at link.field ∷ steps_along link.target [] field ≡ s ∷ (front ++ own ∷ []) → step_at at link.field ≡ s
      first is = cc
  climbs Through Stands step more n at id (link ∷ next ∷ links) field k end own (s ∷ front) same routed is some all stands leads =
      let one = one_step Through Stands step n at id link leads.0 s same (first is) (All-head Through s front all) routed.0 stands leads.1 in
      climbs Through Stands step more n link.target leads.0 (next ∷ links) field k end own front one.0 routed.1 (rest is) (λ none. none_behind front none (rest is)) (All-tail Through s front all) (more n leads.0 one.1) leads.2
    where
      first : step_at at link.field ∷ steps_along link.target (next ∷ links) field ≡ s ∷ (front ++ own ∷ []) → step_at at link.field ≡ s
      first is = cc

      rest : step_at at link.field ∷ steps_along link.target (next ∷ links) field ≡ s ∷ (front ++ own ∷ []) → steps_along link.target (next ∷ links) field ≡ front ++ own ∷ []
      rest is = cc

      none_behind : (front : List Step) → front ≡ [] → steps_along link.target (next ∷ links) field ≡ front ++ own ∷ [] → ⊥
      none_behind [] none is = steps_some next.target links field (let end : steps_along next.target links field ≡ [] = cc in end)
      none_behind (x ∷ front) none is = absurd cc
