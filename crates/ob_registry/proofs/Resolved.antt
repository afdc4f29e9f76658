-- What a model's keys and a field's keys name is there, where nothing stands against the models.
use Rattle.std.proofs.Common.{◌≡◌, ℕ, suc, ◌⊎◌, ◌++◌, true, false, Option, Some, None, List, [], get_or, inl, inr, refl, sym, ap, subst, ◌∙◌}
use Rattle.std.specs.Prelude.{Any, Contains, IfSome, IsSome, IsSomeAnd, MatchOption, option_map, slice_get}
use Rattle.std.specs.List.{position_or_len}
use Rattle.std.specs.Str.{bytes_eq}
use Rattle.std.proofs.lemmas.Bool.{false≢true}
use Rattle.std.proofs.lemmas.List.Elements.{Contains-append_left, Contains-append_right}
use Rattle.std.proofs.lemmas.List.Folds.{find_at}
use Rattle.ob_base.specs.declared.id.FieldNo.{FieldNo}
use Rattle.ob_base.specs.declared.id.ModelNo.{ModelNo}
use Rattle.ob_base.specs.Syntax.{Tree}
use Rattle.ob_expr.specs.declared.typed.Typed.{Typed}
use Rattle.ob_expr.specs.TypedTree.{TypedTree, typed_tree_of}
use Rattle.ob_definition.specs.declared.definition.FieldDef.{FieldDef}
use Rattle.ob_definition.specs.declared.fault.SchemaFault.{SchemaFault}
use Rattle.ob_definition.specs.declared.wrong.Wrong.{Wrong}
use Rattle.ob_definition.specs.declared.wrong.Wrong.TheVariants as wrong
use Rattle.ob_definition.specs.Findings.{IsFaultAt, fault_at}
use Rattle.ob_definition.specs.Gathered.{DeclaredOrder, Gathered, model_of}
use Rattle.ob_definition.specs.Members.{Member, hidden_members, is_own_computed, members_of, model_at, named, own_members}
use Rattle.ob_definition.specs.Orders.{Term, order_terms}
use Rattle.ob_definition.specs.Rooms.{spot_at}
use Rattle.ob_registry.specs.declared.formulas.DraftFormula.{DraftFormula}
use Rattle.ob_schema.specs.declared.info.Formula.{Formula}
use Rattle.ob_registry.specs.declared.model.Model.{Model as KeptModel}
use Rattle.ob_registry.specs.Building.{ArePlaced, AreResolved, IsFieldResolved, IsResolved, formula_from}
use Rattle.ob_schema.specs.Built.{IsFormula}
use Rattle.ob_registry.specs.Faults.{HasUnknown, HasUnknownBack, names_of_terms}
use Rattle.ob_schema.specs.Formulas.{HasFormula, Place}
use Rattle.ob_registry.specs.ModelFields.{members_in}
use Rattle.ob_registry.specs.Modelling.{IsModelled}
use Rattle.ob_schema.specs.Paths.{step_at}
use Rattle.ob_schema.specs.Strata.{IsStratum}
use Rattle.ob_registry.specs.Telling.{AreKeysWrong, IsFormulaOf, IsFormulaWrong, IsKeyFault, IsParentWrong, IsReadingWrong, IsRight, spot_of, steps_in}
use Rattle.ob_registry.proofs.Delegated.{member_cases}
use Rattle.ob_registry.proofs.NamedFields.{is_member_at, member_at}
use Rattle.ob_registry.proofs.Somes.{read_within}

pub any_of : {X : Type 0} (P : X → Type 0) (xs : List X) (x : X) → Contains xs x → P x → Any P xs
any_of P xs x (k, within, is) holds = (k, x, within, is, holds)

reading_wrong : (p : Place) (w : Wrong) → IsReadingWrong p w → IsFormulaWrong p w
reading_wrong p wrong.Field is = inl is
reading_wrong p wrong.Kind is = is
reading_wrong p wrong.Limit is = inl is
reading_wrong p (wrong.Text why) is = is
reading_wrong p wrong.Model is = absurd is
reading_wrong p wrong.Twice is = absurd is
reading_wrong p wrong.Cycle is = absurd is
reading_wrong p wrong.Recursion is = absurd is
reading_wrong p wrong.Path is = absurd is
reading_wrong p wrong.Inverse is = absurd is
reading_wrong p wrong.Inherits is = absurd is

module _ (models : List Gathered) (resolved : AreResolved models) where
  -- the model of a name has a number
  pub model_placed : (name : List ℕ) (g : Gathered) → model_of models name ≡ Some g → (number : ModelNo) × (model_at models number.0 ≡ Some g)
  model_placed name g found =
      let number : ModelNo = record { 0 = suc (position_or_len (λ (m : Gathered). bytes_eq m.name name) models) } in
      (number, sym (find_at (λ (m : Gathered). bytes_eq m.name name) models) ∙ found)

  module _ (number : ModelNo) (g : Gathered) (there : model_at models number.0 ≡ Some g) where
    abbrev pub place_of : Member → Place
    place_of m = record { models = models; number = number; member = m }

    -- no key of the model is wrong, and no key of its fields
    pub right_key : (why : SchemaFault) → IsKeyFault models number g why → ⊥
    right_key why fault = resolved.keys why (number, g, there, inl fault)

    pub right_field : (m : Member) → Contains (own_members models g) m ⊎ Contains (hidden_members g) m → (w : Wrong) → AreKeysWrong (place_of m) w → ⊥
    right_field m here w is = resolved.keys (fault_at w (spot_of m)) (number, g, there, inr (any_of _ (own_members models g ++ hidden_members g) m (among here) (w, is, refl)))
      where
        among : Contains (own_members models g) m ⊎ Contains (hidden_members g) m → Contains (own_members models g ++ hidden_members g) m
        among (inl mine) = Contains-append_left (own_members models g) (hidden_members g) m mine
        among (inr hidden) = Contains-append_right (own_members models g) (hidden_members g) m hidden

    pub right_formula : (m : Member) → Contains (members_of models g) m ⊎ Contains (hidden_members g) m → (w : Wrong) → IsFormulaWrong (place_of m) w → ⊥
    right_formula m here w is = resolved.formulas (fault_at w (spot_of m)) (number, g, there, any_of _ (members_of models g ++ hidden_members g) m (among here) (w, is, refl))
      where
        among : Contains (members_of models g) m ⊎ Contains (hidden_members g) m → Contains (members_of models g ++ hidden_members g) m
        among (inl named) = Contains-append_left (members_of models g) (hidden_members g) m named
        among (inr hidden) = Contains-append_right (members_of models g) (hidden_members g) m hidden

    parent_resolved : (o : Option (List ℕ)) → g.parent ≡ o → IfSome o (λ name. IsSome (named (members_of models g) name))
    parent_resolved None e = tt
    parent_resolved (Some name) e = by (named (members_of models g) name) refl
      where
        by : (found : Option Member) → named (members_of models g) name ≡ found → IsSome found
        by (Some m) f = refl
        by None f =
            let spot = spot_at g.entry [] in
            let told : IsFaultAt spot (IsParentWrong models number (named (members_of models g) name)) (fault_at wrong.Field spot) = (wrong.Field, f, refl) in
            let P : Option (List ℕ) → Type 0 = λ o. IsSomeAnd o (λ name. IsFaultAt spot (IsParentWrong models number (named (members_of models g) name)) (fault_at wrong.Field spot)) in
            absurd (right_key (fault_at wrong.Field spot) (inr (inl (subst P (sym e) told))))

    order_resolved : (o : Option DeclaredOrder) → g.order ≡ o → IfSome o (λ o. IsSomeAnd (order_terms o.text) (λ terms. HasUnknown (members_of models g) (names_of_terms terms) → ⊥))
    order_resolved None e = tt
    order_resolved (Some o) e = by (order_terms o.text) refl
      where
        by : (found : Option (List Term)) → order_terms o.text ≡ found → IsSomeAnd found (λ terms. HasUnknown (members_of models g) (names_of_terms terms) → ⊥)
        by None f = right_key (fault_at wrong.Kind (spot_at o.entry [])) (inr (inr (inr (rw e (wrong.Kind, inl f, refl)))))
        by (Some terms) f = λ unknown. right_key (fault_at wrong.Field (spot_at o.entry [])) (inr (inr (inr (rw e (wrong.Field, (rw f unknown), refl)))))

    pub model_resolved : IsResolved models g
    model_resolved = record {
      parent = parent_resolved g.parent refl;
      unique = λ k d within unknown.
          let u = get_or g.unique k d in
          right_key (fault_at wrong.Field (spot_at u.entry [])) (inr (inr (inl (k, u, within, read_within g.unique k u d within, (wrong.Field, unknown, refl)))));
      order = order_resolved g.order refl;
    }

  own_back : (number : ModelNo) (g : Gathered) → model_at models number.0 ≡ Some g → (m : Member) → Contains (own_members models g) m ⊎ Contains (hidden_members g) m
      → (HasUnknownBack (record { models = models; number = number; member = m }) m.def.inverse → ⊥) × (HasUnknownBack (record { models = models; number = number; member = m }) m.def.mirror → ⊥)
  own_back number g there m here = ((λ unknown. right_field number g there m here wrong.Field (inl unknown)), (λ unknown. right_field number g there m here wrong.Field (inr unknown)))

  -- the fields back that a field's keys name are there, a delegated one's too
  pub back_resolved : (number : ModelNo) (g : Gathered) → model_at models number.0 ≡ Some g → (m : Member) → Contains (members_of models g) m ⊎ Contains (hidden_members g) m
      → (HasUnknownBack (record { models = models; number = number; member = m }) m.def.inverse → ⊥) × (HasUnknownBack (record { models = models; number = number; member = m }) m.def.mirror → ⊥)
  back_resolved number g there m (inr hidden) = own_back number g there m (inr hidden)
  back_resolved number g there m (inl here) = elim (member_cases models g m here) [
    | inl mine ↦ own_back number g there m (inl mine)
    | inr through ↦
        (let from = through.3 in
        let placed = model_placed through.0.model from.parent from.there in
        let back = own_back placed.0 from.parent placed.1 from.source (inl from.among) in
        let P : FieldDef → Type 0 = λ f.
        (HasUnknownBack (record { models = models; number = number; member = record m { def = f } }) f.inverse → ⊥) × (HasUnknownBack (record { models = models; number = number; member = record m { def = f } }) f.mirror → ⊥) in
        subst P from.def back)
  ]

  module _ (number : ModelNo) (g : Gathered) (there : model_at models number.0 ≡ Some g) where
    abbrev place_at : Member → Place
    place_at m = record { models = models; number = number; member = m }

    -- a computed field has its formula
    formula_there : (m : Member) → Contains (members_of models g) m ⊎ Contains (hidden_members g) m → (formula : Option DraftFormula) → IsFormulaOf (place_at m) formula
        → is_own_computed m ≡ true → (tree : Tree) × (typed : TypedTree) × HasFormula (place_at m) tree typed
    formula_there m here None plain computed = absurd (false≢true (sym plain ∙ computed))
    formula_there m here (Some draft) of computed = by draft.typed of.typed
      where
        by : (o : Option Typed) → MatchOption o ((w : Wrong) × IsReadingWrong (place_at m) w) (IsRight (place_at m) (steps_in draft.depends))
            → (tree : Tree) × (typed : TypedTree) × HasFormula (place_at m) tree typed
        by None told = absurd (right_formula number g there m here told.0 (reading_wrong (place_at m) told.0 told.1))
        by (Some typed) right = (right.0, typed_tree_of typed, right.1)

    pub field_resolved : (m : Member) → Contains (members_of models g) m ⊎ Contains (hidden_members g) m → (formula : Option DraftFormula) → IsFormulaOf (place_at m) formula → IsFieldResolved (place_at m)
    field_resolved m here formula of =
        let back = back_resolved number g there m here in
        record { inverse = back.0; mirror = back.1; formula = formula_there m here formula of }

    formula_placed : (m : Member) → Contains (members_of models g) m ⊎ Contains (hidden_members g) m → (field : FieldNo) (formula : Option DraftFormula) → IsFormulaOf (place_at m) formula
        → ((draft : DraftFormula) → formula ≡ Some draft → IsStratum models (step_at number field) draft.stratum)
        → MatchOption (formula_from formula) (is_own_computed m ≡ false) (IsFormula (place_at m) field)
    formula_placed m here field None plain strata = plain
    formula_placed m here field (Some draft) of strata = by draft.typed of.typed
      where
        by : (o : Option Typed) → MatchOption o ((w : Wrong) × IsReadingWrong (place_at m) w) (IsRight (place_at m) (steps_in draft.depends))
            → MatchOption (option_map (λ t. let own : Formula = record { typed = t; depends = draft.depends; stratum = draft.stratum } in own) o) (is_own_computed m ≡ false) (IsFormula (place_at m) field)
        by None told = absurd (right_formula number g there m here told.0 (reading_wrong (place_at m) told.0 told.1))
        by (Some typed) right = record { tree = right.0; has = right.1; depends = right.2; stratum = strata draft refl }

    -- each field of the program's model stands at its number, with its formula
    pub are_placed : (model : KeptModel) (is : IsModelled models g model) (own : List (Option DraftFormula))
        → ((k : ℕ) (m : Member) (formula : Option DraftFormula) → slice_get (members_in model.members.items) k ≡ Some m → slice_get own k ≡ Some formula → IsFormulaOf (place_at m) formula)
        → ((k : ℕ) (formula : DraftFormula) → slice_get own k ≡ Some (Some formula) → IsStratum models (step_at number (record { 0 = suc k })) formula.stratum)
        → ArePlaced models model own g number
    are_placed model is own formulas strata k m formula at given =
        let field : FieldNo = record { 0 = suc k } in
        let here = among m (member_at models g model is (suc k) m at) in
        let of = formulas k m formula at given in
        record {
          modelled = is;
          there = there;
          member = is_member_at models g model is (step_at number field) m there at;
          resolved = field_resolved m here formula of;
          formula = formula_placed m here field formula of (λ f e. strata k f (given ∙ ap (λ (o : Option DraftFormula). Some o) e));
        }
      where
        among : {A B : Type 0} (m : Member) → (Contains (members_of models g) m × A) ⊎ (Contains (hidden_members g) m × B) → Contains (members_of models g) m ⊎ Contains (hidden_members g) m
        among m (inl named) = inl named.0
        among m (inr hidden) = inr hidden.0
