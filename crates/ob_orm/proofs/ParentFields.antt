-- What is given to a row's parents: typed values, and the rows of parents that are made of them or changed.
use Rattle.std.proofs.Common.{◌≡◌, ◌==◌, ◌<◌, ◌-◌, ◌∷◌, [], ◌++◌, ◌+◌, ℕ, Bool, true, false, cond, List, append-nil, get_or, length, take, Option, Some, None, eqb-true, refl, sym, ap, subst, ◌∙◌}
use Rattle.std.specs.Prelude.{All, IsSomeAnd, OnOk, Result, Ok, Err, option_and_then, option_map}
use Rattle.std.specs.List.{cons_option}
use Rattle.std.specs.Option.{option_map_or}
use Rattle.std.proofs.lemmas.List.{take_more}
use Rattle.std.proofs.lemmas.List.Elements.{filter_map-append, All-append, All-contains, All-head, All-map, All-tail, All-weaker}
use Rattle.std.proofs.lemmas.Option.{same_Some}
use Rattle.ob_base.specs.declared.id.FieldNo.{FieldNo}
use Rattle.ob_base.specs.declared.id.ModelNo.{ModelNo}
use Rattle.ob_base.specs.declared.id.RecId.{RecId}
use Rattle.ob_base.specs.declared.value.Value.{Value}
use Rattle.ob_base.specs.declared.value.Value.TheVariants as value
use Rattle.ob_definition.specs.Values.{HasType}
use Rattle.ob_definition.specs.declared.field_type.Choice.{Choice}
use Rattle.ob_definition.specs.declared.field_type.FieldType.{FieldType}
use Rattle.ob_definition.specs.declared.field_type.FieldType.TheVariants as type
use Rattle.ob_definition.specs.declared.field_type.OnDelete.TheVariants as ondelete
use Rattle.ob_schema.specs.Fields.{HasFieldType, IsGivable}
use Rattle.ob_schema.specs.Models.{HasKeysOf, IsModel, IsOriginIn, IsParentIn, IsPlainTo, IsRegistry, FieldHas, field_at}
use Rattle.ob_schema.specs.declared.info.FieldInfo.{FieldInfo}
use Rattle.ob_schema.specs.declared.info.ModelInfo.{ModelInfo}
use Rattle.ob_schema.specs.declared.info.Origin.{Origin}
use Rattle.ob_schema.specs.declared.info.Origin.TheVariants as origin
use Rattle.ob_schema.specs.declared.info.ParentInfo.{ParentInfo}
use Rattle.ob_tables.proofs.CallerLemmas.{Field-at}
use Rattle.ob_tables.specs.Fitting.{AreFitIn, IsFitId, IsFitIn}
use Rattle.ob_tables.specs.declared.edit.Edit.{Edit}
use Rattle.ob_orm.specs.NewRows.{Values, behind, changed_values, field_behind, field_behind_from, filled, linked, parent_change, row_edits, row_named, value_for}
use Rattle.ob_orm.specs.NewRowSteps.{IsLowRef, IsTyped, MayFit}
use Rattle.ob_rows.specs.declared.author.Author.{Author}
use Rattle.ob_orm.proofs.WriteEdits.{fits_each, one_edit}

-- ---- a value among typed ones

same_number : (a b : FieldNo) → a.0 ≡ b.0 → a ≡ b
same_number a b e = ap (λ (n : ℕ). record { 0 = n }) e

module _ (models : List ModelInfo) (model : ModelNo) where
  -- the value that is given for a number
  pub value-typed : (given : Values) (number : FieldNo) (v : Value) → All (IsTyped models model) given → value_for given number.0 ≡ Some v → IsTyped models model (number, v)
  value-typed [] number v typed found = absurd cc
  value-typed (one ∷ given) number v typed found = by (one.0.0 == number.0) refl (value-typed given number v (All-tail (IsTyped models model) one given typed)) found where
    by : (b : Bool) → (one.0.0 == number.0) ≡ b → (value_for given number.0 ≡ Some v → IsTyped models model (number, v)) → cond b (Some one.1) (value_for given number.0) ≡ Some v → IsTyped models model (number, v)
    by true same later found =
        let is : one.1 ≡ v = same_Some one.1 v found in
        let own : IsTyped models model (one.0, one.1) = All-head (IsTyped models model) one given typed in
        subst (λ (w : Value). IsTyped models model (number, w)) is (subst (λ (n : FieldNo). IsTyped models model (n, one.1)) (same_number one.0 number (eqb-true one.0.0 number.0 same)) own)
    by false other later found = later found

  -- a row that a link names has an id below the last
  pub linked-low : (given : Values) (link : FieldNo) (id : RecId) → All (IsTyped models model) given → linked given link ≡ Some id → IsFitId id
  linked-low given link id typed found = by (value_for given link.0) refl found where
    of_value : (v : Value) → row_named v ≡ Some id → IsLowRef v → IsFitId id
    of_value (value.Ref own) is low = subst IsFitId (same_Some own id is) low
    of_value _ is low = absurd cc

    by : (o : Option Value) → value_for given link.0 ≡ o → option_and_then row_named o ≡ Some id → IsFitId id
    by None at found = absurd cc
    by (Some v) at found = of_value v found (value-typed given link v typed at).1

-- ---- the parent behind a link

module _ (models : List ModelInfo) (registry : IsRegistry models) (model : ModelNo) (parent : ParentInfo) (leads : IsParentIn models model parent) where
  -- parents with one link are one model's
  same_model : (other : ParentInfo) → IsParentIn models model other → other.link ≡ parent.link → other.model ≡ parent.model
  same_model other own same = by (field_at models model parent.link) leads.link (subst (λ (l : FieldNo). FieldHas models (λ field. IsPlainTo other.model field) model l) same (weaker (field_at models model other.link) own.link)) where
    weaker : (o : Option FieldInfo) → IsSomeAnd o (λ field. IsPlainTo other.model field × (field.field_type ≡ type.Many2one) × (field.required ≡ true) × (field.ondelete ≡ ondelete.Cascade)) → IsSomeAnd o (λ field. IsPlainTo other.model field)
    weaker None h = absurd h
    weaker (Some f) h = h.0

    by : (o : Option FieldInfo) → IsSomeAnd o (λ field. IsPlainTo parent.model field × (field.field_type ≡ type.Many2one) × (field.required ≡ true) × (field.ondelete ≡ ondelete.Cascade)) → IsSomeAnd o (λ field. IsPlainTo other.model field) → other.model ≡ parent.model
    by None h k = absurd h
    by (Some f) h k = same_Some other.model parent.model (sym k.leads ∙ h.0.leads)

  -- a value of a delegated field is one of the parent's field
  target-typed : (number field : FieldNo) (v : Value) → field_behind models model parent.link number ≡ Some field → HasFieldType (field_at models model number) v → HasFieldType (field_at models parent.model field) v
  target-typed number field v found typed = by (field_at models model number) refl found typed where
    of_keys : (f : FieldInfo) (o : Option FieldInfo) → IsSomeAnd o (λ other. HasKeysOf other f) → IsGivable f v → HasFieldType o v
    of_keys f None has own = absurd has
    of_keys f (Some other) has own = subst (λ (t : FieldType). HasType t other.selection v) (sym has.field_type) (subst (λ (cs : List Choice). HasType f.field_type cs v) (sym has.selection) own)

    of_origin : (f : FieldInfo) (info : ModelInfo) (o : Origin) → IsModel models model info → IsOriginIn models model info f o → field_behind_from parent.link o ≡ Some field → IsGivable f v → HasFieldType (field_at models parent.model field) v
    of_origin f info (origin.Delegated at) valid right found own = by_link (at.link.0 == parent.link.0) refl found where
      by_link : (b : Bool) → (at.link.0 == parent.link.0) ≡ b → cond b (Some at.field) None ≡ Some field → HasFieldType (field_at models parent.model field) v
      by_link true same is =
          let (k, other, inside, among, said) = right.link in
          let to : at.model ≡ parent.model = sym said.1 ∙ same_model other (All-contains (IsParentIn models model) info.inherits other valid.parents (k, inside, among)) (said.0 ∙ same_number at.link parent.link (eqb-true at.link.0 parent.link.0 same)) in
          subst (λ (m : ModelNo). HasFieldType (field_at models m field) v) to
          (subst (λ (n : FieldNo). HasFieldType (field_at models at.model n) v) (same_Some at.field field is) (of_keys f (field_at models at.model at.field) right.target own))
      by_link false other is = absurd cc
    of_origin f info _ valid right found own = absurd cc

    by : (o : Option FieldInfo) → field_at models model number ≡ o → option_and_then (λ f. field_behind_from parent.link f.origin) o ≡ Some field → HasFieldType o v → HasFieldType (field_at models parent.model field) v
    by None at found typed = absurd cc
    by (Some f) at found typed =
        let known = Field-at models model number f registry at in
        of_origin f known.info f.origin known.valid known.right.origin found typed

  -- one value more for the parent
  pub behind-typed : (number field : FieldNo) (v : Value) → field_behind models model parent.link number ≡ Some field → IsTyped models model (number, v) → IsTyped models parent.model (field, v)
  behind-typed number field v found typed = (target-typed number field v found typed.0, typed.1)

  -- the link may name a row
  pub link-typed : (id : RecId) → IsFitId id → IsTyped models model (parent.link, value.Ref id)
  link-typed id low = (by (field_at models model parent.link) leads.link, low) where
    by : (o : Option FieldInfo) → IsSomeAnd o (λ field. IsPlainTo parent.model field × (field.field_type ≡ type.Many2one) × (field.required ≡ true) × (field.ondelete ≡ ondelete.Cascade)) → HasFieldType o (value.Ref id)
    by None h = absurd h
    by (Some f) h = subst (λ (t : FieldType). HasType t f.selection (value.Ref id)) (sym h.1) tt

-- ---- one value behind another

module _ (models : List ModelInfo) (model : ModelNo) (link : FieldNo) (given : Values) (i : ℕ) (one : FieldNo × Value) (lt : i < length given) (is : one ≡ get_or given i one) where
  -- what the value gives the parent
  abbrev gives : Option FieldNo → Values
  gives o = cons_option (option_map (λ field. (field, one.1)) o) []

  more : behind models model link (take (i + 1) given) ≡ behind models model link (take i given) ++ gives (field_behind models model link one.0)
  more =
      ap (behind models model link) (take_more given i one lt ∙ ap (λ (x : FieldNo × Value). take i given ++ x ∷ []) (sym is))
      ∙ filter_map-append (λ (x : FieldNo × Value). option_map (λ field. (field, x.1)) (field_behind models model link x.0)) (take i given) (one ∷ [])

  pub behind-pushed : (values new : Values) (field : FieldNo) (v : Value) → new ≡ values ++ (field, v) ∷ [] → v ≡ one.1 → field_behind models model link one.0 ≡ Some field → values ≡ behind models model link (take i given)
      → new ≡ behind models model link (take (i + 1) given)
  behind-pushed values new field v pushed same found far =
      pushed ∙ ap (λ (w : Value). values ++ (field, w) ∷ []) same ∙ ap (λ (vs : Values). vs ++ (field, one.1) ∷ []) far
      ∙ sym (more ∙ ap (λ (o : Option FieldNo). behind models model link (take i given) ++ gives o) found)

  pub behind-passed : (values : Values) → field_behind models model link one.0 ≡ None → values ≡ behind models model link (take i given) → values ≡ behind models model link (take (i + 1) given)
  behind-passed values found far = far ∙ sym (more ∙ ap (λ (o : Option FieldNo). behind models model link (take i given) ++ gives o) found ∙ append-nil (behind models model link (take i given)))

-- ---- a parent that is changed

module _ (models : List ModelInfo) (by : Author) (model : ModelNo) (parent : ParentInfo) (given : Values) where
  abbrev change_by : Option RecId → List Edit
  change_by o = option_map_or (λ id. row_edits parent.model (changed_values models by parent.model (behind models model parent.link given)) id.0) o []

  -- nor does one behind which nothing is given
  pub change-empty : (values : Values) → values ≡ behind models model parent.link given → values ≡ [] → parent_change models by model given parent ≡ []
  change-empty values are none = ap (λ (vs : Values). option_map_or (λ id. row_edits parent.model (changed_values models by parent.model vs) id.0) (linked given parent.link) []) (sym are ∙ none) ∙ each (linked given parent.link) where
    each : (o : Option RecId) → option_map_or (λ id. row_edits parent.model [] id.0) o [] ≡ []
    each None = refl
    each (Some id) = refl

  some_values : (vs : Values) → (vs ≡ [] → ⊥) → changed_values models by parent.model vs ≡ filled models by false parent.model vs
  some_values [] some = absurd (some refl)
  some_values (v ∷ vs) some = refl

-- edits that set fitting values may be asked for
pub sets-fit : (models : List ModelInfo) (model : ModelNo) (values : Values) (id : RecId) → AreFitIn models model values → IsFitId id → All (MayFit models) (row_edits model values id.0)
sets-fit models model values id fit low =
    All-map (MayFit models) (one_edit model id.0) values
    (All-weaker (λ given. FieldHas models (λ field. IsFitIn field given.1) model given.0) (λ given. MayFit models (one_edit model id.0 given)) (λ given is. (low, is)) values (fits_each models model values fit))

-- behind others too
pub sets-pushed : {X E : Type 0} (r : Result X E) (models : List ModelInfo) (old added new : List Edit) → All (MayFit models) added → OnOk r (new ≡ old ++ added) → OnOk r (All (MayFit models) old → All (MayFit models) new)
sets-pushed (Ok x) models old added new fit is = λ before. subst (All (MayFit models)) (sym is) (All-append (MayFit models) old added before fit)
sets-pushed (Err e) models old added new fit is = tt
