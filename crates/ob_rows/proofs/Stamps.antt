-- Fields that an author stamps may be given their stamps.
use Rattle.std.proofs.Common.{◌≡◌, ℕ, ◌+◌, ◌<◌, ◌||◌, ◌&&◌, Bool, true, false, cond, List, length, get_or, map, codes, Option, Some, refl, sym, ap, subst, ◌∙◌, arith, inl, inr, true≢false}
use Rattle.std.specs.Prelude.{Any, Contains, IfSome, slice_get}
use Rattle.std.specs.Cmp.Lexicographic.{slice_cmp}
use Rattle.std.specs.Ordering.{nat_cmp}
use Rattle.std.specs.Str.{bytes_eq}
use Rattle.std.specs.declared.cmp.Ordering.TheVariants.{Less, Equal}
use Rattle.std.proofs.lemmas.Bool.{cases_lt, false≢true}
use Rattle.std.proofs.lemmas.Cmp.{nat_list_cmp_total, tied_itself}
use Rattle.std.proofs.lemmas.List.{get_or-map, length-map}
use Rattle.std.proofs.lemmas.Option.{get_or_from_slice_get, slice_get_within}
use Rattle.std.proofs.lemmas.Slice.Eq.{bytes_eq-Decides}
use Rattle.ob_base.specs.Times.{IsMoment}
use Rattle.ob_base.specs.declared.id.ModelNo.{ModelNo}
use Rattle.ob_base.specs.declared.value.Value.{Value}
use Rattle.ob_base.specs.declared.value.Value.TheVariants as value
use Rattle.ob_call.proofs.CallerLemmas.{slice_get-before}
use Rattle.ob_definition.specs.Members.{moment_def}
use Rattle.ob_definition.specs.Values.{HasType}
use Rattle.ob_definition.specs.declared.definition.FieldDef.{FieldDef}
use Rattle.ob_definition.specs.declared.field_type.FieldType.{FieldType}
use Rattle.ob_definition.specs.declared.field_type.FieldType.TheVariants as type
use Rattle.ob_schema.specs.Fields.{HasFieldType, IsGivable}
use Rattle.ob_schema.specs.Models.{IsField, IsModel, field_at, fields_of, is_moment, is_user, model_at}
use Rattle.ob_schema.specs.declared.info.FieldInfo.{FieldInfo}
use Rattle.ob_schema.specs.declared.info.ModelInfo.{ModelInfo}
use Rattle.ob_rows.specs.Author.{is_stamp, stamp}
use Rattle.ob_rows.specs.Makeable.{IsMakeable}
use Rattle.ob_rows.specs.declared.author.Author.{Author}
use Rattle.ob_rows.proofs.PlacedFields.{All-at, step_in, tell, told}

-- ---- the field of a name

-- the name of a field at a place
name_at : (fields : List FieldInfo) (i : ℕ) (d : FieldInfo) → i < length fields → get_or (map (λ field. field.name) fields) i d.name ≡ (get_or fields i d).name
name_at fields i d lt = get_or-map (λ (field : FieldInfo). field.name) fields i d d.name lt

-- no two fields have one name
in_order : (models : List ModelInfo) (model : ModelNo) (info : ModelInfo) (i j : ℕ) (d : FieldInfo) → IsModel models model info → i < j → j < length info.fields
    → (get_or info.fields i d).name ≡ (get_or info.fields j d).name → ⊥
in_order models model info i j d valid lt inside same =
    let names = map (λ (field : FieldInfo). field.name) info.fields in
    let less : slice_cmp nat_cmp (get_or names i d.name) (get_or names j d.name) ≡ Less = valid.ordered i j d.name lt (omega (arith, length-map info.fields (λ (field : FieldInfo). field.name))) in
    let alike : get_or names i d.name ≡ get_or names j d.name = name_at info.fields i d (omega arith) ∙ same ∙ sym (name_at info.fields j d inside) in
    let tied : slice_cmp nat_cmp (get_or names j d.name) (get_or names j d.name) ≡ Equal = tied_itself nat_list_cmp_total (get_or names j d.name) in
    let two : Less ≡ Equal = sym less ∙ ap (λ (n : List ℕ). slice_cmp nat_cmp n (get_or names j d.name)) alike ∙ tied in
    cc

-- a field of a name is the one of it
one_of_name : (models : List ModelInfo) (model : ModelNo) (info : ModelInfo) (i : ℕ) (f g : FieldInfo) → IsModel models model info
    → slice_get info.fields i ≡ Some f → Contains info.fields g → f.name ≡ g.name → f ≡ g
one_of_name models model info i f g valid at (k, inside, is) same =
    let lt = slice_get_within info.fields i f at in
    let here : get_or info.fields i g ≡ f = get_or_from_slice_get info.fields i f g at in
    elim (cases_lt i k) [
      | inl before ↦ absurd (in_order models model info i k g valid before inside (ap (λ (h : FieldInfo). h.name) here ∙ same ∙ sym (ap (λ (h : FieldInfo). h.name) is)))
      | inr after ↦ elim (cases_lt k i) [
        | inl later ↦ absurd (in_order models model info k i g valid later lt (ap (λ (h : FieldInfo). h.name) is ∙ sym same ∙ sym (ap (λ (h : FieldInfo). h.name) here)))
        | inr tied ↦ (let e : i ≡ k = omega arith in sym here ∙ ap (λ (n : ℕ). get_or info.fields n g) e ∙ is)
      ]
    ]

-- ---- which stamp a field takes

-- one that is no moment is a user
user_else : (made a b c d : Bool) → (made && (a || (b || false)) || (c || (d || false))) ≡ true → (a || (c || false)) ≡ false → (b || (d || false)) ≡ true
user_else made true b c d stamped date = absurd (true≢false date)
user_else made false true c d stamped date = refl
user_else made false false true d stamped date = absurd (true≢false date)
user_else made false false false true stamped date = refl
user_else true false false false false stamped date = absurd (false≢true stamped)
user_else false false false false false stamped date = absurd (false≢true stamped)

module _ (models : List ModelInfo) (model : ModelNo) (info : ModelInfo) (i : ℕ) (f : FieldInfo) (valid : IsModel models model info) (at : slice_get info.fields i ≡ Some f) where
  -- what is known of the field
  right : IsField models model info f
  right = All-at (IsField models model info) (fields_of info) i f (slice_get-before info.fields info.hidden i f at) valid.fields

  -- a moment is a datetime
  moment_type : is_moment f.name ≡ true → f.field_type ≡ type.Datetime
  moment_type date = by (bytes_eq f.name (codes "create_date")) refl (bytes_eq f.name (codes "write_date")) refl date where
    named : (name : List ℕ) → Any (λ g. (g.name ≡ name) × (g.field_type ≡ type.Datetime)) info.fields → bytes_eq f.name name ≡ true → f.field_type ≡ type.Datetime
    named name (k, g, inside, is, own) same =
        ap (λ (h : FieldInfo). h.field_type) (one_of_name models model info i f g valid at (k, inside, is) ((bytes_eq-Decides f.name name).0 same ∙ sym own.0)) ∙ own.1

    first : FieldDef
    first = moment_def (codes "create_date")

    by : (a : Bool) → bytes_eq f.name (codes "create_date") ≡ a → (b : Bool) → bytes_eq f.name (codes "write_date") ≡ b → (a || (b || false)) ≡ true → f.field_type ≡ type.Datetime
    by true made b changed e = named (codes "create_date") (valid.automatic 0 first (omega arith)) made
    by false made true changed e = named (codes "write_date") (valid.automatic 3 first (omega arith)) changed
    by false made false changed e = absurd (false≢true e)

  -- so each field may be given its stamp
  stamp_givable : (made : Bool) (by : Author) → IsMoment by.now → is_stamp made f.name ≡ true → IsGivable f (stamp by f.name)
  stamp_givable made by moment stamped = kind (is_moment f.name) refl where
    kind : (date : Bool) → is_moment f.name ≡ date → IsGivable f (cond date (value.Moment by.now) (value.Ref by.user))
    kind true date = subst (λ (t : FieldType). HasType t f.selection (value.Moment by.now)) (sym (moment_type date)) moment
    kind false date =
        let is = bytes_eq f.name in
        let user : is_user f.name ≡ true = user_else made (is (codes "create_date")) (is (codes "create_uid")) (is (codes "write_date")) (is (codes "write_uid")) stamped date in
        subst (λ (t : FieldType). HasType t f.selection (value.Ref by.user)) (sym (right.user user).many2one) tt

  -- and is as a call relies on
  IsMakeable-at : IsMakeable f
  IsMakeable-at = record { stamped = stamp_givable; default = right.default }

-- also by its number
pub makeable_at : (models : List ModelInfo) (model : ModelNo) (info : ModelInfo) (i : ℕ) → model_at models model ≡ Some info → i < length info.fields → IsModel models model info
    → IfSome (field_at models model (record { 0 = i + 1 })) IsMakeable
makeable_at models model info i is lt valid =
    let there = step_in models model info i is lt in
    tell (field_at models model (record { 0 = i + 1 })) there.f IsMakeable there.at (IsMakeable-at models model info i there.f valid there.field_is)

-- ---- as the steps say it

-- a stamp is of its field's type
pub stamp_typed : (o : Option FieldInfo) (f : FieldInfo) (made : Bool) (by : Author) (name : List ℕ) (v : Value) → o ≡ Some f → name ≡ f.name → IfSome o IsMakeable
    → IsMoment by.now → is_stamp made name ≡ true → v ≡ stamp by name → HasFieldType o v
stamp_typed o f made by name v is same makeable moment stamped own =
    let fits = told o f IsMakeable is makeable in
    tell o f (λ field. IsGivable field v) is
    (subst (IsGivable f) (sym (own ∙ ap (stamp by) same)) (fits.stamped made by moment (sym (ap (is_stamp made) same) ∙ stamped)))
