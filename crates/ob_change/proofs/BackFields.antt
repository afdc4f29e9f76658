-- The fields by which the rows of a list name its row, and which rows name it so.
use Rattle.std.proofs.Common.{◌≡◌, ◌⊎◌, ◌<◌, ◌≤◌, inl, inr, ℕ, zero, suc, Bool, true, false, List, [], ◌∷◌, ◌++◌, length, Option, Some, None, option_and_then, is_some, refl, sym, ap, subst, ◌∙◌, arith}
use Rattle.std.specs.Prelude.{◌↔◌, Contains, IfSome, IsSomeAnd, slice_get}
use Rattle.std.specs.Option.{option_map_or, option_or}
use Rattle.std.proofs.lemmas.Option.{same_Some, slice_get-get_or}
use Rattle.std.proofs.lemmas.List.Elements.{All-contains}
use Rattle.ob_base.specs.declared.id.Cell.{Cell}
use Rattle.ob_base.specs.declared.id.FieldNo.{FieldNo}
use Rattle.ob_base.specs.declared.id.ModelNo.{ModelNo}
use Rattle.ob_base.specs.declared.id.RecId.{RecId}
use Rattle.ob_base.specs.declared.id.RowKey.{RowKey}
use Rattle.ob_base.specs.declared.value.Value.{Value}
use Rattle.ob_definition.specs.Keys.{is_many2many, is_many2one}
use Rattle.ob_definition.specs.Types.{is_one2many}
use Rattle.ob_definition.specs.declared.field_type.FieldType.{FieldType}
use Rattle.ob_definition.specs.declared.field_type.FieldType.TheVariants as type
use Rattle.ob_schema.proofs.CallerLemmas.{contains-cases, contains-first, contains-later, contains-none}
use Rattle.ob_schema.specs.Built.{numbered}
use Rattle.ob_schema.specs.Fields.{is_plain_from}
use Rattle.ob_schema.specs.Links.{Sides}
use Rattle.ob_schema.specs.Models.{FieldHas, IsCondition, IsPlainTo, IsRegistry, LeadsBack, field_at, fields_of, is_computed_from, is_given_from, model_at}
use Rattle.ob_schema.specs.Plain.{names, targets_of}
use Rattle.ob_schema.specs.Tables.{PlainRow, Tables, kept_in, row_at}
use Rattle.ob_schema.specs.declared.info.FieldInfo.{FieldInfo}
use Rattle.ob_schema.specs.declared.info.ModelInfo.{ModelInfo}
use Rattle.ob_schema.specs.declared.info.Origin.{Origin}
use Rattle.ob_schema.specs.declared.info.Origin.TheVariants as origin
use Rattle.ob_sound.specs.Lists.{NamesBy}
use Rattle.ob_tables.proofs.CallerLemmas.{Field-at, at-names, known_at, names-at, plain_is, some_or_none, tell_and, told_and}
use Rattle.ob_change.proofs.Naming.{placed-among}
use Rattle.ob_change.proofs.PlainValues.{kept-by, rowless-none, value-by}
use Rattle.ob_change.specs.EditedSteps.{IsGiven, IsListBy, named_by}

-- ---- fields

one_alone : (t : FieldType) → is_many2one t ≡ true → is_one2many t ≡ false
one_alone type.One2many h = absurd cc
one_alone _ h = refl

many_alone : (t : FieldType) → is_many2many t ≡ true → is_one2many t ≡ false
many_alone type.One2many h = absurd cc
many_alone _ h = refl

-- there is none
pub unset : {X : Type 0} (o : Option X) → is_some o ≡ false → o ≡ None
unset None is = refl
unset (Some x) is = absurd cc

-- the field of the rows that a list has: a plain relation to the list's model, whose values the rows keep
pub record IsBackField (model : ModelNo) (info : FieldInfo) : Type 0 where
  pub plain : info.origin ≡ origin.Plain
  pub kept : option_or info.inverse info.mirror ≡ None
  pub leads : info.relation ≡ Some model

pub plain_given : (o : Origin) → is_plain_from o ≡ true → is_given_from o ≡ true
plain_given o plain = ap is_given_from (plain_is o plain)

module _ (models : List ModelInfo) (registry : IsRegistry models) where
  leading-back : (model target : ModelNo) (test : FieldType → Bool) (info : FieldInfo) (back : FieldNo) → ((t : FieldType) → test t ≡ true → is_one2many t ≡ false) → info.relation ≡ Some target
      → LeadsBack models model info test back → (other : FieldInfo) × (field_at models target back ≡ Some other) × IsBackField model other
  leading-back model target test info back alone leads law =
      let has = known_at info.relation target (λ t. FieldHas models (λ other. IsPlainTo model other × (test other.field_type ≡ true) × (other.mirror ≡ None)) t back) leads law in
      let other = told_and (field_at models target back) (λ other. IsPlainTo model other × (test other.field_type ≡ true) × (other.mirror ≡ None)) has in
      let field = Field-at models target back other.0 registry other.1 in
      let none : other.0.inverse ≡ None = unset other.0.inverse (field.right.inverse ∙ alone other.0.field_type other.2.1) in (
        other.0,
        other.1,
        record {
          plain = plain_is other.0.origin other.2.0.plain;
          kept = ap (λ (i : Option FieldNo). option_or i other.0.mirror) none ∙ other.2.2;
          leads = other.2.0.leads;
        },
      )

  -- the field back of a list
  pub back-field : (model target : ModelNo) (field back : FieldNo) (info : FieldInfo) → field_at models model field ≡ Some info → IsListBy target back info
      → (other : FieldInfo) × (field_at models target back ≡ Some other) × IsBackField model other
  back-field model target field back info at (plain, backs, leads) =
      let law = Field-at models model field info registry at in
      by info.inverse info.mirror backs (law.right.inverse_back plain) (law.right.mirror_back plain)
    where
      by : (inverse mirror : Option FieldNo) → option_or inverse mirror ≡ Some back → IfSome inverse (LeadsBack models model info is_many2one) → IfSome mirror (LeadsBack models model info is_many2many)
          → (other : FieldInfo) × (field_at models target back ≡ Some other) × IsBackField model other
      by None None is one many = absurd cc
      by None (Some mirror) is one many = leading-back model target is_many2many info back many_alone leads (subst (LeadsBack models model info is_many2many) (same_Some mirror back is) many)
      by (Some inverse) mirror is one many = leading-back model target is_many2one info back one_alone leads (subst (LeadsBack models model info is_many2one) (same_Some inverse back is) one)

  -- a field that is given is no condition: it has a number up to that of the last named one
  pub given-named : (model : ModelNo) (info : ModelInfo) → model_at models model ≡ Some info → (field : FieldNo) → FieldHas models IsGiven model field → (1 ≤ field.0) × (field.0 ≤ length info.fields)
  given-named model info is field has =
      let own = told_and (field_at models model field) IsGiven has in
      by own.0 own.2 field.0 (sym (ap (option_and_then (λ (i : ModelInfo). numbered (fields_of i) field.0)) is) ∙ own.1)
    where
      split : (own : FieldInfo) (xs ys : List FieldInfo) (n : ℕ) → slice_get (xs ++ ys) n ≡ Some own → (n < length xs) ⊎ Contains ys own
      split own [] ys n found = inr (placed-among ys own (n, found))
      split own (x ∷ xs) ys zero found = inl (omega arith)
      split own (x ∷ xs) ys (suc n) found = elim (split own xs ys n found) [ inl low ↦ inl (omega (arith, low)) | inr behind ↦ inr behind ]

      condition : (o : Origin) → is_computed_from o ≡ true → is_given_from o ≡ true → ⊥
      condition origin.Id computed given = cc
      condition origin.Plain computed given = cc
      condition (origin.Delegated to) computed given = cc
      condition (origin.Computed formula) computed given = cc

      by : (own : FieldInfo) → IsGiven own → (n : ℕ) → numbered (fields_of info) n ≡ Some own → (1 ≤ n) × (n ≤ length info.fields)
      by own given zero found = absurd cc
      by own given (suc n) found = elim (split own info.fields info.hidden n found) [
        | inl low ↦ (omega arith, omega (arith, low))
        | inr behind ↦ absurd (condition own.origin (All-contains IsCondition info.hidden own (registry.each model info is).conditions behind).computed given)
      ]

-- ---- who names whom

module _ (models : List ModelInfo) (tables : Tables) (own : Cell) (info : FieldInfo) (at : field_at models own.model own.field ≡ Some info) (model : ModelNo) (field : IsBackField model info) where
  -- a cell has the rows that its row names
  kept-value : (row : PlainRow) → row_at tables own.model own.id ≡ Some row → named_by models tables own ≡ targets_of (kept_in row own.field)
  kept-value row there =
      ap (λ (v : Option Value). option_map_or targets_of v []) (value-by models tables own info origin.Plain row at field.plain there ∙ ap Some (kept-by tables info own.field own.id row info.inverse info.mirror field.kept))

  none-named : row_at tables own.model own.id ≡ None → named_by models tables own ≡ []
  none-named none = ap (λ (v : Option Value). option_map_or targets_of v []) (rowless-none models tables own info at none)

  pub named-is : (id : RecId) → Contains (named_by models tables own) id → NamesBy tables own.model own.field id own.id
  named-is id among = elim (some_or_none (row_at tables own.model own.id)) [
    | inl none ↦ absurd (contains-none id (subst (λ (l : List RecId). Contains l id) (none-named none) among))
    | inr some ↦ (let kept = subst (λ (l : List RecId). Contains l id) (kept-value some.0 some.1) among in
        tell_and (row_at tables own.model own.id) some.0 (λ row. names id (kept_in row own.field) ≡ true) some.1 (among-names (kept_in some.0 own.field) id kept))
  ]
    where
      among-names : (v : Value) (id : RecId) → Contains (targets_of v) id → names id v ≡ true
      among-names v id (k, within, is) = at-names v k id (slice_get-get_or (targets_of v) k id within ∙ ap Some is)

  pub named-has : (id : RecId) → NamesBy tables own.model own.field id own.id → Contains (named_by models tables own) id
  named-has id named =
      let row = told_and (row_at tables own.model own.id) (λ row. names id (kept_in row own.field) ≡ true) named in
      subst (λ (l : List RecId). Contains l id) (sym (kept-value row.0 row.1)) (placed-among (targets_of (kept_in row.0 own.field)) id (names-at (kept_in row.0 own.field) id row.2))

-- it names a row, or not
named_or_not : (tables : Tables) (model : ModelNo) (field : FieldNo) (id child : RecId) → NamesBy tables model field id child ⊎ (NamesBy tables model field id child → ⊥)
named_or_not tables model field id child = by (row_at tables model child)
  where
    tested : (b : Bool) → (b ≡ true) ⊎ (b ≡ true → ⊥)
    tested true = inl refl
    tested false = inr (λ e. cc)

    by : (r : Option PlainRow) → IsSomeAnd r (λ row. names id (kept_in row field) ≡ true) ⊎ (IsSomeAnd r (λ row. names id (kept_in row field) ≡ true) → ⊥)
    by None = inr (λ named. named)
    by (Some row) = tested (names id (kept_in row field))

module _ (sides : Sides) (model : ModelNo) (field : FieldNo) (id : RecId) where
  -- it names it on one side alone
  abbrev pub NamesAlone : RecId → Type 0
  NamesAlone child =
      (NamesBy sides.before model field id child × (NamesBy sides.behind model field id child → ⊥)) ⊎ (NamesBy sides.behind model field id child × (NamesBy sides.before model field id child → ⊥))

  -- or on both or none
  abbrev pub NamesAlike : RecId → Type 0
  NamesAlike child = NamesBy sides.before model field id child ↔ NamesBy sides.behind model field id child

  once_or_alike : (child : RecId) → NamesAlone child ⊎ NamesAlike child
  once_or_alike child = by (named_or_not sides.before model field id child) (named_or_not sides.behind model field id child)
    where
      by : NamesBy sides.before model field id child ⊎ (NamesBy sides.before model field id child → ⊥) → NamesBy sides.behind model field id child ⊎ (NamesBy sides.behind model field id child → ⊥)
          → NamesAlone child ⊎ NamesAlike child
      by (inl was) (inl is) = inr (λ w. is, λ i. was)
      by (inl was) (inr not) = inl (inl (was, not))
      by (inr not) (inl is) = inl (inr (is, not))
      by (inr not) (inr nor) = inr (λ was. absurd (not was), λ is. absurd (nor is))

  -- one of these rows names it on one side alone, or each on both or none
  pub some_once : (keys : List RowKey) → ((key : RowKey) × Contains keys key × NamesAlone key.id) ⊎ ((key : RowKey) → Contains keys key → NamesAlike key.id)
  some_once [] = inr (λ key among. absurd (contains-none key among))
  some_once (key ∷ keys) = by (once_or_alike key.id) (some_once keys)
    where
      by : NamesAlone key.id ⊎ NamesAlike key.id → ((other : RowKey) × Contains keys other × NamesAlone other.id) ⊎ ((other : RowKey) → Contains keys other → NamesAlike other.id)
          → ((other : RowKey) × Contains (key ∷ keys) other × NamesAlone other.id) ⊎ ((other : RowKey) → Contains (key ∷ keys) other → NamesAlike other.id)
      by (inl once) rest = inl (key, contains-first key keys, once)
      by (inr alike) (inl (other, among, once)) = inl (other, contains-later key keys other among, once)
      by (inr alike) (inr rest) = inr (λ other among. elim (contains-cases key keys other among) [
        | inl is ↦ subst (λ (k : RowKey). NamesAlike k.id) is alike
        | inr later ↦ rest other later
      ])
