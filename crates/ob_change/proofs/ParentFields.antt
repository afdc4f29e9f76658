-- The parent field of a tree: a row keeps a reference in it or nothing, and that is the field's plain value.
use Rattle.std.proofs.Common.{◌≡◌, inl, inr, Bool, true, false, List, Option, Some, None, is_some, refl, sym, ap, ◌∙◌, option_and_then}
use Rattle.std.specs.Prelude.{IsSome, IsSomeAnd}
use Rattle.ob_base.specs.declared.id.FieldNo.{FieldNo}
use Rattle.ob_base.specs.declared.id.ModelNo.{ModelNo}
use Rattle.ob_base.specs.declared.id.RecId.{RecId}
use Rattle.ob_base.specs.declared.value.Value.{Value}
use Rattle.ob_base.specs.declared.value.Value.TheVariants as value
use Rattle.ob_definition.specs.Keys.{is_many2many}
use Rattle.ob_definition.specs.Types.{is_one2many}
use Rattle.ob_definition.specs.declared.field_type.FieldType.TheVariants as type
use Rattle.ob_schema.specs.Models.{FieldHas, IsPlainTo, IsRegistry, field_at, is_given_from, model_at}
use Rattle.ob_schema.specs.Plain.{plain_at, plain_by, plain_from}
use Rattle.ob_schema.specs.Tables.{PlainRow, Tables, kept_in, row_at}
use Rattle.ob_schema.specs.Tied.{IsParentIn}
use Rattle.ob_schema.specs.declared.info.FieldInfo.{FieldInfo}
use Rattle.ob_schema.specs.declared.info.ModelInfo.{ModelInfo}
use Rattle.ob_schema.specs.declared.info.Origin.TheVariants as origin
use Rattle.ob_tables.proofs.CallerLemmas.{Field-at, known_if, plain-there, plain_is, some_or_none, tell_and, there_is, told_and}
use Rattle.ob_change.specs.TreeRows.{HasParentField, IsTheParent, referred}

contrary : {P : Type 0} → false ≡ true → P
contrary e = cc

no_many2many : (b : Bool) → (b ≡ true → is_many2many type.Many2one ≡ true) → b ≡ false
no_many2many true many = contrary (many refl)
no_many2many false many = refl

-- a field with no field back keeps its value in the row
kept_by : (tables : Tables) (f : FieldInfo) (field : FieldNo) (id : RecId) (row : PlainRow) (inverse mirror : Option FieldNo) → is_some inverse ≡ false → is_some mirror ≡ false
    → plain_by tables inverse mirror f field id row ≡ kept_in row field
kept_by tables f field id row None None no_inverse no_mirror = refl
kept_by tables f field id row (Some inverse) mirror no_inverse no_mirror = absurd cc
kept_by tables f field id row None (Some mirror) no_inverse no_mirror = absurd cc

-- what is known of the parent field of a tree
pub record ParentField (models : List ModelInfo) (model : ModelNo) (parent : FieldNo) : Type 0 where
  pub info : FieldInfo
  pub info_at : field_at models model parent ≡ Some info
  pub its_model : (m : ModelInfo) × (model_at models model ≡ Some m)
  pub plain : info.origin ≡ origin.Plain
  pub many2one : info.field_type ≡ type.Many2one
  pub kept : (tables : Tables) (id : RecId) (row : PlainRow) → row_at tables model id ≡ Some row → plain_at tables models (record { model = model; id = id; field = parent }) ≡ Some (kept_in row parent)

pub ParentField-at : (models : List ModelInfo) → IsRegistry models → (model : ModelNo) (parent : FieldNo) → HasParentField models model parent → ParentField models model parent
ParentField-at models registry model parent tree =
    let m = told_and (model_at models model) (λ info. info.parent ≡ Some parent) tree in
    let Is : FieldInfo → Type 0 = λ field. IsPlainTo model field × (field.field_type ≡ type.Many2one) in
    let has : FieldHas models Is model parent = known_if m.0.parent parent (FieldHas models Is model) m.2 (registry.each model m.0 m.1).parent in
    let f = told_and (field_at models model parent) Is has in
    let own = Field-at models model parent f.0 registry f.1 in
    let plain = plain_is f.0.origin f.2.0.plain in
    let no_inverse = own.right.inverse ∙ ap is_one2many f.2.1 in
    let no_mirror = no_many2many (is_some f.0.mirror) (λ some. sym (ap is_many2many f.2.1) ∙ own.right.mirror some) in
    record {
      info = f.0;
      info_at = f.1;
      its_model = (m.0, m.1);
      plain = plain;
      many2one = f.2.1;
      kept = λ tables id row there.
          plain-there models tables (record { model = model; id = id; field = parent }) own.info f.0 own.model_is own.valid f.1 plain row there
          ∙ ap Some (kept_by tables f.0 parent id row f.0.inverse f.0.mirror no_inverse no_mirror);
    }

-- its value can be asked for
pub given_field : (models : List ModelInfo) (model : ModelNo) (parent : FieldNo) → ParentField models model parent → IsSomeAnd (field_at models model parent) (λ info. is_given_from info.origin ≡ true)
given_field models model parent field = tell_and (field_at models model parent) field.info (λ info. is_given_from info.origin ≡ true) field.info_at (ap is_given_from field.plain)

module _ (models : List ModelInfo) (tables : Tables) (model : ModelNo) (parent : FieldNo) where
  abbrev Up : RecId → RecId → Type 0
  Up id other = IsParentIn models tables model parent id other

  abbrev IsIn : RecId → Type 0
  IsIn id = IsSome (row_at tables model id)

  -- a row and its parent
  pub up_parts : (id other : RecId) → Up id other → (row : PlainRow) × (row_at tables model id ≡ Some row) × (kept_in row parent ≡ value.Ref other) × IsIn other
  up_parts id other up = let t = told_and (row_at tables model id) (λ row. (kept_in row parent ≡ value.Ref other) × IsSome (row_at tables model other)) up in (t.0, t.1, t.2.0, t.2.1)

  pub up_made : (id other : RecId) (row : PlainRow) → row_at tables model id ≡ Some row → kept_in row parent ≡ value.Ref other → IsIn other → Up id other
  up_made id other row there is has = tell_and (row_at tables model id) row (λ row. (kept_in row parent ≡ value.Ref other) × IsSome (row_at tables model other)) there (is, has)

  -- a parent is there, and so is the row
  pub up_there : (id other : RecId) → Up id other → IsIn other
  up_there id other up = (up_parts id other up).3

  pub up_row : (id other : RecId) → Up id other → IsIn id
  up_row id other up = let t = up_parts id other up in there_is (row_at tables model id) t.0 t.1

  module _ (field : ParentField models model parent) where
    abbrev value_of : RecId → Option Value
    value_of id = plain_at tables models (record { model = model; id = id; field = parent })

    -- a row that isn't there has no value
    no_value : (id : RecId) → row_at tables model id ≡ None → value_of id ≡ None
    no_value id none =
        ap (option_and_then (λ i. option_and_then (plain_from tables i.origin i parent id) (row_at tables model id))) field.info_at
        ∙ ap (λ (o : Option PlainRow). option_and_then (plain_from tables field.info.origin field.info parent id) o) none

    -- the field's value names the parent
    value_up : (id other : RecId) → value_of id ≡ Some (value.Ref other) → IsIn other → Up id other
    value_up id other is there = elim (some_or_none (row_at tables model id)) [
      | inl none ↦ (let both : None ≡ Some (value.Ref other) = sym (no_value id none) ∙ is in absurd cc)
      | inr (row, at) ↦ (let both : Some (kept_in row parent) ≡ Some (value.Ref other) = sym (field.kept tables id row at) ∙ is in
          up_made id other row at (some_value (kept_in row parent) (value.Ref other) both) there)
    ]
      where
        some_value : (v w : Value) → Some v ≡ Some w → v ≡ w
        some_value v w is = cc

    up_value : (id other : RecId) → Up id other → value_of id ≡ Some (value.Ref other)
    up_value id other up = let t = up_parts id other up in field.kept tables id t.0 t.1 ∙ ap Some t.2

    refers_to : (o : Option Value) (other : RecId) → referred o ≡ Some other → o ≡ Some (value.Ref other)
    refers_to (Some (value.Ref id)) other is = let same : id ≡ other = cc in ap (λ (x : RecId). Some (value.Ref x)) same
    refers_to _ other is = absurd cc

    -- what it refers to is the parent, if it is there
    pub parent-told : (id other : RecId) → referred (value_of id) ≡ Some other → IsIn other → IsTheParent models tables (record { model = model; id = id; field = parent }) (Some other)
    parent-told id other is there = value_up id other (refers_to (value_of id) other is) there

    -- and no other is
    pub no_parent-told : (id : RecId) → ((other : RecId) → referred (value_of id) ≡ Some other → IsIn other → ⊥) → IsTheParent models tables (record { model = model; id = id; field = parent }) None
    no_parent-told id none = λ other up. none other (ap referred (up_value id other up)) (up_there id other up)
