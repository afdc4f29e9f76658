-- Where a plain field has its value from: a field back leads along a relation, and without one the row keeps the value.
use Rattle.std.proofs.Common.{◌≡◌, ℕ, zero, suc, true, not, ◌&&◌, List, [], ◌∷◌, Option, Some, None, option_and_then, is_none, is_some, IsSome, refl, sym, ap, subst, ◌∙◌}
use Rattle.std.specs.Option.{IfSome, IsSomeAnd, option_or}
use Rattle.std.specs.List.{All, slice_get}
use Rattle.std.specs.FinMap as finite
use Rattle.std.proofs.lemmas.List.Elements.{All-head, All-tail}
use Rattle.std.proofs.lemmas.Option.{same_Some}
use Rattle.ob_base.specs.declared.id.Cell.{Cell}
use Rattle.ob_base.specs.declared.id.FieldNo.{FieldNo}
use Rattle.ob_base.specs.declared.id.ModelNo.{ModelNo}
use Rattle.ob_base.specs.declared.value.Value.TheVariants as value
use Rattle.ob_definition.specs.Keys.{is_many2many}
use Rattle.ob_definition.specs.Types.{is_one2many, is_relation}
use Rattle.ob_definition.specs.declared.field_type.FieldType.{FieldType}
use Rattle.ob_definition.specs.declared.field_type.FieldType.TheVariants as type
use Rattle.ob_schema.specs.Built.{numbered}
use Rattle.ob_schema.specs.Fields.{is_plain_from}
use Rattle.ob_schema.specs.Models.{HasModel, IsField, IsModel, field_at, fields_of, model_at}
use Rattle.ob_schema.specs.declared.info.FieldInfo.{FieldInfo}
use Rattle.ob_schema.specs.declared.info.ModelInfo.{ModelInfo}
use Rattle.ob_schema.specs.declared.info.Origin.TheVariants as origin
use Rattle.ob_schema.specs.Plain.{naming, naming_back, plain_at, plain_by, plain_from}
use Rattle.ob_schema.specs.Tables.{Fits, IsRowOf, PlainRow, Tables, kept_at, row_at}
use Rattle.ob_tables.proofs.Columns.{keeps, row-has}
use Rattle.ob_tables.proofs.FitTables.{known_at}
use Rattle.ob_tables.proofs.GivenValues.{keeps-fields}

one2many-relation : (t : FieldType) → is_one2many t ≡ true → is_relation t ≡ true
one2many-relation type.Boolean h = cc
one2many-relation type.Integer h = cc
one2many-relation type.Char h = cc
one2many-relation type.Text h = cc
one2many-relation type.Date h = cc
one2many-relation type.Datetime h = cc
one2many-relation type.Selection h = cc
one2many-relation type.Many2one h = cc
one2many-relation type.One2many h = refl
one2many-relation type.Many2many h = cc

many2many-relation : (t : FieldType) → is_many2many t ≡ true → is_relation t ≡ true
many2many-relation type.Boolean h = cc
many2many-relation type.Integer h = cc
many2many-relation type.Char h = cc
many2many-relation type.Text h = cc
many2many-relation type.Date h = cc
many2many-relation type.Datetime h = cc
many2many-relation type.Selection h = cc
many2many-relation type.Many2one h = cc
many2many-relation type.One2many h = cc
many2many-relation type.Many2many h = refl

-- what holds of each item holds of that of a number
all-sliced : {X : Type 0} (P : X → Type 0) (xs : List X) (n : ℕ) (x : X) → All P xs → slice_get xs n ≡ Some x → P x
all-sliced P [] n x h is = cc
all-sliced P (y ∷ xs) zero x h is = subst P (same_Some y x is) (All-head P y xs h)
all-sliced P (y ∷ xs) (suc n) x h is = all-sliced P xs n x (All-tail P y xs h) is

all-numbered : {X : Type 0} (P : X → Type 0) (xs : List X) (n : ℕ) (x : X) → All P xs → numbered xs n ≡ Some x → P x
all-numbered P xs zero x h is = cc
all-numbered P xs (suc n) x h is = all-sliced P xs n x h is

there : {X : Type 0} (o : Option X) → IsSome o → (x : X) × (o ≡ Some x)
there None h = cc
there (Some x) h = (x, refl)

module _ (models : List ModelInfo) (t : Tables) (cell : Cell) (m : ModelInfo) (info : FieldInfo)
    (at : model_at models cell.model ≡ Some m) (law : IsModel models cell.model m) (field : field_at models cell.model cell.field ≡ Some info) where
  in_model : numbered (fields_of m) cell.field.0 ≡ Some info
  in_model = sym (ap (option_and_then (λ i. numbered (fields_of i) cell.field.0)) at) ∙ field

  -- the registry's law of the field
  pub its_law : IsField models cell.model m info
  its_law = all-numbered (IsField models cell.model m) (fields_of m) cell.field.0 info law.fields in_model

  -- a plain field of a row that is there
  pub plain-there : info.origin ≡ origin.Plain → (row : PlainRow) → row_at t cell.model cell.id ≡ Some row → plain_at t models cell ≡ Some (plain_by t info.inverse info.mirror info cell.field cell.id row)
  plain-there plain row is =
      ap (option_and_then (λ i. option_and_then (plain_from t i.origin i cell.field cell.id) (row_at t cell.model cell.id))) field
      ∙ ap (λ from. option_and_then (plain_from t from info cell.field cell.id) (row_at t cell.model cell.id)) plain
      ∙ ap (option_and_then (λ r. Some (plain_by t info.inverse info.mirror info cell.field cell.id r))) is

  pub by_back : (inverse mirror : Option FieldNo) (back : FieldNo) (row : PlainRow) → option_or inverse mirror ≡ Some back → plain_by t inverse mirror info cell.field cell.id row ≡ naming_back t info.relation back cell.id
  by_back (Some inverse) mirror back row is = ap (λ b. naming_back t info.relation b cell.id) (same_Some inverse back is)
  by_back None (Some mirror) back row is = ap (λ b. naming_back t info.relation b cell.id) (same_Some mirror back is)
  by_back None None back row is = cc

  is_related : (inverse mirror : Option FieldNo) (back : FieldNo) → option_or inverse mirror ≡ Some back → is_some inverse ≡ is_one2many info.field_type
      → (is_some mirror ≡ true → is_many2many info.field_type ≡ true) → is_relation info.field_type ≡ true
  is_related (Some inverse) mirror back is one many = one2many-relation info.field_type (sym one)
  is_related None (Some mirror) back is one many = many2many-relation info.field_type (many refl)
  is_related None None back is one many = cc

  -- a field with a field back has a relation
  pub has-relation : (back : FieldNo) → option_or info.inverse info.mirror ≡ Some back → is_some info.relation ≡ true
  has-relation back is = its_law.relation_alone ∙ is_related info.inverse info.mirror back is its_law.inverse its_law.mirror

  -- and its value is the list of the rows that name this one by the field back
  pub from-naming : info.origin ≡ origin.Plain → IsSome (row_at t cell.model cell.id) → (back : FieldNo) (model : ModelNo) → option_or info.inverse info.mirror ≡ Some back → info.relation ≡ Some model
      → HasModel models model × (plain_at t models cell ≡ Some (value.Refs (naming t model back cell.id)))
  from-naming plain has back model is leads =
      let row = there (row_at t cell.model cell.id) has in (
        known_at info.relation (HasModel models) model leads (its_law.relation (sym its_law.relation_alone ∙ ap is_some leads)),
        plain-there plain row.0 row.1 ∙ ap Some (by_back info.inverse info.mirror back row.0 is ∙ ap (λ r. naming_back t r back cell.id) leads),
      )

  pub not_one2many : (inverse mirror : Option FieldNo) → option_or inverse mirror ≡ None → is_some inverse ≡ is_one2many info.field_type → (not (is_one2many info.field_type) && is_none mirror) ≡ true
  not_one2many (Some inverse) mirror none one = cc
  not_one2many None (Some mirror) none one = cc
  not_one2many None None none one = ap (λ b. not b && true) (sym one)

  -- without one the row keeps the value
  pub has-kept : Fits models t → info.origin ≡ origin.Plain → IsSome (row_at t cell.model cell.id) → option_or info.inverse info.mirror ≡ None → is_some (kept_at t cell) ≡ true
  has-kept fits plain has none =
      let row = there (row_at t cell.model cell.id) has in
      let shape = known_at (model_at models cell.model) (λ i. IsRowOf i row.0) m at (subst (λ w. IfSome w (λ r. IsSomeAnd (model_at models cell.model) (λ i. IsRowOf i r))) row.1 (fits.rows cell.model cell.id)) in
      ap (λ w. is_some (option_and_then (λ r. finite.get r cell.field.0) w)) row.1 ∙ row-has m row.0 shape cell.field.0
      ∙ sym (keeps-fields m law.conditions cell.field.0) ∙ ap keeps in_model
      ∙ ap (λ from. is_plain_from from && (not (is_one2many info.field_type) && is_none info.mirror)) plain ∙ not_one2many info.inverse info.mirror none its_law.inverse
