-- Values of cells that no formula gives: over any tables, in one step.
use Rattle.std.proofs.Common.{◌≡◌, true, false, List, Option, Some, None, IsSome, Result, Err, refl, sym, ap, subst, ◌∙◌}
use Rattle.std.specs.Option.{option_map_or}
use Rattle.std.specs.Prelude.{option_and_then}
use Rattle.ob_base.specs.declared.id.Cell.{Cell}
use Rattle.ob_base.specs.declared.value.Value.{Value}
use Rattle.ob_cache.specs.Rooms.{IsValueIn}
use Rattle.ob_expr.specs.Computing.{Lack, unread}
use Rattle.ob_expr.specs.Meaning.{value_at}
use Rattle.ob_schema.specs.Models.{field_at, is_delegated_from, is_given_from}
use Rattle.ob_schema.specs.Plain.{id_value, plain_at, plain_by, plain_from}
use Rattle.ob_schema.specs.Tables.{PlainRow, Tables, row_at}
use Rattle.ob_schema.specs.Val.{val, value_by, value_from, value_in}
use Rattle.ob_schema.specs.declared.info.FieldInfo.{FieldInfo}
use Rattle.ob_schema.specs.declared.info.Formula.{Formula}
use Rattle.ob_schema.specs.declared.info.ModelInfo.{ModelInfo}
use Rattle.ob_schema.specs.declared.info.Origin.{Origin}
use Rattle.ob_schema.specs.declared.info.Origin.TheVariants as origin

module _ (models : List ModelInfo) (tables : Tables) where
  -- one step, by where its row and its field are
  pub value_there : (f : Cell → Result Value Lack) (c : Cell) (row : PlainRow) (info : FieldInfo) (o : Origin) → row_at tables c.model c.id ≡ Some row → field_at models c.model c.field ≡ Some info → info.origin ≡ o
      → value_by models tables f c ≡ value_from models tables f o info c
  value_there f c row info o there at from =
      ap (λ (r : Option PlainRow). option_map_or (λ _. option_map_or (λ i. value_from models tables f i.origin i c) (field_at models c.model c.field) (Err (unread c))) r (Err (unread c))) there
      ∙ ap (λ (i : Option FieldInfo). option_map_or (λ i. value_from models tables f i.origin i c) i (Err (unread c))) at ∙ ap (λ (p : Origin). value_from models tables f p info c) from

  -- the last step of a value from scratch
  val-step : (c : Cell) → val models tables c ≡ value_by models tables (value_in models tables 577) c
  val-step c = refl

  plain-is : (c : Cell) (row : PlainRow) (info : FieldInfo) (o : Origin) → row_at tables c.model c.id ≡ Some row → field_at models c.model c.field ≡ Some info → info.origin ≡ o
      → plain_at tables models c ≡ plain_from tables o info c.field c.id row
  plain-is c row info o there at from =
      ap (λ (i : Option FieldInfo). option_and_then (λ i. option_and_then (plain_from tables i.origin i c.field c.id) (row_at tables c.model c.id)) i) at
      ∙ ap (λ (r : Option PlainRow). option_and_then (plain_from tables info.origin info c.field c.id) r) there ∙ ap (λ (p : Origin). plain_from tables p info c.field c.id row) from

  plain-none : (c : Cell) (info : FieldInfo) → row_at tables c.model c.id ≡ None → field_at models c.model c.field ≡ Some info → plain_at tables models c ≡ None
  plain-none c info none at =
      ap (λ (i : Option FieldInfo). option_and_then (λ i. option_and_then (plain_from tables i.origin i c.field c.id) (row_at tables c.model c.id)) i) at
      ∙ ap (λ (r : Option PlainRow). option_and_then (plain_from tables info.origin info c.field c.id) r) none

  -- a plain value is the cell's value from scratch
  pub plain-told : (c : Cell) (info : FieldInfo) (o : Option Value) → field_at models c.model c.field ≡ Some info → is_given_from info.origin ≡ true → o ≡ plain_at tables models c
      → IsValueIn (record { models = models; tables = tables }) c o
  plain-told c info o at given is = by (row_at tables c.model c.id) refl
    where
      from : (row : PlainRow) → row_at tables c.model c.id ≡ Some row → (p : Origin) → info.origin ≡ p → is_given_from p ≡ true → IsValueIn (record { models = models; tables = tables }) c o
      from row there origin.Id is_id g =
          let plain : plain_at tables models c ≡ Some (id_value c.id) = plain-is c row info origin.Id there at is_id in
          subst (IsValueIn (record { models = models; tables = tables }) c) (sym (is ∙ plain))
          (val-step c ∙ value_there (value_in models tables 577) c row info origin.Id there at is_id ∙ ap (value_at c) plain)
      from row there origin.Plain is_plain g =
          let plain : plain_at tables models c ≡ Some (plain_by tables info.inverse info.mirror info c.field c.id row) = plain-is c row info origin.Plain there at is_plain in
          subst (IsValueIn (record { models = models; tables = tables }) c) (sym (is ∙ plain))
          (val-step c ∙ value_there (value_in models tables 577) c row info origin.Plain there at is_plain ∙ ap (value_at c) plain)
      from row there (origin.Delegated to) other g = absurd cc
      from row there (origin.Computed formula) other g = absurd cc

      by : (r : Option PlainRow) → row_at tables c.model c.id ≡ r → IsValueIn (record { models = models; tables = tables }) c o
      by None none = subst (IsValueIn (record { models = models; tables = tables }) c) (sym (is ∙ plain-none c info none at)) none
      by (Some row) there = from row there info.origin refl given

  -- where its row isn't there it has none
  pub plain-row : (c : Cell) (info : FieldInfo) (v : Value) → field_at models c.model c.field ≡ Some info → plain_at tables models c ≡ Some v → IsSome (row_at tables c.model c.id)
  plain-row c info v at holds = by (row_at tables c.model c.id) refl
    where
      by : (r : Option PlainRow) → row_at tables c.model c.id ≡ r → IsSome r
      by None none = absurd (let both : ◌≡◌ {A = Option Value} None (Some v) = sym (plain-none c info none at) ∙ holds in cc)
      by (Some row) there = refl

-- the value of a field that isn't delegated, and that no formula computes, is given
pub own-given : (o : Origin) → ((formula : Formula) → o ≡ origin.Computed formula → ⊥) → is_delegated_from o ≡ false → is_given_from o ≡ true
own-given origin.Id not own = refl
own-given origin.Plain not own = refl
own-given (origin.Delegated to) not own = absurd cc
own-given (origin.Computed formula) not own = absurd (not formula refl)
