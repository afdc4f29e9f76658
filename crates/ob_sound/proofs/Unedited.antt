-- A cell that isn't edited has the same plain value behind a change as before it, in a row that was there.
use Rattle.std.proofs.Common.{◌≡◌, ◌≢◌, ◌⊎◌, inl, inr, Bool, true, false, List, Option, Some, None, option_and_then, refl, sym, ap, ◌∙◌}
use Rattle.std.specs.Prelude.{IsSome}
use Rattle.std.specs.Ordering.{is_eq}
use Rattle.std.specs.Cmp.{tied_itself}
use Rattle.std.proofs.lemmas.Map.Views.{tells_apart}
use Rattle.ob_base.specs.ValueOrder.{value_order}
use Rattle.ob_base.specs.declared.id.Cell.{Cell}
use Rattle.ob_base.specs.declared.value.Value.{Value}
use Rattle.ob_base.proofs.CallerLemmas.{value_order_exact, value_order_total}
use Rattle.ob_schema.specs.Links.{Sides}
use Rattle.ob_schema.specs.Models.{field_at}
use Rattle.ob_schema.specs.Plain.{plain_at, plain_from}
use Rattle.ob_schema.specs.Tables.{PlainRow, Tables, row_at}
use Rattle.ob_schema.specs.declared.info.FieldInfo.{FieldInfo}
use Rattle.ob_schema.specs.declared.info.ModelInfo.{ModelInfo}
use Rattle.ob_schema.specs.declared.info.Origin.{Origin}
use Rattle.ob_tables.proofs.CallerLemmas.{some_or_none, there_is}
use Rattle.ob_trigger.specs.Affected.{Edited}

-- values are one or two
pub same_value : (a b : Value) → (a ≡ b) ⊎ (a ≢ b)
same_value a b = by (is_eq (value_order a b)) refl
  where
    by : (r : Bool) → is_eq (value_order a b) ≡ r → (a ≡ b) ⊎ (a ≢ b)
    by true is = inl (tells_apart value_order_exact a b is)
    by false is = inr (λ same. let both : true ≡ false = sym (ap (λ (v : Value). is_eq (value_order a v)) (sym same) ∙ ap is_eq (tied_itself value_order_total a)) ∙ is in cc)

-- values that may be there are one if they aren't two
same_unless : (a b : Option Value) → (a ≢ b → ⊥) → a ≡ b
same_unless None None not = refl
same_unless None (Some v) not = absurd (not (λ is. cc))
same_unless (Some v) None not = absurd (not (λ is. cc))
same_unless (Some v) (Some w) not = elim (same_value v w) [
  | inl is ↦ ap Some is
  | inr apart ↦ absurd (not (λ is. apart (some_same v w is)))
]
  where
    some_same : (v w : Value) → Some v ≡ Some w → v ≡ w
    some_same v w is = cc

module _ (models : List ModelInfo) (tables : Tables) where
  -- a cell of no row has no plain value
  plain_none : (c : Cell) → row_at tables c.model c.id ≡ None → plain_at tables models c ≡ None
  plain_none c none = by (field_at models c.model c.field)
    where
      by : (o : Option FieldInfo) → option_and_then (λ i. option_and_then (plain_from tables i.origin i c.field c.id) (row_at tables c.model c.id)) o ≡ None
      by None = refl
      by (Some i) = ap (λ (r : Option PlainRow). option_and_then (plain_from tables i.origin i c.field c.id) r) none

  -- a cell with a plain value is of a row that is there
  pub valued_there : (c : Cell) (v : Value) → plain_at tables models c ≡ Some v → IsSome (row_at tables c.model c.id)
  valued_there c v is = elim (some_or_none (row_at tables c.model c.id)) [
    | inr some ↦ there_is (row_at tables c.model c.id) some.0 some.1
    | inl none ↦ (let both : None ≡ Some v = sym (plain_none c none) ∙ is in absurd cc)
  ]

  -- the plain value of a cell of a row that is there, by where its field has it from
  pub plain_there : (c : Cell) (row : PlainRow) (f : FieldInfo) (o : Origin) → row_at tables c.model c.id ≡ Some row → field_at models c.model c.field ≡ Some f → f.origin ≡ o
      → plain_at tables models c ≡ plain_from tables o f c.field c.id row
  plain_there c row f o there at from =
      ap (λ (i : Option FieldInfo). option_and_then (λ i. option_and_then (plain_from tables i.origin i c.field c.id) (row_at tables c.model c.id)) i) at
      ∙ ap (λ (r : Option PlainRow). option_and_then (plain_from tables f.origin f c.field c.id) r) there
      ∙ ap (λ (o : Origin). plain_from tables o f c.field c.id row) from

module _ (models : List ModelInfo) (sides : Sides) where
  -- what a cell that isn't edited has behind the change it had before
  pub value_before : (cell : Cell) (v : Value) → (Edited models sides cell → ⊥) → plain_at sides.behind models cell ≡ Some v → plain_at sides.before models cell ≡ Some v
  value_before cell v not is = same_unless (plain_at sides.before models cell) (plain_at sides.behind models cell) not ∙ is

  -- and its row was there
  pub row_before : (cell : Cell) (v : Value) → (Edited models sides cell → ⊥) → plain_at sides.behind models cell ≡ Some v → IsSome (row_at sides.before cell.model cell.id)
  row_before cell v not is = valued_there models sides.before cell v (value_before cell v not is)
