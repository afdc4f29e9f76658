-- The values of cells are of their fields' types.
use Rattle.std.proofs.Common.{◌≡◌, ◌^◌, ◌+◌, ◌-◌, ◌<◌, ◌≤◌, ℕ, Ok, Bool, true, false, not, ◌&&◌, List, [], min, Option, Some, None, unwrap_or, is_some, is_none, refl, sym, ap, subst, ◌∙◌, arith}
use Rattle.std.specs.Prelude.{IfSome, IsSomeAnd, option_and_then}
use Rattle.std.specs.FinMap as finite
use Rattle.std.specs.Option.{option_map_or}
use Rattle.std.proofs.lemmas.Option.{same_Some}
use Rattle.ob_base.specs.Rising.{IsRising}
use Rattle.ob_base.specs.declared.id.Cell.{Cell}
use Rattle.ob_base.specs.declared.id.FieldNo.{FieldNo}
use Rattle.ob_base.specs.declared.id.ModelNo.{ModelNo}
use Rattle.ob_base.specs.declared.id.RecId.{RecId}
use Rattle.ob_base.specs.declared.value.Value.{Value}
use Rattle.ob_base.specs.declared.value.Value.TheVariants as value
use Rattle.ob_cache.specs.Rooms.{AreReadable}
use Rattle.ob_cache.proofs.MadeTables.{holds-given}
use Rattle.ob_codec.specs.Held.{HasFieldType}
use Rattle.ob_definition.specs.Keys.{is_many2many}
use Rattle.ob_definition.specs.Types.{is_one2many}
use Rattle.ob_definition.specs.Values.{HasType, initial_value}
use Rattle.ob_definition.specs.declared.field_type.Choice.{Choice}
use Rattle.ob_definition.specs.declared.field_type.FieldType.{FieldType}
use Rattle.ob_definition.specs.declared.field_type.FieldType.TheVariants as type
use Rattle.ob_io.proofs.CallerLemmas.{rising-from_sorted}
use Rattle.ob_schema.specs.Built.{numbered}
use Rattle.ob_schema.specs.Fields.{IsGivable, is_plain_from, is_plain_kept}
use Rattle.ob_schema.specs.Models.{HasKeysOf, IsDelegatedIn, IsOriginIn, IsRegistry, field_at, fields_of, is_computed_from, model_at}
use Rattle.ob_schema.specs.Plain.{id_value, naming, plain_at, plain_by, plain_from}
use Rattle.ob_schema.specs.Tables.{Fits, IsRowOf, PlainRow, Tables, kept_in, row_at}
use Rattle.ob_schema.specs.Val.{val}
use Rattle.ob_schema.specs.declared.info.Delegation.{Delegation}
use Rattle.ob_schema.specs.declared.info.FieldInfo.{FieldInfo}
use Rattle.ob_schema.specs.declared.info.ModelInfo.{ModelInfo}
use Rattle.ob_schema.specs.declared.info.Origin.{Origin}
use Rattle.ob_schema.specs.declared.info.Origin.TheVariants as origin
use Rattle.ob_tables.proofs.CallerLemmas.{Field-at, keeps, keeps-fields, known_at, known_if, naming-rises, row-has, told_and}

one2many-is : (t : FieldType) → is_one2many t ≡ true → t ≡ type.One2many
one2many-is type.Boolean is = absurd cc
one2many-is type.Integer is = absurd cc
one2many-is type.Char is = absurd cc
one2many-is type.Text is = absurd cc
one2many-is type.Date is = absurd cc
one2many-is type.Datetime is = absurd cc
one2many-is type.Selection is = absurd cc
one2many-is type.Many2one is = absurd cc
one2many-is type.One2many is = refl
one2many-is type.Many2many is = absurd cc

many2many-is : (t : FieldType) → is_many2many t ≡ true → t ≡ type.Many2many
many2many-is type.Boolean is = absurd cc
many2many-is type.Integer is = absurd cc
many2many-is type.Char is = absurd cc
many2many-is type.Text is = absurd cc
many2many-is type.Date is = absurd cc
many2many-is type.Datetime is = absurd cc
many2many-is type.Selection is = absurd cc
many2many-is type.Many2one is = absurd cc
many2many-is type.One2many is = absurd cc
many2many-is type.Many2many is = refl

-- what a field has without a value of its own is of its type
pub initial-typed : (t : FieldType) (choices : List Choice) → HasType t choices (initial_value t)
initial-typed type.Boolean choices = tt
initial-typed type.Integer choices = record { sfits = omega arith }
initial-typed type.Char choices = tt
initial-typed type.Text choices = tt
initial-typed type.Date choices = tt
initial-typed type.Datetime choices = tt
initial-typed type.Selection choices = tt
initial-typed type.Many2one choices = tt
initial-typed type.One2many choices = none-rise
  where
    none-rise : IsRising []
    none-rise k within = absurd (omega arith)
initial-typed type.Many2many choices = none-rise
  where
    none-rise : IsRising []
    none-rise k within = absurd (omega arith)

module _ (models : List ModelInfo) (tables : Tables) (registry : IsRegistry models) (fits : Fits models tables) where
  listed-rise : (target : Option ModelNo) (back : FieldNo) (id : RecId) → IsRising (option_map_or (λ t. naming tables t back id) target [])
  listed-rise None back id = λ k within. absurd (no k within)
    where
      no : (k : ℕ) → k + 1 < 0 → ⊥
      no k within = omega arith
  listed-rise (Some target) back id = rising-from_sorted (naming tables target back id) (naming-rises tables target back id)

  module _ (c : Cell) (info : FieldInfo) (at : field_at models c.model c.field ≡ Some info) where
    kept-typed : (row : PlainRow) → row_at tables c.model c.id ≡ Some row → is_plain_kept info ≡ true → HasType info.field_type info.selection (kept_in row c.field)
    kept-typed row there kept =
        let own = Field-at models c.model c.field info registry at in
        let m = own.info in
        let in_model : numbered (fields_of m) c.field.0 ≡ Some info = sym (ap (option_and_then (λ i. numbered (fields_of i) c.field.0)) own.model_is) ∙ at in
        let shape = known_at (model_at models c.model) m (λ i. IsRowOf i row) own.model_is (known_if (row_at tables c.model c.id) row (λ r. IsSomeAnd (model_at models c.model) (λ i. IsRowOf i r)) there (fits.rows c.model c.id)) in
        let has : is_some (finite.get row c.field.0) ≡ true = row-has m row shape c.field.0 ∙ sym (keeps-fields m own.valid.conditions c.field.0) ∙ ap keeps in_model ∙ kept in
        by (finite.get row c.field.0) has (known_if (row_at tables c.model c.id) row (λ r. IfSome (finite.get r c.field.0) (λ v. IsSomeAnd (field_at models c.model c.field) (λ i. IsGivable i v))) there (fits.values c.model c.id c.field))
      where
        by : (o : Option Value) → is_some o ≡ true → IfSome o (λ v. IsSomeAnd (field_at models c.model c.field) (λ i. IsGivable i v)) → HasType info.field_type info.selection (unwrap_or o value.Nil)
        by None has known = absurd cc
        by (Some v) has known = known_at (field_at models c.model c.field) info (λ i. IsGivable i v) at known

    plain-own : info.origin ≡ origin.Plain → info.inverse ≡ None → info.mirror ≡ None → is_plain_kept info ≡ true
    plain-own plain inverse mirror =
        let right = (Field-at models c.model c.field info registry at).right in
        let single : is_one2many info.field_type ≡ false = sym right.inverse ∙ ap is_some inverse in
        ap (λ (o : Origin). is_plain_from o && (not (is_one2many info.field_type) && is_none info.mirror)) plain ∙ ap (λ (b : Bool). not b && is_none info.mirror) single ∙ ap is_none mirror

    by-typed : (row : PlainRow) → row_at tables c.model c.id ≡ Some row → info.origin ≡ origin.Plain → (inverse mirror : Option FieldNo) → info.inverse ≡ inverse → info.mirror ≡ mirror
        → HasType info.field_type info.selection (plain_by tables inverse mirror info c.field c.id row)
    by-typed row there plain (Some inverse) mirror inverse_is mirror_is =
        let right = (Field-at models c.model c.field info registry at).right in
        subst (λ (t : FieldType). HasType t info.selection (plain_by tables (Some inverse) mirror info c.field c.id row)) (sym (one2many-is info.field_type (sym right.inverse ∙ ap is_some inverse_is)))
        (listed-rise info.relation inverse c.id)
    by-typed row there plain None (Some mirror) inverse_is mirror_is =
        let right = (Field-at models c.model c.field info registry at).right in
        subst (λ (t : FieldType). HasType t info.selection (plain_by tables None (Some mirror) info c.field c.id row)) (sym (many2many-is info.field_type (right.mirror (ap is_some mirror_is)))) (listed-rise info.relation mirror c.id)
    by-typed row there plain None None inverse_is mirror_is = kept-typed row there (plain-own plain inverse_is mirror_is)

    -- a plain value is of its field's type
    pub plain-typed : (v : Value) → plain_at tables models c ≡ Some v → HasType info.field_type info.selection v
    plain-typed v holds = by (row_at tables c.model c.id) refl (sym (ap (λ (i : Option FieldInfo). option_and_then (λ i. option_and_then (plain_from tables i.origin i c.field c.id) (row_at tables c.model c.id)) i) at) ∙ holds)
      where
        by_origin : (row : PlainRow) → row_at tables c.model c.id ≡ Some row → (o : Origin) → info.origin ≡ o → plain_from tables o info c.field c.id row ≡ Some v → HasType info.field_type info.selection v
        by_origin row there origin.Id from is =
            let own = Field-at models c.model c.field info registry at in
            let integer : info.field_type ≡ type.Integer = subst (λ (o : Origin). IsOriginIn models c.model own.info info o) from own.right.origin in
            subst (λ (t : FieldType). HasType t info.selection v) (sym integer) (subst (HasType type.Integer info.selection) (same_Some (id_value c.id) v is) (record { sfits = low (min c.id.0 (2 ^ 63 - 1)) (omega arith) }))
          where
            low : (n : ℕ) → n ≤ 2 ^ 63 - 1 → n < 2 ^ 63
            low n le = omega arith
        by_origin row there origin.Plain from is =
            subst (HasType info.field_type info.selection) (same_Some (plain_by tables info.inverse info.mirror info c.field c.id row) v is) (by-typed row there from info.inverse info.mirror refl refl)
        by_origin row there (origin.Delegated to) from is = absurd cc
        by_origin row there (origin.Computed formula) from is = absurd cc

        by : (r : Option PlainRow) → row_at tables c.model c.id ≡ r → option_and_then (plain_from tables info.origin info c.field c.id) (row_at tables c.model c.id) ≡ Some v → HasType info.field_type info.selection v
        by None none is = absurd (let both : None ≡ Some v = sym (ap (option_and_then (plain_from tables info.origin info c.field c.id)) none) ∙ is in cc)
        by (Some row) there is = by_origin row there info.origin refl (sym (ap (option_and_then (plain_from tables info.origin info c.field c.id)) there) ∙ is)

    -- so it is told
    pub plain-told-typed : (o : Option Value) → o ≡ plain_at tables models c → IfSome o (HasFieldType (field_at models c.model c.field))
    plain-told-typed None is = tt
    plain-told-typed (Some v) is = subst (λ (f : Option FieldInfo). IfSome f (λ i. HasType i.field_type i.selection v)) (sym at) (plain-typed v (sym is))

  -- a computed value too
  pub computed-typed : AreReadable models tables → (c : Cell) (info : FieldInfo) → field_at models c.model c.field ≡ Some info → is_computed_from info.origin ≡ true → (v : Value) → val models tables c ≡ Ok v
      → HasFieldType (field_at models c.model c.field) v
  computed-typed known c info at computed v is =
      subst (λ (f : Option FieldInfo). IfSome f (λ i. HasType i.field_type i.selection v)) (sym at) (holds-given info.field_type info.selection v (known.typed c info at computed v is (known.native c v is)))

  -- and one behind a link, as the field there
  pub behind-typed : (c : Cell) (info : FieldInfo) (to : Delegation) → field_at models c.model c.field ≡ Some info → info.origin ≡ origin.Delegated to → (v : Value) → HasFieldType (field_at models to.model to.field) v
      → HasFieldType (field_at models c.model c.field) v
  behind-typed c info to at from v typed =
      let own = Field-at models c.model c.field info registry at in
      let right : IsDelegatedIn models own.info info to = subst (λ (o : Origin). IsOriginIn models c.model own.info info o) from own.right.origin in
      let other = told_and (field_at models to.model to.field) (λ other. HasKeysOf other info) right.target in
      let has : HasType other.0.field_type other.0.selection v = known_if (field_at models to.model to.field) other.0 (λ i. HasType i.field_type i.selection v) other.1 typed in
      subst (λ (f : Option FieldInfo). IfSome f (λ i. HasType i.field_type i.selection v)) (sym at)
      (subst (λ (t : FieldType). HasType t info.selection v) other.2.field_type (subst (λ (s : List Choice). HasType other.0.field_type s v) other.2.selection has))

  pub initial-told : (c : Cell) (info : FieldInfo) → field_at models c.model c.field ≡ Some info → HasFieldType (field_at models c.model c.field) (initial_value info.field_type)
  initial-told c info at = subst (λ (f : Option FieldInfo). IfSome f (λ i. HasType i.field_type i.selection (initial_value info.field_type))) (sym at) (initial-typed info.field_type info.selection)
