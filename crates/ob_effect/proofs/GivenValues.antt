-- Values that are given to fields of rows: what fits them, as edits that set them have it.
use Rattle.std.specs.Option.{option_copied, option_or}
use Rattle.std.proofs.lemmas.Option.{same_Some}
use Rattle.std.proofs.Common.{◌≡◌, ◌<◌, ℕ, Bor, true, List, get_or, length, Option, Some, None, refl, sym, subst, ◌∙◌}
use Rattle.std.specs.Prelude.{All, Any, Contains, IfSome, IsSome, IsSomeAnd, option_and_then}
use Rattle.std.proofs.lemmas.Bool.{false≢true}
use Rattle.std.proofs.lemmas.List.Elements.{All-contains}
use Rattle.ob_base.specs.declared.id.FieldNo.{FieldNo}
use Rattle.ob_base.specs.declared.id.ModelNo.{ModelNo}
use Rattle.ob_base.specs.declared.id.RecId.{RecId}
use Rattle.ob_base.specs.declared.id.RowKey.{RowKey}
use Rattle.ob_base.specs.declared.value.Value.{Value}
use Rattle.ob_base.specs.declared.value.Value.TheVariants as value
use Rattle.ob_effect.specs.Cells.{cell_at}
use Rattle.ob_effect.specs.Effect.{IsFitChange}
use Rattle.ob_effect.specs.Objects.{IsTypedValue}
use Rattle.ob_effect.specs.Rows.{IsLink, IsLinkField}
use Rattle.ob_rows.specs.Makeable.{IsMakeable}
use Rattle.ob_effect.specs.declared.rows.LinkTo.{LinkTo}
use Rattle.ob_definition.specs.Values.{HasType, IsValueOf}
use Rattle.ob_definition.specs.declared.field_type.Choice.{Choice}
use Rattle.ob_definition.specs.declared.field_type.FieldType.{FieldType}
use Rattle.ob_definition.specs.declared.field_type.FieldType.TheVariants as type
use Rattle.ob_schema.specs.Built.{numbered}
use Rattle.ob_schema.specs.Fields.{HasFieldType, Holds, IsGivable, is_plain_kept}
use Rattle.ob_schema.specs.Models.{FieldHas, HasField, HasKeysOf, HasModel, field_at, fields_of, model_at}
use Rattle.ob_schema.specs.declared.info.FieldInfo.{FieldInfo}
use Rattle.ob_schema.specs.declared.info.ModelInfo.{ModelInfo}
use Rattle.ob_tables.proofs.CallerLemmas.{Any-at_all, known_at, known_if, tell_and, there_is, told_and}
use Rattle.ob_tables.specs.Fitting.{IsFitId, IsFitIn}
use Rattle.ob_tables.specs.declared.edit.Edit.TheVariants as edit

-- what holds of all holds of the one at a place
pub item_of : {X : Type 0} (P : X → Type 0) (items shown : List X) → shown ≡ items → All P items → (i : ℕ) (x : X) → i < length shown → x ≡ get_or shown i x → P x
item_of P items shown same all i x lt is = subst P (sym is) (subst (All P) (sym same) all i x lt)

-- ---- fields that are there

module _ (models : List ModelInfo) (model : ModelNo) (number : FieldNo) where
  -- a field that has something is there
  pub field_there : (P : FieldInfo → Type 0) → FieldHas models P model number → HasField models model number
  field_there P has = let (f, at, own) = told_and (field_at models model number) P has in there_is (field_at models model number) f at

  -- and so is its model
  pub model_there : HasField models model number → HasModel models model
  model_there has = by (model_at models model) has where
    by : (o : Option ModelInfo) → IsSome (option_and_then (λ info. numbered (fields_of info) number.0) o) → IsSome o
    by None h = absurd (false≢true h)
    by (Some info) h = refl

  -- what is known of the field is known where it is there
  pub typed_of : (v : Value) → FieldHas models (λ info. IsGivable info v) model number → HasFieldType (field_at models model number) v
  typed_of v has = by (field_at models model number) has where
    by : (o : Option FieldInfo) → IsSomeAnd o (λ info. IsGivable info v) → HasFieldType o v
    by None h = absurd h
    by (Some f) h = h

  module _ (f : FieldInfo) (at : field_at models model number ≡ Some f) where
    pub typed_at : (v : Value) → HasFieldType (field_at models model number) v → FieldHas models (λ info. IsGivable info v) model number
    typed_at v typed = tell_and (field_at models model number) f (λ info. IsGivable info v) at (known_if (field_at models model number) f (λ info. IsGivable info v) at typed)

    -- what rows keep for it
    pub fit_at : is_plain_kept f ≡ true → (v : Value) → FieldHas models (λ info. IsGivable info v) model number → FieldHas models (λ info. IsFitIn info v) model number
    fit_at plain v typed = tell_and (field_at models model number) f (λ info. IsFitIn info v) at (plain, known_at (field_at models model number) f (λ info. IsGivable info v) at typed)

-- an edit that sets such a value may be asked for
pub set_fits : (models : List ModelInfo) (row : RowKey) (number : FieldNo) (v : Value) → IsFitId row.id → FieldHas models (λ info. IsFitIn info v) row.model number
    → IsFitChange models (edit.Set (cell_at row number) v)
set_fits models row number v id fit = (id, fit)

-- ---- links, given values and defaults

module _ (models : List ModelInfo) (model : ModelNo) (number : FieldNo) where
  -- a link may name a row
  pub link_names : (id : RecId) → IsLinkField models model number → HasFieldType (field_at models model number) (value.Ref id)
  link_names id link = by (field_at models model number) link where
    by : (o : Option FieldInfo) → IsSomeAnd o (λ info. (is_plain_kept info ≡ true) × (info.field_type ≡ type.Many2one)) → HasFieldType o (value.Ref id)
    by None h = absurd h
    by (Some f) h = subst (λ (t : FieldType). HasType t f.selection (value.Ref id)) (sym h.1) tt

  pub linked : (links : List LinkTo) (id : RecId) → All (IsLink models model) links → Any (λ link. (link.field ≡ number) × (link.id ≡ id)) links → HasFieldType (field_at models model number) (value.Ref id)
  linked links id all any =
      let (link, said, own) = Any-at_all (λ (l : LinkTo). (l.field ≡ number) × (l.id ≡ id)) (IsLink models model) links all any in
      link_names id (subst (IsLinkField models model) said.0 own)

  -- a value that is given is of its field's type
  pub given_for : (given : List (FieldNo × Value)) (v : Value) → All (IsTypedValue models model) given → Contains given (number, v) → HasFieldType (field_at models model number) v
  given_for given v all among = typed_of models model number v (All-contains (IsTypedValue models model) given (number, v) all among)

-- what a field may hold is of its type
pub held_typed : (t : FieldType) (choices : List Choice) (v : Value) → IsValueOf t choices v → HasType t choices v
held_typed type.Many2one choices (value.Ref id) own = tt
held_typed type.One2many choices (value.Refs ids) own = own.rising
held_typed type.Many2many choices (value.Refs ids) own = own.0.rising
held_typed _ choices v own = own

-- so is its default
pub default_typed : (o : Option FieldInfo) (f : FieldInfo) (v : Value) → o ≡ Some f → IfSome o IsMakeable → f.default ≡ Some v → HasFieldType o v
default_typed o f v at makeable is =
    let fits = known_if o f IsMakeable at makeable in
    let holds : Holds f v = known_if f.default v (Holds f) is fits.default in
    let typed : IsGivable f v = held_typed f.field_type f.selection v holds in
    subst (λ (p : Option FieldInfo). HasFieldType p v) (sym at) typed

-- ---- what is given behind a link

pub behind_typed : (models : List ModelInfo) (model parent : ModelNo) (number field : FieldNo) (v : Value) → FieldHas models (λ own. FieldHas models (λ other. HasKeysOf other own) parent field) model number
    → IsTypedValue models model (number, v) → IsTypedValue models parent (field, v)
behind_typed models model parent number field v stands typed =
    let (own, at, inner) = told_and (field_at models model number) (λ (f : FieldInfo). FieldHas models (λ other. HasKeysOf other f) parent field) stands in
    let (other, there, keys) = told_and (field_at models parent field) (λ (g : FieldInfo). HasKeysOf g own) inner in
    let fits = known_at (field_at models model number) own (λ info. IsGivable info v) at typed in
    tell_and (field_at models parent field) other (λ info. IsGivable info v) there
    (subst (λ (t : FieldType). HasType t other.selection v) (sym keys.field_type) (subst (λ (cs : List Choice). HasType own.field_type cs v) (sym keys.selection) fits))

-- ---- one of two values

-- what is given, or else the default
pub given_or : {X : Type 0} (P : X → Type 0) (a b r : Option X) (x : X) → r ≡ option_or a b → r ≡ Some x → IfSome a P → IfSome b P → P x
given_or P None b r x is found own other = known_if b x P (sym is ∙ found) other
given_or P (Some y) b r x is found own other = subst P (same_Some y x (sym is ∙ found)) own

-- a default that is told
pub default_told : (o : Option FieldInfo) (f : FieldInfo) (told : Option (Bor Value)) → o ≡ Some f → IfSome o IsMakeable → option_copied told ≡ f.default → IfSome told (λ v. HasFieldType o v.now)
default_told o f None at makeable is = tt
default_told o f (Some v) at makeable is = default_typed o f v.now at makeable (sym is)

-- what follows of what there is
pub if_weaker : {X : Type 0} (P Q : X → Type 0) → ((x : X) → P x → Q x) → (o : Option X) → IfSome o P → IfSome o Q
if_weaker P Q by None own = tt
if_weaker P Q by (Some x) own = by x own
