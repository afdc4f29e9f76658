-- Fields of a model by number, its field `id`, and which kept fields are computed.
use Rattle.std.proofs.Common.{◌≡◌, ◌++◌, zero, suc, ℕ, true, false, ◌&&◌, List, [], ◌∷◌, Some, refl, sym, ap, ◌∙◌, arith}
use Rattle.std.specs.Prelude.{codes, option_and_then}
use Rattle.std.specs.List.{slice_get}
use Rattle.std.specs.Str.{bytes_eq}
use Rattle.std.proofs.lemmas.Option.{slice_get-get_or}
use Rattle.ob_base.specs.declared.id.ModelNo.{ModelNo}
use Rattle.ob_definition.specs.Definitions.{plain_field}
use Rattle.ob_definition.specs.declared.field_type.FieldType.TheVariants as type
use Rattle.ob_schema.specs.Built.{numbered}
use Rattle.ob_schema.specs.Fields.{is_kept_from, is_own, is_plain_from}
use Rattle.ob_schema.specs.Models.{IsRegistry, field_at, fields_of, is_computed_from, is_id_from, model_at}
use Rattle.ob_schema.specs.declared.info.FieldInfo.{FieldInfo}
use Rattle.ob_schema.specs.declared.info.ModelInfo.{ModelInfo}
use Rattle.ob_schema.specs.declared.info.Origin.{Origin}
use Rattle.ob_schema.specs.declared.info.Origin.TheVariants as origin
use Rattle.ob_tables.proofs.CallerLemmas.{Field-at}

-- ---- fields of a model

slice_get-front : {X : Type 0} (xs ys : List X) (k : ℕ) (x : X) → slice_get xs k ≡ Some x → slice_get (xs ++ ys) k ≡ Some x
slice_get-front [] ys k x is = absurd cc
slice_get-front (y ∷ xs) ys zero x is = is
slice_get-front (y ∷ xs) ys (suc k) x is = slice_get-front xs ys k x is

-- the first of two lists at a number
pub numbered-front : {X : Type 0} (xs ys : List X) (q : ℕ) (x : X) → numbered xs q ≡ Some x → numbered (xs ++ ys) q ≡ Some x
numbered-front xs ys zero x is = absurd cc
numbered-front xs ys (suc k) x is = slice_get-front xs ys k x is

-- a named field of a model that is there
pub field-of : (models : List ModelInfo) (model : ModelNo) (info : ModelInfo) (q : ℕ) (field : FieldInfo) → model_at models model ≡ Some info → numbered info.fields q ≡ Some field → field_at models model (record { 0 = q }) ≡ Some field
field-of models model info q field is at = ap (option_and_then (λ (i : ModelInfo). numbered (fields_of i) q)) is ∙ numbered-front info.fields info.hidden q field at

-- the field `id` of a model
pub record IdField (models : List ModelInfo) (model : ModelNo) (info : ModelInfo) : Type 0 where
  pub place : ℕ
  pub field : FieldInfo
  pub named : slice_get info.fields place ≡ Some field
  pub at : field_at models model (record { 0 = suc place }) ≡ Some field
  pub name : field.name ≡ codes "id"
  pub is_id : is_id_from field.origin ≡ true

pub id-field : (models : List ModelInfo) → IsRegistry models → (model : ModelNo) (info : ModelInfo) → model_at models model ≡ Some info → IdField models model info
id-field models registry model info is =
    let (k, field, within, found, own) = (registry.each model info is).automatic 2 (plain_field (codes "id") type.Integer) (omega arith) in
    let named : slice_get info.fields k ≡ Some field = slice_get-get_or info.fields k field within ∙ ap Some found in
    let at = field-of models model info (suc k) field is named in
    record {
      place = k;
      field = field;
      named = named;
      at = at;
      name = own.0;
      is_id = (Field-at models model (record { 0 = suc k }) field registry at).right.id ∙ ap (λ (n : List ℕ). bytes_eq n (codes "id")) own.0;
    }

-- a kept field that isn't plain is computed
pub computed-from : (o : Origin) (field : FieldInfo) → is_kept_from o field ≡ true → (is_plain_from o && is_own field) ≡ false → is_computed_from o ≡ true
computed-from origin.Id field kept plain = absurd cc
computed-from origin.Plain field kept plain = absurd (let not : true ≡ false = sym kept ∙ plain in cc)
computed-from (origin.Delegated at) field kept plain = absurd cc
computed-from (origin.Computed formula) field kept plain = refl
