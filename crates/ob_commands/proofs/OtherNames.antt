-- Which names are those of fields that ob_orm gives no value, key by key and object by object.
use Rattle.std.proofs.Common.{◌≡◌, ◌∙◌, ℕ, ◌-◌, Bor, Bool, false, not, ◌||◌, List, [], ◌∷◌, length, map, Option, Some, None, option_map, option_and_then, String, Global, string_bytes, refl, sym, ap}
use Rattle.std.specs.Prelude.{IfSome, slice_get}
use Rattle.std.specs.List.{list_any}
use Rattle.std.specs.Map.{keys_of}
use Rattle.std.specs.Slice.{IsItemAt}
use Rattle.std.proofs.lemmas.Option.{slice_get-map, slice_get_past, slice_get_read}
use Rattle.std.specs.Option.{option_map_or}
use Rattle.ob_base.specs.declared.id.FieldNo.{FieldNo}
use Rattle.ob_base.specs.declared.id.ModelNo.{ModelNo}
use Rattle.ob_call.proofs.CallerLemmas.{listed-items_view}
use Rattle.ob_call.specs.Arguments.{entries}
use Rattle.ob_call.specs.Forms.{fields_at}
use Rattle.ob_codec.specs.Commands.{listed}
use Rattle.ob_commands.specs.Holding.{is_other_name, names_other}
use Rattle.ob_rows.proofs.CallerLemmas.{tested_by_name}
use Rattle.ob_rows.specs.Values.{is_settable}
use Rattle.ob_schema.specs.Built.{numbered}
use Rattle.ob_schema.specs.Models.{field_at, field_named, model_at}
use Rattle.ob_schema.specs.declared.info.FieldInfo.{FieldInfo}
use Rattle.ob_schema.specs.declared.info.ModelInfo.{ModelInfo}
use Rattle.serde_json.proofs.Views.{Entry}
use Rattle.serde_json.specs.Data.{Data}
use Rattle.serde_json.specs.View.{items_view, members_view, view}
use Rattle.serde_json.specs.declared.value.Value.{Value as Json}

-- ---- items of lists

-- what a look-up at a place lends
got-at : {X : Type 0} (xs : List X) (i : ℕ) (r : Option (Bor X)) → IsItemAt xs i r → option_map (λ x. x.now) r ≡ slice_get xs i
got-at xs i None item = sym (slice_get_past xs i item.3)
got-at xs i (Some x) item = sym (slice_get_read xs (length xs) i x.now refl item.3.0 item.1)

twice : (r : Option (Bor Json)) → option_map (λ item. view item.now) r ≡ option_map view (option_map (λ item. item.now) r)
twice None = refl
twice (Some x) = refl

-- as data
pub item-found : (vs : List Json) (i : ℕ) (r : Option (Bor Json)) → IsItemAt vs i r → option_map (λ item. view item.now) r ≡ slice_get (listed (items_view vs)) i
item-found vs i r item =
    twice r ∙ ap (option_map view) (got-at vs i r item) ∙ sym (slice_get-map view vs i) ∙ ap (λ (ds : List Data). slice_get ds i) (sym (listed-items_view vs))

-- ---- names

-- the name of a field
pub other-named : (models : List ModelInfo) (model : ModelNo) (name : List ℕ) (number : FieldNo) (f : FieldInfo) → IfSome (model_at models model) (λ info. Some number ≡ field_named info.fields name)
    → field_at models model number ≡ Some f → not (is_settable models f) ≡ is_other_name models (fields_at models model) name
other-named models = tested_by_name (λ field. not (is_settable models field)) models

-- one of no field
pub other-unnamed : (models : List ModelInfo) (fields : List FieldInfo) (name : List ℕ) → field_named fields name ≡ None → is_other_name models fields name ≡ false
other-unnamed models fields name none = ap (λ (o : Option FieldNo). option_map_or (λ field. not (is_settable models field)) (option_and_then (λ number. numbered fields number.0) o) false) none

-- ---- keys

module _ (models : List ModelInfo) (fields : List FieldInfo) where
  -- one of some keys is such a name
  abbrev pub any_key : List (String Global) → Bool
  any_key keys = list_any (λ key. is_other_name models fields (string_bytes key)) keys

  -- the keys of a map are those of the object
  pub any_key-entries : (es : List Entry) → list_any (λ e. is_other_name models fields e.0) (entries (members_view es)) ≡ any_key (keys_of es)
  any_key-entries [] = refl
  any_key-entries (e ∷ es) = ap (λ (b : Bool). is_other_name models fields (string_bytes e.0) || b) (any_key-entries es)

  -- ---- objects

  any-map : (vs : List Json) → list_any (names_other models fields) (map view vs) ≡ list_any (λ v. names_other models fields (view v)) vs
  any-map [] = refl
  any-map (v ∷ vs) = ap (λ (b : Bool). names_other models fields (view v) || b) (any-map vs)

  -- those of a list
  pub any-listed : (vs : List Json) → list_any (names_other models fields) (listed (items_view vs)) ≡ list_any (λ v. names_other models fields (view v)) vs
  any-listed vs = ap (list_any (names_other models fields)) (listed-items_view vs) ∙ any-map vs
