-- Where objects of values are wrong: the keys of one, and the items of a list one after another.
use Rattle.std.proofs.Common.{◌≡◌, ◌<◌, ◌+◌, ◌∷◌, [], ℕ, true, cond, List, drop, get_or, length, map, Option, Some, None, is_some, String, Global, string_bytes, refl, sym, ap, ◌∙◌}
use Rattle.std.specs.Option.{option_map_or}
use Rattle.std.specs.Prelude.{All, IfSome, if◌then◌else◌}
use Rattle.std.specs.Map.{keys_of}
use Rattle.std.proofs.lemmas.Bool.{false≢true}
use Rattle.std.proofs.lemmas.List.{drop_more}
use Rattle.std.proofs.lemmas.List.Elements.{All-cons, All-nil}
use Rattle.ob_base.specs.declared.id.FieldNo.{FieldNo}
use Rattle.ob_base.specs.declared.id.ModelNo.{ModelNo}
use Rattle.ob_base.specs.declared.place.PathStep.{PathStep}
use Rattle.ob_base.specs.declared.place.PathStep.TheVariants.{Item, Key}
use Rattle.ob_call.proofs.CallerLemmas.{listed-items_view}
use Rattle.ob_call.specs.Arguments.{entries}
use Rattle.ob_call.specs.Forms.{fields_at}
use Rattle.ob_codec.specs.CommandForms.{IsObject}
use Rattle.ob_commands.specs.Asked.{object_fault, objects_fault, unknown_key, wrong_item}
use Rattle.ob_schema.specs.Models.{HasModel, field_named, model_at}
use Rattle.ob_schema.specs.declared.info.FieldInfo.{FieldInfo}
use Rattle.ob_schema.specs.declared.info.ModelInfo.{ModelInfo}
use Rattle.serde_json.proofs.Views.{Entry}
use Rattle.serde_json.specs.Data.{Data, Items, array, object}
use Rattle.serde_json.specs.Find.{as_array}
use Rattle.serde_json.specs.View.{items_view, members_view, view}
use Rattle.serde_json.specs.declared.value.Value.{Value as Json}

-- ---- keys

-- the field of a name, among those of the model
pub field_by_name : (models : List ModelInfo) (model : ModelNo) (name : List ℕ) (r : Option FieldNo) → HasModel models model → IfSome (model_at models model) (λ info. r ≡ field_named info.fields name)
    → r ≡ field_named (fields_at models model) name
field_by_name models model name r there found = by (model_at models model) there found where
  by : (o : Option ModelInfo) → is_some o ≡ true → IfSome o (λ info. r ≡ field_named info.fields name) → r ≡ field_named (option_map_or (λ info. info.fields) o []) name
  by None there found = absurd (false≢true there)
  by (Some info) there found = found

module _ (fields : List FieldInfo) where
  -- the place of the first of some keys that is no field's name
  abbrev pub unknown_of : List (String Global) → Option (List PathStep)
  unknown_of [] = None
  unknown_of (k ∷ ks) = if is_some (field_named fields (string_bytes k)) then unknown_of ks else Some (Key (string_bytes k) ∷ [])

  -- the keys of a map are those of the object
  pub unknown-entries : (es : List Entry) → unknown_key fields (entries (members_view es)) ≡ unknown_of (keys_of es)
  unknown-entries [] = refl
  unknown-entries (e ∷ es) = ap (λ (o : Option (List PathStep)). cond (is_some (field_named fields (string_bytes e.0))) o (Some (Key (string_bytes e.0) ∷ []))) (unknown-entries es)

  -- ---- objects, and lists of them

  -- what has no fault is an object
  pub right-object : (d : Data) → object_fault fields d ≡ None → IsObject d
  right-object (object _) is = refl
  right-object _ is = absurd cc

  -- what is no list
  pub objects-alone : (d : Data) → None ≡ as_array d → objects_fault fields d ≡ object_fault fields d
  objects-alone (array items) is = absurd cc
  objects-alone _ is = refl

  -- and the items of one
  pub objects-listed : (d : Data) (items : List Json) → Some (items_view items) ≡ as_array d → objects_fault fields d ≡ wrong_item fields 0 (map view items)
  objects-listed d items is = ap (objects_fault fields) (array_found d (items_view items) is) ∙ ap (wrong_item fields 0) (listed-items_view items) where
    array_found : (d : Data) (items : Items) → Some items ≡ as_array d → d ≡ array items
    array_found (array own) items is = let e : items ≡ own = cc in sym (ap array e)
    array_found _ items is = absurd cc

  -- the item at a number, before those that follow it
  wrong-next : (items : List Json) (i : ℕ) (item : Json) → i < length items → item ≡ get_or items i item
      → wrong_item fields i (map view (drop i items)) ≡ option_map_or (λ below. Some (Item i ∷ below)) (object_fault fields (view item)) (wrong_item fields (i + 1) (map view (drop (i + 1) items)))
  wrong-next items i item lt is =
      ap (λ (vs : List Json). wrong_item fields i (map view vs)) (drop_more items i item lt ∙ ap (λ (v : Json). v ∷ drop (i + 1) items) (sym is))

  -- an item that is right
  pub wrong-later : (items : List Json) (i : ℕ) (item : Json) → i < length items → item ≡ get_or items i item → object_fault fields (view item) ≡ None
      → wrong_item fields i (map view (drop i items)) ≡ wrong_item fields (i + 1) (map view (drop (i + 1) items))
  wrong-later items i item lt is right = wrong-next items i item lt is ∙ ap (λ (o : Option (List PathStep)). option_map_or (λ below. Some (Item i ∷ below)) o (wrong_item fields (i + 1) (map view (drop (i + 1) items)))) right

  -- the first that is wrong, or one that follows it
  none-wrong : (o rest : Option (List PathStep)) (n : ℕ) → option_map_or (λ below. Some (Item n ∷ below)) o rest ≡ None → (o ≡ None) × (rest ≡ None)
  none-wrong None rest n is = (refl, is)
  none-wrong (Some below) rest n is = absurd cc

  -- where none is wrong each is an object
  pub all-objects : (items : List Json) (n : ℕ) → wrong_item fields n (map view items) ≡ None → All (λ (item : Json). IsObject (view item)) items
  all-objects [] n is = All-nil (λ (item : Json). IsObject (view item))
  all-objects (v ∷ items) n is =
      let (own, rest) = none-wrong (object_fault fields (view v)) (wrong_item fields (n + 1) (map view items)) n is in
      All-cons (λ (item : Json). IsObject (view item)) v items (right-object (view v) own) (all-objects items (n + 1) rest)
