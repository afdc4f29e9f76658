-- Where objects of values are wrong, and the items of a list one after another.
use Rattle.std.proofs.Common.{◌≡◌, ◌<◌, ◌+◌, ◌∷◌, [], ◌++◌, ℕ, List, drop, get_or, length, map, Option, Some, None, append_assoc, refl, sym, ap, ◌∙◌}
use Rattle.std.specs.Option.{option_map_or}
use Rattle.std.specs.Prelude.{All}
use Rattle.std.proofs.lemmas.List.{drop_more}
use Rattle.std.proofs.lemmas.List.Elements.{All-cons, All-nil}
use Rattle.ob_base.specs.declared.place.PathStep.{PathStep}
use Rattle.ob_base.specs.declared.place.PathStep.TheVariants.{Item}
use Rattle.ob_call.proofs.CallerLemmas.{listed-items_view}
use Rattle.ob_schema.specs.declared.info.FieldInfo.{FieldInfo}
use Rattle.ob_schema.specs.declared.info.ModelInfo.{ModelInfo}
use Rattle.serde_json.specs.Data.{Data, Items, array}
use Rattle.serde_json.specs.Find.{as_array}
use Rattle.serde_json.specs.View.{items_view, view}
use Rattle.serde_json.specs.declared.value.Value.{Value as Json}
use Rattle.ob_orm.specs.Objects.{first_wrong, objects_fault}
use Rattle.ob_rows.specs.Values.{new_values_fault}

-- a step before others is one behind a place
pub deeper : (place below : List PathStep) (step : PathStep) → place ++ step ∷ below ≡ (place ++ step ∷ []) ++ below
deeper place below step = sym (append_assoc place (step ∷ []) below)

-- what is a list, as its items
pub array_found : (d : Data) (items : Items) → Some items ≡ as_array d → d ≡ array items
array_found (array own) items is = let e : items ≡ own = cc in sym (ap array e)
array_found _ items is = absurd cc

-- a form of objects at what is no list
pub objects-alone : (models : List ModelInfo) (fields : List FieldInfo) (d : Data) → None ≡ as_array d → objects_fault models fields d ≡ new_values_fault models fields d
objects-alone models fields (array items) is = absurd cc
objects-alone models fields _ is = refl

-- and at the items of one
pub objects-listed : (models : List ModelInfo) (fields : List FieldInfo) (d : Data) (items : List Json) → Some (items_view items) ≡ as_array d → objects_fault models fields d ≡ first_wrong (new_values_fault models fields) 0 (map view items)
objects-listed models fields d items is =
    ap (objects_fault models fields) (array_found d (items_view items) is) ∙ ap (first_wrong (new_values_fault models fields) 0) (listed-items_view items)

module _ (fault : Data → Option (List PathStep)) where
  -- the item at a number, before those that follow it
  pub wrong-next : (items : List Json) (i : ℕ) (item : Json) → i < length items → item ≡ get_or items i item
      → first_wrong fault i (map view (drop i items)) ≡ option_map_or (λ below. Some (Item i ∷ below)) (fault (view item)) (first_wrong fault (i + 1) (map view (drop (i + 1) items)))
  wrong-next items i item lt is =
      ap (λ (vs : List Json). first_wrong fault i (map view vs)) (drop_more items i item lt ∙ ap (λ (v : Json). v ∷ drop (i + 1) items) (sym is))

  -- an item that is right
  pub wrong-later : (items : List Json) (i : ℕ) (item : Json) → i < length items → item ≡ get_or items i item → fault (view item) ≡ None
      → first_wrong fault i (map view (drop i items)) ≡ first_wrong fault (i + 1) (map view (drop (i + 1) items))
  wrong-later items i item lt is right = wrong-next items i item lt is ∙ ap (λ (o : Option (List PathStep)). option_map_or (λ below. Some (Item i ∷ below)) o (first_wrong fault (i + 1) (map view (drop (i + 1) items)))) right

  -- the first that is wrong, or one that follows it
  none-wrong : (o rest : Option (List PathStep)) (n : ℕ) → option_map_or (λ below. Some (Item n ∷ below)) o rest ≡ None → (o ≡ None) × (rest ≡ None)
  none-wrong None rest n is = (refl, is)
  none-wrong (Some below) rest n is = absurd cc

  -- where none is wrong each is right
  pub all-right : (items : List Json) (n : ℕ) → first_wrong fault n (map view items) ≡ None → All (λ (item : Json). fault (view item) ≡ None) items
  all-right [] n is = All-nil (λ (item : Json). fault (view item) ≡ None)
  all-right (v ∷ items) n is =
      let (own, rest) = none-wrong (fault (view v)) (first_wrong fault (n + 1) (map view items)) n is in
      All-cons (λ (item : Json). fault (view item) ≡ None) v items own (all-right items (n + 1) rest)
