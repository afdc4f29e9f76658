-- Keys that are taken, one after the other.
use Rattle.std.proofs.Common.{◌≡◌, ℕ, ◌+◌, ◌<◌, Option, Some, None, Bool, true, false, cond, ◌||◌, List, [], ◌∷◌, drop, get_or, length, map, refl, sym, ap, ◌∙◌}
use Rattle.std.specs.BTreeSet.{BTreeSet, contains_text}
use Rattle.std.specs.Cmp.Lexicographic.{slice_cmp}
use Rattle.std.specs.List.{list_any}
use Rattle.std.specs.Ordering.{is_eq, nat_cmp}
use Rattle.std.specs.Str.{bytes_eq}
use Rattle.std.specs.String.{string_bytes}
use Rattle.std.specs.declared.alloc.Global.{Global}
use Rattle.std.specs.declared.string.String.{String}
use Rattle.ob_call.specs.Arguments.{is_among}
use Rattle.ob_base.specs.declared.place.PathStep.TheVariants.{Item}
use Rattle.ob_query.proofs.CallerLemmas.{map-left}
use Rattle.ob_group.specs.GroupForms.{Entry, entry_from, first_wrong_entry, is_free, texts_in, with_key}
use Rattle.ob_group.specs.GroupParts.{AreTaken}
use Rattle.ob_schema.specs.declared.info.FieldInfo.{FieldInfo}
use Rattle.serde_json.specs.Data.{Data}
use Rattle.serde_json.specs.Find.{as_str}
use Rattle.serde_json.specs.View.{view}
use Rattle.serde_json.specs.declared.value.Value.{Value}

first_too : (b c : Bool) → cond b true c ≡ (b || c)
first_too true c = refl
first_too false c = refl

-- one key more
pub AreTaken-more : (keys : List (List ℕ)) (key : List ℕ) (old new : BTreeSet (String Global)) → AreTaken keys old → ((name : List ℕ) → contains_text new name ≡ cond (bytes_eq key name) true (contains_text old name))
    → AreTaken (key ∷ keys) new
AreTaken-more keys key old new taken updates name = updates name ∙ ap (λ (b : Bool). cond (bytes_eq key name) true b) (taken name) ∙ first_too (bytes_eq key name) (is_among name keys)

-- taken keys with those that are still to come are all
pub record AreTakenTo (all rest : List (List ℕ)) (taken : BTreeSet (String Global)) : Type 0 where
  pub known : (name : List ℕ) → (contains_text taken name || is_among name rest) ≡ is_among name all

moved : (b c r : Bool) → (cond b true c || r) ≡ (c || (b || r))
moved true true r = refl
moved true false r = refl
moved false c r = refl

none_left : (b : Bool) → (b || false) ≡ b
none_left true = refl
none_left false = refl

pub AreTakenTo-more : (all rest : List (List ℕ)) (key : List ℕ) (old new : BTreeSet (String Global)) → AreTakenTo all (key ∷ rest) old → ((name : List ℕ) → contains_text new name ≡ cond (bytes_eq key name) true (contains_text old name))
    → AreTakenTo all rest new
AreTakenTo-more all rest key old new so_far updates = record {
  known = λ name. ap (λ (b : Bool). b || is_among name rest) (updates name) ∙ moved (bytes_eq key name) (contains_text old name) (is_among name rest) ∙ so_far.known name;
}

pub AreTakenTo-all : (all : List (List ℕ)) (taken : BTreeSet (String Global)) → AreTakenTo all [] taken → AreTaken all taken
AreTakenTo-all all taken so_far name = sym (none_left (contains_text taken name)) ∙ so_far.known name

-- ---- texts among items

module _ (d : Data) (ds : List Data) where
  none_text : as_str d ≡ None → texts_in (d ∷ ds) ≡ texts_in ds
  none_text e = rw e refl

  some_text : (text : List ℕ) → as_str d ≡ Some text → texts_in (d ∷ ds) ≡ text ∷ texts_in ds
  some_text text e = rw e refl

-- those that are left at an item
module _ (items : List Value) (i : ℕ) (item : Value) (lt : i < length items) (at : item ≡ get_or items i item) where
  left : map view (drop i items) ≡ view item ∷ map view (drop (i + 1) items)
  left = map-left view items i item lt ∙ ap (λ (v : Value). view v ∷ map view (drop (i + 1) items)) (sym at)

  pub texts-none : as_str (view item) ≡ None → texts_in (map view (drop i items)) ≡ texts_in (map view (drop (i + 1) items))
  texts-none e = ap texts_in left ∙ none_text (view item) (map view (drop (i + 1) items)) e

  pub texts-some : (text : List ℕ) → as_str (view item) ≡ Some text → texts_in (map view (drop i items)) ≡ text ∷ texts_in (map view (drop (i + 1) items))
  texts-some text e = ap texts_in left ∙ some_text (view item) (map view (drop (i + 1) items)) text e

-- ---- entries

module _ (fields : List FieldInfo) (keys : List (List ℕ)) (n : ℕ) (d : Data) (ds : List Data) where
  -- what is no entry is wrong, and so is one whose key is taken
  pub wrong-none : entry_from fields d ≡ None → first_wrong_entry fields keys n (d ∷ ds) ≡ Some (Item n ∷ [])
  wrong-none e = rw e refl

  pub wrong-taken : (entry : Entry) → entry_from fields d ≡ Some entry → is_free entry keys ≡ false → first_wrong_entry fields keys n (d ∷ ds) ≡ Some (Item n ∷ [])
  wrong-taken entry e taken = rw e (rw taken refl)

  pub wrong-later : (entry : Entry) → entry_from fields d ≡ Some entry → is_free entry keys ≡ true → first_wrong_entry fields keys n (d ∷ ds) ≡ first_wrong_entry fields (with_key entry keys) (n + 1) ds
  wrong-later entry e free = rw e (rw free refl)

none_first : (b c : Bool) → (cond b true false || c) ≡ (b || c)
none_first true c = refl
none_first false c = refl

-- the first key
pub AreTakenTo-first : (key : List ℕ) (rest : List (List ℕ)) (old new : BTreeSet (String Global)) → old.keys ≡ [] → ((name : List ℕ) → contains_text new name ≡ cond (bytes_eq key name) true (contains_text old name))
    → AreTakenTo (key ∷ rest) rest new
AreTakenTo-first key rest old new none updates = record {
  known = λ name.
      let empty : contains_text old name ≡ false = ap (list_any (λ (k : String Global). is_eq (slice_cmp nat_cmp name (string_bytes k)))) none in
      ap (λ (b : Bool). b || is_among name rest) (updates name ∙ ap (λ (b : Bool). cond (bytes_eq key name) true b) empty) ∙ none_first (bytes_eq key name) (is_among name rest);
}
