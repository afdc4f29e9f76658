-- JSON lists and objects as the code has them, and where the first item stands that a test
-- refuses.
use Rattle.std.proofs.Common.{◌≡◌, ℕ, suc, ◌+◌, ltb, Bool, true, false, cond, List, [], ◌∷◌, map, Option, Some, None, option_map, BTreeMap, Global, String, Vec, refl, sym, ap, ◌∙◌, arith}
use Rattle.std.proofs.lemmas.Bool.Decides.{nat_tests}
use Rattle.std.specs.List.{position}
use Rattle.std.specs.Prelude.{is_some, not}
use Rattle.serde_json.specs.Data.{Data, array, object}
use Rattle.serde_json.specs.View.{view, items_view, members_view}
use Rattle.serde_json.specs.declared.value.Value.{Value, Array, Object}
use Rattle.serde_json.proofs.Views.{view-Array, view-Object}
use Rattle.ob_base.specs.declared.place.PathStep.{PathStep}
use Rattle.ob_base.specs.declared.place.PathStep.TheVariants.{Item}
use Rattle.ob_schema.specs.declared.info.FieldInfo.{FieldInfo}
use Rattle.ob_call.specs.Forms.{first_item, number_from}
use Rattle.ob_codec.specs.Commands.{listed}

-- whether a value is the name of one of these fields
abbrev pub names_one : List FieldInfo → Data → Bool
names_one fields d = is_some (number_from fields d)

-- the items of a list are those of its data
pub listed-items_view : (vs : List Value) → listed (items_view vs) ≡ map view vs
listed-items_view [] = refl
listed-items_view (v ∷ vs) = ap (λ (ds : List Data). view v ∷ ds) (listed-items_view vs)

-- what an array, and what an object is
pub array_is : (json : Value) (v : Vec Value Global) → json ≡ Array v → view json ≡ array (items_view v.items)
array_is json v is = ap view is ∙ view-Array v

-- an object is its members
pub object_is : (json : Value) (m : BTreeMap (String Global) Value) → json ≡ Object m → view json ≡ object (members_view m.entries)
object_is json m is = ap view is ∙ view-Object m

-- a test of the items of a list, at the place where they stand
pub items_are : {X : Type 0} (test : List Data → X) (items : List Value) (v : Vec Value Global) → items ≡ v.items → test (map view items) ≡ test (listed (items_view v.items))
items_are test items v is = ap (λ (vs : List Value). test (map view vs)) is ∙ ap test (sym (listed-items_view v.items))

-- the first item that is refused, by its index
abbrev pub item_at : ℕ → ℕ → List PathStep
item_at n k = Item (n + k) ∷ []

-- a place further on
later : (n k size : ℕ) → option_map (item_at (n + 1)) (cond (ltb k size) (Some k) None) ≡ option_map (item_at n) (cond (ltb (1 + k) (suc size)) (Some (1 + k)) None)
later n k size = grind (arith, nat_tests)

-- the first item, or a later one
step : (b : Bool) (n k size : ℕ) (rest : Option (List PathStep)) → rest ≡ option_map (item_at (n + 1)) (cond (ltb k size) (Some k) None)
    → cond b rest (Some (Item n ∷ [])) ≡ option_map (item_at n) (cond (ltb (cond (not (not b)) (1 + k) 0) (suc size)) (Some (cond (not (not b)) (1 + k) 0)) None)
step true n k size rest e = e ∙ later n k size
step false n k size rest e =
    let inside : true ≡ ltb 0 (suc size) = grind (arith, nat_tests) in
    let same : n ≡ n + 0 = omega arith in
    ap (λ (m : ℕ). Some (Item m ∷ [])) same ∙ ap (λ (b : Bool). option_map (item_at n) (cond b (Some 0) None)) inside

-- the first item that is refused stands where the test fails first
pub first_item-position : (test : Data → Bool) (n : ℕ) (vs : List Value) → first_item test n (map view vs) ≡ option_map (item_at n) (position (λ (v : Value). not (test (view v))) vs)
first_item-position test n [] = refl
first_item-position test n (v ∷ vs) = step (test (view v)) n _ _ _ (first_item-position test (n + 1) vs)

-- where the first that is refused stands
pub refused_at : (test : Data → Bool) (vs : List Value) (k : ℕ) → Some k ≡ position (λ (v : Value). not (test (view v))) vs → Some (Item k ∷ []) ≡ first_item test 0 (map view vs)
refused_at test vs k e =
    ap (λ (m : ℕ). Some (Item m ∷ [])) (let z : k ≡ 0 + k = omega arith in z) ∙ ap (option_map (item_at 0)) e ∙ sym (first_item-position test 0 vs)

-- no item is refused, where the test fails nowhere
pub none_refused : (test : Data → Bool) (vs : List Value) → None ≡ position (λ (v : Value). not (test (view v))) vs → None ≡ first_item test 0 (map view vs)
none_refused test vs e = ap (option_map (item_at 0)) e ∙ sym (first_item-position test 0 vs)
