-- Fields by which rows are ordered, by the terms of an order.
use Rattle.std.proofs.Common.{◌≡◌, ℕ, suc, ◌+◌, ◌-◌, ◌<◌, ◌≤◌, List, [], ◌∷◌, ◌++◌, map, length, get_or, drop, Option, Some, None, option_map, refl, sym, ap, ◌∙◌, arith, append_assoc}
use Rattle.std.specs.Prelude.{IfSome, IsSome, option_and_then, slice_get}
use Rattle.std.specs.Option.{option_map_or}
use Rattle.std.proofs.lemmas.List.{append-nil, drop_all, drop_more}
use Rattle.std.proofs.lemmas.Option.{slice_get-get_or}
use Rattle.ob_base.specs.declared.id.FieldNo.{FieldNo}
use Rattle.ob_base.specs.declared.id.ModelNo.{ModelNo}
use Rattle.ob_call.proofs.CallerLemmas.{named-range, numbered-before}
use Rattle.ob_call.specs.Forms.{fields_at}
use Rattle.ob_definition.specs.Orders.{all_some}
use Rattle.ob_schema.specs.Built.{numbered}
use Rattle.ob_schema.specs.Models.{field_at, field_named, fields_of, model_at}
use Rattle.ob_schema.specs.declared.info.FieldInfo.{FieldInfo}
use Rattle.ob_schema.specs.declared.info.ModelInfo.{ModelInfo}

-- ---- a field that was found by its name

there_at : {X : Type 0} (xs : List X) (i : ℕ) → i < length xs → (x : X) × (slice_get xs i ≡ Some x)
there_at [] i lt = absurd (omega (arith, lt))
there_at (x ∷ xs) i lt = (get_or (x ∷ xs) i x, slice_get-get_or (x ∷ xs) i x lt)

-- it is a named one
named_one : (info : ModelInfo) (name : List ℕ) (number : FieldNo) (f : FieldInfo) → Some number ≡ field_named info.fields name → numbered (fields_of info) number.0 ≡ Some f → numbered info.fields number.0 ≡ Some f
named_one info name number f named at =
    let range = named-range info.fields name number named in
    let place : suc (number.0 - 1) ≡ number.0 = omega arith in
    let (g, there) = there_at info.fields (number.0 - 1) (omega arith) in
    let own : numbered info.fields number.0 ≡ Some g = ap (numbered info.fields) (sym place) ∙ there in
    own ∙ sym (numbered-before info.fields info.hidden number.0 g own) ∙ at

-- a field of the model by its name and number
pub record IsNamed (fields : List FieldInfo) (name : List ℕ) (number : FieldNo) (f : FieldInfo) : Type 0 where
  pub named : field_named fields name ≡ Some number
  pub own : numbered fields number.0 ≡ Some f

pub found_named : (models : List ModelInfo) (model : ModelNo) (name : List ℕ) (number : FieldNo) (f : FieldInfo) → IfSome (model_at models model) (λ info. Some number ≡ field_named info.fields name)
    → field_at models model number ≡ Some f → IsNamed (fields_at models model) name number f
found_named models model name number f named at = by (model_at models model) named at where
  by : (o : Option ModelInfo) → IfSome o (λ info. Some number ≡ field_named info.fields name) → option_and_then (λ info. numbered (fields_of info) number.0) o ≡ Some f
      → IsNamed (option_map_or (λ info. info.fields) o []) name number f
  by None named found = absurd cc
  by (Some info) named found = record { named = sym named; own = named_one info name number f named found }

-- ---- what each of a list gives, one after another

module _ {A B : Type 0} (f : A → Option B) where
  -- what those of a list give, by what those before a place gave
  abbrev pub IsGivenTo : List A → ℕ → List B → Type 0
  IsGivenTo xs i ys = all_some (map f xs) ≡ option_map (λ rest. ys ++ rest) (all_some (map f (drop i xs)))

  -- what is left at a place
  left : (xs : List A) (i : ℕ) (d : A) → i < length xs → map f (drop i xs) ≡ f (get_or xs i d) ∷ map f (drop (i + 1) xs)
  left xs i d lt = ap (map f) (drop_more xs i d lt)

  behind : (ys : List B) (y : B) (o : Option (List B)) → option_map (λ rest. ys ++ rest) (option_map (λ rest. y ∷ rest) o) ≡ option_map (λ rest. (ys ++ y ∷ []) ++ rest) o
  behind ys y None = refl
  behind ys y (Some l) = ap Some (sym (append_assoc ys (y ∷ []) l))

  pub given-more : (xs : List A) (i : ℕ) (ys : List B) (d : A) (y : B) → i < length xs → f (get_or xs i d) ≡ Some y → IsGivenTo xs i ys → IsGivenTo xs (i + 1) (ys ++ y ∷ [])
  given-more xs i ys d y lt gives so_far =
      so_far ∙ ap (λ (l : List (Option B)). option_map (λ rest. ys ++ rest) (all_some l)) (left xs i d lt)
      ∙ ap (λ (o : Option B). option_map (λ rest. ys ++ rest) (option_and_then (λ z. option_map (λ zs. z ∷ zs) (all_some (map f (drop (i + 1) xs)))) o)) gives
      ∙ behind ys y (all_some (map f (drop (i + 1) xs)))

  pub given-stop : (xs : List A) (i : ℕ) (ys : List B) (d : A) → i < length xs → f (get_or xs i d) ≡ None → IsGivenTo xs i ys → all_some (map f xs) ≡ None
  given-stop xs i ys d lt gives so_far =
      so_far ∙ ap (λ (l : List (Option B)). option_map (λ rest. ys ++ rest) (all_some l)) (left xs i d lt)
      ∙ ap (λ (o : Option B). option_map (λ rest. ys ++ rest) (option_and_then (λ z. option_map (λ zs. z ∷ zs) (all_some (map f (drop (i + 1) xs)))) o)) gives

  pub given-all : (xs : List A) (i : ℕ) (ys : List B) → length xs ≤ i → IsGivenTo xs i ys → all_some (map f xs) ≡ Some ys
  given-all xs i ys le so_far =
      so_far ∙ ap (λ (l : List A). option_map (λ rest. ys ++ rest) (all_some (map f l))) (drop_all i xs le) ∙ ap Some (append-nil ys)

map-after : {A B C : Type 0} (f : B → C) (g : A → B) (xs : List A) → map f (map g xs) ≡ map (λ x. f (g x)) xs
map-after f g [] = refl
map-after f g (x ∷ xs) = ap (λ l. f (g x) ∷ l) (map-after f g xs)

-- what terms of entries stand for, by the entries
pub of-entries : {A B C : Type 0} (f : B → Option C) (g : A → B) (xs : List A) → all_some (map f (map g xs)) ≡ all_some (map (λ x. f (g x)) xs)
of-entries f g xs = ap all_some (map-after f g xs)
