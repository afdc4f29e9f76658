-- Reading the items of a list from the front, each by the same form.
use Rattle.std.proofs.Common.{◌≡◌, ℕ, ◌<◌, ◌+◌, suc, List, [], ◌∷◌, ◌++◌, length, get_or, drop, Option, Some, None, option_map, map, refl, sym, ap, ◌∙◌, add-one, append_assoc}
use Rattle.std.proofs.Math.Seq.{drop-cons}
use Rattle.std.proofs.lemmas.List.{append-nil}
use Rattle.ob_definition.specs.Orders.{all_some}

-- what all items give by a form
abbrev pub forms : {X Y : Type 0} → (X → Option Y) → List X → Option (List Y)
forms form items = all_some (map form items)

-- what the items before a place gave, and what is left
pub record IsReadTo {X Y : Type 0} (form : X → Option Y) (items : List X) (i : ℕ) (done : List Y) : Type 0 where
  pub rest : forms form items ≡ option_map (λ more. done ++ more) (forms form (drop i items))

joined : {Y : Type 0} (o : Option (List Y)) → o ≡ option_map (λ more. [] ++ more) o
joined None = refl
joined (Some xs) = refl

pub IsReadTo-none : {X Y : Type 0} (form : X → Option Y) (items : List X) → IsReadTo form items 0 []
IsReadTo-none form items = record { rest = joined (forms form items) }

-- the item at a place, and those after it
at : {X Y : Type 0} (form : X → Option Y) (items : List X) (i : ℕ) (x : X) → i < length items → x ≡ get_or items i x
    → forms form (drop i items) ≡ forms form (x ∷ drop (i + 1) items)
at {X} form items i x lt is = ap (forms form) (drop-cons items i x lt ∙ ap (λ (y : X). y ∷ drop (suc i) items) (sym is) ∙ ap (λ (k : ℕ). x ∷ drop k items) (sym (add-one i)))

forms-more : {Y : Type 0} (done : List Y) (y : Y) (o : Option (List Y)) → option_map (λ more. done ++ more) (option_map (λ ys. y ∷ ys) o) ≡ option_map (λ more. (done ++ y ∷ []) ++ more) o
forms-more done y None = refl
forms-more done y (Some ys) = ap Some (sym (append_assoc done (y ∷ []) ys))

first_given : {X Y : Type 0} (form : X → Option Y) (x : X) (items : List X) (y : Y) → form x ≡ Some y → forms form (x ∷ items) ≡ option_map (λ ys. y ∷ ys) (forms form items)
first_given form x items y e = ap (λ (p : Option _). all_some (p ∷ map form items)) e

first_missing : {X Y : Type 0} (form : X → Option Y) (x : X) (items : List X) → form x ≡ None → forms form (x ∷ items) ≡ None
first_missing form x items e = ap (λ (p : Option _). all_some (p ∷ map form items)) e

pub IsReadTo-more : {X Y : Type 0} (form : X → Option Y) (items : List X) (i : ℕ) (done : List Y) (x : X) (y : Y)
    → i < length items → x ≡ get_or items i x → form x ≡ Some y → IsReadTo form items i done → IsReadTo form items (i + 1) (done ++ y ∷ [])
IsReadTo-more form items i done x y lt is given read = record {
  rest = read.rest ∙ ap (option_map (λ more. done ++ more)) (at form items i x lt is ∙ first_given form x (drop (i + 1) items) y given) ∙ forms-more done y (forms form (drop (i + 1) items));
}

pub IsReadTo-stop : {X Y : Type 0} (form : X → Option Y) (items : List X) (i : ℕ) (done : List Y) (x : X)
    → i < length items → x ≡ get_or items i x → form x ≡ None → IsReadTo form items i done → forms form items ≡ None
IsReadTo-stop form items i done x lt is missing read =
    read.rest ∙ ap (option_map (λ more. done ++ more)) (at form items i x lt is ∙ first_missing form x (drop (i + 1) items) missing)

pub IsReadTo-all : {X Y : Type 0} (form : X → Option Y) (items : List X) (i : ℕ) (done : List Y)
    → drop i items ≡ [] → IsReadTo form items i done → forms form items ≡ Some done
IsReadTo-all {X} form items i done end read =
    read.rest ∙ ap (λ (xs : List X). option_map (λ more. done ++ more) (forms form xs)) end ∙ ap Some (append-nil done)
