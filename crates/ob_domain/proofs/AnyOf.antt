-- Whether some element of a list passes, where the list was made of another or another answer stands for it.
use Rattle.std.proofs.Common.{◌≡◌, ℕ, ◌+◌, ◌<◌, ◌||◌, Bool, true, false, List, [], ◌∷◌, map, length, get_or, drop, refl, ap, sym, ◌∙◌}
use Rattle.std.proofs.lemmas.List.{at_drop_more}
use Rattle.std.proofs.Math.Bool.{or_assoc, or_comm}
use Rattle.std.specs.BTreeSet.{insert_key}
use Rattle.std.specs.List.{list_any}
use Rattle.std.specs.Ordering.{match_ordering}
use Rattle.std.specs.declared.cmp.Ordering.{Ordering}
use Rattle.std.specs.declared.cmp.Ordering.TheVariants.{Less, Equal, Greater}

pub list_any-map : {A B : Type 0} (p : B → Bool) (f : A → B) (xs : List A) → list_any p (map f xs) ≡ list_any (λ x. p (f x)) xs
list_any-map p f [] = refl
list_any-map p f (x ∷ xs) = ap (λ (b : Bool). p (f x) || b) (list_any-map p f xs)

pub list_any-same : {A : Type 0} (p q : A → Bool) (xs : List A) → ((x : A) → p x ≡ q x) → list_any p xs ≡ list_any q xs
list_any-same p q [] e = refl
list_any-same p q (x ∷ xs) e = rw (e x, list_any-same p q xs e) refl

pub list_any-never : {A : Type 0} (xs : List A) → list_any (λ x. false) xs ≡ false
list_any-never [] = refl
list_any-never (x ∷ xs) = list_any-never xs

-- ---- from one element on

pub any_passed : {A : Type 0} (p : A → Bool) (xs : List A) (i : ℕ) (d : A) → i < length xs → p (get_or xs i d) ≡ false → list_any p (drop i xs) ≡ list_any p (drop (i + 1) xs)
any_passed p xs i d l unlike = at_drop_more (list_any p) xs i d l ∙ rw unlike refl

pub any_found : {A : Type 0} (p : A → Bool) (xs : List A) (i : ℕ) (d : A) → i < length xs → p (get_or xs i d) ≡ true → list_any p (drop i xs) ≡ true
any_found p xs i d l like = at_drop_more (list_any p) xs i d l ∙ rw like refl

-- ---- a key that is put in

any_again : (a b : Bool) → (a || b) ≡ (a || b || a)
any_again true b = refl
any_again false true = refl
any_again false false = refl

any_ordered : {A : Type 0} (p : A → Bool) (o : Ordering) (k x : A) (ks rest : List A) → (o ≡ Equal → k ≡ x) → list_any p rest ≡ (list_any p ks || p k)
    → list_any p (match_ordering o (k ∷ x ∷ ks) (x ∷ ks) (x ∷ rest)) ≡ (list_any p (x ∷ ks) || p k)
any_ordered p Less k x ks rest same more = or_comm (p k) (p x || list_any p ks)
any_ordered p Equal k x ks rest same more = rw (same refl) (any_again (p x) (list_any p ks))
any_ordered p Greater k x ks rest same more = ap (λ (b : Bool). p x || b) more ∙ sym (or_assoc (p x) (list_any p ks) (p k))

pub any-insert_key : {A : Type 0} (cmp : A → A → Ordering) (p : A → Bool) (k : A) (ks : List A) → ((x : A) → cmp k x ≡ Equal → k ≡ x)
    → list_any p (insert_key cmp ks k) ≡ (list_any p ks || p k)
any-insert_key cmp p k [] same = or_comm (p k) false
any-insert_key cmp p k (x ∷ ks) same = any_ordered p (cmp k x) k x ks (insert_key cmp ks k) (same x) (any-insert_key cmp p k ks same)
