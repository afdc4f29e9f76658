-- Two lists that are compared from the front.
use Rattle.std.proofs.Common.{◌≡◌, ◌⊎◌, ◌<◌, ◌≤◌, ◌+◌, ◌-◌, ℕ, suc, true, false, List, [], ◌∷◌, map, length, get_or, drop, min, refl, ap, ◌∙◌, sym, inl, inr, ⊎_elim, arith, length-drop}
use Rattle.std.proofs.Math.ListN.{drop_of_length-le}
use Rattle.std.proofs.lemmas.Bool.{cases_lt}
use Rattle.std.proofs.lemmas.List.{drop_more, length-map}
use Rattle.std.specs.Cmp.Lexicographic.{slice_cmp}
use Rattle.std.specs.Cmp.{nat_cmp_is}
use Rattle.std.proofs.lemmas.Cmp.{ranked}
use Rattle.std.specs.Ordering.{MatchOrdering, is_ne, nat_cmp, ordering_then}
use Rattle.std.specs.declared.cmp.Ordering.{Ordering}
use Rattle.std.specs.declared.cmp.Ordering.TheVariants.{Less, Equal, Greater}

-- numbers compare xs they do when xs much is taken from both
less_by : (n k m : ℕ) (r : Ordering) → n ≤ k → n ≤ m → MatchOrdering r (k - n < m - n) (k - n ≡ m - n) (m - n < k - n) → MatchOrdering r (k < m) (k ≡ m) (m < k)
less_by n k m Less a b h = omega (arith, h)
less_by n k m Equal a b h = omega (arith, h)
less_by n k m Greater a b h = omega (arith, h)

taken-both : (n k m : ℕ) → n ≤ k → n ≤ m → nat_cmp (k - n) (m - n) ≡ nat_cmp k m
taken-both n k m a b = nat_cmp_is k m (nat_cmp (k - n) (m - n)) (less_by n k m (nat_cmp (k - n) (m - n)) a b (ranked (k - n) (m - n) (nat_cmp (k - n) (m - n)) refl))

module _ {A : Type 0} (R : A → A → Ordering) where
  same_first : (r s : Ordering) → is_ne r ≡ true → ordering_then r s ≡ r
  same_first Less s e = refl
  same_first Equal s e = cc
  same_first Greater s e = refl

  -- the first two that differ decide
  first-apart : (x y : A) (xs ys : List A) → is_ne (R x y) ≡ true → slice_cmp R (x ∷ xs) (y ∷ ys) ≡ R x y
  first-apart x y xs ys e = same_first (R x y) (slice_cmp R xs ys) e

  tied : (r : Ordering) → is_ne r ≡ false → r ≡ Equal
  tied Less e = cc
  tied Equal e = refl
  tied Greater e = cc

  -- two that are alike leave it to the rest
  first-alike : (x y : A) (xs ys : List A) → is_ne (R x y) ≡ false → slice_cmp R (x ∷ xs) (y ∷ ys) ≡ slice_cmp R xs ys
  first-alike x y xs ys e = ap (λ r. ordering_then r (slice_cmp R xs ys)) (tied (R x y) e)

  -- where one is at its end, the shorter one is less
  ended : (xs ys : List A) → (xs ≡ []) ⊎ (ys ≡ []) → slice_cmp R xs ys ≡ nat_cmp (length xs) (length ys)
  ended [] [] h = refl
  ended [] (y ∷ ys) h = nat_cmp_is 0 (suc (length ys)) Less (omega arith)
  ended (x ∷ xs) [] h = nat_cmp_is (suc (length xs)) 0 Greater (omega arith)
  ended (x ∷ xs) (y ∷ ys) (inl e) = cc
  ended (x ∷ xs) (y ∷ ys) (inr e) = cc

  module _ {B : Type 0} (shows : B → A) (xs ys : List B) where
    -- what is left of both from a place
    abbrev pub left_cmp : ℕ → Ordering
    left_cmp n = slice_cmp R (map shows (drop n xs)) (map shows (drop n ys))

    left : (n : ℕ) (x y : B) → n < length xs → n < length ys → x ≡ get_or xs n x → y ≡ get_or ys n y → left_cmp n ≡ slice_cmp R (shows x ∷ map shows (drop (n + 1) xs)) (shows y ∷ map shows (drop (n + 1) ys))
    left n x y a b at_x at_y = λ i. slice_cmp R (map shows (first i)) (map shows (second i))
      where
        first : drop n xs ≡ x ∷ drop (n + 1) xs
        first = drop_more xs n x a ∙ ap (λ z. z ∷ drop (n + 1) xs) (sym at_x)

        second : drop n ys ≡ y ∷ drop (n + 1) ys
        second = drop_more ys n y b ∙ ap (λ z. z ∷ drop (n + 1) ys) (sym at_y)

    -- two that are alike leave it to the rest
    pub left-alike : (whole : Ordering) (n m : ℕ) (x y : B) → n < length xs → n < length ys → x ≡ get_or xs n x → y ≡ get_or ys n y → m ≡ n + 1 → is_ne (R (shows x) (shows y)) ≡ false
        → whole ≡ left_cmp n → whole ≡ left_cmp m
    left-alike whole n m x y a b at_x at_y next same so_far =
        so_far ∙ left n x y a b at_x at_y ∙ first-alike (shows x) (shows y) (map shows (drop (n + 1) xs)) (map shows (drop (n + 1) ys)) same ∙ ap left_cmp (sym next)

    -- the first two that differ decide
    pub left-apart : (whole : Ordering) (n : ℕ) (x y : B) → n < length xs → n < length ys → x ≡ get_or xs n x → y ≡ get_or ys n y → is_ne (R (shows x) (shows y)) ≡ true → whole ≡ left_cmp n
        → whole ≡ R (shows x) (shows y)
    left-apart whole n x y a b at_x at_y apart so_far =
        so_far ∙ left n x y a b at_x at_y ∙ first-apart (shows x) (shows y) (map shows (drop (n + 1) xs)) (map shows (drop (n + 1) ys)) apart

    empty : (n : ℕ) (xs : List B) → length xs ≤ n → map shows (drop n xs) ≡ []
    empty n xs low = ap (map shows) (drop_of_length-le xs low)

    -- and at the end of one the shorter is less
    pub left-none : (whole : Ordering) (n : ℕ) → n ≡ min (length xs) (length ys) → whole ≡ left_cmp n → whole ≡ nat_cmp (length xs) (length ys)
    left-none whole n is so_far =
        so_far ∙ ended (map shows (drop n xs)) (map shows (drop n ys)) either
        ∙ (λ i. nat_cmp (size xs i) (size ys i)) ∙ taken-both n (length xs) (length ys) (omega (arith, is)) (omega (arith, is))
      where
        size : (xs : List B) → length (map shows (drop n xs)) ≡ length xs - n
        size xs = length-map (drop n xs) shows ∙ length-drop n xs

        either : (map shows (drop n xs) ≡ []) ⊎ (map shows (drop n ys) ≡ [])
        either = ⊎_elim (λ less. inl (empty n xs (omega (arith, is, less)))) (λ above. inr (empty n ys (omega (arith, is, above)))) (cases_lt (length xs) (length ys))
