-- What candidates give: one more of them, and the sums.
use Rattle.std.proofs.Common.{◌≡◌, ℕ, ℤ, pos, ◌-ℤ◌, ◌<ℤ◌, ◌≤ℤ◌, List, [], ◌∷◌, ◌++◌, length, get_or, drop, ◌+◌, ◌<◌, ◌≤◌, true, false, refl, sym, ◌∙◌, arith, add-one}
use Rattle.std.proofs.lemmas.List.{append-nil, append_assoc, drop_all}
use Rattle.std.proofs.Math.Seq.{drop-cons}
use Rattle.std.specs.List.{All, Contains, filter}
use Rattle.std.specs.Prelude.{int_lt, FitsSigned}
use Rattle.std.specs.Int.{int_min, int_max, w64}
use Rattle.std.proofs.lemmas.Int.{ints, clamps, by_lt_z}
use Rattle.std.proofs.lemmas.List.Elements.{All-nil, All-cons, All-head, All-tail, All-weaker, All-drop, All-filter, filter_passes, All-contains_itself}
use Rattle.std.proofs.lemmas.List.Sorted.{All-permutation}
use Rattle.wh_quant.specs.declared.stock.Stock.{Stock}
use Rattle.wh_quant.specs.declared.stock.Take.{Take}
use Rattle.wh_quant.specs.declared.stock.Removal.{Removal}
use Rattle.wh_quant.specs.Sums.{total}
use Rattle.wh_quant.specs.Takes.{HasFree, IsRanked, takes_from, IsTakeOf}
use Rattle.wh_quant.proofs.Totals.{total-IsPermutation, total-least}

lt_yes : (a b : ℤ) → a <ℤ b → int_lt a b ≡ true
lt_yes a b h = grind (arith, ints)

lt_no : (a b : ℤ) → b ≤ℤ a → int_lt a b ≡ false
lt_no a b h = grind (arith, ints)

yes_lt : (a b : ℤ) → int_lt a b ≡ true → a <ℤ b
yes_lt a b h = grind (arith, ints)

-- nothing is given where nothing is wanted
pub takes_none : (want : ℤ) (xs : List Stock) → want ≤ℤ pos 0 → All HasFree xs → takes_from want xs ≡ []
takes_none want [] none free = refl
takes_none want (s ∷ xs) none free =
    let has : pos 0 <ℤ s.free = All-head HasFree s xs free in
    let gift : int_min s.free (int_max (pos 0) want) ≡ pos 0 = omega (arith, ints, clamps) in
    let rest : takes_from (want -ℤ s.free) xs ≡ [] = takes_none (want -ℤ s.free) xs (omega (arith, ints)) (All-tail HasFree s xs free) in
    rw (gift, rest) refl

-- the first candidate gives, and the others what is still wanted then
pub takes_more : (want amount : ℤ) (s : Stock) (xs : List Stock) → pos 0 <ℤ want → All HasFree (s ∷ xs) → amount ≡ int_min s.free want →
    takes_from want (s ∷ xs) ≡ record { quant = s.quant; amount = amount } ∷ takes_from (want -ℤ amount) xs
takes_more want amount s xs some free is =
    let has : pos 0 <ℤ s.free = All-head HasFree s xs free in
    let others = All-tail HasFree s xs free in
    let gift : int_min s.free (int_max (pos 0) want) ≡ amount = omega (arith, ints, clamps) in
    let given : int_lt (pos 0) amount ≡ true = lt_yes (pos 0) amount (omega (arith, ints, clamps)) in
    let rest : takes_from (want -ℤ s.free) xs ≡ takes_from (want -ℤ amount) xs =
    by_lt_z s.free want
    (λ h. let whole : amount ≡ s.free = omega (arith, ints, clamps) in rw whole refl)
    (λ h. takes_none (want -ℤ s.free) xs (omega (arith, ints)) others ∙ sym (takes_none (want -ℤ amount) xs (omega (arith, ints, clamps)) others)) in
    rw (gift, given, rest) refl

-- a candidate's turn: what it gives goes to the end of what was given
pub takes_turn : (want left amount rest : ℤ) (all : List Stock) (i : ℕ) (s : Stock) (taken more : List Take) → All HasFree all → i < length all → s ≡ get_or all i s →
    pos 0 <ℤ left → amount ≡ int_min s.free left → rest ≡ (left -ℤ amount) → more ≡ taken ++ record { quant = s.quant; amount = amount } ∷ [] →
    takes_from want all ≡ taken ++ takes_from left (drop i all) → takes_from want all ≡ more ++ takes_from rest (drop (i + 1) all)
takes_turn want left amount rest all i s taken more free within is some least less is_more so_far =
    let here : drop i all ≡ s ∷ drop (i + 1) all = rw (add-one, drop-cons all i s) (rw (sym is) refl) in
    let others : All HasFree (s ∷ drop (i + 1) all) = rw here at (All-drop HasFree i all free) in
    let given = takes_more left amount s (drop (i + 1) all) some others least in
    so_far ∙ rw (here, given, is_more, less, append_assoc) refl

-- where nothing more is wanted, or no candidate is left, all was given
pub takes_end : (want left : ℤ) (all : List Stock) (i : ℕ) (taken : List Take) → All HasFree all → left ≤ℤ pos 0 → takes_from want all ≡ taken ++ takes_from left (drop i all) →
    taken ≡ takes_from want all
takes_end want left all i taken free none so_far =
    let rest = takes_none left (drop i all) none (All-drop HasFree i all free) in
    sym (so_far ∙ rw (rest, append-nil taken) refl)

pub takes_all : (want left : ℤ) (all : List Stock) (i : ℕ) (taken : List Take) → length all ≤ i → takes_from want all ≡ taken ++ takes_from left (drop i all) → taken ≡ takes_from want all
takes_all want left all i taken past so_far =
    let rest : drop i all ≡ [] = drop_all i all past in
    sym (so_far ∙ rw (rest, append-nil taken) refl)

-- what is left fits where what was left did
pub left_fits : (left free amount : ℤ) → FitsSigned w64 left → pos 0 <ℤ left → pos 0 <ℤ free → amount ≡ int_min free left → FitsSigned w64 (left -ℤ amount)
left_fits left free amount fits some has least = omega (arith, ints, clamps)

-- the takes of a wanted quantity are of stocks, within what is free there
takes_within : (stocks : List Stock) (want : ℤ) (xs : List Stock) → All HasFree xs → All (Contains stocks) xs → All (IsTakeOf stocks) (takes_from want xs)
takes_within stocks want [] free among = All-nil (IsTakeOf stocks)
takes_within stocks want (s ∷ xs) free among =
    let has : pos 0 <ℤ s.free = All-head HasFree s xs free in
    let others = All-tail HasFree s xs free in
    by_lt_z (pos 0) want
    (λ h. let amount = int_min s.free want in
    let here : IsTakeOf stocks (record { quant = s.quant; amount = amount }) = (s, All-head (Contains stocks) s xs among, refl, omega (arith, ints, clamps), omega (arith, ints, clamps)) in
    rw (takes_more want amount s xs h free refl) (All-cons (IsTakeOf stocks) (record { quant = s.quant; amount = amount }) (takes_from (want -ℤ amount) xs) here
    (takes_within stocks (want -ℤ amount) xs others (All-tail (Contains stocks) s xs among))))
    (λ h. rw (takes_none want (s ∷ xs) h free) (All-nil (IsTakeOf stocks)))

-- together they are what is wanted, or all that is free
takes_whole : (want : ℤ) (xs : List Stock) → All HasFree xs → total (λ t. t.amount) (takes_from want xs) ≡ int_min (int_max (pos 0) want) (total (λ s. s.free) xs)
takes_whole want [] free = omega (arith, ints, clamps)
takes_whole want (s ∷ xs) free =
    let has : pos 0 <ℤ s.free = All-head HasFree s xs free in
    let others = All-tail HasFree s xs free in
    let least : pos 0 ≤ℤ total (λ s. s.free) xs = total-least (λ (s : Stock). s.free) xs (All-weaker HasFree (λ s. pos 0 ≤ℤ s.free) (λ x h. omega (arith, ints)) xs others) in
    by_lt_z (pos 0) want
    (λ h. let amount = int_min s.free want in
    let rest = takes_whole (want -ℤ amount) xs others in
    rw (takes_more want amount s xs h free refl) (omega (arith, ints, clamps, rest)))
    (λ h. rw (takes_none want (s ∷ xs) h free) (omega (arith, ints, clamps)))

-- the candidates' free quantities are those above zero
free_total : (xs : List Stock) → total (λ s. s.free) (filter (λ s. int_lt (pos 0) s.free) xs) ≡ total (λ s. int_max (pos 0) s.free) xs
free_total [] = refl
free_total (s ∷ xs) =
    let rest = free_total xs in
    by_lt_z (pos 0) s.free
    (λ h. rw (lt_yes (pos 0) s.free h) (omega (arith, ints, clamps)))
    (λ h. rw (lt_no (pos 0) s.free h) (omega (arith, ints, clamps)))

module _ (order : Removal) (stocks ranked : List Stock) (is : IsRanked order stocks ranked) where
  -- candidates have something free
  pub ranked_free : All HasFree ranked
  ranked_free = All-permutation HasFree (filter (λ s. int_lt (pos 0) s.free) stocks) ranked is.same
      (All-weaker (λ s. int_lt (pos 0) s.free ≡ true) HasFree (λ s. yes_lt (pos 0) s.free) (filter (λ s. int_lt (pos 0) s.free) stocks) (filter_passes (λ s. int_lt (pos 0) s.free) stocks))

  ranked_among : All (Contains stocks) ranked
  ranked_among = All-permutation (Contains stocks) (filter (λ s. int_lt (pos 0) s.free) stocks) ranked is.same
      (All-filter (λ s. int_lt (pos 0) s.free) (Contains stocks) stocks (All-contains_itself stocks))

  pub taken_within : (want : ℤ) → All (IsTakeOf stocks) (takes_from want ranked)
  taken_within want = takes_within stocks want ranked ranked_free ranked_among

  pub taken_whole : (want : ℤ) → total (λ t. t.amount) (takes_from want ranked) ≡ int_min (int_max (pos 0) want) (total (λ s. int_max (pos 0) s.free) stocks)
  taken_whole want =
      let sums = total-IsPermutation (λ (s : Stock). s.free) _ ranked is.same in
      rw (takes_whole want ranked ranked_free, sums, free_total stocks) refl
