-- Where one quant stood at a spot, or none, no second one comes.
use Rattle.std.proofs.Common.{◌≡◌, ℕ, ℤ, ◌+◌, ◌≤◌, List, [], ◌∷◌, Bool, true, false, cond, refl, sym, ◌∙◌, ap, arith}
use Rattle.std.specs.List.{filter, count_by}
use Rattle.std.proofs.lemmas.List.Sums.{sum_by-cons}
use Rattle.std.proofs.lemmas.List.Sorted.{sum_by-IsPermutation}
use Rattle.wh_quant.specs.declared.quant.Quant.{Quant}
use Rattle.wh_quant.specs.declared.quant.Line.{Line}
use Rattle.wh_quant.specs.declared.spot.Spot.{Spot}
use Rattle.wh_quant.specs.Spots.{spot_of, same_spot, is_at}
use Rattle.wh_quant.specs.Moves.{Holdings, quants_with, source_quant, lowered, after_taking, destination_after, after_line, holdings_after, IsMoved, is_left}
use Rattle.wh_quant.proofs.Exact.{spot_from_is_at}

-- what a quant counts at a spot
abbrev one_at : Spot → Quant → ℕ
one_at spot q = cond (is_at spot q) 1 0

abbrev count_at : Spot → List Quant → ℕ
count_at spot qs = count_by (is_at spot) qs

count_at-cons : (spot : Spot) (q : Quant) (qs : List Quant) → count_at spot (q ∷ qs) ≡ one_at spot q + count_at spot qs
count_at-cons spot q qs = sum_by-cons (one_at spot) q qs

-- quants of one spot are at a spot alike
alike : (spot : Spot) (new q : Quant) → is_at (spot_of new) q ≡ true → is_at spot q ≡ is_at spot new
alike spot new q h = ap (same_spot spot) (spot_from_is_at (spot_of new) q h)

elsewhere_cons : (spot : Spot) (new q : Quant) (qs : List Quant) (b : Bool) → (b ≡ true → is_at spot q ≡ is_at spot new) → count_at spot (quants_with new qs) ≡ count_at spot qs →
    count_at spot (cond b (new ∷ qs) (q ∷ quants_with new qs)) ≡ count_at spot (q ∷ qs)
elsewhere_cons spot new q qs true same rest =
    count_at-cons spot new qs ∙ ap (λ b. cond b 1 0 + count_at spot qs) (sym (same refl)) ∙ sym (count_at-cons spot q qs)
elsewhere_cons spot new q qs false same rest =
    count_at-cons spot q (quants_with new qs) ∙ ap (λ n. one_at spot q + n) rest ∙ sym (count_at-cons spot q qs)

-- a quant that is put in elsewhere changes no count
count-elsewhere : (spot : Spot) (new : Quant) (qs : List Quant) → is_at spot new ≡ false → count_at spot (quants_with new qs) ≡ count_at spot qs
count-elsewhere spot new [] away = count_at-cons spot new [] ∙ ap (λ b. cond b 1 0 + count_at spot []) away
count-elsewhere spot new (q ∷ qs) away = elsewhere_cons spot new q qs (is_at (spot_of new) q) (alike spot new q) (count-elsewhere spot new qs away)

here_cons : (spot : Spot) (new q : Quant) (qs : List Quant) (n : ℕ) (b : Bool) → is_at (spot_of new) q ≡ b → is_at spot q ≡ is_at (spot_of new) q → is_at spot new ≡ true →
    (count_at spot qs ≤ n → count_at spot (quants_with new qs) ≤ n) → count_at spot (q ∷ qs) ≤ n →
    count_at spot (cond b (new ∷ qs) (q ∷ quants_with new qs)) ≤ n
here_cons spot new q qs n true at same here rest few =
    let whole = count_at-cons spot q qs in
    let one : one_at spot q ≡ 1 = ap (λ b. cond b 1 0) (same ∙ at) in
    let two : one_at spot new ≡ 1 = ap (λ b. cond b 1 0) here in
    let now = count_at-cons spot new qs in
    omega (arith, whole, one, two, now, few)
here_cons spot new q qs n false at same here rest few =
    let whole = count_at-cons spot q qs in
    let one : one_at spot q ≡ 0 = ap (λ b. cond b 1 0) (same ∙ at) in
    let now = count_at-cons spot q (quants_with new qs) in
    let before : count_at spot qs ≤ n = omega (arith, whole, one, few) in
    let more = rest before in
    omega (arith, one, now, more)

none_here : (spot : Spot) (new : Quant) (n : ℕ) → is_at spot new ≡ true → 1 ≤ n → count_at spot (new ∷ []) ≤ n
none_here spot new n here room =
    let one : one_at spot new ≡ 1 = ap (λ b. cond b 1 0) here in
    let now = count_at-cons spot new [] in
    let none : count_at spot [] ≡ 0 = refl in
    omega (arith, one, now, none, room)

-- one that is put in there takes the place of one, or is the first
count-here : (spot : Spot) (new : Quant) (qs : List Quant) (n : ℕ) → is_at spot new ≡ true → 1 ≤ n → count_at spot qs ≤ n → count_at spot (quants_with new qs) ≤ n
count-here spot new [] n here room few = none_here spot new n here room
count-here spot new (q ∷ qs) n here room few =
    here_cons spot new q qs n (is_at (spot_of new) q) refl (ap (λ s. is_at s q) (sym (spot_from_is_at spot new here))) here (count-here spot new qs n here room) few

count_cases : (spot : Spot) (new : Quant) (qs : List Quant) (n : ℕ) (b : Bool) → is_at spot new ≡ b → 1 ≤ n → count_at spot qs ≤ n → count_at spot (quants_with new qs) ≤ n
count_cases spot new qs n true at room few = count-here spot new qs n at room few
count_cases spot new qs n false at room few = rw (count-elsewhere spot new qs at) few

count-after_line : (spot : Spot) (now : ℤ) (stock : Holdings) (line : Line) (n : ℕ) → 1 ≤ n → count_at spot stock.quants ≤ n → count_at spot (after_line now stock line).quants ≤ n
count-after_line spot now stock line n room few =
    let low = lowered line (source_quant now line stock) in
    let high = destination_after now line stock in
    count_cases spot high (after_taking now line stock).quants n (is_at spot high) refl room
    (count_cases spot low stock.quants n (is_at spot low) refl room few)

count-holdings_after : (spot : Spot) (now : ℤ) (stock : Holdings) (lines : List Line) (n : ℕ) → 1 ≤ n → count_at spot stock.quants ≤ n → count_at spot (holdings_after now stock lines).quants ≤ n
count-holdings_after spot now stock [] n room few = few
count-holdings_after spot now stock (line ∷ lines) n room few =
    count-holdings_after spot now (after_line now stock line) lines n room (count-after_line spot now stock line n room few)

fewer_cons : (spot : Spot) (p : Quant → Bool) (q : Quant) (qs : List Quant) (b : Bool) → count_at spot (filter p qs) ≤ count_at spot qs →
    count_at spot (cond b (q ∷ filter p qs) (filter p qs)) ≤ count_at spot (q ∷ qs)
fewer_cons spot p q qs true rest =
    let before = count_at-cons spot q qs in
    let after = count_at-cons spot q (filter p qs) in
    omega (arith, before, after, rest)
fewer_cons spot p q qs false rest =
    let before = count_at-cons spot q qs in
    omega (arith, before, rest)

count-filter : (spot : Spot) (p : Quant → Bool) (qs : List Quant) → count_at spot (filter p qs) ≤ count_at spot qs
count-filter spot p [] = omega arith
count-filter spot p (q ∷ qs) = fewer_cons spot p q qs (p q) (count-filter spot p qs)

pub moved_single : (now : ℤ) (next : ℕ) (quants : List Quant) (lines : List Line) (moved : List Quant) → IsMoved now next quants lines moved →
    (spot : Spot) → count_by (is_at spot) quants ≤ 1 → count_by (is_at spot) moved ≤ 1
moved_single now next quants lines moved is spot few =
    let start : count_at spot is.start.quants ≡ count_at spot quants = sum_by-IsPermutation (one_at spot) quants is.start.quants is.starts.same in
    let after = count-holdings_after spot now is.start lines 1 (omega arith) (omega (arith, start, few)) in
    let left = count-filter spot (is_left lines) (holdings_after now is.start lines).quants in
    rw is.left (omega (arith, after, left))
