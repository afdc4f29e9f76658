-- What shows that going through a pattern from run to run finds what the pattern means.
use Rattle.std.proofs.Common.{◌≡◌, ℕ, position, Some, None, zero, suc, nat_lt, ◌+◌, ◌-◌, ◌<◌, ◌≤◌, ◌↔◌, ◌==◌, ◌&&◌, Bool, true}
use Rattle.std.proofs.Common.{false, not, cond, List, [], ◌∷◌, length, take, drop, get_or, add-one, arith, refl, sym, ap, ◌∙◌, ⊎_elim}
use Rattle.std.proofs.Math.Bool.{and_assoc}
use Rattle.std.proofs.lemmas.List.Sums.{prefix_len-le-length}
use Rattle.std.proofs.lemmas.Bool.{ltb-true, ltb-false, and_parts, and_from, and_left, and_right, or_left, or_right, or_cases, or_from, cases_Bool, false_from_ne_true, both_ways, false≢true}
use Rattle.std.proofs.lemmas.List.{drop-drop, drop_all, length-drop, take_rest}
use Rattle.std.specs.List.{position_or_len}
use Rattle.ob_domain.specs.Patterns.{any_run, begins, behind_one, fits, is_ended, matches, some_rest}

abbrev is_run : ℕ → Bool
is_run sign = sign == any_run

-- ---- what a pattern without runs stands for

pub begins_long : (s t : List ℕ) → begins s t ≡ true → length s ≤ length t
begins_long [] t e = omega arith
begins_long (c ∷ s) [] e = absurd (false≢true e)
begins_long (c ∷ s) (x ∷ t) e = let below : length s ≤ length t = begins_long s t (and_parts (fits c x) (begins s t) e).1 in omega arith

pub begins_each : (s t : List ℕ) → length s ≤ length t → ((k : ℕ) → k < length s → fits (get_or s k 0) (get_or t k 0) ≡ true) → begins s t ≡ true
begins_each [] t l each = refl
begins_each (c ∷ s) [] l each = absurd (omega arith)
begins_each (c ∷ s) (x ∷ t) l each =
    and_from (fits c x) (begins s t) (each 0 (omega arith)) (begins_each s t (omega arith) (λ k h. each (suc k) (omega arith)))

pub begins_none : (s t : List ℕ) (k : ℕ) → k < length s → k < length t → fits (get_or s k 0) (get_or t k 0) ≡ false → begins s t ≡ false
begins_none [] t k l m unlike = absurd (omega arith)
begins_none (c ∷ s) [] k l m unlike = absurd (omega arith)
begins_none (c ∷ s) (x ∷ t) zero l m unlike = and_left (fits c x) (begins s t) unlike
begins_none (c ∷ s) (x ∷ t) (suc k) l m unlike = and_right (fits c x) (begins s t) (begins_none s t k (omega arith) (omega arith) unlike)

pub begins_short : (s t : List ℕ) → length t < length s → begins s t ≡ false
begins_short s t l = false_from_ne_true (begins s t) (λ e. let h : length s ≤ length t = begins_long s t e in omega arith)

-- ---- a pattern's part before its first run

abbrev At : (p t : List ℕ) (r : ℕ) → Type 0
At p t r = matches p t ≡ (begins (take r p) t && some_rest (matches (drop (suc r) p)) (drop r t))

at_sign : (c : ℕ) (p t : List ℕ) (b : Bool) (r : ℕ) → cond (not b) (1 + position_or_len is_run p) 0 ≡ r → r < suc (length p)
    → ((u : List ℕ) (q : ℕ) → position_or_len is_run p ≡ q → q < length p → At p u q)
    → cond b (some_rest (matches p) t) (behind_one c (matches p) t) ≡ (begins (take r (c ∷ p)) t && some_rest (matches (drop (suc r) (c ∷ p))) (drop r t))
at_sign c p t true r at l below = rw (← at) refl
at_sign c p t false zero at l below = absurd (omega arith)
at_sign c p [] false (suc q) at l below = refl
at_sign c p (x ∷ t) false (suc q) at l below =
    let here : At p t q = below t q (omega arith) (omega arith) in
    ap (λ (b : Bool). fits c x && b) here ∙ sym (and_assoc (fits c x) (begins (take q p) t) (some_rest (matches (drop (suc q) p)) (drop q t)))

pub matches_at : (p t : List ℕ) (r : ℕ) → position_or_len is_run p ≡ r → r < length p → At p t r
matches_at [] t r at l = absurd (omega arith)
matches_at (c ∷ p) t r at l = at_sign c p t (c == any_run) r at l (λ u q. matches_at p u q)

abbrev Whole : (p t : List ℕ) → Type 0
Whole p t = matches p t ≡ (begins p t && is_ended (drop (length p) t))

whole_sign : (c : ℕ) (p t : List ℕ) (b : Bool) → cond (not b) (1 + position_or_len is_run p) 0 ≡ suc (length p)
    → ((u : List ℕ) → position_or_len is_run p ≡ length p → Whole p u)
    → cond b (some_rest (matches p) t) (behind_one c (matches p) t) ≡ (begins (c ∷ p) t && is_ended (drop (suc (length p)) t))
whole_sign c p t true none below = absurd (omega arith)
whole_sign c p [] false none below = refl
whole_sign c p (x ∷ t) false none below =
    let here : Whole p t = below t (omega arith) in
    ap (λ (b : Bool). fits c x && b) here ∙ sym (and_assoc (fits c x) (begins p t) (is_ended (drop (length p) t)))

pub matches_whole : (p t : List ℕ) → position_or_len is_run p ≡ length p → Whole p t
matches_whole [] t none = refl
matches_whole (c ∷ p) t none = whole_sign c p t (c == any_run) none (λ u. matches_whole p u)

drop_swapped : (i j : ℕ) (t : List ℕ) → drop i (drop j t) ≡ drop j (drop i t)
drop_swapped i j t = let e : j + i ≡ i + j = omega arith in drop-drop i j t ∙ rw e (sym (drop-drop j i t))

and_true : (b : Bool) → (b && true) ≡ b
and_true true = refl
and_true false = refl

-- ---- what some rest passes

pub some_rest-here : (f : List ℕ → Bool) (t : List ℕ) → f t ≡ true → some_rest f t ≡ true
some_rest-here f [] e = e
some_rest-here f (c ∷ t) e = or_left (f (c ∷ t)) (some_rest f t) e

-- a rest of a rest is a rest
pub some_rest-behind : (f : List ℕ → Bool) (k : ℕ) (t : List ℕ) → some_rest f (drop k t) ≡ true → some_rest f t ≡ true
some_rest-behind f zero t e = e
some_rest-behind f (suc k) [] e = e
some_rest-behind f (suc k) (c ∷ t) e = or_right (f (c ∷ t)) (some_rest f t) (some_rest-behind f k t e)

pub some_rest-none : (f : List ℕ → Bool) (t : List ℕ) → ((k : ℕ) → k ≤ length t → f (drop k t) ≡ false) → some_rest f t ≡ false
some_rest-none f [] none = none 0 (omega arith)
some_rest-none f (c ∷ t) none =
    or_from (f (c ∷ t)) (some_rest f t) (none 0 (omega arith)) (some_rest-none f t (λ k l. none (suc k) (omega arith)))

pub some_rest-skip : (f : List ℕ → Bool) (k : ℕ) (t : List ℕ) → k ≤ length t → ((i : ℕ) → i < k → f (drop i t) ≡ false) → some_rest f t ≡ some_rest f (drop k t)
some_rest-skip f zero t l none = refl
some_rest-skip f (suc k) [] l none = absurd (omega arith)
some_rest-skip f (suc k) (c ∷ t) l none =
    rw (none 0 (omega arith)) (some_rest-skip f k t (omega arith) (λ i h. none (suc i) (omega arith)))

some_rest-found : (f : List ℕ → Bool) (t : List ℕ) → some_rest f t ≡ true → (k : ℕ) × (k ≤ length t) × (f (drop k t) ≡ true)
some_rest-found f [] e = (0, omega arith, e)
some_rest-found f (c ∷ t) e = ⊎_elim (λ here. (0, omega arith, here))
    (λ more. let found = some_rest-found f t more in (suc found.0, omega arith, found.2)) (or_cases (f (c ∷ t)) (some_rest f t) e)

-- where one that passes behind passes here, only here counts
pub some_rest-first : (f : List ℕ → Bool) (t : List ℕ) → ((k : ℕ) → f (drop k t) ≡ true → f t ≡ true) → some_rest f t ≡ f t
some_rest-first f t first = ⊎_elim (λ here. some_rest-here f t here ∙ sym here)
    (λ not_here. false_from_ne_true (some_rest f t) (λ e. let found = some_rest-found f t e in both_ways (f t) not_here (first found.0 found.2)) ∙ sym not_here)
    (cases_Bool (f t))

-- ---- a run, and what follows up to the next

placed : (i n r : ℕ) (b : Bool) → nat_lt i n ≡ b → cond b (Some i) None ≡ Some r → (i ≡ r) × (r < n)
placed i n r true is e = let same : i ≡ r = cc in (same, let below : i < n = ltb-true i n is in omega arith)
placed i n r false is e = absurd (cc)

pub run_place : (p : List ℕ) (r : ℕ) → position is_run p ≡ Some r → (position_or_len is_run p ≡ r) × (r < length p)
run_place p r e = placed (position_or_len is_run p) (length p) r (nat_lt (position_or_len is_run p) (length p)) refl e

unplaced : (i n : ℕ) (b : Bool) → nat_lt i n ≡ b → cond b (Some i) None ≡ None → n ≤ i
unplaced i n true is e = absurd (cc)
unplaced i n false is e = ltb-false i n is

pub no_run : (p : List ℕ) → position is_run p ≡ None → position_or_len is_run p ≡ length p
no_run p e =
    let high : length p ≤ position_or_len is_run p = unplaced (position_or_len is_run p) (length p) (nat_lt (position_or_len is_run p) (length p)) refl e in
    let low : position_or_len is_run p ≤ length p = prefix_len-le-length (λ x. not (is_run x)) p in
    omega arith

-- behind the first place of what follows, the rest is as good as behind any other
pub run_at : (p t : List ℕ) (r k : ℕ) → position is_run p ≡ Some r → k ≤ length t
    → begins (take r p) (drop k t) ≡ true → ((i : ℕ) → i < k → begins (take r p) (drop i t) ≡ false)
    → some_rest (matches p) t ≡ some_rest (matches (drop (suc r) p)) (drop (k + r) t)
run_at p t r k at l here before =
    let place : (position_or_len is_run p ≡ r) × (r < length p) = run_place p r at in
    let rest = matches (drop (suc r) p) in
    let parts : (u : List ℕ) → At p u r = λ u. matches_at p u r place.0 place.1 in
    let skipped : some_rest (matches p) t ≡ some_rest (matches p) (drop k t) = some_rest-skip (matches p) k t l
    (λ i h. parts (drop i t) ∙ and_left (begins (take r p) (drop i t)) (some_rest rest (drop r (drop i t))) (before i h)) in
    let now : some_rest rest (drop r (drop k t)) ≡ true → matches p (drop k t) ≡ true = λ e. parts (drop k t) ∙ and_from (begins (take r p) (drop k t)) (some_rest rest (drop r (drop k t))) here e in
    let moved : (j : ℕ) → drop r (drop j (drop k t)) ≡ drop j (drop r (drop k t)) = λ j. drop_swapped r j (drop k t) in
    let first : some_rest (matches p) (drop k t) ≡ matches p (drop k t) = some_rest-first (matches p) (drop k t)
    (λ j e. now (some_rest-behind rest j (drop r (drop k t)) (rw (← moved j)
    (and_parts (begins (take r p) (drop j (drop k t))) (some_rest rest (drop r (drop j (drop k t)))) (sym (parts (drop j (drop k t))) ∙ e)).1))) in
    skipped ∙ first ∙ parts (drop k t) ∙ rw (here, drop-drop r k t) refl

pub run_none : (p t : List ℕ) (r : ℕ) → position is_run p ≡ Some r → ((i : ℕ) → i ≤ length t → begins (take r p) (drop i t) ≡ false) → some_rest (matches p) t ≡ false
run_none p t r at none =
    let place : (position_or_len is_run p ≡ r) × (r < length p) = run_place p r at in
    some_rest-none (matches p) t (λ i h. matches_at p (drop i t) r place.0 place.1
    ∙ and_left (begins (take r p) (drop i t)) (some_rest (matches (drop (suc r) p)) (drop r (drop i t))) (none i h))

-- ---- behind the last run

ended_past : (n : ℕ) (t : List ℕ) → length t ≤ n → is_ended (drop n t) ≡ true
ended_past n t l = rw (drop_all n t l) refl

past_ended : (n : ℕ) (t : List ℕ) → is_ended (drop n t) ≡ true → length t ≤ n
past_ended n [] e = omega arith
past_ended zero (c ∷ t) e = absurd (false≢true e)
past_ended (suc n) (c ∷ t) e = let l : length t ≤ n = past_ended n t e in omega arith

-- a text that ends so has a rest that matches whole
pub end_found : (p t : List ℕ) → position is_run p ≡ None → length p ≤ length t → begins p (drop (length t - length p) t) ≡ true → some_rest (matches p) t ≡ true
end_found p t none l e =
    let k = length t - length p in
    let past : is_ended (drop (length p) (drop k t)) ≡ true = ended_past (length p) (drop k t) (simp length-drop (omega arith)) in
    some_rest-behind (matches p) k t (some_rest-here (matches p) (drop k t)
    (matches_whole p (drop k t) (no_run p none) ∙ and_from (begins p (drop k t)) (is_ended (drop (length p) (drop k t))) e past))

pub found_end : (p t : List ℕ) → position is_run p ≡ None → some_rest (matches p) t ≡ true → (length p ≤ length t) × (begins p (drop (length t - length p) t) ≡ true)
found_end p t none e =
    let found = some_rest-found (matches p) t e in let k = found.0 in
    let parts = and_parts (begins p (drop k t)) (is_ended (drop (length p) (drop k t))) (sym (matches_whole p (drop k t) (no_run p none)) ∙ found.2) in
    let long : length p ≤ length t - k = simp length-drop at (begins_long p (drop k t) parts.0) in
    let short : length t - k ≤ length p = simp length-drop at (past_ended (length p) (drop k t) parts.1) in
    let in' : k ≤ length t = found.1 in
    let at : length t - length p ≡ k = omega arith in
    (omega arith, rw at parts.0)

-- ---- a pattern without runs against a whole text

pub whole_same : (p t : List ℕ) → position is_run p ≡ None → length p ≡ length t → matches p t ≡ begins p t
whole_same p t none l = matches_whole p t (no_run p none) ∙ rw (ended_past (length p) t (omega arith)) (and_true (begins p t))

pub whole_other : (p t : List ℕ) → position is_run p ≡ None → (length p ≡ length t → ⊥) → matches p t ≡ false
whole_other p t none l = false_from_ne_true (matches p t) (λ e.
    let parts = and_parts (begins p t) (is_ended (drop (length p) t)) (sym (matches_whole p t (no_run p none)) ∙ e) in
    let long : length p ≤ length t = begins_long p t parts.0 in
    let short : length t ≤ length p = past_ended (length p) t parts.1 in
    l (omega arith))

pub ends_same : (p t : List ℕ) (b : Bool) → position is_run p ≡ None → (b ≡ true) ↔ ((length p ≤ length t) × (begins p (drop (length t - length p) t) ≡ true)) → b ≡ some_rest (matches p) t
ends_same p t true none is = let h = is.0 refl in sym (end_found p t none h.0 h.1)
ends_same p t false none is = sym (false_from_ne_true (some_rest (matches p) t) (λ e. false≢true (is.1 (found_end p t none e))))

-- the same, as slices of the pattern and of the text
pub run_behind : (p t : List ℕ) (r k : ℕ) → position is_run p ≡ Some r → k ≤ length t
    → begins (take r p) (drop k t) ≡ true → ((i : ℕ) → i < k → begins (take r p) (drop i t) ≡ false)
    → some_rest (matches p) t ≡ some_rest (matches (take (length p - (r + 1)) (drop (r + 1) p))) (take (length t - (k + r)) (drop (k + r) t))
run_behind p t r k at l here before = rw (take_rest p (r + 1), take_rest t (k + r), add-one r) (run_at p t r k at l here before)

pub first_behind : (p t : List ℕ) (r : ℕ) → position is_run p ≡ Some r
    → matches p t ≡ (begins (take r p) t && some_rest (matches (take (length p - (r + 1)) (drop (r + 1) p))) (take (length t - r) (drop r t)))
first_behind p t r at =
    let place : (position_or_len is_run p ≡ r) × (r < length p) = run_place p r at in
    rw (take_rest p (r + 1), take_rest t r, add-one r) (matches_at p t r place.0 place.1)
