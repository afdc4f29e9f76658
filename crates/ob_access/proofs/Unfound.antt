-- How many groups are still to be found goes down with each that is found.
use Rattle.std.proofs.Common.{◌≡◌, ◌≤◌, ◌+◌, ◌||◌, ◌==◌, ◌++◌, ◌⊎◌, ℕ, zero, suc, Bool, true, false, cond, List, [], ◌∷◌, Option, Some, None, length, refl, ap, sym, subst, inl, inr, ◌∙◌, arith, length-append, eq-eqb}
use Rattle.std.proofs.lemmas.Bool.{eqb-true}
use Rattle.std.specs.Prelude.{All, IsSome, slice_get}
use Rattle.std.proofs.lemmas.List.Elements.{All-head, All-nil, All-tail, All-weaker}
use Rattle.std.specs.Option.{option_map_or}
use Rattle.ob_base.specs.declared.id.RecId.{RecId}
use Rattle.ob_schema.specs.Built.{numbered}
use Rattle.ob_access.specs.Finding.{IsUpTo, unfound}
use Rattle.ob_access.specs.Groups.{has_group, implied_by}
use Rattle.ob_access.specs.Policies.{IsGroup, group_at}
use Rattle.ob_access.specs.declared.policy.Group.{Group}

step_le : (h c : Bool) (x y : ℕ) → x ≤ y → cond (h || c) 0 1 + x ≤ cond h 0 1 + y
step_le true c x y le = omega arith
step_le false true x y le = omega arith
step_le false false x y le = omega arith

step_found : (h c : Bool) (x y : ℕ) → h ≡ false → c ≡ true → x ≤ y → cond (h || c) 0 1 + x + 1 ≤ cond h 0 1 + y
step_found true c x y e f le = cc
step_found false false x y e f le = cc
step_found false true x y e f le = omega arith

step_next : (h c : Bool) (x y : ℕ) → x + 1 ≤ y → cond (h || c) 0 1 + x + 1 ≤ cond h 0 1 + y
step_next true c x y le = omega arith
step_next false true x y le = omega arith
step_next false false x y le = omega arith

truth : (b : Bool) → (b ≡ true) ⊎ (b ≡ false)
truth true = inl refl
truth false = inr refl

both_ways : (b : Bool) → b ≡ true → b ≡ false → ⊥
both_ways true e f = cc
both_ways false e f = cc

same_number : (n : ℕ) → (n == n) ≡ true
same_number n = eq-eqb n n refl

module _ (old new : List RecId) (id : RecId) (added : (other : RecId) → has_group new other ≡ (has_group old other || (other.0 == id.0))) where
  fewer : (n : ℕ) → unfound n new ≤ unfound n old
  fewer zero = omega arith
  fewer (suc n) =
      let P : Bool → Type 0 = λ v. cond v 0 1 + unfound n new ≤ cond (has_group old (record { 0 = suc n })) 0 1 + unfound n old in
      subst P (sym (added (record { 0 = suc n }))) (step_le (has_group old (record { 0 = suc n })) (suc n == id.0) (unfound n new) (unfound n old) (fewer n))

  one_fewer : (n : ℕ) → has_group old id ≡ false → 1 ≤ id.0 → id.0 ≤ n → unfound n new + 1 ≤ unfound n old
  one_fewer zero unknown low high = absurd (omega arith)
  one_fewer (suc n) unknown low high =
      let P : Bool → Type 0 = λ v. cond v 0 1 + unfound n new + 1 ≤ cond (has_group old (record { 0 = suc n })) 0 1 + unfound n old in
      subst P (sym (added (record { 0 = suc n }))) (by_case (truth (suc n == id.0)) (λ high_too. one_fewer n unknown low high_too))
    where
      by_case : ((suc n == id.0) ≡ true) ⊎ ((suc n == id.0) ≡ false) → (id.0 ≤ n → unfound n new + 1 ≤ unfound n old) → cond (has_group old (record { 0 = suc n }) || (suc n == id.0)) 0 1 + unfound n new + 1 ≤ cond (has_group old (record { 0 = suc n })) 0 1 + unfound n old
      by_case (inl e) rest =
          step_found (has_group old (record { 0 = suc n })) (suc n == id.0) (unfound n new) (unfound n old)
          (ap (λ (m : ℕ). has_group old (record { 0 = m })) (eqb-true (suc n) id.0 e) ∙ unknown) e (fewer n)
      by_case (inr e) rest =
          let apart : suc n ≡ id.0 → ⊥ = λ is. (both_ways (suc n == id.0) (ap (λ (m : ℕ). suc n == m) (sym is) ∙ same_number (suc n)) e) in
          step_next (has_group old (record { 0 = suc n })) (suc n == id.0) (unfound n new) (unfound n old) (rest (omega arith))

  -- what is still to be found and what is open don't grow where a group is added to both, if it is new
  pub measured : (n : ℕ) (open_before open_after : List RecId) → open_after ≡ open_before ++ cond (has_group old id) [] (id ∷ []) → IsUpTo n id
      → unfound n new + length open_after ≤ unfound n old + length open_before
  measured n open_before open_after is up_to = by_case (truth (has_group old id))
    where
      by_case : (has_group old id ≡ true) ⊎ (has_group old id ≡ false) → unfound n new + length open_after ≤ unfound n old + length open_before
      by_case (inl known) =
          let same : length open_after ≡ length open_before + 0 = ap length (is ∙ ap (λ (b : Bool). open_before ++ cond b [] (id ∷ [])) known) ∙ length-append open_before [] in
          let le = fewer n in omega arith
      by_case (inr unknown) =
          let more : length open_after ≡ length open_before + 1 = ap length (is ∙ ap (λ (b : Bool). open_before ++ cond b [] (id ∷ [])) unknown) ∙ length-append open_before (id ∷ []) in
          let le = one_fewer n unknown up_to.0 up_to.1 in omega arith

-- a group that there is has a number up to their count
pub up_to : {A : Type 0} (items : List A) (n : ℕ) → IsSome (numbered items n) → (1 ≤ n) × (n ≤ length items)
up_to items zero some = absurd cc
up_to items (suc n) some = (omega arith, by_place items n some)
  where
    by_place : {A : Type 0} (xs : List A) (k : ℕ) → IsSome (slice_get xs k) → suc k ≤ length xs
    by_place [] k some = absurd cc
    by_place (x ∷ xs) zero some = omega arith
    by_place (x ∷ xs) (suc k) some = let le = by_place xs k some in omega arith

in_all : {A : Type 0} (P : A → Type 0) (xs : List A) (n : ℕ) (x : A) → All P xs → numbered xs n ≡ Some x → P x
in_all P xs zero x all is = absurd cc
in_all P xs (suc n) x all is = at_place P xs n x all is
  where
    at_place : {A : Type 0} (P : A → Type 0) (xs : List A) (k : ℕ) (x : A) → All P xs → slice_get xs k ≡ Some x → P x
    at_place P [] k x all is = absurd cc
    at_place P (y ∷ xs) zero x all is = let e : y ≡ x = cc in subst P e (All-head P y xs all)
    at_place P (y ∷ xs) (suc k) x all is = at_place P xs k x (All-tail P y xs all) is

-- what a group implies are groups that there are
pub implied_up_to : (groups : List Group) → All (λ group. All (IsGroup groups) group.implies) groups → (by : RecId) → All (IsUpTo (length groups)) (implied_by groups by)
implied_up_to groups fit by = by_group (group_at groups by) refl
  where
    by_group : (found : Option Group) → group_at groups by ≡ found → All (IsUpTo (length groups)) (option_map_or (λ group. group.implies) found [])
    by_group None is = All-nil (IsUpTo (length groups))
    by_group (Some group) is =
        All-weaker (IsGroup groups) (IsUpTo (length groups)) (λ id some. up_to groups id.0 some) group.implies (in_all (λ (g : Group). All (IsGroup groups) g.implies) groups by.0 group fit is)
