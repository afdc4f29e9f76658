-- What one step of the search for groups keeps.
use Rattle.std.proofs.Common.{◌≡◌, ◌<◌, ◌≤◌, ◌↔◌, ◌+◌, ◌&&◌, ◌||◌, ◌==◌, ◌++◌, ◌⊎◌, ℕ, Bool, true, false, not, cond, List, [], ◌∷◌, length, get_or, drop, refl, ap, sym, subst, inl, inr, ◌∙◌, arith}
use Rattle.std.specs.Prelude.{All, Contains}
use Rattle.std.proofs.lemmas.List.{at_drop_more, drop_all}
use Rattle.std.proofs.lemmas.List.Elements.{All-get_or, Contains-push}
use Rattle.std.proofs.lemmas.List.Folds.{list_any-append}
use Rattle.ob_base.specs.declared.id.RecId.{RecId}
use Rattle.ob_access.specs.Finding.{IsUpTo, unfound}
use Rattle.ob_access.specs.Groups.{IsMember, has_group, implied_by, is_implied, is_stated}
use Rattle.ob_access.specs.declared.policy.Group.{Group}
use Rattle.ob_access.proofs.Least.{least}
use Rattle.ob_access.proofs.Unfound.{measured}
use Rattle.ob_access.proofs.Having.{Contains-from_has, has-from_Contains, same_id}

or_assoc : (a b c : Bool) → ((a || b) || c) ≡ (a || (b || c))
or_assoc true b c = refl
or_assoc false b c = refl

open_step : (o e f hx r : Bool) → (e ≡ true → f ≡ hx) → ((o || cond hx false (e || false)) || (r && not (f || e))) ≡ (o || ((e || r) && not f))
open_step true e f hx r h = refl
open_step false false true true r h = refl
open_step false false true false r h = refl
open_step false false false true r h = refl
open_step false false false false r h = refl
open_step false true true true true h = refl
open_step false true true true false h = refl
open_step false true true false r h = absurd (differ (h refl))
  where
    differ : true ≡ false → ⊥
    differ e = cc
open_step false true false true r h = absurd (differ (h refl))
  where
    differ : false ≡ true → ⊥
    differ e = cc
open_step false true false false r h = refl

has-if : (b : Bool) (x id : RecId) → has_group (cond b [] (x ∷ [])) id ≡ cond b false ((id.0 == x.0) || false)
has-if true x id = refl
has-if false x id = refl

module _ (found_before found_after : List RecId) (x : RecId) (added : (id : RecId) → has_group found_after id ≡ (has_group found_before id || (id.0 == x.0))) where
  -- those that are found, and those that are left, are the same as before
  pub found_more : (rest : List RecId) (id : RecId) → (has_group found_after id || has_group rest id) ≡ (has_group found_before id || has_group (x ∷ rest) id)
  found_more rest id = ap (λ (b : Bool). b || has_group rest id) (added id) ∙ or_assoc (has_group found_before id) (id.0 == x.0) (has_group rest id)

  -- and so are those that are open
  pub open_more : (open_before open_after : List RecId) → open_after ≡ open_before ++ cond (has_group found_before x) [] (x ∷ []) → (rest : List RecId) (id : RecId)
      → (has_group open_after id || (has_group rest id && not (has_group found_after id))) ≡ (has_group open_before id || (has_group (x ∷ rest) id && not (has_group found_before id)))
  open_more open_before open_after is rest id =
      ap (λ (l : List RecId). has_group l id || (has_group rest id && not (has_group found_after id))) is
      ∙ ap (λ (b : Bool). b || (has_group rest id && not (has_group found_after id)))
      (list_any-append (λ (mine : RecId). id.0 == mine.0) open_before (cond (has_group found_before x) [] (x ∷ [])) ∙ ap (λ (b : Bool). has_group open_before id || b) (has-if (has_group found_before x) x id))
      ∙ ap (λ (b : Bool). (has_group open_before id || cond (has_group found_before x) false ((id.0 == x.0) || false)) || (has_group rest id && not b)) (added id)
      ∙ open_step (has_group open_before id) (id.0 == x.0) (has_group found_before id) (has_group found_before x) (has_group rest id) (λ e. ap (has_group found_before) (same_id id x e))

or_left : (a b : Bool) → a ≡ true → (a || b) ≡ true
or_left a b e = subst (λ (v : Bool). (v || b) ≡ true) (sym e) refl

or_right : (a b : Bool) → b ≡ true → (a || b) ≡ true
or_right true b e = refl
or_right false b e = e

or_cases : (a b : Bool) → (a || b) ≡ true → (a ≡ true) ⊎ (b ≡ true)
or_cases true b e = inl refl
or_cases false b e = inr e

and_left : (a b : Bool) → (a && b) ≡ true → a ≡ true
and_left true b e = refl
and_left false b e = e

alone : (b : Bool) → (b || false) ≡ true → b ≡ true
alone true e = refl
alone false e = e

-- what the search has found so far, and what is open, whose implied groups aren't all found
pub record IsSearch (groups : List Group) (stated found pending : List RecId) : Type 0 where
  pub sound : (id : RecId) → has_group found id ≡ true → IsMember groups stated id
  pub seen : (id : RecId) → has_group pending id ≡ true → has_group found id ≡ true
  pub all : (id : RecId) → Contains stated id → has_group found id ≡ true
  pub closed : (by id : RecId) → has_group found by ≡ true → Contains (implied_by groups by) id → (has_group pending by ≡ true) ⊎ (has_group found id ≡ true)

module _ (groups : List Group) (stated found found_next rest_pending left : List RecId) (x : RecId) where
  -- the groups that one implies are found too
  pub searched : IsSearch groups stated found (rest_pending ++ x ∷ [])
      → ((id : RecId) → has_group found_next id ≡ (has_group found id || has_group (implied_by groups x) id))
      → ((id : RecId) → has_group left id ≡ (has_group rest_pending id || (has_group (implied_by groups x) id && not (has_group found id))))
      → IsSearch groups stated found_next left
  searched was more opened = record {
    sound = λ id h. by_sound id (or_cases (has_group found id) (has_group (implied_by groups x) id) (sym (more id) ∙ h));
    seen = λ id h. by_seen id (or_cases (has_group rest_pending id) (has_group (implied_by groups x) id && not (has_group found id)) (sym (opened id) ∙ h));
    all = λ id is. kept id (was.all id is);
    closed = λ by id h is. by_closed by id is (has_group found by) refl (sym (more by) ∙ h);
  }
    where
      popped : has_group (rest_pending ++ x ∷ []) x ≡ true
      popped = has-from_Contains (rest_pending ++ x ∷ []) x (Contains-push rest_pending x)

      kept : (id : RecId) → has_group found id ≡ true → has_group found_next id ≡ true
      kept id h = more id ∙ or_left (has_group found id) (has_group (implied_by groups x) id) h

      was_open : (id : RecId) → has_group rest_pending id ≡ true → has_group (rest_pending ++ x ∷ []) id ≡ true
      was_open id h = list_any-append (λ (mine : RecId). id.0 == mine.0) rest_pending (x ∷ []) ∙ or_left (has_group rest_pending id) (has_group (x ∷ []) id) h

      by_sound : (id : RecId) → (has_group found id ≡ true) ⊎ (has_group (implied_by groups x) id ≡ true) → IsMember groups stated id
      by_sound id (inl h) = was.sound id h
      by_sound id (inr h) = is_implied x id (was.sound x (was.seen x popped)) (Contains-from_has (implied_by groups x) id h)

      by_seen : (id : RecId) → (has_group rest_pending id ≡ true) ⊎ ((has_group (implied_by groups x) id && not (has_group found id)) ≡ true) → has_group found_next id ≡ true
      by_seen id (inl h) = kept id (was.seen id (was_open id h))
      by_seen id (inr h) = more id ∙ or_right (has_group found id) (has_group (implied_by groups x) id) (and_left (has_group (implied_by groups x) id) (not (has_group found id)) h)

      one : (by : RecId) → has_group (rest_pending ++ x ∷ []) by ≡ true → (has_group rest_pending by ≡ true) ⊎ (by ≡ x)
      one by h = by_part (or_cases (has_group rest_pending by) (has_group (x ∷ []) by) (sym (list_any-append (λ (mine : RecId). by.0 == mine.0) rest_pending (x ∷ [])) ∙ h))
        where
          by_part : (has_group rest_pending by ≡ true) ⊎ (has_group (x ∷ []) by ≡ true) → (has_group rest_pending by ≡ true) ⊎ (by ≡ x)
          by_part (inl o) = inl o
          by_part (inr o) = inr (same_id by x (alone (by.0 == x.0) o))

      by_closed : (by id : RecId) → Contains (implied_by groups by) id → (known : Bool) → has_group found by ≡ known → (known || has_group (implied_by groups x) by) ≡ true → (has_group left by ≡ true) ⊎ (has_group found_next id ≡ true)
      by_closed by id is true e h = by_open (was.closed by id e is)
        where
          at_x : (has_group rest_pending by ≡ true) ⊎ (by ≡ x) → (has_group left by ≡ true) ⊎ (has_group found_next id ≡ true)
          at_x (inl o) = inl (opened by ∙ or_left (has_group rest_pending by) (has_group (implied_by groups x) by && not (has_group found by)) o)
          at_x (inr same) = inr (more id ∙ or_right (has_group found id) (has_group (implied_by groups x) id) (has-from_Contains (implied_by groups x) id (subst (λ (b : RecId). Contains (implied_by groups b) id) same is)))

          by_open : (has_group (rest_pending ++ x ∷ []) by ≡ true) ⊎ (has_group found id ≡ true) → (has_group left by ≡ true) ⊎ (has_group found_next id ≡ true)
          by_open (inl o) = at_x (one by o)
          by_open (inr f) = inr (kept id f)
      by_closed by id is false e h =
          inl (opened by ∙ or_right (has_group rest_pending by) (has_group (implied_by groups x) by && not (has_group found by))
          (subst (λ (v : Bool). (has_group (implied_by groups x) by && not v) ≡ true) (sym e) (subst (λ (v : Bool). (v && true) ≡ true) (sym h) refl)))

-- ---- a turn of the loop that adds groups

module _ (found_before found_after ids : List RecId) (i : ℕ) (d : RecId) (within : i < length ids) (added : (id : RecId) → has_group found_after id ≡ (has_group found_before id || (id.0 == (get_or ids i d).0))) where
  pub found_turn : (id : RecId) → (has_group found_after id || has_group (drop (i + 1) ids) id) ≡ (has_group found_before id || has_group (drop i ids) id)
  found_turn id = found_more found_before found_after (get_or ids i d) added (drop (i + 1) ids) id ∙ sym (at_drop_more (λ (rest : List RecId). has_group found_before id || has_group rest id) ids i d within)

  pub open_turn : (open_before open_after : List RecId) → open_after ≡ open_before ++ cond (has_group found_before (get_or ids i d)) [] (get_or ids i d ∷ []) → (id : RecId)
      → (has_group open_after id || (has_group (drop (i + 1) ids) id && not (has_group found_after id))) ≡ (has_group open_before id || (has_group (drop i ids) id && not (has_group found_before id)))
  open_turn open_before open_after is id =
      open_more found_before found_after (get_or ids i d) added open_before open_after is (drop (i + 1) ids) id
      ∙ sym (at_drop_more (λ (rest : List RecId). has_group open_before id || (has_group rest id && not (has_group found_before id))) ids i d within)

  pub fewer_turn : (open_before open_after : List RecId) → open_after ≡ open_before ++ cond (has_group found_before (get_or ids i d)) [] (get_or ids i d ∷ []) → (count bound : ℕ) → All (IsUpTo count) ids
      → unfound count found_before + length open_before ≤ bound → unfound count found_after + length open_after ≤ bound
  fewer_turn open_before open_after is count bound all le =
      let step = measured found_before found_after (get_or ids i d) added count open_before open_after is (All-get_or (IsUpTo count) ids i d within all) in omega arith

or_false : (b : Bool) → (b || false) ≡ b
or_false true = refl
or_false false = refl

module _ (found_now open_now ids : List RecId) (i : ℕ) (past : length ids ≤ i) where
  pub found_end : (id : RecId) → (has_group found_now id || has_group (drop i ids) id) ≡ has_group found_now id
  found_end id = ap (λ (rest : List RecId). has_group found_now id || has_group rest id) (drop_all i ids past) ∙ or_false (has_group found_now id)

  pub open_end : (id : RecId) → (has_group open_now id || (has_group (drop i ids) id && not (has_group found_now id))) ≡ has_group open_now id
  open_end id = ap (λ (rest : List RecId). has_group open_now id || (has_group rest id && not (has_group found_now id))) (drop_all i ids past) ∙ or_false (has_group open_now id)

-- what is stated is found and open
pub begun : (groups : List Group) (stated none_found none_open found_now open_now : List RecId) → none_found ≡ [] → none_open ≡ []
    → ((id : RecId) → has_group found_now id ≡ (has_group none_found id || has_group stated id))
    → ((id : RecId) → has_group open_now id ≡ (has_group none_open id || (has_group stated id && not (has_group none_found id)))) → IsSearch groups stated found_now open_now
begun groups stated none_found none_open found_now open_now nothing_found nothing_open found_is open_is = record {
  sound = λ id h. is_stated id (Contains-from_has stated id (sym (is_found id) ∙ h));
  seen = λ id h. is_found id ∙ (sym (is_open id) ∙ h);
  all = λ id is. is_found id ∙ has-from_Contains stated id is;
  closed = λ by id h is. inl (is_open by ∙ (sym (is_found by) ∙ h));
}
  where
    is_found : (id : RecId) → has_group found_now id ≡ has_group stated id
    is_found id = found_is id ∙ ap (λ (l : List RecId). has_group l id || has_group stated id) nothing_found

    true_and : (b : Bool) → (b && true) ≡ b
    true_and true = refl
    true_and false = refl

    is_open : (id : RecId) → has_group open_now id ≡ has_group stated id
    is_open id = open_is id ∙ ap (λ (l : List RecId). has_group l id || (has_group stated id && not (has_group none_found id))) nothing_open
        ∙ ap (λ (l : List RecId). has_group stated id && not (has_group l id)) nothing_found ∙ true_and (has_group stated id)

-- once nothing is open, exactly the user's groups are found
pub ended : (groups : List Group) (stated found_now open_now : List RecId) → IsSearch groups stated found_now open_now → open_now ≡ [] → (id : RecId) → (has_group found_now id ≡ true) ↔ IsMember groups stated id
ended groups stated found_now open_now kept none id =
    (kept.sound id, least groups stated (has_group found_now) kept.all (λ by other h is. not_open by other (kept.closed by other h is)) id)
  where
    not_open : (by other : RecId) → (has_group open_now by ≡ true) ⊎ (has_group found_now other ≡ true) → has_group found_now other ≡ true
    not_open by other (inl o) = absurd (nothing (sym (ap (λ (l : List RecId). has_group l by) none) ∙ o))
      where
        nothing : false ≡ true → ⊥
        nothing e = cc
    not_open by other (inr f) = f

-- a search ends: what is pending and what is still to be found go down by the one that is taken
pub smaller : (a b n m k : ℕ) → a + b ≤ n + m → k ≡ m + 1 → a + b < n + k
smaller a b n m k le is = omega arith

pub none_of : {A : Type 0} (xs : List A) → length xs ≡ 0 → xs ≡ []
none_of [] e = refl
none_of (x ∷ xs) e = absurd (omega arith)
