-- Ids of groups by their names, each within the groups that there are.
use Rattle.std.proofs.Common.{◌≡◌, ℕ, suc, ◌+◌, ◌<◌, ◌≤◌, Bool, true, false, List, [], ◌∷◌, ◌++◌, length, map, drop, All, Option, None, Some, refl, sym, ap, append_assoc, ◌∙◌, arith}
use Rattle.std.specs.Prelude.{IfSome, filter, if◌then◌else◌, option_and_then, option_map, position, slice_get}
use Rattle.std.specs.List.{enumerate_from}
use Rattle.std.specs.Option.{option_map_or}
use Rattle.std.specs.Str.{bytes_eq}
use Rattle.std.proofs.lemmas.List.{append-nil, drop_all}
use Rattle.std.proofs.lemmas.List.Elements.{All-cons, All-nil, All-weaker}
use Rattle.std.proofs.lemmas.List.Quantifiers.{position-Some}
use Rattle.ob_base.specs.declared.id.RecId.{RecId}
use Rattle.ob_load.specs.Access.{group_id, group_ids, is_among}
use Rattle.ob_load.specs.Rooms.{IsGroupOf}
use Rattle.ob_load.proofs.AccessSteps.{parted-at}

-- numbered from one on
abbrev IsFrom : ℕ → ℕ → RecId → Type 0
IsFrom n past id = (n ≤ id.0) × (id.0 < past)

abbrev pub ids_from : List (List ℕ) → ℕ → List (List ℕ) → List RecId
ids_from names n groups = map (λ p. record { 0 = p.0 }) (filter (λ p. is_among names p.1) (enumerate_from n groups))

module _ (names : List (List ℕ)) where
  ids-within : (groups : List (List ℕ)) (n : ℕ) → All (IsFrom n (n + length groups)) (ids_from names n groups)
  ids-within [] n = All-nil (IsFrom n (n + 0))
  ids-within (g ∷ more) n =
      by (is_among names g)
      (All-weaker (IsFrom (n + 1) (n + 1 + length more)) (IsFrom n (n + length (g ∷ more))) (λ id within. (omega (arith, within.0), omega (arith, within.1))) (ids_from names (n + 1) more) (ids-within more (n + 1)))
    where
      by : (b : Bool) → All (IsFrom n (n + length (g ∷ more))) (ids_from names (n + 1) more)
          → All (IsFrom n (n + length (g ∷ more))) (map (λ (p : ℕ × List ℕ). let id : RecId = record { 0 = p.0 } in id) (if b then (n, g) ∷ filter (λ p. is_among names p.1) (enumerate_from (n + 1) more) else filter (λ p. is_among names p.1) (enumerate_from (n + 1) more)))
      by true rest = All-cons (IsFrom n (n + length (g ∷ more))) (record { 0 = n }) (ids_from names (n + 1) more) (omega arith, omega arith) rest
      by false rest = rest

module _ (groups : List (List ℕ)) where
  -- each of the ids is one of a group
  pub group_ids-within : (names : List (List ℕ)) → All (IsGroupOf (length groups)) (group_ids groups names)
  group_ids-within names = All-weaker (IsFrom 1 (1 + length groups)) (IsGroupOf (length groups)) (λ id within. (within.0, omega (arith, within.1))) (group_ids groups names) (ids-within names groups 1)

  pub implied-within : (list : Option (List (List ℕ))) → All (IsGroupOf (length groups)) (option_map_or (group_ids groups) list [])
  implied-within None = All-nil (IsGroupOf (length groups))
  implied-within (Some names) = group_ids-within names

  pub listed-within : (list : Option (List (List ℕ))) → IfSome (option_map (group_ids groups) list) (All (IsGroupOf (length groups)))
  listed-within None = tt
  listed-within (Some names) = group_ids-within names

  -- the id of a name is one of a group
  numbered-within : (place : Option ℕ) → ((i : ℕ) → place ≡ Some i → i < length groups) → IfSome (option_map (λ (i : ℕ). let id : RecId = record { 0 = suc i } in id) place) (IsGroupOf (length groups))
  numbered-within None low = tt
  numbered-within (Some i) low = (omega arith, let lt = low i refl in omega (arith, lt))

  pub group_id-within : (name : List ℕ) → IfSome (group_id groups name) (IsGroupOf (length groups))
  group_id-within name = numbered-within (position (λ own. bytes_eq own name) groups) (λ i at. (position-Some (λ own. bytes_eq own name) groups i [] at).0)

  pub named-within : (name : Option (List ℕ)) → IfSome (option_and_then (group_id groups) name) (IsGroupOf (length groups))
  named-within None = tt
  named-within (Some name) = group_id-within name

-- ---- one group more

module _ (names : List (List ℕ)) (g : List ℕ) (more : List (List ℕ)) (k : ℕ) where
  ids-in : is_among names g ≡ true → ids_from names k (g ∷ more) ≡ record { 0 = k } ∷ ids_from names (k + 1) more
  ids-in is =
      ap (λ (b : Bool).
      map (λ (p : ℕ × List ℕ). let id : RecId = record { 0 = p.0 } in id) (if b then (k, g) ∷ filter (λ p. is_among names p.1) (enumerate_from (k + 1) more) else filter (λ p. is_among names p.1) (enumerate_from (k + 1) more))) is

  ids-out : is_among names g ≡ false → ids_from names k (g ∷ more) ≡ ids_from names (k + 1) more
  ids-out isnt =
      ap (λ (b : Bool).
      map (λ (p : ℕ × List ℕ). let id : RecId = record { 0 = p.0 } in id) (if b then (k, g) ∷ filter (λ p. is_among names p.1) (enumerate_from (k + 1) more) else filter (λ p. is_among names p.1) (enumerate_from (k + 1) more))) isnt

module _ (names groups : List (List ℕ)) (n : ℕ) (g : List ℕ) (at : slice_get groups n ≡ Some g) (ids all : List RecId) (so_far : ids ++ ids_from names (n + 1) (drop n groups) ≡ all) where
  -- one that is named
  pub ids-next-in : is_among names g ≡ true → (ids ++ record { 0 = n + 1 } ∷ []) ++ ids_from names (n + 1 + 1) (drop (n + 1) groups) ≡ all
  ids-next-in is =
      append_assoc ids (record { 0 = n + 1 } ∷ []) (ids_from names (n + 1 + 1) (drop (n + 1) groups))
      ∙ ap (λ (l : List RecId). ids ++ l) (sym (ids-in names g (drop (n + 1) groups) (n + 1) is)) ∙ ap (λ (l : List (List ℕ)). ids ++ ids_from names (n + 1) l) (sym (parted-at groups n g at).0) ∙ so_far

  -- one that isn't
  pub ids-next-out : is_among names g ≡ false → ids ++ ids_from names (n + 1 + 1) (drop (n + 1) groups) ≡ all
  ids-next-out isnt =
      ap (λ (l : List RecId). ids ++ l) (sym (ids-out names g (drop (n + 1) groups) (n + 1) isnt)) ∙ ap (λ (l : List (List ℕ)). ids ++ ids_from names (n + 1) l) (sym (parted-at groups n g at).0) ∙ so_far

-- with no group left they are all
pub ids-end : (names groups : List (List ℕ)) (n : ℕ) (ids all : List RecId) → length groups ≤ n → ids ++ ids_from names (n + 1) (drop n groups) ≡ all → ids ≡ all
ids-end names groups n ids all high so_far = sym (append-nil ids) ∙ ap (λ (l : List (List ℕ)). ids ++ ids_from names (n + 1) l) (sym (drop_all n groups high)) ∙ so_far
