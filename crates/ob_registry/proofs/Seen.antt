-- What a search marks as seen, and what waits in it.
use Rattle.std.proofs.Common.{◌≡◌, ◌≢◌, ◌⊎◌, ◌+◌, ◌<◌, [], ◌∷◌, ◌++◌, ◌∙◌, ℕ, zero, suc, Bool, true, false, cond, not, List, length, length-append}
use Rattle.std.proofs.Common.{get_or, set, get_or-set_same, Some, inl, inr, refl, sym, ap, subst, true≢false, arith}
use Rattle.std.proofs.lemmas.Bool.{cases_eq}
use Rattle.std.proofs.lemmas.List.{length-set}
use Rattle.std.proofs.lemmas.List.Elements.{Contains-append_left, Contains-push, Contains-push_cases}
use Rattle.std.proofs.lemmas.List.Sums.{sum_by-set}
use Rattle.std.proofs.lemmas.Option.{get_or_from_slice_get, same_Some, slice_get-get_or, slice_get_within}
use Rattle.std.specs.List.{count_by}
use Rattle.std.specs.Prelude.{◌↔◌, Contains, slice_get}
use Rattle.ob_schema.proofs.CallerLemmas.{contains-none}

-- whether a mark is set or unset is read with or without a default
pub marked-at : (seen : List Bool) (b : ℕ) (mark : Bool) → b < length seen → get_or seen b false ≡ mark → slice_get seen b ≡ Some mark
marked-at seen b mark inside is = slice_get-get_or seen b false inside ∙ ap Some is

-- a mark is not both set and unset
not_both : (seen : List Bool) (b : ℕ) → slice_get seen b ≡ Some true → slice_get seen b ≡ Some false → ⊥
not_both seen b on off = true≢false (same_Some true false (sym on ∙ off))

-- marks of a node that is marked anew
slice_get-set_same : (seen : List Bool) (b : ℕ) (mark : Bool) → b < length seen → slice_get (set seen b mark) b ≡ Some mark
slice_get-set_same seen b mark inside = slice_get-get_or (set seen b mark) b mark (let e = length-set seen b mark in omega arith) ∙ ap Some (get_or-set_same seen b mark mark inside)

-- and of any other
slice_get-set_other : (seen : List Bool) (i b : ℕ) (mark : Bool) → b ≢ i → slice_get (set seen i mark) b ≡ slice_get seen b
slice_get-set_other [] i b mark other = refl
slice_get-set_other (x ∷ seen) zero zero mark other = absurd (other refl)
slice_get-set_other (x ∷ seen) zero (suc b) mark other = refl
slice_get-set_other (x ∷ seen) (suc i) zero mark other = refl
slice_get-set_other (x ∷ seen) (suc i) (suc b) mark other = slice_get-set_other seen i b mark (λ e. other (ap suc e))

-- one unset mark less
count-set : (seen : List Bool) (i : ℕ) → slice_get seen i ≡ Some false → count_by not seen ≡ count_by not (set seen i true) + 1
count-set seen i unseen =
    let weight : Bool → ℕ = λ b. cond (not b) 1 0 in
    let changed = sum_by-set weight seen i true false (slice_get_within seen i false unseen) in
    let one : weight (get_or seen i false) ≡ 1 = ap weight (get_or_from_slice_get seen i false false unseen) in
    omega (arith, changed, one)

-- marks and what waits, before and after these nodes were added
pub record IsSeen (Among : ℕ → Type 0) (seen : List Bool) (waiting : List ℕ) (new : List Bool) (next : List ℕ) : Type 0 where
  pub count : length new ≡ length seen
  pub marked : (b : ℕ) → (slice_get new b ≡ Some true) ↔ ((slice_get seen b ≡ Some true) ⊎ Among b)
  pub waits : (b : ℕ) → Contains next b ↔ (Contains waiting b ⊎ ((slice_get seen b ≡ Some false) × Among b))
  pub fewer : length next + count_by not new ≡ length waiting + count_by not seen

-- nothing was added
pub IsSeen-none : (seen : List Bool) (waiting : List ℕ) → IsSeen (Contains []) seen waiting seen waiting
IsSeen-none seen waiting = record {
  count = refl;
  marked = λ b. (λ is. inl is, λ is. elim is as (λ _. slice_get seen b ≡ Some true) [ inl old ↦ old | inr among ↦ absurd (contains-none b among) ]);
  waits = λ b. (λ is. inl is, λ is. elim is as (λ _. Contains waiting b) [ inl old ↦ old | inr added ↦ absurd (contains-none b added.1) ]);
  fewer = refl;
}

-- the same nodes
pub IsSeen-same : (A B : ℕ → Type 0) (seen : List Bool) (waiting : List ℕ) (new : List Bool) (next : List ℕ) → ((b : ℕ) → A b → B b) → ((b : ℕ) → B b → A b)
    → IsSeen A seen waiting new next → IsSeen B seen waiting new next
IsSeen-same A B seen waiting new next to from is = record {
  count = is.count;
  marked = λ b. (
    λ on. elim ((is.marked b).0 on) as (λ _. (slice_get seen b ≡ Some true) ⊎ B b) [ inl old ↦ inl old | inr among ↦ inr (to b among) ],
    λ why. (is.marked b).1 (elim why as (λ _. (slice_get seen b ≡ Some true) ⊎ A b) [ inl old ↦ inl old | inr among ↦ inr (from b among) ]),
  );
  waits = λ b. (
    λ on. elim ((is.waits b).0 on) as (λ _. Contains waiting b ⊎ ((slice_get seen b ≡ Some false) × B b)) [ inl old ↦ inl old | inr added ↦ inr (added.0, to b added.1) ],
    λ why. (is.waits b).1 (elim why as (λ _. Contains waiting b ⊎ ((slice_get seen b ≡ Some false) × A b)) [ inl old ↦ inl old | inr added ↦ inr (added.0, from b added.1) ]),
  );
  fewer = is.fewer;
}

-- at equal lists
pub IsSeen-on : (row row' : List ℕ) (seen : List Bool) (waiting : List ℕ) (new new' : List Bool) (next next' : List ℕ) → row' ≡ row → new' ≡ new → next' ≡ next
    → IsSeen (Contains row) seen waiting new next → IsSeen (Contains row') seen waiting new' next'
IsSeen-on row row' seen waiting new new' next next' e f g is = rw (e, f, g) is

module _ (row : List ℕ) (seen : List Bool) (waiting : List ℕ) (new : List Bool) (next : List ℕ) (read : ℕ) (is : IsSeen (Contains row) seen waiting new next) where
  -- one that isn't seen
  pub IsSeen-new : slice_get new read ≡ Some false → IsSeen (Contains (row ++ read ∷ [])) seen waiting (set new read true) (next ++ read ∷ [])
  IsSeen-new unseen = record {
    count = length-set new read true ∙ is.count;
    marked = λ b. (marked_to b, marked_from b);
    waits = λ b. (waits_to b, waits_from b);
    fewer = let less = count-set new read unseen in let more = length-append next (read ∷ []) in let e = is.fewer in omega arith;
  }
    where
      inside : read < length new
      inside = slice_get_within new read false unseen

      was_unseen : slice_get seen read ≡ Some false
      was_unseen = elim (cases_mark (get_or seen read false)) as (λ _. slice_get seen read ≡ Some false) [
        | inl on ↦ absurd (not_both new read ((is.marked read).1 (inl (marked-at seen read true (let e = is.count in omega (arith, inside)) on))) unseen)
        | inr off ↦ marked-at seen read false (let e = is.count in omega (arith, inside)) off
      ]
        where
          cases_mark : (mark : Bool) → (mark ≡ true) ⊎ (mark ≡ false)
          cases_mark true = inl refl
          cases_mark false = inr refl

      marked_to : (b : ℕ) → slice_get (set new read true) b ≡ Some true → (slice_get seen b ≡ Some true) ⊎ Contains (row ++ read ∷ []) b
      marked_to b on = elim (cases_eq b read) as (λ _. (slice_get seen b ≡ Some true) ⊎ Contains (row ++ read ∷ []) b) [
        | inl same ↦ inr (subst (λ (n : ℕ). Contains (row ++ read ∷ []) n) (sym same) (Contains-push row read))
        | inr other ↦ elim ((is.marked b).0 (sym (slice_get-set_other new read b true other) ∙ on)) as (λ _. (slice_get seen b ≡ Some true) ⊎ Contains (row ++ read ∷ []) b) [
          | inl old ↦ inl old
          | inr among ↦ inr (Contains-append_left row (read ∷ []) b among)
        ]
      ]

      keeps : (b : ℕ) → slice_get new b ≡ Some true → slice_get (set new read true) b ≡ Some true
      keeps b on = elim (cases_eq b read) as (λ _. slice_get (set new read true) b ≡ Some true) [
        | inl same ↦ rw same (slice_get-set_same new read true inside)
        | inr other ↦ slice_get-set_other new read b true other ∙ on
      ]

      marked_from : (b : ℕ) → (slice_get seen b ≡ Some true) ⊎ Contains (row ++ read ∷ []) b → slice_get (set new read true) b ≡ Some true
      marked_from b (inl old) = keeps b ((is.marked b).1 (inl old))
      marked_from b (inr among) = elim (Contains-push_cases row read b among) as (λ _. slice_get (set new read true) b ≡ Some true) [
        | inl before ↦ keeps b ((is.marked b).1 (inr before))
        | inr same ↦ rw (← same) (slice_get-set_same new read true inside)
      ]

      waits_to : (b : ℕ) → Contains (next ++ read ∷ []) b → Contains waiting b ⊎ ((slice_get seen b ≡ Some false) × Contains (row ++ read ∷ []) b)
      waits_to b among = elim (Contains-push_cases next read b among) as (λ _. Contains waiting b ⊎ ((slice_get seen b ≡ Some false) × Contains (row ++ read ∷ []) b)) [
        | inl before ↦ elim ((is.waits b).0 before) as (λ _. Contains waiting b ⊎ ((slice_get seen b ≡ Some false) × Contains (row ++ read ∷ []) b)) [
          | inl old ↦ inl old
          | inr added ↦ inr (added.0, Contains-append_left row (read ∷ []) b added.1)
        ]
        | inr same ↦ rw (← same) (inr (was_unseen, Contains-push row read))
      ]

      waits_from : (b : ℕ) → Contains waiting b ⊎ ((slice_get seen b ≡ Some false) × Contains (row ++ read ∷ []) b) → Contains (next ++ read ∷ []) b
      waits_from b (inl old) = Contains-append_left next (read ∷ []) b ((is.waits b).1 (inl old))
      waits_from b (inr added) = elim (Contains-push_cases row read b added.1) as (λ _. Contains (next ++ read ∷ []) b) [
        | inl before ↦ Contains-append_left next (read ∷ []) b ((is.waits b).1 (inr (added.0, before)))
        | inr same ↦ rw (← same) (Contains-push next read)
      ]

  -- one that is seen
  pub IsSeen-known : slice_get new read ≡ Some true → IsSeen (Contains (row ++ read ∷ [])) seen waiting new next
  IsSeen-known known = record {
    count = is.count;
    marked = λ b. (marked_to b, marked_from b);
    waits = λ b. (waits_to b, waits_from b);
    fewer = is.fewer;
  }
    where
      marked_to : (b : ℕ) → slice_get new b ≡ Some true → (slice_get seen b ≡ Some true) ⊎ Contains (row ++ read ∷ []) b
      marked_to b on = elim ((is.marked b).0 on) as (λ _. (slice_get seen b ≡ Some true) ⊎ Contains (row ++ read ∷ []) b) [
        | inl old ↦ inl old
        | inr among ↦ inr (Contains-append_left row (read ∷ []) b among)
      ]

      marked_from : (b : ℕ) → (slice_get seen b ≡ Some true) ⊎ Contains (row ++ read ∷ []) b → slice_get new b ≡ Some true
      marked_from b (inl old) = (is.marked b).1 (inl old)
      marked_from b (inr among) = elim (Contains-push_cases row read b among) as (λ _. slice_get new b ≡ Some true) [ inl before ↦ (is.marked b).1 (inr before) | inr same ↦ rw (← same) known ]

      waits_to : (b : ℕ) → Contains next b → Contains waiting b ⊎ ((slice_get seen b ≡ Some false) × Contains (row ++ read ∷ []) b)
      waits_to b among = elim ((is.waits b).0 among) as (λ _. Contains waiting b ⊎ ((slice_get seen b ≡ Some false) × Contains (row ++ read ∷ []) b)) [
        | inl old ↦ inl old
        | inr added ↦ inr (added.0, Contains-append_left row (read ∷ []) b added.1)
      ]

      read_waits : slice_get seen read ≡ Some false → Contains next read
      read_waits unseen = elim ((is.marked read).0 known) as (λ _. Contains next read) [ inl old ↦ absurd (not_both seen read old unseen) | inr among ↦ (is.waits read).1 (inr (unseen, among)) ]

      waits_from : (b : ℕ) → Contains waiting b ⊎ ((slice_get seen b ≡ Some false) × Contains (row ++ read ∷ []) b) → Contains next b
      waits_from b (inl old) = (is.waits b).1 (inl old)
      waits_from b (inr added) = elim (Contains-push_cases row read b added.1) as (λ _. Contains next b) [
        | inl before ↦ (is.waits b).1 (inr (added.0, before))
        | inr same ↦ subst (λ (n : ℕ). Contains next n) same (read_waits (subst (λ (n : ℕ). slice_get seen n ≡ Some false) (sym same) added.0))
      ]
