-- The ids of a list, each once, gathered with a set of those that were met.
use Rattle.std.proofs.Common.{◌≡◌, ℕ, ◌<◌, ◌+◌, ◌==◌, Bool, true, false, cond, List, [], ◌∷◌, ◌++◌, map, length, get_or, take, Option, Some, None, BTreeSet, refl, sym, ap, ◌∙◌, arith}
use Rattle.std.specs.Ordering.{nat_cmp, is_eq}
use Rattle.std.specs.BTreeSet.{contains}
use Rattle.std.specs.BTreeMap.{is_at}
use Rattle.std.specs.List.{filter_map}
use Rattle.std.proofs.lemmas.Bool.Decides.{nat_tests}
use Rattle.std.proofs.lemmas.List.{append-nil, map-append, take_more}
use Rattle.std.proofs.lemmas.List.Elements.{filter_map-append}
use Rattle.serde_json.specs.View.{view}
use Rattle.serde_json.specs.declared.value.Value.{Value}
use Rattle.ob_call.specs.Forms.{id_from}
use Rattle.ob_call.specs.Ids.{once}
use Rattle.ob_call.proofs.OnceEach.{has, has_push, once_new, once_old}

-- the ids of these items
abbrev pub met_in : List Value → List ℕ
met_in items = filter_map id_from (map view items)

-- what one option adds to a list
abbrev one_of : Option ℕ → List ℕ
one_of None = []
one_of (Some n) = n ∷ []

-- the ids of one item
met_one : (v : Value) (found : Option ℕ) → id_from (view v) ≡ found → met_in (v ∷ []) ≡ one_of found
met_one v None e = rw e refl
met_one v (Some n) e = rw e refl

-- the ids of one item more
met_more : (items : List Value) (i : ℕ) (v : Value) (found : Option ℕ) → i < length items → v ≡ get_or items i v → id_from (view v) ≡ found
    → met_in (take (i + 1) items) ≡ met_in (take i items) ++ one_of found
met_more items i v found lt is given =
    ap met_in (take_more items i v lt ∙ ap (λ (x : Value). take i items ++ x ∷ []) (sym is))
    ∙ ap (filter_map id_from) (map-append view (take i items) (v ∷ []))
    ∙ filter_map-append id_from (map view (take i items)) (view v ∷ [])
    ∙ ap (λ (ns : List ℕ). met_in (take i items) ++ ns) (met_one v found given)

-- the ids of the items before a place, each once, and the set of them
pub record IsGathered (items : List Value) (i : ℕ) (ids : List ℕ) (seen : BTreeSet ℕ) : Type 0 where
  pub distinct : ids ≡ once (met_in (take i items))
  pub known : (q : ℕ) → contains nat_cmp seen q ≡ has q (met_in (take i items))

-- numbers that compare as equal are equal
same_test : (n q : ℕ) → is_eq (nat_cmp n q) ≡ (n == q)
same_test n q = grind (arith, nat_tests)

-- the set knows one number more
known_more : (met : List ℕ) (n : ℕ) (old new : BTreeSet ℕ) → ((q : ℕ) → contains nat_cmp old q ≡ has q met) → ((q : ℕ) → contains nat_cmp new q ≡ cond (is_at (nat_cmp n) q) true (contains nat_cmp old q))
    → (q : ℕ) → contains nat_cmp new q ≡ has q (met ++ n ∷ [])
known_more met n old new known updates q =
    updates q ∙ ap (λ (b : Bool). cond b true (contains nat_cmp old q)) (same_test n q) ∙ ap (λ (b : Bool). cond (n == q) true b) (known q) ∙ sym (has_push met n q)

-- an id that was not met yet goes last
pub IsGathered-new : (items : List Value) (i : ℕ) (ids : List ℕ) (old new : BTreeSet ℕ) (v : Value) (n : ℕ)
    → i < length items → v ≡ get_or items i v → id_from (view v) ≡ Some n → contains nat_cmp old n ≡ false
    → ((q : ℕ) → contains nat_cmp new q ≡ cond (is_at (nat_cmp n) q) true (contains nat_cmp old q))
    → IsGathered items i ids old → IsGathered items (i + 1) (ids ++ n ∷ []) new
IsGathered-new items i ids old new v n lt is given absent updates so_far =
    let met = met_in (take i items) in
    let more : met_in (take (i + 1) items) ≡ met ++ n ∷ [] = met_more items i v (Some n) lt is given in
    record {
      distinct = ap (λ (xs : List ℕ). xs ++ n ∷ []) so_far.distinct ∙ sym (once_new met n (sym (so_far.known n) ∙ absent)) ∙ ap once (sym more);
      known = λ q. known_more met n old new so_far.known updates q ∙ ap (has q) (sym more);
    }

-- an id that was met changes nothing
pub IsGathered-old : (items : List Value) (i : ℕ) (ids : List ℕ) (old new : BTreeSet ℕ) (v : Value) (n : ℕ)
    → i < length items → v ≡ get_or items i v → id_from (view v) ≡ Some n → contains nat_cmp old n ≡ true
    → ((q : ℕ) → contains nat_cmp new q ≡ cond (is_at (nat_cmp n) q) true (contains nat_cmp old q))
    → IsGathered items i ids old → IsGathered items (i + 1) ids new
IsGathered-old items i ids old new v n lt is given present updates so_far =
    let met = met_in (take i items) in
    let more : met_in (take (i + 1) items) ≡ met ++ n ∷ [] = met_more items i v (Some n) lt is given in
    record {
      distinct = so_far.distinct ∙ sym (once_old met n (sym (so_far.known n) ∙ present)) ∙ ap once (sym more);
      known = λ q. known_more met n old new so_far.known updates q ∙ ap (has q) (sym more);
    }

-- an item that is no id adds nothing
pub IsGathered-pass : (items : List Value) (i : ℕ) (ids : List ℕ) (seen : BTreeSet ℕ) (v : Value)
    → i < length items → v ≡ get_or items i v → id_from (view v) ≡ None → IsGathered items i ids seen → IsGathered items (i + 1) ids seen
IsGathered-pass items i ids seen v lt is given so_far =
    let met = met_in (take i items) in
    let more : met_in (take (i + 1) items) ≡ met = met_more items i v None lt is given ∙ append-nil met in
    record { distinct = so_far.distinct ∙ ap once (sym more); known = λ q. so_far.known q ∙ ap (has q) (sym more) }
