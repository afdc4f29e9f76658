-- The links of a row rise by field, then target: so a keeper may be handed the row, and keeps it as it is.
use Rattle.std.proofs.Common.{◌≡◌, ◌≢◌, ◌+◌, ◌<◌, ◌≤◌, ◌++◌, ℕ, zero, suc, Bool, true, false, T, cond, List, [], ◌∷◌, map, refl, sym, ap, subst, ◌∙◌, arith}
use Rattle.std.specs.Prelude.{All, AllPairs}
use Rattle.std.specs.FinMap as finite
use Rattle.std.specs.List.{AllByRecursion, flat_map}
use Rattle.std.specs.List.Sorted.{IsStrictlySortedBy}
use Rattle.std.specs.Map.{keys_of}
use Rattle.std.specs.Ordering.{nat_cmp, ordering_then}
use Rattle.std.specs.Cmp.{nat_cmp_total, tied_itself}
use Rattle.std.specs.declared.cmp.Ordering.{Ordering}
use Rattle.std.specs.declared.cmp.Ordering.TheVariants.{Less, Equal}
use Rattle.std.proofs.lemmas.Bool.Decides.{nat_tests}
use Rattle.std.proofs.lemmas.List.Elements.{All-cons, All-nil, All-head, All-tail}
use Rattle.ob_base.specs.Ids.{IsId}
use Rattle.ob_base.specs.declared.id.FieldNo.{FieldNo}
use Rattle.ob_base.specs.declared.id.RecId.{RecId}
use Rattle.ob_base.specs.declared.value.Value.{Value}
use Rattle.ob_base.specs.declared.value.Value.TheVariants as value
use Rattle.ob_cache.specs.Kept.{links_by}
use Rattle.ob_cache.proofs.KeptForms.{plain_ones}
use Rattle.ob_definition.specs.Values.{IsValueOf}
use Rattle.ob_definition.specs.declared.field_type.Choice.{Choice}
use Rattle.ob_definition.specs.declared.field_type.FieldType.{FieldType}
use Rattle.ob_definition.specs.declared.field_type.FieldType.TheVariants as type
use Rattle.ob_io.specs.Store.{Fits63, IsRowFit, in_order, link_cmp}
use Rattle.ob_io.specs.declared.store.KeptRow.{KeptRow}
use Rattle.ob_io.specs.declared.store.Link.{Link}
use Rattle.ob_io.proofs.CallerLemmas.{exact_links, id_cmp, is_sorted-from_keys, links_total, sorted-from_rising}
use Rattle.ob_schema.specs.Fields.{Column, Holds, is_plain_kept}
use Rattle.ob_schema.specs.Plain.{targets_of}
use Rattle.ob_schema.specs.declared.info.FieldInfo.{FieldInfo}

-- ---- sorted lists

sorted-append : {X : Type 0} (c : X → X → Ordering) (xs ys : List X) → IsStrictlySortedBy c xs → IsStrictlySortedBy c ys → AllByRecursion (λ x. AllByRecursion (λ y. c x y ≡ Less) ys) xs → IsStrictlySortedBy c (xs ++ ys)
unfolding IsStrictlySortedBy
sorted-append c [] ys left right across = right
sorted-append c (x ∷ xs) ys left right across = (both xs left.0 across.0, sorted-append c xs ys left.1 right across.1)
  where
    both : (zs : List _) → AllByRecursion (λ y. c x y ≡ Less) zs → AllByRecursion (λ y. c x y ≡ Less) ys → AllByRecursion (λ y. c x y ≡ Less) (zs ++ ys)
    both [] here later = later
    both (z ∷ zs) here later = (here.0, both zs here.1 later)

pairs-cons : {X : Type 0} (R : X → X → Type 0) (x : X) (xs : List X) → All (R x) xs → AllPairs R xs → AllPairs R (x ∷ xs)
pairs-cons R x xs first rest zero zero d low within = absurd (omega arith)
pairs-cons R x xs first rest zero (suc j) d low within = first j d (omega arith)
pairs-cons R x xs first rest (suc i) zero d low within = absurd (omega arith)
pairs-cons R x xs first rest (suc i) (suc j) d low within = rest i j d (omega arith) (omega arith)

all-from : {X : Type 0} (P : X → Type 0) (xs : List X) → AllByRecursion P xs → All P xs
all-from P [] all = All-nil P
all-from P (x ∷ xs) all = All-cons P x xs all.0 (all-from P xs all.1)

weaker : {X : Type 0} (P Q : X → Type 0) → ((x : X) → P x → Q x) → (xs : List X) → AllByRecursion P xs → AllByRecursion Q xs
weaker P Q more [] all = tt
weaker P Q more (x ∷ xs) all = (more x all.0, weaker P Q more xs all.1)

not-less : (a : Link) → link_cmp a a ≡ Less → ⊥
not-less a less = let tied = tied_itself links_total a in let both : Equal ≡ Less = sym tied ∙ less in cc

-- links that rise are apart
sorted-apart : (links : List Link) → IsStrictlySortedBy link_cmp links → AllPairs (λ a b. a ≢ b) links
unfolding IsStrictlySortedBy
sorted-apart [] sorted = λ i j d low within. absurd (none j within)
  where
    none : (j : ℕ) → j < 0 → ⊥
    none j within = omega arith
sorted-apart (a ∷ links) sorted =
    pairs-cons (λ a b. a ≢ b) a links (all-from (λ b. a ≢ b) links (weaker (λ b. link_cmp a b ≡ Less) (λ b. a ≢ b) (λ b less same. not-less a (ap (link_cmp a) same ∙ less)) links sorted.0)) (sorted-apart links sorted.1)

-- ---- targets

-- what is known of the targets of a value that a field holds
pub record AreTargets (ids : List RecId) : Type 0 where
  pub sorted : IsStrictlySortedBy id_cmp ids
  pub within : AllByRecursion (λ id. Fits63 id.0) ids

none-targets : AreTargets []
none-targets = record { sorted = sorted-from_rising [] (λ k within. absurd (no k within)); within = tt }
  where
    no : (k : ℕ) → k + 1 < 0 → ⊥
    no k within = omega arith

id-fits : (id : RecId) → IsId id → Fits63 id.0
id-fits id is = let high = is.1 in omega arith

all-fit : (ids : List RecId) → All IsId ids → AllByRecursion (λ id. Fits63 id.0) ids
all-fit [] all = tt
all-fit (id ∷ ids) all = (id-fits id (All-head IsId id ids all), all-fit ids (All-tail IsId id ids all))

one-target : (id : RecId) → IsId id → AreTargets (id ∷ [])
one-target id is = record { sorted = sorted-from_rising (id ∷ []) (λ k within. absurd (no k within)); within = (id-fits id is, tt) }
  where
    no : (k : ℕ) → k + 1 < 1 → ⊥
    no k within = omega arith

held-targets : (t : FieldType) (choices : List Choice) (v : Value) → IsValueOf t choices v → AreTargets (targets_of v)
held-targets type.Many2one choices (value.Ref id) held = one-target id held
held-targets type.One2many choices (value.Refs ids) held = record { sorted = sorted-from_rising ids held.rising; within = all-fit ids held.within }
held-targets type.Many2many choices (value.Refs ids) held = record { sorted = sorted-from_rising ids held.0.rising; within = all-fit ids held.0.within }
held-targets t choices value.Nil held = none-targets
held-targets t choices (value.Bool b) held = none-targets
held-targets t choices (value.Int n) held = none-targets
held-targets t choices (value.Word text) held = none-targets
held-targets t choices (value.Day n) held = none-targets
held-targets t choices (value.Moment n) held = none-targets
held-targets _ choices _ held = absurd held

-- ---- links

nat-less : (a b : ℕ) → a < b → nat_cmp a b ≡ Less
nat-less a b low = grind (arith, nat_tests)

by-field : (a b : Link) → a.field.0 < b.field.0 → link_cmp a b ≡ Less
by-field a b low = ap (λ (r : Ordering). ordering_then r (nat_cmp a.target.0 b.target.0)) (nat-less a.field.0 b.field.0 low)

by-target : (field : FieldNo) (a b : RecId) → id_cmp a b ≡ Less → link_cmp (record { field = field; target = a }) (record { field = field; target = b }) ≡ Less
by-target field a b less = ap (λ (r : Ordering). ordering_then r (nat_cmp a.0 b.0)) (tied_itself nat_cmp_total field.0) ∙ less

links-sorted : (column : Column) (ids : List RecId) → IsStrictlySortedBy id_cmp ids → IsStrictlySortedBy link_cmp (map (λ id. record { field = record { 0 = column.0 }; target = id }) ids)
unfolding IsStrictlySortedBy
links-sorted column [] sorted = tt
links-sorted column (id ∷ ids) sorted = (later ids sorted.0, links-sorted column ids sorted.1)
  where
    later : (others : List RecId) → AllByRecursion (λ y. id_cmp id y ≡ Less) others
        → AllByRecursion (λ (l : Link). link_cmp (record { field = record { 0 = column.0 }; target = id }) l ≡ Less) (map (λ other. record { field = record { 0 = column.0 }; target = other }) others)
    later [] all = tt
    later (other ∷ others) all = (by-target (record { 0 = column.0 }) id other all.0, later others all.1)

links-fit : (column : Column) (ids : List RecId) → AllByRecursion (λ id. Fits63 id.0) ids → AllByRecursion (λ (l : Link). (l.field.0 ≡ column.0) × Fits63 l.target.0) (map (λ id. record { field = record { 0 = column.0 }; target = id }) ids)
links-fit column [] all = tt
links-fit column (id ∷ ids) all = ((refl, all.0), links-fit column ids all.1)

none-sorted : IsStrictlySortedBy link_cmp []
unfolding IsStrictlySortedBy
none-sorted = tt

-- links from a number on
pub record AreLinks (from : ℕ) (links : List Link) : Type 0 where
  pub sorted : IsStrictlySortedBy link_cmp links
  pub each : AllByRecursion (λ (l : Link). (from ≤ l.field.0) × Fits63 l.target.0) links

module _ (g : Column → Value) where
  abbrev links_from : List Column → List Link
  links_from cols = flat_map (λ c. links_by c (g c)) cols

  links-rise : (n : ℕ) (fields : List FieldInfo) → AllByRecursion (λ c. Holds c.1 (g c)) (plain_ones n fields) → AreLinks n (links_from (plain_ones n fields))
  links-rise n [] holds = record { sorted = none-sorted; each = tt }
  links-rise n (f ∷ fields) holds = by (is_plain_kept f) holds (links-rise (n + 1) fields)
    where
      all-append : (P : Link → Type 0) (xs ys : List Link) → AllByRecursion P xs → AllByRecursion P ys → AllByRecursion P (xs ++ ys)
      all-append P [] ys here later = later
      all-append P (x ∷ xs) ys here later = (here.0, all-append P xs ys here.1 later)

      low-each : (links : List Link) → AllByRecursion (λ (l : Link). (n + 1 ≤ l.field.0) × Fits63 l.target.0) links → AllByRecursion (λ (l : Link). (n ≤ l.field.0) × Fits63 l.target.0) links
      low-each links all = weaker (λ (l : Link). (n + 1 ≤ l.field.0) × Fits63 l.target.0) (λ (l : Link). (n ≤ l.field.0) × Fits63 l.target.0) (λ l known. (le n l.field.0 known.0, known.1)) links all
        where
          le : (a b : ℕ) → a + 1 ≤ b → a ≤ b
          le a b low = omega arith

      here-each : (links : List Link) → AllByRecursion (λ (l : Link). (l.field.0 ≡ n) × Fits63 l.target.0) links → AllByRecursion (λ (l : Link). (n ≤ l.field.0) × Fits63 l.target.0) links
      here-each links all = weaker (λ (l : Link). (l.field.0 ≡ n) × Fits63 l.target.0) (λ (l : Link). (n ≤ l.field.0) × Fits63 l.target.0) (λ l known. (le l.field.0 known.0, known.1)) links all
        where
          le : (b : ℕ) → b ≡ n → n ≤ b
          le b is = omega arith

      below : (a : Link) → a.field.0 ≡ n → (links : List Link) → AllByRecursion (λ (l : Link). (n + 1 ≤ l.field.0) × Fits63 l.target.0) links → AllByRecursion (λ (l : Link). link_cmp a l ≡ Less) links
      below a is links all = weaker (λ (l : Link). (n + 1 ≤ l.field.0) × Fits63 l.target.0) (λ (l : Link). link_cmp a l ≡ Less) (λ l known. by-field a l (lt a.field.0 l.field.0 is known.0)) links all
        where
          lt : (a b : ℕ) → a ≡ n → n + 1 ≤ b → a < b
          lt a b is low = omega arith

      across : (heads tails : List Link) → AllByRecursion (λ (l : Link). (l.field.0 ≡ n) × Fits63 l.target.0) heads → AllByRecursion (λ (l : Link). (n + 1 ≤ l.field.0) × Fits63 l.target.0) tails
          → AllByRecursion (λ a. AllByRecursion (λ (l : Link). link_cmp a l ≡ Less) tails) heads
      across heads tails here later = weaker (λ (l : Link). (l.field.0 ≡ n) × Fits63 l.target.0) (λ a. AllByRecursion (λ (l : Link). link_cmp a l ≡ Less) tails) (λ a known. below a known.0 tails later) heads here

      by : (b : Bool) → AllByRecursion (λ c. Holds c.1 (g c)) (cond b ((n, f) ∷ plain_ones (n + 1) fields) (plain_ones (n + 1) fields))
          → (AllByRecursion (λ c. Holds c.1 (g c)) (plain_ones (n + 1) fields) → AreLinks (n + 1) (links_from (plain_ones (n + 1) fields)))
          → AreLinks n (links_from (cond b ((n, f) ∷ plain_ones (n + 1) fields) (plain_ones (n + 1) fields)))
      by true holds later =
          let rest = later holds.1 in
          let targets = held-targets f.field_type f.selection (g (n, f)) holds.0 in
          let heads = links-fit (n, f) (targets_of (g (n, f))) targets.within in
          record {
            sorted = sorted-append link_cmp (links_by (n, f) (g (n, f))) (links_from (plain_ones (n + 1) fields)) (links-sorted (n, f) (targets_of (g (n, f))) targets.sorted) rest.sorted
                (across (links_by (n, f) (g (n, f))) (links_from (plain_ones (n + 1) fields)) heads rest.each);
            each = all-append (λ (l : Link). (n ≤ l.field.0) × Fits63 l.target.0) (links_by (n, f) (g (n, f))) (links_from (plain_ones (n + 1) fields)) (here-each (links_by (n, f) (g (n, f))) heads)
                (low-each (links_from (plain_ones (n + 1) fields)) rest.each);
          }
      by false holds later = let rest = later holds in record { sorted = rest.sorted; each = low-each (links_from (plain_ones (n + 1) fields)) rest.each }

  -- the links of a row whose plain values hold
  pub links-are-links : (fields : List FieldInfo) → AllByRecursion (λ c. Holds c.1 (g c)) (plain_ones 1 fields) → AreLinks 1 (flat_map (λ c. links_by c (g c)) (plain_ones 1 fields))
  links-are-links fields holds = links-rise 1 fields holds

-- ---- rows

abbrev units : List Link → List (Link × Unit {0})
units links = map (λ link. (link, tt)) links

keys_of-units : (links : List Link) → keys_of (units links) ≡ links
keys_of-units [] = refl
keys_of-units (link ∷ links) = ap (λ (rest : List Link). link ∷ rest) (keys_of-units links)

-- links in order stay as they are
in-order : (links : List Link) → IsStrictlySortedBy link_cmp links → finite.keys (finite.from_entries {R = link_cmp} (units links)) ≡ links
in-order links sorted =
    let rises : T (finite.is_sorted link_cmp (units links)) = is_sorted-from_keys link_cmp (units links) (subst (IsStrictlySortedBy link_cmp) (sym (keys_of-units links)) sorted) in
    let same : finite.from_entries {R = link_cmp} (units links) ≡ finite.from_sorted {R = link_cmp} (units links) = finite.same_map links_total exact_links _ _ (λ q.
    finite.get-from_entries links_total (units links) q ∙ sym (finite.get-from_sorted link_cmp (units links) q rises)) in
    ap finite.keys same ∙ ap keys_of (finite.entries-from_sorted link_cmp (units links) rises) ∙ keys_of-units links

-- a row with such links is kept as it is, and may be handed to a keeper
pub row-in_order : (row : KeptRow) → AreLinks 1 row.links → in_order row ≡ row
row-in_order row links = λ i. record { id = row.id; body = row.body; links = in-order row.links links.sorted i }

pub row-fit : (row : KeptRow) → Fits63 row.id.0 → AreLinks 1 row.links → IsRowFit row
row-fit row low links = record {
  id = low;
  targets = all-from (λ link. Fits63 link.target.0) row.links (weaker (λ (l : Link). (1 ≤ l.field.0) × Fits63 l.target.0) (λ (l : Link). Fits63 l.target.0) (λ l known. known.1) row.links links.each);
  distinct = sorted-apart row.links links.sorted;
}
