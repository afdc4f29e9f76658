-- Links put in order, as a list and as a set.
use Rattle.std.proofs.Common.{◌≡◌, ◌≢◌, ◌+◌, Bool, true, false, T, List, [], ◌∷◌, map, get_or, AllPairs, IsPermutation, refl, sym, ap, subst, ◌∙◌, arith, cond, ◌||◌, Option, Some, None, is_some, All}
use Rattle.std.specs.declared.cmp.Ordering.{Ordering}
use Rattle.std.specs.declared.cmp.Ordering.TheVariants.{Less, Equal, Greater}
use Rattle.std.specs.Ordering.{is_lt, is_eq, eq_by_cmp, ordering_reverse}
use Rattle.std.specs.Cmp.{eq_by_cmp_equiv, Equal-is, tied_itself}
use Rattle.std.specs.Bool.{Decides}
use Rattle.std.specs.List.{IsDistinct, list_any}
use Rattle.std.specs.List.Sorted.{IsSorted, IsStrictlySortedBy}
use Rattle.std.proofs.lemmas.List.Sorted.{list_any-IsPermutation}
use Rattle.std.proofs.lemmas.Map.Keys.{IsDistinct-IsPermutation, apart_from_distinct, sorted_from_all_adjacent}
use Rattle.std.proofs.lemmas.Map.Made.{IsDistinct-from_AllPairs}
use Rattle.std.proofs.lemmas.List.Elements.{All-contains}
use Rattle.std.proofs.lemmas.Map.Views.{All-from_any, Contains-from_any, tells_apart}
use Rattle.std.specs.Map.{keys_of}
use Rattle.std.specs.FinMap as finite
use Rattle.ob_io.specs.declared.store.Link.{Link}
use Rattle.ob_io.specs.declared.store.KeptRow.{KeptRow}
use Rattle.ob_io.specs.Store.{link_cmp, in_order}
use Rattle.ob_io.proofs.Shown.{exact_links, links_total}
use Rattle.ob_io.proofs.SortedEntries.{is_sorted-from_keys, keys-from_is_sorted}

alike : (a b : Link) → Decides (eq_by_cmp link_cmp a b) (a ≡ b)
alike a b = (λ t. exact_links a b ((Equal-is (link_cmp a b)).0 t), λ e. subst (λ x. eq_by_cmp link_cmp a x ≡ true) e (ap is_eq (tied_itself links_total a)))

neither : (r s : Ordering) → s ≡ ordering_reverse r → is_lt r ≡ false → is_eq s ≡ false → s ≡ Less
neither Less s e lt eq = cc
neither Equal s e lt eq = cc
neither Greater s e lt eq = e

abbrev marked : Bool → Option (Unit {0})
marked b = cond b (Some tt) None

either : (a b : Bool) → cond a (Some tt) (marked b) ≡ marked (a || b)
either true b = refl
either false b = refl

abbrev some_link : Link
some_link = record { field = record { 0 = 0 }; target = record { 0 = 0 } }

-- links that are distinct and don't fall rise
strictly : (ys : List Link) → IsDistinct (eq_by_cmp link_cmp) ys → IsSorted link_cmp ys → IsStrictlySortedBy link_cmp ys
strictly ys distinct sorted = sorted_from_all_adjacent links_total ys some_link (λ k h.
    neither _ _ (links_total.antisymm (get_or ys k some_link) (get_or ys (k + 1) some_link)) (sorted k some_link (omega arith) h) (apart_from_distinct (eq_by_cmp link_cmp) ys k (k + 1) some_link distinct (omega arith) h))

abbrev units : List Link → List (Link × Unit {0})
units links = map (λ link. (link, tt)) links

keys_of-units : (links : List Link) → keys_of (units links) ≡ links
keys_of-units [] = refl
keys_of-units (link ∷ links) = ap (λ rest. link ∷ rest) (keys_of-units links)

find-units : (links : List Link) (q : Link) → finite.find link_cmp q (units links) ≡ marked (list_any (eq_by_cmp link_cmp q) links)
find-units [] q = refl
find-units (link ∷ links) q = ap (cond (eq_by_cmp link_cmp q link) (Some tt)) (find-units links q) ∙ either (eq_by_cmp link_cmp q link) (list_any (eq_by_cmp link_cmp q) links)

-- distinct links, put in order, are those of their set
sorted-keys : (xs ys : List Link) → IsPermutation xs ys → IsSorted link_cmp ys → AllPairs (λ a b. a ≢ b) xs → finite.keys (finite.from_entries {R = link_cmp} (units xs)) ≡ ys
sorted-keys xs ys perm sorted apart =
    let distinct = IsDistinct-IsPermutation (eq_by_cmp link_cmp) (eq_by_cmp_equiv links_total).symm xs ys perm (IsDistinct-from_AllPairs alike xs apart) in
    let rises : T (finite.is_sorted link_cmp (units ys)) = is_sorted-from_keys link_cmp (units ys) (subst (IsStrictlySortedBy link_cmp) (sym (keys_of-units ys)) (strictly ys distinct sorted)) in
    let same : finite.from_entries {R = link_cmp} (units xs) ≡ finite.from_sorted (units ys) = finite.same_map links_total exact_links _ _ (λ q.
    finite.get-from_entries links_total (units xs) q ∙ find-units xs q
    ∙ ap marked (list_any-IsPermutation (eq_by_cmp link_cmp q) xs ys perm)
    ∙ sym (finite.get-from_sorted link_cmp (units ys) q rises ∙ find-units ys q)) in
    ap finite.keys same ∙ ap keys_of (finite.entries-from_sorted link_cmp (units ys) rises) ∙ keys_of-units ys

pub sorted-links : (xs ys : List Link) → IsPermutation xs ys → IsSorted link_cmp ys → AllPairs (λ a b. a ≢ b) xs → ys ≡ finite.keys (finite.from_entries {R = link_cmp} (units xs))
sorted-links xs ys perm sorted apart = sym (sorted-keys xs ys perm sorted apart)

is_some-marked : (b : Bool) → is_some (marked b) ≡ b
is_some-marked true = refl
is_some-marked false = refl

-- the same links stand among the keys
any-items : (links : List Link) (q : Link) → list_any (eq_by_cmp link_cmp q) (finite.keys (finite.from_entries {R = link_cmp} (units links))) ≡ list_any (eq_by_cmp link_cmp q) links
any-items links q =
    sym (finite.contains_key-keys (finite.from_entries {R = link_cmp} (units links)) q)
    ∙ ap is_some (finite.get-from_entries links_total (units links) q ∙ find-units links q) ∙ is_some-marked (list_any (eq_by_cmp link_cmp q) links)

-- what holds of each link holds of each that is put in order
pub All-items : (P : Link → Type 0) (links : List Link) → All P links → All P (finite.keys (finite.from_entries {R = link_cmp} (units links)))
All-items P links all = All-from_any (eq_by_cmp_equiv links_total) P _ (λ q h.
    All-contains P links q all (Contains-from_any (tells_apart exact_links) q links (sym (any-items links q) ∙ h)))

-- and they rise
pub in_order-rising : (row : KeptRow) → IsStrictlySortedBy link_cmp (in_order row).links
in_order-rising row =
    let links : finite.FinMap link_cmp (Unit {0}) = finite.from_entries {R = link_cmp} (units row.links) in
    keys-from_is_sorted link_cmp (finite.entries links) (finite.entries_sorted links)
