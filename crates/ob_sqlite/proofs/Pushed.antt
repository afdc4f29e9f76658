-- Links that rise, with one more at the end.
use Rattle.std.proofs.Common.{◌≡◌, ℕ, ◌+◌, ◌-◌, List, [], ◌∷◌, ◌++◌, length, get_or, Option, Some, slice_get, IfSome, false, arith, length-append, subst, refl, ◌∙◌}
use Rattle.std.proofs.lemmas.List.{get_or_append_left}
use Rattle.std.proofs.lemmas.List.Elements.{All-nil, All-cons, All-append}
use Rattle.std.proofs.lemmas.Option.{slice_get-get_or}
use Rattle.std.proofs.lemmas.Cmp.{on_total, then_total}
use Rattle.std.proofs.Math.Seq.{get_or-append_seam}
use Rattle.std.proofs.lemmas.Map.Keys.{Less-from_sorted, sorted_from_all_adjacent}
use Rattle.std.specs.List.Sorted.{IsStrictlySortedBy}
use Rattle.std.specs.Cmp.{IsTotalOrder, nat_cmp_total}
use Rattle.std.specs.declared.cmp.Ordering.{Ordering}
use Rattle.std.specs.declared.cmp.Ordering.TheVariants.{Less, Equal, Greater}
use Rattle.std.specs.Ordering.{is_ge, is_some_and, partial_ordering_then, ordering_then, nat_cmp}
use Rattle.ob_io.specs.declared.store.Link.{Link}
use Rattle.ob_io.specs.Store.{link_cmp, Fits63}
use Rattle.ob_sqlite.specs.Links.{AreLinks}

-- the element at the end
at_seam : {X : Type 0} (xs : List X) (x d : X) (i : ℕ) → i ≡ length xs → get_or (xs ++ x ∷ []) i d ≡ x
at_seam xs x d i e = rw e (get_or-append_seam xs x [] d)

module _ {K : Type 0} {R : K → K → Ordering} (o : IsTotalOrder R) where
  -- keys that rise still rise with one above the last of them at the end
  pub sorted-push : (ks : List K) (k : K) → IsStrictlySortedBy R ks → ((i : ℕ) → i + 1 ≡ length ks → R (get_or ks i k) k ≡ Less) → IsStrictlySortedBy R (ks ++ k ∷ [])
  sorted-push ks k rising above = sorted_from_all_adjacent o (ks ++ k ∷ []) k (λ i h.
      grind (arith, Less-from_sorted R ks i (i + 1) k rising, above i, length-append ks (k ∷ []), get_or_append_left ks (k ∷ []) k i, get_or_append_left ks (k ∷ []) k (i + 1), at_seam ks k k (i + 1)))

links_total : IsTotalOrder link_cmp
links_total = then_total (on_total (λ l. l.field.0) nat_cmp_total) (on_total (λ l. l.target.0) nat_cmp_total)

pub no_links : AreLinks []
unfolding IsStrictlySortedBy
no_links = record { rising = tt; targets = All-nil (λ (l : Link). Fits63 l.target.0) }

-- a link above the last of them
pub one_more_link : (links : List Link) (link : Link) (last : Option Link) → last ≡ slice_get links (length links - 1) → IfSome last (λ before. link_cmp before link ≡ Less)
    → AreLinks links → Fits63 link.target.0 → AreLinks (links ++ link ∷ [])
one_more_link links link last is above are fits = record {
  rising = sorted-push links_total links link are.rising (λ i end.
      let at : i ≡ length links - 1 = omega arith in
      let has : last ≡ Some (get_or links i link) = is ∙ rw at (slice_get-get_or links (length links - 1) link (omega arith)) in
      subst (λ o. IfSome o (λ before. link_cmp before link ≡ Less)) has above);
  targets = All-append (λ (l : Link). Fits63 l.target.0) links (link ∷ []) are.targets (All-cons (λ (l : Link). Fits63 l.target.0) link [] fits (All-nil (λ (l : Link). Fits63 l.target.0)));
}

last_below : (s : Ordering) → is_ge s ≡ false → s ≡ Less
last_below Less e = refl
last_below Equal e = absurd cc
last_below Greater e = absurd cc

below : (r s : Ordering) → is_some_and is_ge (partial_ordering_then (Some r) (Some s)) ≡ false → ordering_then r s ≡ Less
below Less s e = refl
below Equal s e = last_below s e
below Greater s e = absurd cc

-- a link that isn't at or above another is below it
pub link_below : (a b : Link) → is_some_and is_ge (partial_ordering_then (Some (nat_cmp a.field.0 b.field.0)) (Some (nat_cmp a.target.0 b.target.0))) ≡ false → link_cmp a b ≡ Less
link_below a b e = below (nat_cmp a.field.0 b.field.0) (nat_cmp a.target.0 b.target.0) e
