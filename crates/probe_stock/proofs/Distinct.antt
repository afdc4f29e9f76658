-- Where a set of ids has as many as its list, no two of the list are the same.
use Rattle.std.proofs.Common.{◌≡◌, ℕ, List, length, nat_eq, true, sym, ◌∙◌, subst}
use Rattle.std.specs.Bool.{Decides}
use Rattle.std.specs.BTreeSet.{BTreeSet, IsFromIterResult, btree_set_len}
use Rattle.std.specs.List.{IsDistinct}
use Rattle.std.specs.Ordering.{nat_cmp, eq_by_cmp}
use Rattle.std.proofs.lemmas.Bool.Decides.{Decides-eqb}
use Rattle.std.proofs.lemmas.Cmp.{nat_cmp_total, eq_by_cmp_equiv}
use Rattle.std.proofs.lemmas.Map.Made.{IsDistinct-from_count, AllPairs-from_IsDistinct, IsDistinct-from_AllPairs}
use Rattle.std.proofs.lemmas.Map.Lookups.{exact_unsigned}
use Rattle.std.proofs.lemmas.Map.Views.{btree_set_len-from_list, tells_apart}

-- the order tells numbers apart
tells : (a b : ℕ) → Decides (eq_by_cmp nat_cmp a b) (a ≡ b)
tells a b = (tells_apart exact_unsigned a b, λ e. subst (λ y. eq_by_cmp nat_cmp a y ≡ true) e ((eq_by_cmp_equiv nat_cmp_total).refl a))

pub distinct : (ids : List ℕ) (set : BTreeSet ℕ) → IsFromIterResult nat_cmp ids set → btree_set_len set ≡ length ids → IsDistinct nat_eq ids
distinct ids set made count =
    let all = IsDistinct-from_count (eq_by_cmp_equiv nat_cmp_total) ids (sym (btree_set_len-from_list nat_cmp_total ids set made) ∙ count) in
    IsDistinct-from_AllPairs {eq = nat_eq} Decides-eqb ids (AllPairs-from_IsDistinct {eq = eq_by_cmp nat_cmp} tells ids all)
