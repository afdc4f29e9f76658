-- The order of faults: one that is first, and what follows where others stand between.
use Rattle.std.proofs.Common.{◌≡◌, Option, Some, true, false, refl, sym, ap, ◌∙◌, Ordering}
use Rattle.std.specs.Cmp.{IsTotalOrder}
use Rattle.std.specs.Ordering.{is_gt, is_lt, ordering_reverse}
use Rattle.std.specs.declared.cmp.Ordering.TheVariants.{Less, Equal, Greater}
use Rattle.std.proofs.lemmas.Bool.{false≢true}
use Rattle.std.proofs.lemmas.Cmp.{nat_cmp_total, nat_list_cmp_total, on_total, then_total, upto}
use Rattle.ob_definition.specs.declared.fault.SchemaFault.{SchemaFault}
use Rattle.ob_definition.specs.declared.fault.Spot.{Spot}
use Rattle.ob_definition.specs.declared.wrong.Wrong.{Wrong}
use Rattle.ob_definition.specs.declared.wrong.Wrong.TheVariants as wrong
use Rattle.ob_definition.specs.Ranking.{Rank, rank, rank_at, rank_order}
use Rattle.ob_definition.specs.Findings.{fault_at, fault_variant, is_lesser}

pub rank_total : IsTotalOrder rank_order
rank_total = then_total (on_total (λ (r : Rank). r.entry) nat_cmp_total) (then_total (on_total (λ (r : Rank). r.field) nat_list_cmp_total) (on_total (λ (r : Rank). r.variant) nat_cmp_total))

not_greater : (o : Ordering) → (o ≡ Less → ⊥) → is_gt (ordering_reverse o) ≡ false
not_greater Less h = absurd (h refl)
not_greater Equal h = refl
not_greater Greater h = refl

-- b isn't before a, in the two ways of saying so
not_after : (a b : Rank) → (rank_order b a ≡ Less → ⊥) → is_gt (rank_order a b) ≡ false
not_after a b h = ap is_gt (rank_total.antisymm a b) ∙ not_greater (rank_order b a) h

not_before : (a b : Rank) → is_gt (rank_order a b) ≡ false → rank_order b a ≡ Less → ⊥
not_before a b h less = absurd (false≢true (sym h ∙ ap is_gt (rank_total.antisymm a b) ∙ ap (λ (o : Ordering). is_gt (ordering_reverse o)) less))

-- c isn't before b, nor b before a: so c isn't before a
pub none_between : (a b c : Rank) → (rank_order b a ≡ Less → ⊥) → (rank_order c b ≡ Less → ⊥) → rank_order c a ≡ Less → ⊥
none_between a b c ba cb = not_before a c (upto rank_total a b c (not_after a b ba) (not_after b c cb))

-- what is before a isn't after it
pub one_way : (a b : Rank) → rank_order a b ≡ Less → rank_order b a ≡ Less → ⊥
one_way a b ab ba = absurd (let e : ◌≡◌ {A = Ordering} Less Greater = sym ba ∙ rank_total.antisymm b a ∙ ap ordering_reverse ab in cc)

pub is_less : (o : Ordering) → is_lt o ≡ true → o ≡ Less
is_less Less h = refl
is_less Equal h = absurd (false≢true h)
is_less Greater h = absurd (false≢true h)

pub is_not_less : (o : Ordering) → is_lt o ≡ false → o ≡ Less → ⊥
is_not_less o h less = absurd (false≢true (sym h ∙ ap is_lt less))

-- nothing is before itself
pub irreflexive : (a : Rank) → rank_order a a ≡ Less → ⊥
irreflexive a less = one_way a a less less

-- the rank of a fault is that of its spot and its variant
rank-fault_at : (w : Wrong) (spot : Spot) → rank (fault_at w spot) ≡ rank_at spot (fault_variant w)
rank-fault_at wrong.Model spot = refl
rank-fault_at wrong.Field spot = refl
rank-fault_at wrong.Kind spot = refl
rank-fault_at wrong.Twice spot = refl
rank-fault_at wrong.Cycle spot = refl
rank-fault_at wrong.Recursion spot = refl
rank-fault_at wrong.Path spot = refl
rank-fault_at wrong.Inverse spot = refl
rank-fault_at wrong.Inherits spot = refl
rank-fault_at wrong.Limit spot = refl
rank-fault_at (wrong.Text why) spot = refl

pub is_lesser-by : (w : Wrong) (spot : Spot) (found : Option SchemaFault) (first : SchemaFault) (own : Rank) → found ≡ Some first → rank first ≡ own
    → is_lesser (fault_at w spot) found ≡ is_lt (rank_order (rank_at spot (fault_variant w)) own)
is_lesser-by w spot found first own is ranked =
    ap (is_lesser (fault_at w spot)) is ∙ ap (λ (r : Rank). is_lt (rank_order r (rank first))) (rank-fault_at w spot) ∙ ap (λ (r : Rank). is_lt (rank_order (rank_at spot (fault_variant w)) r)) ranked
