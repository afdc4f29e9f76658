-- What an order says of a key beside two others, of which the first is below the second.
use Rattle.std.proofs.Common.{◌≡◌, false, refl, ap, ◌∙◌}
use Rattle.std.proofs.lemmas.Bool.{true≢false}
use Rattle.std.specs.Cmp.{IsTotalOrder}
use Rattle.std.specs.Ordering.{is_lt, ordering_reverse}
use Rattle.std.specs.declared.cmp.Ordering.{Ordering}
use Rattle.std.specs.declared.cmp.Ordering.TheVariants.{Less, Equal, Greater}

-- a key that isn't below the second is above the first
pub above_first : {K : Type 0} {R : K → K → Ordering} → IsTotalOrder R → (k x y : K) → R x y ≡ Less → is_lt (R k y) ≡ false → R k x ≡ Greater
above_first {R = R} total k x y below other = by (R k y) refl other
  where
    by : (o : Ordering) → R k y ≡ o → is_lt o ≡ false → R k x ≡ Greater
    by Less e h = absurd (true≢false h)
    by Equal e h = total.congr k y x e ∙ total.antisymm y x ∙ ap ordering_reverse below
    by Greater e h = total.antisymm k x ∙ ap ordering_reverse (total.trans x y k below (total.antisymm y k ∙ ap ordering_reverse e))
