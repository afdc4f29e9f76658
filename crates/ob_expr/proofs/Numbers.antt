-- Numbers of 64 bits in 128.
use Rattle.std.proofs.Common.{◌≡◌, ℕ, suc, ℤ, pos, negsuc, neg_ℤ, ◌^◌, ◌<◌, ◌≤◌, ◌<ℤ◌, ◌-ℤ◌, ◌*ℤ◌, FitsSigned, to_z, of_z, to_z-of_z, w64, unsigned_abs, ap, subst, ◌∙◌, lit<, arith}
use Rattle.std.specs.Int.{int_rem_euclid}
use Rattle.ob_expr.specs.Computing.{rest_of}
use mir.Syntax.{w128}
use Rattle.std.proofs.lemmas.Int.{ints, fits_signed_mul}

abs_small : (a : ℤ) → FitsSigned w64 a → unsigned_abs a ≤ 2 ^ 63
abs_small (pos n) fits = let small = fits.sfits in omega arith
abs_small (negsuc n) fits = let small = fits.sfits in omega arith

-- a product as the code computes it
pub product_is : (a b : ℤ) → FitsSigned w64 a → FitsSigned w64 b
    → to_z w128 (of_z w128 (to_z w128 (of_z w128 (to_z w64 (of_z w64 a))) *ℤ to_z w128 (of_z w128 (to_z w64 (of_z w64 b))))) ≡ a *ℤ b
product_is a b left right =
    let wide : FitsSigned w128 a = omega (arith, ints) in
    let wider : FitsSigned w128 b = omega (arith, ints) in
    let product : FitsSigned w128 (a *ℤ b) = fits_signed_mul w128 a b (2 ^ 63) (2 ^ 63) (abs_small a left) (abs_small b right) (lit< tt) in
    rw (to_z-of_z left, to_z-of_z right, to_z-of_z wide, to_z-of_z wider) (to_z-of_z product)

turned : (a : ℤ) → FitsSigned w64 a → to_z w128 (of_z w128 (pos 0 -ℤ to_z w128 (of_z w128 (to_z w64 (of_z w64 a))))) ≡ neg_ℤ a
turned a fits = omega (arith, ints)

no_rest_below : (x : ℤ) (d n : ℕ) → negsuc n ≡ int_rem_euclid x (pos (suc d)) → ⊥
no_rest_below (pos x) d n is = cc
no_rest_below (negsuc x) d n is = cc

-- a rest as the code computes it under a divisor below 0
turned_rest : (a d r : ℤ) → FitsSigned w64 d → d <ℤ pos 0 → r ≡ int_rem_euclid (neg_ℤ a) (neg_ℤ d) → unsigned_abs r < unsigned_abs (neg_ℤ d)
    → to_z w64 (of_z w64 (to_z w128 (of_z w128 (pos 0 -ℤ to_z w128 (of_z w128 r))))) ≡ rest_of a d
turned_rest a (pos d) r fits below is less = absurd (omega (arith, ints))
turned_rest a (negsuc d) (negsuc n) fits below is less = absurd (no_rest_below (neg_ℤ a) d n is)
turned_rest a (negsuc d) (pos n) fits below is less =
    let small = fits.sfits in
    let same : to_z w64 (of_z w64 (to_z w128 (of_z w128 (pos 0 -ℤ to_z w128 (of_z w128 (pos n)))))) ≡ neg_ℤ (pos n) = omega (arith, ints) in
    same ∙ ap neg_ℤ is

pub rest_is : (a d r : ℤ) → FitsSigned w64 a → FitsSigned w64 d → d <ℤ pos 0
    → r ≡ int_rem_euclid (to_z w128 (of_z w128 (pos 0 -ℤ to_z w128 (of_z w128 (to_z w64 (of_z w64 a))))))
    (to_z w128 (of_z w128 (pos 0 -ℤ to_z w128 (of_z w128 (to_z w64 (of_z w64 d))))))
    → unsigned_abs r < unsigned_abs (to_z w128 (of_z w128 (pos 0 -ℤ to_z w128 (of_z w128 (to_z w64 (of_z w64 d))))))
    → to_z w64 (of_z w64 (to_z w128 (of_z w128 (pos 0 -ℤ to_z w128 (of_z w128 r))))) ≡ rest_of a d
rest_is a d r left right below is less =
    let a_is = turned a left in
    let d_is = turned d right in
    turned_rest a d r right below (is ∙ ap (λ (x : ℤ). int_rem_euclid x (to_z w128 (of_z w128 (pos 0 -ℤ to_z w128 (of_z w128 (to_z w64 (of_z w64 d))))))) a_is ∙ ap (int_rem_euclid (neg_ℤ a)) d_is)
    (let P : ℤ → Type 0 = λ z. unsigned_abs r < unsigned_abs z in subst P d_is less)
