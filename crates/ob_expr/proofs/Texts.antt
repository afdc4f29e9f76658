-- Texts one behind another.
use Rattle.std.proofs.Common.{◌≡◌, ℕ, ◌-◌, ◌<◌, ◌≤◌, length, take, get_or, List, Err, ap, sym, ◌∙◌, arith}
use Rattle.std.specs.List.{flat_map}
use Rattle.std.proofs.lemmas.List.Folds.{length-flat_map-take}
use Rattle.std.proofs.lemmas.Bool.Decides.{nat_tests}
use Rattle.ob_base.specs.declared.value.Value.{Value}
use Rattle.ob_base.specs.declared.value.Value.TheVariants.{Word}
use Rattle.ob_expr.specs.Computing.{too_long, bytes_of, short_enough, joined_value}

too_long_where : (bytes : List ℕ) → 65536 < length bytes → short_enough bytes ≡ Err too_long
too_long_where bytes long = grind (arith, nat_tests)

-- the text that comes next makes it too long
pub joined_too_long : (values : List Value) (i : ℕ) (value : Value) (word text : List ℕ) → i < length values → value ≡ get_or values i value → value ≡ Word word
    → text ≡ flat_map bytes_of (take i values) → 65536 - length text < length word → length text ≤ 65536 → joined_value values ≡ Err too_long
joined_too_long values i value word text within at is before more less =
    let next : bytes_of (get_or values i value) ≡ word = ap bytes_of (sym at ∙ is) in
    let most = length-flat_map-take bytes_of values i value within in
    let long : 65536 < length (flat_map bytes_of values) = omega (arith, most, ap length next, ap length before) in
    too_long_where (flat_map bytes_of values) long
