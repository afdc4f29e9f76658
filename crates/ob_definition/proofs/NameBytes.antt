-- The bytes of names, by the tests of their definition.
use Rattle.std.proofs.Common.{◌≡◌, ℕ, ◌||◌, ◌&&◌, ◌==◌, nat_le, refl}
use Rattle.ob_base.specs.NameBytes.{is_letter, is_name_byte}

-- a letter, a digit or an underscore
pub name_byte_tests : (b : ℕ) → is_name_byte b ≡ is_letter b || (nat_le 48 b && nat_le b 57) || (b == 95)
unfolding is_name_byte
name_byte_tests b = refl
