-- Objects and lists without floats.
use Rattle.std.proofs.Common.{◌≡◌, ℕ, ◌||◌, Bool, true, false, List, Ordering, Less, Equal, Greater, refl}
use Rattle.std.specs.Cmp.Lexicographic.{slice_cmp}
use Rattle.std.specs.Ordering.{nat_cmp, match_ordering}
use Rattle.serde_json.specs.Data.{Data, Members, no_members, member, put}
use Rattle.serde_json.specs.Written.{has_float, members_have_float}

-- no float, whichever way names compare
put_at : (o : Ordering) (a b c : Members) → members_have_float a ≡ false → members_have_float b ≡ false → members_have_float c ≡ false → members_have_float (match_ordering o a b c) ≡ false
put_at Less a b c p q r = p
put_at Equal a b c p q r = q
put_at Greater a b c p q r = r

-- neither of two has a float
pub both_plain : (b c : Bool) → b ≡ false → c ≡ false → (b || c) ≡ false
both_plain b c p q = rw p q

-- the first of two has no float
pub left_plain : (b c : Bool) → (b || c) ≡ false → b ≡ false
left_plain true c p = p
left_plain false c p = refl

-- nor has the second
pub right_plain : (b c : Bool) → (b || c) ≡ false → c ≡ false
right_plain true c p = absurd cc
right_plain false c p = p

-- a member without a float, put among others without
pub put_plain : (k : List ℕ) (d : Data) (ms : Members) → has_float d ≡ false → members_have_float ms ≡ false → members_have_float (put k d ms) ≡ false
put_plain k d no_members p q = both_plain (has_float d) false p refl
put_plain k d (member l e ms) p q =
    put_at (slice_cmp nat_cmp k l) (member k d (member l e ms)) (member l d ms) (member l e (put k d ms))
    (both_plain (has_float d) (members_have_float (member l e ms)) p q)
    (both_plain (has_float d) (members_have_float ms) p (right_plain (has_float e) (members_have_float ms) q))
    (both_plain (has_float e) (members_have_float (put k d ms)) (left_plain (has_float e) (members_have_float ms) q) (put_plain k d ms p (right_plain (has_float e) (members_have_float ms) q)))
