-- Being one of a list of groups.
use mathlib.Core.Path.{fun_ext}
use Rattle.std.proofs.Common.{◌≡◌, ◌<◌, ◌||◌, ◌==◌, ◌↔◌, ℕ, zero, suc, Bool, true, false, List, [], ◌∷◌, refl, ap, sym, subst, arith, eq-eqb}
use Rattle.std.proofs.lemmas.Bool.{eqb-true}
use Rattle.std.proofs.lemmas.Map.Views.{Contains-from_any}
use Rattle.std.specs.Prelude.{Contains, length, slice_index_or}
use Rattle.ob_base.specs.declared.id.RecId.{RecId}
use Rattle.ob_access.specs.Groups.{has_group}

-- ids of one number are the same
pub same_id : (a b : RecId) → (a.0 == b.0) ≡ true → a ≡ b
same_id a b e = ap (λ (n : ℕ). let id : RecId = record { 0 = n } in id) (eqb-true a.0 b.0 e)

is_same : (n : ℕ) → (n == n) ≡ true
is_same n = eq-eqb n n refl

either_left : (a b : Bool) → a ≡ true → (a || b) ≡ true
either_left a b e = subst (λ (v : Bool). (v || b) ≡ true) (sym e) refl

either_right : (a b : Bool) → b ≡ true → (a || b) ≡ true
either_right true b e = refl
either_right false b e = e

pub Contains-from_has : (ids : List RecId) (id : RecId) → has_group ids id ≡ true → Contains ids id
Contains-from_has ids id has = Contains-from_any same_id id ids has

has_at : (ids : List RecId) (id : RecId) (k : ℕ) → k < length ids → slice_index_or ids k id ≡ id → has_group ids id ≡ true
has_at [] id k below is = absurd (omega arith)
has_at (x ∷ ids) id zero below is = either_left (id.0 == x.0) (has_group ids id) (subst (λ (y : RecId). (id.0 == y.0) ≡ true) (sym is) (is_same id.0))
has_at (x ∷ ids) id (suc k) below is = either_right (id.0 == x.0) (has_group ids id) (has_at ids id k (omega arith) is)

pub has-from_Contains : (ids : List RecId) (id : RecId) → Contains ids id → has_group ids id ≡ true
has-from_Contains ids id (k, below, is) = has_at ids id k below is

-- two tests of which each passes where the other does are one
same_test : (a b : Bool) → (a ≡ true → b ≡ true) → (b ≡ true → a ≡ true) → a ≡ b
same_test true true f g = refl
same_test false false f g = refl
same_test true false f g = sym (f refl)
same_test false true f g = g refl

-- lists of the same groups have the same
pub has-same : (a b : List RecId) → ((id : RecId) → Contains a id ↔ Contains b id) → has_group a ≡ has_group b
has-same a b same = fun_ext (λ (id : RecId). same_test (has_group a id) (has_group b id)
    (λ has. has-from_Contains b id ((same id).0 (Contains-from_has a id has)))
    (λ has. has-from_Contains a id ((same id).1 (Contains-from_has b id has))))
