-- What is told where one thing at most is wrong, and what is known of an option's value.
use Rattle.std.proofs.Common.{◌≡◌, Option, Some, None, refl, sym, ap, subst, ◌∙◌}
use Rattle.std.specs.Prelude.{IsSomeAnd}
use Rattle.ob_definition.specs.declared.wrong.Wrong.{Wrong}
use Rattle.ob_definition.specs.Findings.{Tells}

pub some_same : {X : Type 0} (a b : X) → ◌≡◌ {A = Option X} (Some a) (Some b) → a ≡ b
some_same a b e = cc

pub some_none : {X : Type 0} (a : X) (o : Option X) → o ≡ Some a → o ≡ None → ⊥
some_none {X} a o some none = let both : ◌≡◌ {A = Option X} None (Some a) = sym none ∙ some in cc

-- the one thing, or nothing
pub Tells-one : (IsWrong : Wrong → Type 0) (v : Wrong) → IsWrong v → ((w : Wrong) → IsWrong w → w ≡ v) → Tells IsWrong (Some v)
Tells-one IsWrong v is only w = (λ e. subst IsWrong (some_same v w e) is, λ other. ap (λ (u : Wrong). Some u) (sym (only w other)))

pub Tells-none : (IsWrong : Wrong → Type 0) → ((w : Wrong) → IsWrong w → ⊥) → Tells IsWrong None
Tells-none IsWrong none w = (λ e. absurd (some_none w None e refl), λ is. absurd (none w is))

-- what is wrong in the same ways
pub Tells-same : (P Q : Wrong → Type 0) (told : Option Wrong) → ((w : Wrong) → P w → Q w) → ((w : Wrong) → Q w → P w) → Tells P told → Tells Q told
Tells-same P Q told to from tells w = (λ e. to w ((tells w).0 e), λ is. (tells w).1 (from w is))

-- the value of which something is known
pub value_of : {X : Type 0} (o : Option X) (P : X → Type 0) → IsSomeAnd o P → (x : X) × (o ≡ Some x) × P x
value_of None P is = absurd is
value_of (Some x) P is = (x, refl, is)

pub known_at : {X : Type 0} (o : Option X) (P : X → Type 0) (x : X) → o ≡ Some x → IsSomeAnd o P → P x
known_at o P x e is = subst (λ o. IsSomeAnd o P) e is

pub known_by : {X : Type 0} (o : Option X) (P : X → Type 0) (x : X) → o ≡ Some x → P x → IsSomeAnd o P
known_by o P x e is = subst (λ o. IsSomeAnd o P) (sym e) is

-- what follows for it
pub known_on : {X : Type 0} (o : Option X) (P Q : X → Type 0) → ((x : X) → o ≡ Some x → P x → Q x) → IsSomeAnd o P → IsSomeAnd o Q
known_on None P Q on is = is
known_on (Some x) P Q on is = on x refl is

pub known_both : {X : Type 0} (o : Option X) (P Q R : X → Type 0) → ((x : X) → P x → Q x → R x) → IsSomeAnd o P → IsSomeAnd o Q → IsSomeAnd o R
known_both None P Q R on p q = p
known_both (Some x) P Q R on p q = on x p q
