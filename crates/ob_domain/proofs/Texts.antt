-- Which texts are which operators.
use Rattle.std.proofs.Common.{◌≡◌, ℕ, List, codes, Bool, true, false, if◌then◌else◌, ◌||◌, ◌⊎◌, inl, inr, Option, Some, None, refl, sym, ap, ◌∙◌, subst}
use Rattle.std.proofs.lemmas.Slice.Eq.{bytes_eq-Decides}
use Rattle.std.specs.Str.{bytes_eq}
use Rattle.ob_domain.specs.Operators.{logical_of, operator_of}
use Rattle.ob_domain.specs.Stands.{takes_domain}
use Rattle.ob_domain.specs.declared.operator.Logical.{Logical}
use Rattle.ob_domain.specs.declared.operator.Logical.TheVariants as logical
use Rattle.ob_domain.specs.declared.operator.Operator.{Operator}
use Rattle.ob_domain.specs.declared.operator.Operator.TheVariants as operator
use Rattle.ob_domain.specs.declared.operator.Sense.{Sense}
use Rattle.serde_json.specs.Data.{string}

pub bytes_eq-is : (a b : List ℕ) → bytes_eq a b ≡ true → a ≡ b
bytes_eq-is a b is = (bytes_eq-Decides a b).0 is

-- ---- operators before terms

-- the text of an operator before terms
abbrev pub sign_of : Logical → List ℕ
sign_of logical.And = codes "&"
sign_of logical.Or = codes "|"
sign_of logical.Not = codes "!"

-- the first of a chain of tests, or one behind it
pick : {A : Type 0} (b : Bool) (x : A) (rest : Option A) (y : A) → (if b then Some x else rest) ≡ Some y → ((b ≡ true) × (x ≡ y)) ⊎ (rest ≡ Some y)
pick true x rest y is = inl (refl, (let same : Some x ≡ Some y = is in cc))
pick false x rest y is = inr is

pub logical_of-sign : (text : List ℕ) (op : Logical) → logical_of text ≡ Some op → text ≡ sign_of op
unfolding logical_of
logical_of-sign text op is =
    let P : Logical → Type 0 = λ o. text ≡ sign_of o in
    elim (pick (bytes_eq text (codes "&")) logical.And (if bytes_eq text (codes "|") then Some logical.Or else if bytes_eq text (codes "!") then Some logical.Not else None) op is) [
      | inl p ↦ subst P p.1 (bytes_eq-is text (codes "&") p.0)
      | inr rest ↦ elim (pick (bytes_eq text (codes "|")) logical.Or (if bytes_eq text (codes "!") then Some logical.Not else None) op rest) [
        | inl p ↦ subst P p.1 (bytes_eq-is text (codes "|") p.0)
        | inr last ↦ elim (pick (bytes_eq text (codes "!")) logical.Not None op last) [
          | inl p ↦ subst P p.1 (bytes_eq-is text (codes "!") p.0)
          | inr none ↦ (let no : None ≡ Some op = none in absurd (cc))
        ]
      ]
    ]

pub logical_of-is : (op : Logical) → logical_of (sign_of op) ≡ Some op
unfolding logical_of
logical_of-is logical.And = refl
logical_of-is logical.Or = refl
logical_of-is logical.Not = refl

-- ---- operators of criteria

abbrev pub is_any : Operator → Bool
is_any operator.Any = true
is_any _ = false

abbrev asks_any : Option (Sense × Operator) → Bool
asks_any None = false
asks_any (Some known) = is_any known.1

asks_any-if : (b : Bool) (x y : Option (Sense × Operator)) → asks_any (if b then x else y) ≡ (if b then asks_any x else asks_any y)
asks_any-if true x y = refl
asks_any-if false x y = refl

either_way : (b : Bool) → (if b then false else false) ≡ false
either_way true = refl
either_way false = refl

neither : (op : List ℕ) → bytes_eq op (codes "any") ≡ false → bytes_eq op (codes "not any") ≡ false → asks_any (operator_of op) ≡ false
unfolding operator_of
neither op a b = simp (asks_any-if, a, b, either_way)

asks_any-any : asks_any (operator_of (codes "any")) ≡ true
unfolding operator_of
asks_any-any = refl

asks_any-not_any : asks_any (operator_of (codes "not any")) ≡ true
unfolding operator_of
asks_any-not_any = refl

by_tests : (op : List ℕ) (a b : Bool) → bytes_eq op (codes "any") ≡ a → bytes_eq op (codes "not any") ≡ b → (a || b) ≡ asks_any (operator_of op)
by_tests op true b is_a is_b = sym (subst (λ (o : List ℕ). asks_any (operator_of o) ≡ true) (sym (bytes_eq-is op (codes "any") is_a)) asks_any-any)
by_tests op false true is_a is_b = sym (subst (λ (o : List ℕ). asks_any (operator_of o) ≡ true) (sym (bytes_eq-is op (codes "not any") is_b)) asks_any-not_any)
by_tests op false false is_a is_b = sym (neither op is_a is_b)

takes_domain-asks : (op : List ℕ) → takes_domain (string op) ≡ asks_any (operator_of op)
takes_domain-asks op = by_tests op (bytes_eq op (codes "any")) (bytes_eq op (codes "not any")) refl refl

-- an operand is a domain where the operator is `any`
pub takes_domain-is : (op : List ℕ) (sense : Sense) (how : Operator) → operator_of op ≡ Some (sense, how) → takes_domain (string op) ≡ is_any how
takes_domain-is op sense how is = takes_domain-asks op ∙ ap asks_any is
