-- How many trees items spell.
use Rattle.std.proofs.Common.{◌≡◌, ℕ, zero, suc, eqb, ◌+◌, ◌-◌, ◌≤◌, ◌<◌, nat_le, inl, inr, Bool, true, false, if◌then◌else◌}
use Rattle.std.proofs.Common.{List, [], ◌∷◌, length, Option, Some, None, option_map, option_and_then, is_some, refl, sym, ap, ◌∙◌, arith, length-drop}
use Rattle.std.proofs.lemmas.Bool.{le-leb, leb-true, ne_eqb}
use Rattle.std.proofs.lemmas.Bool.Decides.{leb_tells}
use Rattle.std.specs.Option.{option_map_or}
use Rattle.ob_domain.specs.Reading.{are_whole, count_of, taken_by, taken_in}
use Rattle.ob_domain.specs.Trees.{Item, Tree, leaf, operator, joined, spelled}
use Rattle.ob_domain.specs.declared.operator.Logical.{Logical}
use Rattle.ob_domain.specs.declared.operator.Logical.TheVariants as logical

-- the trees of an item before others
abbrev pub spelled_before : Item → List Tree → List Tree
spelled_before (operator op) trees = joined op trees
spelled_before (leaf tree) trees = tree ∷ trees

pub spelled-item : (first : Item) (items : List Item) → spelled (first ∷ items) ≡ spelled_before first (spelled items)
spelled-item (operator op) items = refl
spelled-item (leaf tree) items = refl

when_some : (b : Bool) (x y : ℕ) → (if b then Some x else None) ≡ Some y → (b ≡ true) × (x ≡ y)
when_some true x y is = let same : Some x ≡ Some y = is in (refl, cc)
when_some false x y is = let none : None ≡ Some y = is in absurd (cc)

-- how many there are behind an operator, by those behind it
abbrev pub count_before : Logical → Option ℕ → Option ℕ
count_before op count = option_and_then (λ n. if nat_le (taken_by op) n then Some (suc n - taken_by op) else None) count

pub count-operator : (op : Logical) (count : Option ℕ) (k : ℕ) → count_before op count ≡ Some k → (m : ℕ) × (count ≡ Some m) × (taken_by op ≤ m) × (k + taken_by op ≡ suc m)
count-operator op None k is = let none : None ≡ Some k = is in absurd (cc)
count-operator op (Some m) k is =
    let t = when_some (nat_le (taken_by op) m) (suc m - taken_by op) k is in
    let le = leb-true (taken_by op) m t.0 in
    (m, refl, le, omega (arith, t.1))

pub count-leaf : (count : Option ℕ) (k : ℕ) → option_map suc count ≡ Some k → (m : ℕ) × (count ≡ Some m) × (k ≡ suc m)
count-leaf None k is = let none : None ≡ Some k = is in absurd (cc)
count-leaf (Some m) k is = let same : Some (suc m) ≡ Some k = is in let e : suc m ≡ k = cc in (m, refl, omega arith)

-- behind an item there are as many as it takes
pub count-item : (first : Item) (items : List Item) (k : ℕ) → count_of (first ∷ items) ≡ Some k → (m : ℕ) × (count_of items ≡ Some m) × (taken_in first ≤ m)
count-item (operator op) items k is = let t = count-operator op (count_of items) k is in (t.0, t.1, t.2)
count-item (leaf tree) items k is = let t = count-leaf (count_of items) k is in (t.0, t.1, omega arith)

length-joined : (op : Logical) (trees : List Tree) → length (joined op trees) ≡ suc (length trees - taken_by op)
length-joined logical.And trees = ap suc (length-drop 2 trees)
length-joined logical.Or trees = ap suc (length-drop 2 trees)
length-joined logical.Not trees = ap suc (length-drop 1 trees)

pub count-length : (items : List Item) (k : ℕ) → count_of items ≡ Some k → length (spelled items) ≡ k
count-length [] k is = let same : Some 0 ≡ Some k = is in let e : 0 ≡ k = cc in e
count-length (operator op ∷ items) k is =
    let t = count-operator op (count_of items) k is in
    let more = count-length items t.0 t.1 in
    omega (arith, length-joined op (spelled items), t.2, t.3)
count-length (leaf tree ∷ items) k is =
    let t = count-leaf (count_of items) k is in
    omega (arith, count-length items t.0 t.1, t.2)

-- what is whole has a count
pub is_some-some : (count : Option ℕ) → is_some count ≡ true → (k : ℕ) × (count ≡ Some k)
is_some-some (Some k) is = (k, refl)
is_some-some None is = absurd (cc)

-- ---- how many are wanted

-- items spell at least so many trees, where they are whole
abbrev pub are_enough : ℕ → List Item → Bool
are_enough wanted items = option_map_or (nat_le wanted) (count_of items) false

-- two tests agree where the facts do
agree : (a b c d : ℕ) → (a ≤ b → c ≤ d) → (c ≤ d → a ≤ b) → nat_le a b ≡ nat_le c d
agree a b c d to from =
    elim (leb_tells a b) [
      | inl p ↦ p.0 ∙ sym (le-leb c d (to p.1))
      | inr p ↦ elim (leb_tells c d) [
        | inl q ↦ (let le = from q.1 in absurd (omega (arith, p.1, le)))
        | inr q ↦ p.0 ∙ sym q.0
      ]
    ]

pub not_enough : (a b : ℕ) → b < a → nat_le a b ≡ false
not_enough a b lt = elim (leb_tells a b) [ inl p ↦ absurd (omega (arith, p.1, lt)) | inr p ↦ p.0 ]

enough-some : (wanted taken m : ℕ) → 1 ≤ taken → option_map_or (nat_le wanted) (if nat_le taken m then Some (suc m - taken) else None) false ≡ nat_le ((wanted - 1) + taken) m
enough-some wanted taken m one =
    elim (leb_tells taken m) [
      | inl p ↦ (let le = p.1 in rw p.0 (agree wanted (suc m - taken) ((wanted - 1) + taken) m (λ h. omega arith) (λ h. omega arith)))
      | inr p ↦ (let lt = p.1 in rw p.0 (sym (not_enough ((wanted - 1) + taken) m (omega arith))))
    ]

enough-operator : (wanted : ℕ) (op : Logical) (count : Option ℕ) → option_map_or (nat_le wanted) (count_before op count) false ≡ option_map_or (nat_le ((wanted - 1) + taken_by op)) count false
enough-operator wanted op None = refl
enough-operator wanted logical.And (Some m) = enough-some wanted 2 m (omega arith)
enough-operator wanted logical.Or (Some m) = enough-some wanted 2 m (omega arith)
enough-operator wanted logical.Not (Some m) = enough-some wanted 1 m (omega arith)

enough-leaf : (wanted : ℕ) (count : Option ℕ) → option_map_or (nat_le wanted) (option_map suc count) false ≡ option_map_or (nat_le ((wanted - 1) + 0)) count false
enough-leaf wanted None = refl
enough-leaf wanted (Some m) = agree wanted (suc m) ((wanted - 1) + 0) m (λ h. omega arith) (λ h. omega arith)

-- an item is one of those that are wanted, and wants its own
pub are_enough-item : (wanted : ℕ) (first : Item) (items : List Item) → are_enough wanted (first ∷ items) ≡ are_enough ((wanted - 1) + taken_in first) items
are_enough-item wanted (operator op) items = enough-operator wanted op (count_of items)
are_enough-item wanted (leaf tree) items = enough-leaf wanted (count_of items)

enough-whole : (count : Option ℕ) → is_some count ≡ option_map_or (nat_le 0) count false
enough-whole None = refl
enough-whole (Some n) = sym (le-leb 0 n (omega arith))

pub are_enough-whole : (items : List Item) → are_whole items ≡ are_enough 0 items
are_enough-whole items = enough-whole (count_of items)

pub few_taken : (first : Item) → taken_in first ≤ 2
few_taken (operator logical.And) = omega arith
few_taken (operator logical.Or) = omega arith
few_taken (operator logical.Not) = omega arith
few_taken (leaf tree) = omega arith

pub none_wanted : (wanted : ℕ) → are_enough wanted [] ≡ eqb wanted 0
none_wanted zero = refl
none_wanted (suc wanted) = not_enough (suc wanted) 0 (omega arith) ∙ sym (ne_eqb (suc wanted) 0 (omega arith))
