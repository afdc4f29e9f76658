-- What is found in turn: the first of all that was found.
use Rattle.std.proofs.Common.{◌≡◌, ◌<◌, ◌≤◌, ◌+◌, ◌⊎◌, ℕ, List, length, Option, Some, None, refl, sym, ap, subst, ◌∙◌, inl, inr, ⊎_elim, arith}
use Rattle.std.specs.Option.{IfSome, IsSomeAnd}
use Rattle.std.specs.declared.cmp.Ordering.{Ordering}
use Rattle.std.specs.declared.cmp.Ordering.TheVariants.{Less, Equal, Greater}
use Rattle.std.specs.Cmp.{IsTotalOrder, nat_cmp_total, tied_itself}
use Rattle.std.specs.Ordering.{ordering_reverse}
use Rattle.std.proofs.lemmas.Cmp.{on_total, then_total}
use Rattle.std.proofs.lemmas.Bool.{cases_lt}
use Rattle.std.proofs.lemmas.Option.{same_Some, slice_get_within}
use Rattle.std.specs.Prelude.{slice_get}
use Rattle.ob_base.specs.BrokenOrder.{broken_order, kind_place}
use Rattle.ob_base.specs.declared.refusal.Broken.{Broken}
use Rattle.ob_tables.specs.Finding.{Finds, IsUpTo}
use Rattle.ob_tables.specs.declared.findings.Findings.{Findings}

pub broken_total : IsTotalOrder broken_order
broken_total = then_total (on_total (λ b. b.cell) (then_total (on_total (λ cell. cell.model.0) nat_cmp_total) (then_total (on_total (λ cell. cell.id.0) nat_cmp_total) (on_total (λ cell. cell.field.0) nat_cmp_total))))
    (on_total (λ b. kind_place b.kind) nat_cmp_total)

module _ {K : Type 0} {R : K → K → Ordering} (o : IsTotalOrder R) where
  below_by : (a b c : K) (r : Ordering) → R b a ≡ r → (R b a ≡ Less → ⊥) → R c a ≡ Less → R c b ≡ Less
  below_by a b c Less e up less = absurd (up e)
  below_by a b c Equal e up less = o.antisymm c b ∙ ap ordering_reverse (o.congr b a c e ∙ o.antisymm a c ∙ ap ordering_reverse less)
  below_by a b c Greater e up less = o.trans c a b less (o.antisymm a b ∙ ap ordering_reverse e)

  up_over : (a b c : K) → (R b a ≡ Less → ⊥) → (R c b ≡ Less → ⊥) → R c a ≡ Less → ⊥
  up_over a b c up further less = further (below_by a b c (R b a) refl up less)

  up_self : (a : K) → R a a ≡ Less → ⊥
  up_self a less = let e : Equal ≡ Less = sym (tied_itself o a) ∙ less in cc

  up_back : (a b : K) → R a b ≡ Less → R b a ≡ Less → ⊥
  up_back a b less back = up_self a (o.trans a b a less back)

-- one stands where it does
pub up-to-self : (a : Broken) → IsUpTo a a
up-to-self a = up_self broken_total a

pub up-to-below : (a b : Broken) → broken_order a b ≡ Less → IsUpTo a b
up-to-below a b less = up_back broken_total a b less

at_some : {X : Type 0} {P : X → Type 0} (o : Option X) → IsSomeAnd o P → (x : X) × (o ≡ Some x) × P x
at_some None h = absurd h
at_some (Some x) h = (x, refl, h)

from_some : {X : Type 0} (P : X → Type 0) (o : Option X) (x : X) → o ≡ Some x → P x → IsSomeAnd o P
from_some P o x e h = subst (λ w. IsSomeAnd w P) (sym e) h

if_some : {X : Type 0} (P Q : X → Type 0) (o : Option X) → ((x : X) → o ≡ Some x → P x → Q x) → IfSome o P → IfSome o Q
if_some P Q None f h = tt
if_some P Q (Some x) f h = f x refl h

-- nothing more is found
pub finds-none : (P : Broken → Type 0) (a : Findings) → ((b : Broken) → P b → ⊥) → Finds P a a
finds-none P a none = record {
  among = either a.first;
  least = λ b h. ⊎_elim (λ e. from_some (λ first. IsUpTo first b) a.first b e (up-to-self b)) (λ p. absurd (none b p)) h;
  tied = (λ t. (t, λ b p. absurd (none b p)), λ h. h.0);
}
  where
    either : (o : Option Broken) → IfSome o (λ b. (o ≡ Some b) ⊎ P b)
    either None = tt
    either (Some b) = inl refl

module _ (P Q : Broken → Type 0) where
  -- what is found first and what is found then
  pub finds-then : (a b c : Findings) → Finds P a b → Finds Q b c → Finds (λ x. P x ⊎ Q x) a c
  finds-then a b c f g = record {
    among = if_some (λ x. (b.first ≡ Some x) ⊎ Q x) (λ x. (a.first ≡ Some x) ⊎ (P x ⊎ Q x)) c.first (λ x is h. ⊎_elim (λ e. before x e) (λ q. inr (inr q)) h) g.among;
    least = λ x h. ⊎_elim (λ e. through x (f.least x (inl e))) (λ more. ⊎_elim (λ p. through x (f.least x (inr p))) (λ q. g.least x (inr q)) more) h;
    tied = (
      λ t. let later = g.tied.0 t in let first = f.tied.0 later.0 in (first.0, λ x h. ⊎_elim (λ p. first.1 x p) (λ q. later.1 x q) h),
      λ h. g.tied.1 (f.tied.1 (h.0, λ x p. h.1 x (inl p)), λ x q. h.1 x (inr q)),
    );
  }
    where
      before : (x : Broken) → b.first ≡ Some x → (a.first ≡ Some x) ⊎ (P x ⊎ Q x)
      before x e =
          let h : (a.first ≡ Some x) ⊎ P x = subst (λ o. IfSome o (λ y. (a.first ≡ Some y) ⊎ P y)) e f.among in
          ⊎_elim (λ s. inl s) (λ p. inr (inl p)) h

      through : (x : Broken) → IsSomeAnd b.first (λ y. IsUpTo y x) → IsSomeAnd c.first (λ z. IsUpTo z x)
      through x h =
          let y = at_some b.first h in
          let z = at_some c.first (g.least y.0 (inl y.1)) in
          from_some (λ z. IsUpTo z x) c.first z.0 z.1 (up_over broken_total z.0 y.0 x z.2 y.2)

  -- the same by another word
  pub finds-as : (a b : Findings) → ((x : Broken) → P x → Q x) → ((x : Broken) → Q x → P x) → Finds P a b → Finds Q a b
  finds-as a b to back f = record {
    among = if_some (λ x. (a.first ≡ Some x) ⊎ P x) (λ x. (a.first ≡ Some x) ⊎ Q x) b.first (λ x is h. ⊎_elim (λ e. inl e) (λ p. inr (to x p)) h) f.among;
    least = λ x h. f.least x (⊎_elim (λ e. inl e) (λ q. inr (back x q)) h);
    tied = (λ t. let h = f.tied.0 t in (h.0, λ x q. h.1 x (back x q)), λ h. f.tied.1 (h.0, λ x p. h.1 x (to x p)));
  }

-- what is found at one of the first places
pub record Below (At : ℕ → Broken → Type 0) (i : ℕ) (b : Broken) : Type 0 where
  pub place : ℕ
  pub low : place < i
  pub here : At place b

module _ (At : ℕ → Broken → Type 0) where
  pub below-none : (a : Findings) → Finds (Below At 0) a a
  below-none a = finds-none (Below At 0) a (λ b h. let low = h.low in absurd (omega arith))

  pub below-more : (i : ℕ) (a b c : Findings) → Finds (Below At i) a b → Finds (At i) b c → Finds (Below At (i + 1)) a c
  below-more i a b c f g =
      finds-as (λ x. Below At i x ⊎ At i x) (Below At (i + 1)) a c (λ x h. ⊎_elim (λ old. wider i x old) (λ new. record { place = i; low = omega arith; here = new }) h) (λ x h. last i x h)
      (finds-then (Below At i) (At i) a b c f g)
    where
      wider : (i : ℕ) (x : Broken) → Below At i x → Below At (i + 1) x
      wider i x old = let low = old.low in record { place = old.place; low = omega arith; here = old.here }

      cases_lt_or : (n i : ℕ) → n < i + 1 → (n < i) ⊎ (n ≡ i)
      cases_lt_or n i low = ⊎_elim (λ less. inl less) (λ above. inr (omega arith)) (cases_lt n i)

      last_by : (i n : ℕ) (x : Broken) → n < i + 1 → At n x → (n < i) ⊎ (n ≡ i) → Below At i x ⊎ At i x
      last_by i n x low here which = ⊎_elim (λ less. inl (record { place = n; low = less; here = here })) (λ e. inr (subst (λ k. At k x) e here)) which

      last : (i : ℕ) (x : Broken) → Below At (i + 1) x → Below At i x ⊎ At i x
      last i x h = let low = h.low in last_by i h.place x low h.here (cases_lt_or h.place i low)

-- what is found at an item of a list
pub record AtItem {X : Type 0} (xs : List X) (P : X → Broken → Type 0) (k : ℕ) (b : Broken) : Type 0 where
  pub item : X
  pub is : slice_get xs k ≡ Some item
  pub found : P item b

module _ {X : Type 0} (xs : List X) (P : X → Broken → Type 0) where
  -- what is found at the items before one
  abbrev pub Before : ℕ → Findings → Findings → Type 0
  Before i a b = Finds (Below (AtItem xs P) i) a b

  pub items-more : (i : ℕ) (x : X) (a b c : Findings) → slice_get xs i ≡ Some x → Before i a b → Finds (P x) b c → Before (i + 1) a c
  items-more i x a b c is f g =
      below-more (AtItem xs P) i a b c f (finds-as (P x) (AtItem xs P i) b c (λ y p. record { item = x; is = is; found = p }) (λ y h. subst (λ z. P z y) (same_Some h.item x (sym h.is ∙ is)) h.found) g)

  -- and at all items
  pub items-all : (Q : Broken → Type 0) (i : ℕ) (a b : Findings) → length xs ≤ i → ((y : Broken) (k : ℕ) (x : X) → slice_get xs k ≡ Some x → P x y → Q y)
      → ((y : Broken) → Q y → (k : ℕ) × (x : X) × (slice_get xs k ≡ Some x) × P x y) → Before i a b → Finds Q a b
  items-all Q i a b all to back f = finds-as (Below (AtItem xs P) i) Q a b (λ y h. to y h.place h.here.item h.here.is h.here.found) (λ y q. again y (back y q)) f
    where
      again : (y : Broken) → (k : ℕ) × (x : X) × (slice_get xs k ≡ Some x) × P x y → Below (AtItem xs P) i y
      again y h = let low = slice_get_within xs h.0 h.1 h.2 in record { place = h.0; low = omega arith; here = record { item = h.1; is = h.2; found = h.3 } }
