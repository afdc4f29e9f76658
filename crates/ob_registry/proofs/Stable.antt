-- What isn't refuted of a test, or of a choice that tests can make, holds.
use Rattle.std.proofs.Common.{◌≡◌, ℕ, Bool, true, false, eqb, Option, Some, None, is_none, refl, ap}
use Rattle.std.proofs.lemmas.Bool.{false≢true}
use Rattle.std.proofs.lemmas.Bool.Decides.{Decides-eqb}
use Rattle.std.proofs.lemmas.Option.{same_Some}
use Rattle.ob_base.specs.declared.id.ModelNo.{ModelNo}

pub stable_true : (b : Bool) → ((b ≡ true → ⊥) → ⊥) → b ≡ true
stable_true true twice = refl
stable_true false twice = absurd (twice false≢true)

pub stable_none : {X : Type 0} (o : Option X) → ((o ≡ None → ⊥) → ⊥) → o ≡ None
stable_none None twice = refl
stable_none (Some x) twice = absurd (twice (λ e. false≢true (ap is_none e)))

pub stable_model : (o : Option ModelNo) (n : ModelNo) → ((o ≡ Some n → ⊥) → ⊥) → o ≡ Some n
stable_model None n twice = absurd (twice (λ e. cc))
stable_model (Some m) n twice = by (eqb m.0 n.0) refl
  where
    by : (b : Bool) → eqb m.0 n.0 ≡ b → ◌≡◌ {A = Option ModelNo} (Some m) (Some n)
    by true e = ap (λ (k : ℕ). let o : ModelNo = record { 0 = k } in Some o) ((Decides-eqb m.0 n.0).0 e)
    by false e = absurd (twice (λ same. false≢true (ap (λ (b : Bool). b) (by_false e same))))
      where
        by_false : eqb m.0 n.0 ≡ false → ◌≡◌ {A = Option ModelNo} (Some m) (Some n) → false ≡ true
        by_false f same = let two : eqb m.0 n.0 ≡ true = (Decides-eqb m.0 n.0).1 (ap (λ (x : ModelNo). x.0) (same_Some m n same)) in cc
