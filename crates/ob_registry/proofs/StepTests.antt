-- Steps are the same where their numbers are.
use Rattle.std.proofs.Common.{◌≡◌, ℕ, Bool, true, false, ◌&&◌, eqb, refl, sym, ap, subst, ◌∙◌}
use Rattle.std.specs.Bool.{Decides}
use Rattle.std.proofs.lemmas.Bool.{false≢true}
use Rattle.std.proofs.lemmas.Bool.Decides.{Decides-eqb}
use Rattle.ob_schema.specs.declared.info.Step.{Step}
use Rattle.ob_schema.specs.Paths.{step_at}

same_step : (a b : Step) → a.model.0 ≡ b.model.0 → a.field.0 ≡ b.field.0 → a ≡ b
same_step a b models fields = ap (λ (n : ℕ). step_at (record { 0 = n }) a.field) models ∙ ap (λ (n : ℕ). step_at b.model (record { 0 = n })) fields

both : (x y : Bool) (a b : Step) → Decides x (a.model.0 ≡ b.model.0) → Decides y (a.field.0 ≡ b.field.0) → Decides (x && y) (a ≡ b)
both true true a b m f = (λ _. same_step a b (m.0 refl) (f.0 refl), λ _. refl)
both true false a b m f = (λ e. absurd (false≢true e), λ same. absurd (false≢true (f.1 (ap (λ (s : Step). s.field.0) same))))
both false y a b m f = (λ e. absurd (false≢true e), λ same. absurd (false≢true (m.1 (ap (λ (s : Step). s.model.0) same))))

pub step_decides : (eq : Step → Step → Bool) → ((a b : Step) → eq a b ≡ (eqb a.model.0 b.model.0 && eqb a.field.0 b.field.0)) → (a b : Step) → Decides (eq a b) (a ≡ b)
step_decides eq is a b = subst (λ (r : Bool). Decides r (a ≡ b)) (sym (is a b)) (both (eqb a.model.0 b.model.0) (eqb a.field.0 b.field.0) a b (Decides-eqb a.model.0 b.model.0) (Decides-eqb a.field.0 b.field.0))
