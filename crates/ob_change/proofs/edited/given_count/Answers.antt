-- Conditions are computed, and named fields few.
use Rattle.std.proofs.Common.{◌≤◌, ℕ, arith, sym, subst}
use Rattle.ob_base.specs.declared.id.FieldNo.{FieldNo}
use Rattle.ob_change.proofs.BackFields.{given-named}
use Rattle.ob_change.proofs.edited.given_count.Goals as goal
use Rattle.ob_change.specs.EditedSteps.{IsGiven}
use Rattle.ob_schema.specs.Models.{FieldHas}

pub overflow_cast-result : goal.overflow_cast-result
overflow_cast-result c = omega (arith, (c.parts_fit_together.ensures.each c.args.model c.in-Some.info.now (sym c.in-Some.ensures)).few)

pub returns-in-Some : goal.returns-in-Some
returns-in-Some c = subst (λ (n : ℕ). (field : FieldNo) → FieldHas c.args.schema.now IsGiven c.args.model field → (1 ≤ field.0) × (field.0 ≤ n)) (sym c.len.ensures)
    (given-named c.args.schema.now c.parts_fit_together.ensures c.args.model c.in-Some.info.now (sym c.in-Some.ensures))
