-- A computed field on a path of a formula stands at its end, since each step before it leads on.
use Rattle.std.proofs.Common.{◌≡◌, ◌≤◌, length, inl, inr, List, [], ◌∷◌, true, sym, ap, subst}
use Rattle.std.specs.Prelude.{Any, Contains}
use Rattle.std.proofs.lemmas.Bool.{false≢true}
use Rattle.std.proofs.lemmas.List.Elements.{All-contains, Contains-append_right}
use Rattle.ob_base.specs.declared.id.ModelNo.{ModelNo}
use Rattle.ob_base.specs.Limits.{max_path_steps}
use Rattle.ob_schema.specs.declared.info.FieldInfo.{FieldInfo}
use Rattle.ob_schema.specs.declared.info.Formula.{Formula}
use Rattle.ob_schema.specs.declared.info.ModelInfo.{ModelInfo}
use Rattle.ob_schema.specs.declared.info.Origin.{Origin}
use Rattle.ob_schema.specs.declared.info.Origin.TheVariants as origin
use Rattle.ob_schema.specs.declared.info.Path.{Path}
use Rattle.ob_schema.specs.declared.info.Step.{Step}
use Rattle.ob_schema.specs.Fields.{is_plain_from}
use Rattle.ob_schema.specs.Models.{AreSteps, DependsOn, FieldHas, IsFormulaIn, LeadsOn, field_at, is_computed_from}
use Rattle.ob_schema.specs.Paths.{EndsIn}
use Rattle.ob_schema.proofs.Anys.{Any-among, Any-on}
use Rattle.ob_schema.proofs.LookUps.{contains-cases, contains-first, contains-none}
use Rattle.ob_schema.proofs.OneWrong.{known_at, value_of}

-- one of the paths on which a formula's value depends ends in the field
abbrev pub DependsAtEnd : Formula → Step → Type 0
DependsAtEnd formula at = Any (λ path. EndsIn path.steps at) formula.depends

-- what ends in a field has it for a step
pub end-contained : (steps : List Step) (at : Step) → EndsIn steps at → Contains steps at
end-contained steps at (front, e) = subst (λ (l : List Step). Contains l at) (sym e) (Contains-append_right front (at ∷ []) at (contains-first at []))

pub depends-end : (formula : Formula) (at : Step) → DependsAtEnd formula at → DependsOn formula at
depends-end formula at ends = Any-on (λ (path : Path). EndsIn path.steps at) (λ path. Contains path.steps at) formula.depends (λ path. end-contained path.steps at) ends

not_both : (from : Origin) → is_plain_from from ≡ true → is_computed_from from ≡ true → ⊥
not_both origin.Plain plain computed = false≢true computed
not_both _ plain computed = false≢true plain

module _ (models : List ModelInfo) where
  -- the field of a step is computed
  abbrev pub IsComputedStep : Step → Type 0
  IsComputedStep at = FieldHas models (λ field. is_computed_from field.origin ≡ true) at.model at.field

  -- no path goes on through it
  goes_no_further : (at : Step) (target : ModelNo) → FieldHas models (LeadsOn target) at.model at.field → IsComputedStep at → ⊥
  goes_no_further at target leads computed =
      let own = value_of (field_at models at.model at.field) (LeadsOn target) leads in
      not_both own.0.origin own.2.plain (known_at (field_at models at.model at.field) (λ field. is_computed_from field.origin ≡ true) own.0 own.1 computed)

  pub computed-last : (model : ModelNo) (steps : List Step) (at : Step) → AreSteps models model steps → IsComputedStep at → Contains steps at → EndsIn steps at
  computed-last model [] at are computed among = absurd are
  computed-last model (s ∷ []) at are computed among = elim (contains-cases s [] at among) [
    | inl same ↦ ([], ap (λ (x : Step). x ∷ []) same)
    | inr later ↦ absurd (contains-none at later)
  ]
  computed-last model (s ∷ t ∷ steps) at are computed among = elim (contains-cases s (t ∷ steps) at among) [
    | inl same ↦ absurd (goes_no_further s t.model are.1 (subst IsComputedStep (sym same) computed))
    | inr later ↦
        let ends = computed-last t.model (t ∷ steps) at are.2 computed later in
        (s ∷ ends.0, ap (λ (l : List Step). s ∷ l) ends.1)
  ]

  -- so a path that has it for a step ends in it
  pub depends-ends : (model : ModelNo) (field : FieldInfo) (formula : Formula) (at : Step) → IsFormulaIn models model field formula → IsComputedStep at → DependsOn formula at → DependsAtEnd formula at
  depends-ends model field formula at right computed depends =
      Any-among (λ (path : Path). Contains path.steps at) (λ path. EndsIn path.steps at) formula.depends
      (λ path here. computed-last model path.steps at (All-contains (λ (path : Path). AreSteps models model path.steps × (length path.steps ≤ max_path_steps)) formula.depends path right.steps here).0 computed) depends
