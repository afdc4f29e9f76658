use Rattle.std.proofs.Common.{List, sym, ap, subst, ◌∙◌, true≢false}
use Rattle.std.specs.Prelude.{slice_get}
use Rattle.ob_schema.specs.declared.info.Step.{Step}
use Rattle.ob_schema.specs.Paths.{EndsIn}
use Rattle.ob_registry.proofs.Readings.{EndsIn-last, IsReadOn-last, IsReadOn-none}
use Rattle.ob_registry.proofs.Steps.{model_at-step}
use Rattle.ob_registry.proofs.graph.Graph.end_of.Goals as goal

pub is_computed_at-requires : goal.is_computed_at-requires
is_computed_at-requires c =
    model_at-step c.args.models.now c.in_ok-node.node c.in_ok-last.field-0.now (ap (λ (l : List Step). slice_get l c.in_ok-node.node) (sym c.requires.steps) ∙ c.in_ok-node.ensures.there)

pub returns-then-is_computed_at : goal.returns-then-is_computed_at
returns-then-is_computed_at c =
    let ends = subst (λ (l : List Step). EndsIn l c.in_ok-last.field-0.now) c.as_slice.ensures (EndsIn-last c.as_slice.result.now c.in_ok-last.field-0.now (sym c.in_ok-last.ensures.value)) in
    IsReadOn-last c.args.models.now c.args.self.now.steps.items c.requires.steps c.args.path.now.steps c.in_ok-last.field-0.now c.in_ok-node.node c.in_ok-node.ensures.there ends
    (c.is_computed_at.ensures.0 c.if-is_computed_at.true)

pub returns-else-is_computed_at : goal.returns-else-is_computed_at
returns-else-is_computed_at c = λ b.
    let ends = subst (λ (l : List Step). EndsIn l c.in_ok-last.field-0.now) c.as_slice.ensures (EndsIn-last c.as_slice.result.now c.in_ok-last.field-0.now (sym c.in_ok-last.ensures.value)) in (
      λ is. absurd (cc),
      λ read. absurd (IsReadOn-none c.args.models.now c.args.self.now.steps.items c.requires.steps c.args.path.now.steps c.in_ok-last.field-0.now c.in_ok-node.node c.in_ok-node.ensures.there ends
          (λ computed. true≢false (sym (c.is_computed_at.ensures.1 computed) ∙ c.if-is_computed_at.false)) b read),
    )
