use Rattle.std.proofs.Common.{◌≡◌, List, Option, Some, length, refl, sym, ap, subst, arith}
use Rattle.std.specs.Prelude.{Contains, IsSomeAnd, Vec}
use Rattle.std.specs.declared.alloc.Global.{Global}
use Rattle.ob_definition.specs.Gathered.{Gathered}
use Rattle.ob_definition.specs.Members.{Member, model_at}
use Rattle.ob_registry.specs.declared.formulas.DraftFormula.{DraftFormula}
use Rattle.ob_schema.specs.declared.info.Step.{Step}
use Rattle.ob_schema.specs.Built.{numbered}
use Rattle.ob_registry.specs.Graphs.{AreFormulas, formula_in}
use Rattle.ob_registry.specs.ModelFields.{member_of}
use Rattle.ob_schema.specs.Strata.{IsMember}
use Rattle.ob_registry.specs.Telling.{IsFormulaOf, steps_in}
use Rattle.ob_registry.proofs.OwnFormulas.{formula-read, paths-of, some-formula}
use Rattle.ob_registry.proofs.Readings.{and_then_there, copied_from, copied_to, numbered_same, numbered_within, some_of}
use Rattle.ob_registry.proofs.graph.formula_at.Goals as goal

-- where the formula of a member stands
found : (models : List Gathered) (formulas : List (Vec (Option DraftFormula) Global)) (step : Step) (g : Gathered) (m : Member) → AreFormulas models formulas → IsMember models step g m
    → (row : Vec (Option DraftFormula) Global) × (formula : Option DraftFormula) × (numbered formulas step.model.0 ≡ Some row) × (numbered row.items step.field.0 ≡ Some formula)
    × IsFormulaOf (record { models = models; number = step.model; member = m }) formula
found models formulas step g m are is_member =
    and_then_there (λ (own : Vec (Option DraftFormula) Global). numbered own.items step.field.0) (numbered formulas step.model.0)
    (IsFormulaOf (record { models = models; number = step.model; member = m })) (are.each step g m is_member)

pub index-requires : goal.index-requires
index-requires c =
    let g = some_of (model_at c.args.models.now c.args.step.model.0) c.requires.model in
    let m = member_of c.in_ok-find.field-0.now in
    let there = found c.args.models.now c.args.formulas.now.items c.args.step g.0 m c.requires.formulas ((c.in_ok-find.ensures.is g.0 m).1 (g.1, refl)) in
    let within = numbered_within c.args.formulas.now.items c.args.step.model.0 there.0 there.2 in
    omega (arith, within.1, c.args.formulas.now.ok.0)

pub overflow_sub-step-2 : goal.overflow_sub-step-2
overflow_sub-step-2 c =
    let g = some_of (model_at c.args.models.now c.args.step.model.0) c.requires.model in
    let m = member_of c.in_ok-find.field-0.now in
    let there = found c.args.models.now c.args.formulas.now.items c.args.step g.0 m c.requires.formulas ((c.in_ok-find.ensures.is g.0 m).1 (g.1, refl)) in
    (numbered_within there.0.items c.args.step.field.0 there.1 there.3).0

pub index-requires-2 : goal.index-requires-2
index-requires-2 c =
    let g = some_of (model_at c.args.models.now c.args.step.model.0) c.requires.model in
    let m = member_of c.in_ok-find.field-0.now in
    let there = found c.args.models.now c.args.formulas.now.items c.args.step g.0 m c.requires.formulas ((c.in_ok-find.ensures.is g.0 m).1 (g.1, refl)) in
    let row = numbered_same c.args.formulas.now.items c.args.step.model.0 there.0 c.index.result.now there.2 c.index.ensures in
    let within = numbered_within there.0.items c.args.step.field.0 there.1 there.3 in
    omega (arith, within.1, ap (λ (v : Vec (Option DraftFormula) Global). length v.items) row, c.index.result.now.ok.0)

pub returns : goal.returns
returns c =
    let g = some_of (model_at c.args.models.now c.args.step.model.0) c.requires.model in
    let m = member_of c.in_ok-find.field-0.now in
    let is_member = (c.in_ok-find.ensures.is g.0 m).1 (g.1, refl) in
    let there = some-formula (IsFormulaOf (record { models = c.args.models.now; number = c.args.step.model; member = m })) (formula_in c.args.formulas.now.items c.args.step)
    (c.requires.formulas.each c.args.step g.0 m is_member) in
    let read = formula-read c.args.formulas.now.items c.args.step there.0 c.index-2.result.now c.index.result.now there.1 c.index.ensures c.index-2.ensures in
    λ path. (
    let both = paths-of c.args.models.now c.args.formulas.now.items c.requires.formulas c.args.step g.0 m is_member c.index-2.result.now read path in (
      λ is. copied_to c.as_ref.result (λ (f : DraftFormula). Contains (steps_in f.depends) path)
          (subst (λ (o : Option DraftFormula). IsSomeAnd o (λ f. Contains (steps_in f.depends) path)) (sym c.as_ref.ensures.value) (both.0 is)),
      λ is. both.1 (subst (λ (o : Option DraftFormula). IsSomeAnd o (λ f. Contains (steps_in f.depends) path)) c.as_ref.ensures.value
          (copied_from c.as_ref.result (λ (f : DraftFormula). Contains (steps_in f.depends) path) is)),
    ))
