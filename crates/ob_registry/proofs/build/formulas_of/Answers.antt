use Rattle.std.proofs.Common.{◌≡◌, ℕ, ◌+◌, ◌≤◌, ◌<◌, List, Option, length, sym, subst, arith}
use Rattle.std.specs.Prelude.{Vec}
use Rattle.std.specs.declared.alloc.Global.{Global}
use Rattle.ob_registry.specs.declared.formulas.DraftFormula.{DraftFormula}
use Rattle.ob_registry.proofs.FormulaLoops.{AreUpto, as_few, as_many, faults_all, faults_more, faults_none, formulas_all, formulas_more, formulas_none, place_there}
use Rattle.ob_registry.proofs.build.formulas_of.Goals as goal

pub loop-place-init : goal.loop-place-init
loop-place-init c = record {
  formulas = subst (λ (l : List (Vec (Option DraftFormula) Global)). AreUpto c.args.models.now 0 l) (sym c.new-formulas.ensures.items) (formulas_none c.args.models.now);
  faults = faults_none c.args.models.now c.args.first.now;
}

pub number_of_place-requires : goal.number_of_place-requires
number_of_place-requires c =
    let models = c.args.models.now in
    let many = as_many models c.models.inside.gathering.now c.models.inside.list.items c.models.invariant c.models.view_is in
    let few = as_few models c.models.inside.gathering.now c.models.inside.list.items c.models.invariant c.models.view_is in
    omega (arith, many, few, c.len-place-end.ensures, c.loop-place-test.true)

pub model_formulas-requires : goal.model_formulas-requires
model_formulas-requires c =
    let models = c.args.models.now in
    let many = as_many models c.models.inside.gathering.now c.models.inside.list.items c.models.invariant c.models.view_is in
    let within : c.loop-place.place < length models = omega (arith, many, c.len-place-end.ensures, c.loop-place-test.true) in
    place_there models c.loop-place.place c.number_of_place.result within c.number_of_place.ensures

pub loop-place-preserved : goal.loop-place-preserved
loop-place-preserved c =
    let models = c.args.models.now in
    let place = c.loop-place.place in
    let k = c.number_of_place.result in
    let is : k ≡ place + 1 = c.number_of_place.ensures in
    record {
      formulas = subst (λ (l : List (Vec (Option DraftFormula) Global)). AreUpto models (place + 1) l) (sym c.in_ok-push.ensures.items)
          (formulas_more models place k c.loop-place.formulas.items c.in_ok-model_formulas.field-0 is c.loop-place.invariant.formulas c.in_ok-model_formulas.ensures.formulas);
      faults = faults_more models place k c.args.first.now c.loop-place.first c.model_formulas.new.first is c.loop-place.invariant.faults c.in_ok-model_formulas.ensures.faults;
    }

pub returns-clause-formulas : goal.returns-clause-formulas
returns-clause-formulas c =
    let models = c.args.models.now in
    let many = as_many models c.models.inside.gathering.now c.models.inside.list.items c.models.invariant c.models.view_is in
    let all : c.loop-place.place ≡ length models = omega (arith, many, c.len-place-end.ensures, c.loop-place-test.false) in
    formulas_all models c.loop-place.formulas.items (subst (λ (n : ℕ). AreUpto models n c.loop-place.formulas.items) all c.loop-place.invariant.formulas)

pub returns-clause-faults : goal.returns-clause-faults
returns-clause-faults c =
    let models = c.args.models.now in
    let many = as_many models c.models.inside.gathering.now c.models.inside.list.items c.models.invariant c.models.view_is in
    let enough : length models ≤ c.loop-place.place = omega (arith, many, c.len-place-end.ensures, c.loop-place-test.false) in
    faults_all models c.loop-place.place c.args.first.now c.loop-place.first enough c.loop-place.invariant.faults
