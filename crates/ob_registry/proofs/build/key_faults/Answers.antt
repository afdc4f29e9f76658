use Rattle.std.proofs.Common.{◌≡◌, ℕ, ◌+◌, ◌≤◌, ◌<◌, length, arith, subst}
use Rattle.std.specs.Prelude.{IsSomeAnd}
use Rattle.ob_definition.specs.Findings.{Adds}
use Rattle.ob_definition.specs.Members.{model_at}
use Rattle.ob_registry.specs.Telling.{AreMemberFaults, IsKeyFault}
use Rattle.ob_registry.proofs.KeyRooms.{all_below, model_more, model_there, none_below}
use Rattle.ob_registry.proofs.build.key_faults.Goals as goal
use Rattle.ob_registry.proofs.FormulaLoops.{as_few, as_many}

pub number_of_place-requires : goal.number_of_place-requires
number_of_place-requires c =
    let models = c.args.models.now in
    let many = as_many models c.models.inside.gathering.now c.models.inside.list.items c.models.invariant c.models.view_is in
    let few = as_few models c.models.inside.gathering.now c.models.inside.list.items c.models.invariant c.models.view_is in
    omega (arith, many, few, c.len-place-end.ensures, c.loop-place-test.true)

pub loop-place-init : goal.loop-place-init
loop-place-init c = none_below c.args.models.now c.args.first.now

pub loop-place-preserved : goal.loop-place-preserved
loop-place-preserved c =
    let models = c.args.models.now in
    let number : c.number_of_place.result ≡ c.loop-place.place + 1 = c.number_of_place.ensures in
    let b = c.loop-place.first in
    let d = c.model_faults.new.first in
    let e = c.member_faults.new.first in
    model_more models c.loop-place.place c.args.first.now b d e c.loop-place.invariant
    (subst (λ (n : ℕ). IsSomeAnd (model_at models n) (λ g. Adds (IsKeyFault models (record { 0 = n }) g) b d)) number c.in_ok-model_faults.ensures)
    (subst (λ (n : ℕ). IsSomeAnd (model_at models n) (λ g. Adds (AreMemberFaults models (record { 0 = n }) g) d e)) number c.in_ok-member_faults.ensures)

pub model_faults-requires : goal.model_faults-requires
model_faults-requires c =
    let models = c.args.models.now in
    let many = as_many models c.models.inside.gathering.now c.models.inside.list.items c.models.invariant c.models.view_is in
    let within : c.loop-place.place < length models = omega (arith, many, c.len-place-end.ensures, c.loop-place-test.true) in
    model_there models c.loop-place.place c.number_of_place.result within c.number_of_place.ensures

pub member_faults-requires : goal.member_faults-requires
member_faults-requires c =
    let models = c.args.models.now in
    let many = as_many models c.models.inside.gathering.now c.models.inside.list.items c.models.invariant c.models.view_is in
    let within : c.loop-place.place < length models = omega (arith, many, c.len-place-end.ensures, c.loop-place-test.true) in
    model_there models c.loop-place.place c.number_of_place.result within c.number_of_place.ensures

pub returns : goal.returns
returns c =
    let models = c.args.models.now in
    let many = as_many models c.models.inside.gathering.now c.models.inside.list.items c.models.invariant c.models.view_is in
    let enough : length models ≤ c.loop-place.place = omega (arith, many, c.len-place-end.ensures, c.loop-place-test.false) in
    all_below models c.loop-place.place c.args.first.now c.loop-place.first enough c.loop-place.invariant
