-- The fault is told in the module that has its entry.
use Rattle.std.proofs.Common.{◌≡◌, ◌<◌, List, ℕ, length, sym, ap, subst, ◌∙◌}
use Rattle.std.proofs.lemmas.Option.{slice_get_within}
use Rattle.ob_definition.specs.Ranking.{rank}
use Rattle.ob_load.specs.Loading.{all_models, model_place}
use Rattle.ob_module.specs.Rooms.{modules_in}
use Rattle.ob_load.proofs.Loads.{told-there}
use Rattle.ob_load.proofs.Owners.{owner-is}
use Rattle.ob_load.proofs.loading.models_fault.Goals as goal

pub owner_of-requires : goal.owner_of-requires
owner_of-requires c = (c.requires.0, c.requires.1)

pub unreachable-requires : goal.unreachable-requires
unreachable-requires c =
    let all = c.requires.0 in
    let entry : c.in-Some.spot.now.entry ≡ (rank c.args.fault).entry = c.in-Some.ensures.entry in
    owner-is all c.in-Some.spot.now.entry (subst (λ (n : ℕ). n < length (all_models all)) (sym entry) c.requires.2) (c.in_default-owner_of.ensures.none all c.requires.1)

pub name-requires : goal.name-requires
name-requires c =
    let held = c.in-Some-owner_of.ensures.some c.requires.0 c.requires.1 in
    slice_get_within (modules_in c.args.modules.now) c.in-Some-owner_of.number held.0 held.1

pub returns-in-Ok-clause-told : goal.returns-in-Ok-clause-told
returns-in-Ok-clause-told c = λ all owner own are owned.
    let place : c.in-Ok.place ≡ model_place c.in-Some-owner_of.entry c.in-Some.spot.now.field = c.in-Ok.ensures ∙ ap (λ (f : List ℕ). model_place c.in-Some-owner_of.entry f) c.as_str.ensures in
    told-there (modules_in c.args.modules.now) all c.in-Some-owner_of.number c.in-Some-owner_of.entry c.in-Some.spot.now.entry c.name.result.now c.in-Some.spot.now.field c.in-Ok.place c.args.fault c.refused_at.result
    (c.in-Some-owner_of.ensures.some all are) c.name.ensures c.in-Some.ensures.entry c.in-Some.ensures.field place c.refused_at.ensures.fault owner own owned
