-- What stands first against the modules is told; with nothing their models make the registry.
use Rattle.std.proofs.Common.{◌≡◌, ◌≢◌, List, None, Err, sym, ap, subst, ◌∙◌, arith}
use Rattle.std.proofs.lemmas.Option.{slice_get_within}
use Rattle.std.proofs.lemmas.Result.{IfOk-weaker, err_from_is_err_and}
use Rattle.ob_io.specs.Cause.{Rose}
use Rattle.ob_definition.specs.declared.fault.SchemaFault.TheVariants as schema
use Rattle.ob_load.specs.declared.fault.LoadFault.TheVariants as load
use Rattle.ob_load.specs.Access.{declared_policy}
use Rattle.ob_load.specs.Loading.{all_models}
use Rattle.ob_load.specs.Preset.{declared_preset}
use Rattle.ob_module.specs.Modules.{Module, numbered}
use Rattle.ob_load.specs.declared.loading.Loaded.{Loaded}
use Rattle.ob_load.specs.RowFaults.{modules_fault}
use Rattle.ob_module.specs.Rooms.{modules_in}
use Rattle.ob_load.proofs.Loads.{access-told, cycle-refused, loaded-by, models-there, models-told, reading-told}
use Rattle.ob_load.proofs.Told.{err_is, no-file, told-of-text}
use Rattle.ob_load.proofs.loading.load.Goals as goal
use Rattle.ob_schema.specs.Models.{IsRegistry}

pub returns-in_err-modules-clause-fault : goal.returns-in_err-modules-clause-fault
returns-in_err-modules-clause-fault g c = λ faulty same.
    let p = err_from_is_err_and c.from_residual.result c.from_residual.ensures.1 in
    let told : c.in_err-modules.field-0.0 ≡ load.Module faulty = sym p.2 ∙ err_is p.0 (load.Module faulty) (sym p.1 ∙ same) in
    reading-told (g.F.Files.texts c.args.files.now) c.args.folder.now c.args.names.now faulty (c.in_err-modules.ensures.fault faulty (ap Err told))

pub name-requires : goal.name-requires
name-requires g c =
    let found = rw c.in-Some.is at c.in_ok-number.ensures.found in
    slice_get_within (modules_in c.in_ok-modules.modules) c.in-Some.number found.0 found.1

pub returns-in-Some-clause-fault : goal.returns-in-Some-clause-fault
returns-in-Some-clause-fault g c = λ faulty same.
    let found = rw c.in-Some.is at c.in_ok-number.ensures.found in
    cycle-refused (g.F.Files.texts c.args.files.now) c.args.folder.now c.args.names.now (modules_in c.in_ok-modules.modules) c.in_ok-modules.ensures.read
    c.in-Some.number c.name.result.now c.refused.result faulty found c.name.ensures c.refused.ensures.fault (err_is c.refused.result (load.Module faulty) same)

pub with_meaning-requires : goal.with_meaning-requires
with_meaning-requires g c =
    let order = c.in_ok-taken.ensures in
    (order.0, rw c.deref-in-Ok.ensures.value order.1)

pub returns-in-Ok-clause-loaded : goal.returns-in-Ok-clause-loaded
returns-in-Ok-clause-loaded g c =
    let modules = modules_in c.in_ok-modules.modules in
    let acyclic = rw c.in_default.is at c.in_ok-number.ensures.none in
    let order = c.in_ok-taken.ensures in
    let are : numbered modules c.deref.result.now order.0 = rw c.deref.ensures.value order.1 in
    let own : numbered modules c.deref-in-Ok.result.now order.0 = rw c.deref-in-Ok.ensures.value order.1 in
    let all : c.as_slice.result.now ≡ all_models order.0 = c.as_slice.ensures ∙ c.in_ok-models.ensures order.0 are in
    loaded-by (g.F.Files.texts c.args.files.now) c.args.folder.now c.args.names.now modules c.in_ok-modules.ensures.read acyclic order.0 order.2 c.as_slice.result.now all c.in-Ok.schema c.with_meaning.result
    c.in-Ok.ensures.built c.in-Ok.ensures.faultless c.with_meaning.ensures.same
    (IfOk-weaker c.with_meaning.result (λ l. (taken : List Module) → numbered modules c.deref-in-Ok.result.now taken → modules_fault c.in-Ok.schema taken ≡ None) (λ l. modules_fault c.in-Ok.schema order.0 ≡ None)
    (λ l f. f order.0 own) c.with_meaning.ensures.fits)
    (IfOk-weaker c.with_meaning.result (λ (l : Loaded). (taken : List Module) → numbered modules c.deref-in-Ok.result.now taken → l.policy ≡ declared_policy c.in-Ok.schema taken)
    (λ (l : Loaded). l.policy ≡ declared_policy c.in-Ok.schema order.0) (λ l f. f order.0 own) c.with_meaning.ensures.declared)
    (IfOk-weaker c.with_meaning.result (λ (l : Loaded). (taken : List Module) → numbered modules c.deref-in-Ok.result.now taken → l.preset.rows ≡ declared_preset c.in-Ok.schema taken)
    (λ (l : Loaded). l.preset.rows ≡ declared_preset c.in-Ok.schema order.0) (λ l f. f order.0 own) c.with_meaning.ensures.brought)

pub returns-in-Ok-clause-fault : goal.returns-in-Ok-clause-fault
returns-in-Ok-clause-fault g c = λ faulty same.
    let modules = modules_in c.in_ok-modules.modules in
    let acyclic = rw c.in_default.is at c.in_ok-number.ensures.none in
    let order = c.in_ok-taken.ensures in
    let are : numbered modules c.deref.result.now order.0 = rw c.deref.ensures.value order.1 in
    let own : numbered modules c.deref-in-Ok.result.now order.0 = rw c.deref-in-Ok.ensures.value order.1 in
    let all : c.as_slice.result.now ≡ all_models order.0 = c.as_slice.ensures ∙ c.in_ok-models.ensures order.0 are in
    access-told (g.F.Files.texts c.args.files.now) c.args.folder.now c.args.names.now modules c.in_ok-modules.ensures.read acyclic order.0 order.2 c.as_slice.result.now all c.in-Ok.schema faulty
    c.in-Ok.ensures.built c.in-Ok.ensures.faultless (c.with_meaning.ensures.fault order.0 own faulty same)

pub returns-in-Ok-clause-absent : goal.returns-in-Ok-clause-absent
returns-in-Ok-clause-absent g c =
    told-of-text (g.F.Files.texts c.args.files.now) (Rose (g.F.Files.faults c.args.files.now) (g.F.Files.faults c.read_modules.new.files)) c.with_meaning.result c.with_meaning.ensures.read

pub returns-in-Ok-clause-sound : goal.returns-in-Ok-clause-sound
returns-in-Ok-clause-sound g c =
    IfOk-weaker c.with_meaning.result (λ (l : Loaded). l.schema ≡ c.in-Ok.schema) (λ (l : Loaded). IsRegistry l.schema) (λ l same. subst IsRegistry (sym same) c.in-Ok.ensures.sound) c.with_meaning.ensures.same

pub returns-in-Ok-clause-cause : goal.returns-in-Ok-clause-cause
returns-in-Ok-clause-cause g c = record {
  no_fall = c.read_modules.ensures.cause.no_fall;
  cause = λ failed. absurd (no-file c.with_meaning.result c.with_meaning.ensures.read failed);
}

pub returns-clause-fault : goal.returns-clause-fault
returns-clause-fault g c = λ faulty same.
    let modules = modules_in c.in_ok-modules.modules in
    let acyclic = rw c.in_default.is at c.in_ok-number.ensures.none in
    let order = c.in_ok-taken.ensures in
    let are : numbered modules c.deref.result.now order.0 = rw c.deref.ensures.value order.1 in
    let all : c.as_slice.result.now ≡ all_models order.0 = c.as_slice.ensures ∙ c.in_ok-models.ensures order.0 are in
    let other : c.in-Err.fault ≢ schema.NoMemory = grind arith in
    models-told (g.F.Files.texts c.args.files.now) c.args.folder.now c.args.names.now modules c.in_ok-modules.ensures.read acyclic order.0 order.2 c.as_slice.result.now all
    c.in-Err.fault c.models_fault.result faulty (c.in-Err.ensures.fault other) (c.in-Err.ensures.entry other)
    (λ owner entry owned. c.models_fault.ensures.told order.0 owner entry (rw c.deref-in-Err.ensures.value order.1) owned) (err_is c.models_fault.result (load.Module faulty) same)

pub returns-clause-absent : goal.returns-clause-absent
returns-clause-absent g c =
    let modules = modules_in c.in_ok-modules.modules in
    let acyclic = rw c.in_default.is at c.in_ok-number.ensures.none in
    let order = c.in_ok-taken.ensures in
    let are : numbered modules c.deref.result.now order.0 = rw c.deref.ensures.value order.1 in
    let all : c.as_slice.result.now ≡ all_models order.0 = c.as_slice.ensures ∙ c.in_ok-models.ensures order.0 are in
    let other : c.in-Err.fault ≢ schema.NoMemory = grind arith in
    models-there (g.F.Files.texts c.args.files.now) c.args.folder.now c.args.names.now modules c.in_ok-modules.ensures.read acyclic order.0 order.2 c.as_slice.result.now all
    (Rose (g.F.Files.faults c.args.files.now) (g.F.Files.faults c.read_modules.new.files)) c.in-Err.fault c.models_fault.result (c.in-Err.ensures.entry other)
    (λ owner entry owned. c.models_fault.ensures.told order.0 owner entry (rw c.deref-in-Err.ensures.value order.1) owned)
