-- Each turn reads one module more; what is left ends reading.
use Rattle.std.proofs.Common.{◌≡◌, ◌<◌, List, ℕ, Ok, Err, refl, sym, ap, subst, ◌∙◌, arith}
use Rattle.std.proofs.lemmas.Result.{err_from_is_err_and}
use Rattle.toml.specs.View.{table_view}
use Rattle.ob_load.specs.declared.fault.FaultyModule.{FaultyModule}
use Rattle.ob_load.specs.declared.fault.LoadFault.TheVariants as load
use Rattle.ob_load.specs.declared.fault.ModuleFault.TheVariants as fault
use Rattle.ob_module.specs.Modules.{Module}
use Rattle.ob_load.specs.Reading.{next_module, whole}
use Rattle.ob_module.specs.Rooms.{modules_in}
use Rattle.ob_load.specs.Texts.{text_in}
use Rattle.ob_load.proofs.ReadingSteps.{Comes, IsReading-first, IsReading-more, reading-ended, reading-full, reading-refused, reading-whole}
use Rattle.ob_load.proofs.Told.{err_is, refused-is, told-same}
use Rattle.ob_load.proofs.reading.read_modules.Goals as goal

pub loop-init : goal.loop-init
loop-init g c = record {
  reading = IsReading-first (g.F.Files.texts c.args.files.now) c.args.folder.now c.args.names.now (modules_in c.new-modules.result) c.in_ok-coming.coming c.new-modules.ensures c.in_ok-coming.ensures;
  same = refl;
  no_fall = omega arith;
}

pub returns-in_default-clause-read : goal.returns-in_default-clause-read
returns-in_default-clause-read g c =
    reading-ended (g.F.Files.texts c.args.files.now) c.args.folder.now c.args.names.now (modules_in c.loop.modules) c.loop.coming c.next_unread.new.coming c.loop.counter c.next_unread.result
    c.loop.invariant.reading c.next_unread.ensures.passes c.in_default.is

pub returns-in_default-clause-whole : goal.returns-in_default-clause-whole
returns-in_default-clause-whole g c =
    reading-whole (g.F.Files.texts c.args.files.now) c.args.folder.now c.args.names.now (modules_in c.loop.modules) c.loop.coming c.next_unread.new.coming c.loop.counter c.next_unread.result
    c.loop.invariant.reading c.next_unread.ensures.passes c.in_default.is

pub returns-in_err-document-clause-fault : goal.returns-in_err-document-clause-fault
returns-in_err-document-clause-fault g c = λ faulty same.
    let texts = g.F.Files.texts c.args.files.now in
    let folder = c.args.folder.now in
    let p = err_from_is_err_and c.from_residual-in_err-document.result c.from_residual-in_err-document.ensures.1 in
    let is = sym p.2 ∙ err_is p.0 (load.Module faulty) (sym p.1 ∙ same) in
    let told = told-same (λ t n. next_module 0 n (text_in t folder n) ≡ Err faulty) (g.F.Files.texts c.loop.files) texts c.as_str.result.now c.in-Some.name c.loop.invariant.same c.as_str.ensures
    (c.in_err-document.ensures.fault faulty (ap Err is)) in
    let low : c.loop.counter < 64 = omega arith in
    reading-refused texts folder c.args.names.now (modules_in c.loop.modules) c.loop.coming c.next_unread.new.coming c.loop.counter c.next_unread.result c.loop.invariant.reading c.next_unread.ensures.passes
    c.in-Some.name c.in-Some.is c.in-Some.ensures.unread low faulty told

pub loop-preserved : goal.loop-preserved
loop-preserved g c =
    let texts = g.F.Files.texts c.args.files.now in
    let folder = c.args.folder.now in
    let d = table_view c.in_ok-document.document in
    let m : Module = record { name = c.in-Some.name; document = d } in
    let told = told-same (λ t n. next_module 0 n (text_in t folder n) ≡ Ok (record { name = n; document = d })) (g.F.Files.texts c.loop.files) texts c.as_str.result.now c.in-Some.name
    c.loop.invariant.same c.as_str.ensures c.in_ok-document.ensures.read in
    let low : c.loop.counter < 64 = omega arith in
    record {
      reading = IsReading-more texts folder c.args.names.now (modules_in c.loop.modules) c.loop.coming c.next_unread.new.coming c.loop.counter c.next_unread.result c.loop.invariant.reading
          c.next_unread.ensures.passes c.in-Some.name c.in-Some.is c.in-Some.ensures.unread low m (modules_in c.push.new.self) c.put_depends.new.self refl told c.in_ok-push.ensures c.in_ok-put_depends.ensures;
      same = c.read_document.ensures.same ∙ c.loop.invariant.same;
      no_fall = omega (arith, c.loop.invariant.no_fall, c.read_document.ensures.cause.no_fall);
    }

pub returns-in-None-clause-read : goal.returns-in-None-clause-read
returns-in-None-clause-read g c =
    reading-ended (g.F.Files.texts c.args.files.now) c.args.folder.now c.args.names.now (modules_in c.loop.modules) c.loop.coming c.next_unread-2.new.coming c.loop.counter c.next_unread-2.result
    c.loop.invariant.reading c.next_unread-2.ensures.passes c.in-None.is

pub returns-in-None-clause-whole : goal.returns-in-None-clause-whole
returns-in-None-clause-whole g c =
    reading-whole (g.F.Files.texts c.args.files.now) c.args.folder.now c.args.names.now (modules_in c.loop.modules) c.loop.coming c.next_unread-2.new.coming c.loop.counter c.next_unread-2.result
    c.loop.invariant.reading c.next_unread-2.ensures.passes c.in-None.is

pub returns-in-Some-next_unread-clause-fault : goal.returns-in-Some-next_unread-clause-fault
returns-in-Some-next_unread-clause-fault g c = λ faulty same.
    let texts = g.F.Files.texts c.args.files.now in
    let folder = c.args.folder.now in
    let names = c.args.names.now in
    let name = c.in-Some-next_unread.name in
    let called = c.as_str-in-Some-next_unread.result.now in
    let own = refused-is (whole called fault.Limit) faulty c.refused.result c.refused.ensures.fault (err_is c.refused.result (load.Module faulty) same) in
    let is = own ∙ ap (λ (n : List ℕ). whole n fault.Limit) c.as_str-in-Some-next_unread.ensures in
    let full : c.loop.counter ≡ 64 = omega arith in
    subst (λ (f : FaultyModule). Comes texts folder names (Err f)) (sym is)
    (reading-full texts folder names (modules_in c.loop.modules) c.loop.coming c.next_unread-2.new.coming c.loop.counter c.next_unread-2.result c.loop.invariant.reading c.next_unread-2.ensures.passes
    name c.in-Some-next_unread.is c.in-Some-next_unread.ensures.unread full)
