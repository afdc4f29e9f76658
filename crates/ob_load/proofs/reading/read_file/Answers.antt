-- A file that is absent or too long is refused.
use Rattle.std.proofs.Common.{rules, ◌∙◌}
use Rattle.ob_load.specs.declared.fault.LoadFault.TheVariants as load
use Rattle.ob_load.specs.declared.fault.ModuleFault.TheVariants as fault
use Rattle.ob_load.specs.Reading.{whole}
use Rattle.ob_load.proofs.ReadTexts.{absent-told, long-told}
use Rattle.ob_load.proofs.Told.{err_is, refused-is}
use Rattle.ob_load.proofs.reading.read_file.Goals as goal

pub returns-in-Err-Absent-clause-fault : goal.returns-in-Err-Absent-clause-fault
returns-in-Err-Absent-clause-fault g c = λ faulty same.
    let name = c.args.name.now in
    let own = refused-is (whole name fault.Absent) faulty c.refused.result c.refused.ensures.fault (err_is c.refused.result (load.Module faulty) same) in
    absent-told (g.F.Files.texts c.args.files.now) c.args.folder.now name c.as_str.result.now _ faulty (c.in-Err-Absent.ensures.absent (search rules)) (c.as_str.ensures ∙ c.in_ok-path.ensures) own

pub returns-in-Err-TooLong-clause-fault : goal.returns-in-Err-TooLong-clause-fault
returns-in-Err-TooLong-clause-fault g c = λ faulty same.
    let name = c.args.name.now in
    let own = refused-is (whole name fault.TooLong) faulty c.refused-in-Err-TooLong.result c.refused-in-Err-TooLong.ensures.fault (err_is c.refused-in-Err-TooLong.result (load.Module faulty) same) in
    long-told (g.F.Files.texts c.args.files.now) c.args.folder.now name c.as_str.result.now faulty (c.in-Err-TooLong.ensures.too_long (search rules)) (c.as_str.ensures ∙ c.in_ok-path.ensures) own
