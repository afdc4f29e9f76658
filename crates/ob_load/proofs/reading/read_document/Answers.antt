-- The text of a module inside the program, or that of its file; a file that is refused is the text of the module.
use Rattle.std.proofs.Common.{Err, sym, ap, ◌∙◌}
use Rattle.std.proofs.lemmas.Result.{err_from_is_err_and}
use Rattle.toml.specs.View.{table_view}
use Rattle.ob_load.specs.declared.fault.LoadFault.TheVariants as load
use Rattle.ob_load.proofs.ReadTexts.{file-read, file-told, inside-read, inside-told, refused-told}
use Rattle.ob_load.proofs.Told.{err_is}
use Rattle.ob_load.proofs.reading.read_document.Goals as goal

pub returns-in-Some-clause-read : goal.returns-in-Some-clause-read
returns-in-Some-clause-read g c =
    inside-read (g.F.Files.texts c.args.files.now) c.args.folder.now c.args.name.now table_view c.in-Some.text.now c.as_bytes.result.now c.document_from.result c.in-Some.ensures.text c.as_bytes.ensures.value c.document_from.ensures.read

pub returns-in-Some-clause-fault : goal.returns-in-Some-clause-fault
returns-in-Some-clause-fault g c = λ faulty same.
    inside-told (g.F.Files.texts c.args.files.now) c.args.folder.now c.args.name.now c.in-Some.text.now c.as_bytes.result.now (Err faulty) c.in-Some.ensures.text c.as_bytes.ensures.value (c.document_from.ensures.fault faulty same)

pub returns-in_ok-bytes-in-None-clause-read : goal.returns-in_ok-bytes-in-None-clause-read
returns-in_ok-bytes-in-None-clause-read g c =
    file-read (g.F.Files.texts c.args.files.now) c.args.folder.now c.args.name.now (sym c.in-None.ensures.text) table_view c.in_ok-bytes-in-None.bytes c.as_slice.result.now c.document_from-in-None.result c.in_ok-bytes-in-None.ensures.read.1
    c.as_slice.ensures c.document_from-in-None.ensures.read

pub returns-in_ok-bytes-in-None-clause-fault : goal.returns-in_ok-bytes-in-None-clause-fault
returns-in_ok-bytes-in-None-clause-fault g c = λ faulty same.
    file-told (g.F.Files.texts c.args.files.now) c.args.folder.now c.args.name.now (sym c.in-None.ensures.text) c.in_ok-bytes-in-None.bytes c.as_slice.result.now (Err faulty) c.in_ok-bytes-in-None.ensures.read.1
    c.as_slice.ensures (c.document_from-in-None.ensures.fault faulty same)

pub returns-in_err-bytes-in-None-clause-fault : goal.returns-in_err-bytes-in-None-clause-fault
returns-in_err-bytes-in-None-clause-fault g c = λ faulty same.
    let p = err_from_is_err_and c.from_residual.result c.from_residual.ensures.1 in
    let is = sym p.2 ∙ err_is p.0 (load.Module faulty) (sym p.1 ∙ same) in
    refused-told (g.F.Files.texts c.args.files.now) c.args.folder.now c.args.name.now (sym c.in-None.ensures.text) faulty (c.in_err-bytes-in-None.ensures.fault faulty (ap Err is))
