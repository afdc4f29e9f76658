-- What was loaded, or the first fault, of texts that the files tell, where they do.
use Rattle.std.proofs.Common.{refl, rules}
use Rattle.stockd.proofs.WholeCall.{loading_stops, some_texts}
use Rattle.stockd.proofs.run.loaded.Goals as goal

pub returns-in-Ok-clause-ok : goal.returns-in-Ok-clause-ok
returns-in-Ok-clause-ok g c =
    let names = c.as_slice.ensures in
    let loaded = rw names at c.in-Ok.ensures.loaded in
    record { texts = loaded.0; agrees = loaded.1; loaded = loaded.2; database = refl }

pub returns-in-Err-File-clause-told : goal.returns-in-Err-File-clause-told
returns-in-Err-File-clause-told g c = let texts = some_texts (g.F.Files.texts c.args.files.now) in (texts.0, texts.1, search rules)

pub returns-in-Err-Module-clause-told : goal.returns-in-Err-Module-clause-told
returns-in-Err-Module-clause-told g c =
    let names = c.as_slice.ensures in
    let first = c.in-Err-Module.ensures.fault c.in-Err-Module.faulty (search rules) in
    let told = rw names at first in
    loading_stops _ _ _ _ c.in-Err-Module.faulty _ told c.module_fault.ensures

pub returns-in-Err-NoMemory-clause-told : goal.returns-in-Err-NoMemory-clause-told
returns-in-Err-NoMemory-clause-told g c = let texts = some_texts (g.F.Files.texts c.args.files.now) in (texts.0, texts.1, tt)
