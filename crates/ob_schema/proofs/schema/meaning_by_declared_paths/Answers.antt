use Rattle.ob_schema.proofs.FormulaOf.{formula-of}
use Rattle.ob_schema.proofs.ReadAlong.{means-by-read}
use Rattle.ob_schema.proofs.schema.meaning_by_declared_paths.Goals as goal

pub returns : goal.returns
returns c = λ models registry at formula is.
    let own = formula-of models registry at formula is in
    means-by-read models at.model own.0 formula own.1
