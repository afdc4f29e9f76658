use Rattle.ob_trigger.proofs.Closing.{unaffected}
use Rattle.ob_trigger.proofs.laws.unaffected_cells_keep_values.Goals as goal

pub returns : goal.returns
returns c = λ models sides registry before behind cell computed not.
    unaffected models sides (record { registry = registry; lacks = c.reads_along_paths.ensures.lacks; means = c.meaning_by_declared_paths.ensures models registry }) before behind cell computed not
