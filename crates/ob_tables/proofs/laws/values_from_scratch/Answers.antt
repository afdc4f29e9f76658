use Rattle.ob_tables.proofs.FromScratch.{is_val, only, whole}
use Rattle.ob_tables.proofs.laws.values_from_scratch.Goals as goal

pub returns-clause-is_val : goal.returns-clause-is_val
returns-clause-is_val c =
    λ models tables registry fits tied. is_val (record { along = c.reads_along_paths.ensures.meaning; lacks = c.reads_along_paths.ensures.lacks }) models tables registry fits tied

pub returns-clause-only : goal.returns-clause-only
returns-clause-only c =
    λ models tables registry fits tied. only (record { along = c.reads_along_paths.ensures.meaning; lacks = c.reads_along_paths.ensures.lacks }) models tables registry fits tied

pub returns-clause-whole : goal.returns-clause-whole
returns-clause-whole c =
    λ models tables registry fits tied. whole (record { along = c.reads_along_paths.ensures.meaning; lacks = c.reads_along_paths.ensures.lacks }) models tables registry fits tied
