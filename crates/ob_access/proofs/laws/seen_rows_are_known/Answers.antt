-- What is seen is known, and a filter keeps what passes.
use Rattle.std.proofs.lemmas.List.Elements.{filter_passes}
use Rattle.ob_base.specs.declared.id.RecId.{RecId}
use Rattle.ob_base.specs.declared.refusal.Op.TheVariants as op
use Rattle.ob_expr.specs.Meaning.{row_at}
use Rattle.ob_access.specs.Admission.{admits}
use Rattle.ob_access.specs.Rights.{right}
use Rattle.ob_access.specs.Views.{sees}
use Rattle.ob_access.proofs.Seeing.{known-from_seen}
use Rattle.ob_access.proofs.laws.seen_rows_are_known.Goals as goal

pub returns-clause-rows : goal.returns-clause-rows
returns-clause-rows c = λ policy told own user model id.
    known-from_seen (told.knows model id) (right policy own user model op.Read) (admits policy told own user op.Read (row_at model id))

pub returns-clause-lists : goal.returns-clause-lists
returns-clause-lists c = λ policy told own user model ids. filter_passes (λ (id : RecId). sees policy told own user model id) ids
