-- The rows from which the reader's steps lead here.
use Rattle.std.proofs.Common.{sym, subst}
use Rattle.ob_schema.specs.Plain.{plain_at}
use Rattle.ob_trigger.specs.Readers.{AllLead}
use Rattle.ob_trigger.proofs.Marking.{marks-as, rows-read, rows-computed}
use Rattle.ob_trigger.proofs.marks.mark_reader.Goals as goal

pub rows_to-requires : goal.rows_to-requires
rows_to-requires g c = subst (AllLead (g.W.Links.registry c.args.worlds.now)) (sym c.as_slice.ensures) c.requires

pub returns-clause-told : goal.returns-clause-told
returns-clause-told g c = λ sides tells.
    marks-as _ _ _ _ _ _ c.in_ok-mark_rows.ensures.marked
    (rows-read (plain_at sides.before (g.W.Links.registry c.args.worlds.now)) c.args.id c.args.reader.now c.in_ok-rows.rows.keys c.as_slice.result.now c.as_slice.ensures (c.in_ok-rows.ensures.told sides tells))

pub returns-clause-computed : goal.returns-clause-computed
returns-clause-computed g c = rows-computed c.args.reader.now.computed _ _ _ _ _ c.in_ok-mark_rows.ensures.marked
