-- The cells of the readers so far are marked.
use Rattle.std.proofs.Common.{take}
use Rattle.std.specs.Prelude.{Any}
use Rattle.ob_schema.specs.Facts.{OfAllTold}
use Rattle.ob_schema.specs.Plain.{plain_at}
use Rattle.ob_trigger.specs.Asking.{AskedAlone}
use Rattle.ob_trigger.specs.Marks.{KeepsCount, MarksComputed, MarksMore}
use Rattle.ob_trigger.specs.Readers.{ReadsBy}
use Rattle.ob_trigger.proofs.triggers.Triggers.mark_readers.Given as goal

abbrev pub invariant-loop-reader : goal.invariant-loop-reader
invariant-loop-reader g l = record {
  told : OfAllTold (g.W.Links.tells l.fn.worlds) (λ sides. MarksMore l.fn.marked l.marked l.fn.waiting.items l.waiting.items
      (λ other. Any (λ reader. ReadsBy (plain_at sides.before (g.W.Links.registry l.fn.worlds)) l.cell.id reader other) (take l.reader-index l.reader-items)));
  computed : MarksComputed l.self l.fn.marked l.marked;
  count : KeepsCount l.fn.marked l.marked l.fn.waiting.items l.waiting.items;
  stays : AskedAlone g.W.Links.asks g.W.Links.registry g.W.Links.tells l.fn.worlds l.worlds;
}
