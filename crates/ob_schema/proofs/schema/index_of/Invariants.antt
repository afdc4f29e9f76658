use Rattle.std.proofs.Common.{take}
use Rattle.ob_schema.specs.NameIndex.{IsIndexOf}
use Rattle.ob_schema.proofs.schema.index_of.Given as goal

abbrev pub invariant-loop-i : goal.invariant-loop-i
invariant-loop-i l = IsIndexOf l.index (take l.i l.models)
