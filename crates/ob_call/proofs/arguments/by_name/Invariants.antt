use Rattle.std.proofs.Common.{◌≡◌, length}
use Rattle.ob_call.proofs.Reading.{IsNamedTo}
use Rattle.ob_call.proofs.arguments.by_name.Given as goal

abbrev pub invariant-loop-name : goal.invariant-loop-name
invariant-loop-name g l = record {
  sized : length l.given.items ≡ length l.expected;
  told : IsNamedTo g.F.Form.fault l.expected l.members.entries l.fn.given.items l.name-iterator l.given.items;
}
