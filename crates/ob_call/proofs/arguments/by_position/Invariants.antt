use Rattle.std.proofs.Common.{◌≡◌, length}
use Rattle.serde_json.specs.View.{view}
use Rattle.ob_call.proofs.Reading.{IsReadTo}
use Rattle.ob_call.proofs.arguments.by_position.Given as goal

abbrev pub invariant-loop-number : goal.invariant-loop-number
invariant-loop-number g l = record {
  sized : length l.given.items ≡ l.number;
  told : IsReadTo g.F.Form.fault (view l.kw) l.expected l.items l.given.items l.number;
}
