use Rattle.std.proofs.Common.{◌<◌}
use Rattle.serde_json.specs.Data.{depth, members_depth}
use Rattle.serde_json.specs.View.{members_view, view}
use Rattle.ob_effect.specs.Objects.{IsObjectFor, deepest_of}
use Rattle.ob_effect.proofs.object.object_of.Given as goal

-- what the members so far give fits, and it and those that are left are less deep than the object
abbrev pub invariant-loop-name : goal.invariant-loop-name
invariant-loop-name l = record {
  fits : IsObjectFor l.schema l.model l.object;
  low : deepest_of l.object.orders.items < depth (view l.fn.json);
  rest : members_depth (members_view l.name-iterator) < depth (view l.fn.json);
}
