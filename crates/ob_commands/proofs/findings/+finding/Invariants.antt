-- What is found so far is told rightly; objects are less deep than those around them.
use Rattle.std.proofs.Common.{◌+◌, ◌*◌, ◌<◌}
use Rattle.serde_json.specs.Data.{depth, members_depth}
use Rattle.serde_json.specs.View.{members_view, view}
use Rattle.ob_commands.specs.Finding.{IsFound}
use Rattle.ob_effect.specs.Objects.{command_depth, deepest}
use Rattle.ob_commands.proofs.findings.+finding.Given as goal

abbrev pub decreases-findings_in : goal.decreases-findings_in
decreases-findings_in l = 4 * depth (view l.json.now)

abbrev pub decreases-find_in_member : goal.decreases-find_in_member
decreases-find_in_member l = 4 * depth (view l.json.now) + 3

abbrev pub decreases-find_in_list : goal.decreases-find_in_list
decreases-find_in_list l = 4 * deepest l.commands + 2

abbrev pub decreases-find_in_command : goal.decreases-find_in_command
decreases-find_in_command l = 4 * command_depth l.command.now + 1

abbrev pub invariant-findings_in-loop-name : goal.invariant-findings_in-loop-name
invariant-findings_in-loop-name l = record {
  found : IsFound l.finder.by l.found;
  rest : members_depth (members_view l.name-iterator) < depth (view l.fn.json);
}

abbrev pub invariant-find_in_list-loop-number : goal.invariant-find_in_list-loop-number
invariant-find_in_list-loop-number l = IsFound l.finder.by l.fn.found → IsFound l.finder.by l.found
