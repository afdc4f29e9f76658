-- Each command that is carried out has objects less deep than the one before it.
use Rattle.std.proofs.Common.{◌+◌, ◌*◌}
use Rattle.serde_json.specs.Data.{depth}
use Rattle.serde_json.specs.View.{view}
use Rattle.ob_effect.proofs.CallSteps.{Goes}
use Rattle.ob_effect.specs.Objects.{command_depth, deepest, deepest_of}
use Rattle.ob_effect.proofs.effect.+effect.Given as goal

abbrev pub decreases-create_in : goal.decreases-create_in
decreases-create_in g l = 7 * depth (view l.json.now)

abbrev pub decreases-update_in : goal.decreases-update_in
decreases-update_in g l = 7 * depth (view l.json.now)

abbrev pub decreases-carry_command : goal.decreases-carry_command
decreases-carry_command g l = 7 * command_depth l.command.now + 1

abbrev pub decreases-carry_list : goal.decreases-carry_list
decreases-carry_list g l = 7 * deepest l.commands.now + 2

abbrev pub decreases-carry_fixed : goal.decreases-carry_fixed
decreases-carry_fixed g l = 7 * deepest l.commands.now + 3

abbrev pub decreases-carry_field : goal.decreases-carry_field
decreases-carry_field g l = 7 * deepest l.one.orders.now.commands + 4

abbrev pub decreases-carry_all : goal.decreases-carry_all
decreases-carry_all g l = 7 * deepest_of l.object.now.orders.items + 5

abbrev pub decreases-create_row : goal.decreases-create_row
decreases-create_row g l = 7 * deepest_of l.object.now.orders.items + 6

abbrev pub decreases-write_row : goal.decreases-write_row
decreases-write_row g l = 7 * deepest_of l.object.now.orders.items + 6

-- the lists so far are changed
abbrev pub invariant-carry_all-loop-one : goal.invariant-carry_all-loop-one
invariant-carry_all-loop-one g l = Goes g.K.Keeper l.fn.engine l.engine l.notes

-- and the commands so far carried out
abbrev pub invariant-carry_list-loop-command : goal.invariant-carry_list-loop-command
invariant-carry_list-loop-command g l = Goes g.K.Keeper l.fn.engine l.engine l.notes
