-- What the modules so far declare is a part of what all do.
use Rattle.std.proofs.Common.{List}
use Rattle.ob_module.specs.Modules.{Module, numbered}
use Rattle.ob_module.specs.Rooms.{modules_in}
use Rattle.ob_load.proofs.DeclaredTo.{IsDeclaredTo}
use Rattle.ob_load.proofs.policy.meaning_of.Given as goal

abbrev pub invariant-loop-number : goal.invariant-loop-number
invariant-loop-number l = (all : List Module) → numbered (modules_in l.modules) l.taken all → IsDeclaredTo l.schema all l.number-index l.groups l.declared l.brought
