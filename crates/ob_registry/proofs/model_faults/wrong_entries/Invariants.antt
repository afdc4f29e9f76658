use Rattle.std.proofs.Common.{◌≡◌, false, take}
use Rattle.std.specs.Prelude.{◌&&◌}
use Rattle.std.specs.List.{list_all, list_any}
use Rattle.ob_registry.specs.Faults.{orders_rows}
use Rattle.ob_registry.specs.ModelFields.{named_in}
use Rattle.ob_registry.proofs.NameTests.{misses, passes}
use Rattle.ob_registry.proofs.model_faults.wrong_entries.Given as goal

abbrev pub invariant-loop-entry : goal.invariant-loop-entry
invariant-loop-entry l = record {
  ordered : l.is_ordered ≡ (list_all (passes (λ e. e.name.now) (named_in l.model.named l.model.members.items) (λ m. orders_rows m.def)) (take l.entry-index l.entries) && l.initial.is_ordered);
  known : list_any (misses (λ e. e.name.now) (named_in l.model.named l.model.members.items)) (take l.entry-index l.entries) ≡ false;
}
