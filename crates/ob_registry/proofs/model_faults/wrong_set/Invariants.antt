use Rattle.std.proofs.Common.{◌≡◌, false, take}
use Rattle.std.specs.Prelude.{◌&&◌}
use Rattle.std.specs.List.{list_all, list_any}
use Rattle.ob_registry.specs.Faults.{is_plain_kept}
use Rattle.ob_registry.specs.ModelFields.{named_in}
use Rattle.ob_registry.proofs.NameTests.{misses, passes}
use Rattle.ob_registry.proofs.model_faults.wrong_set.Given as goal

abbrev pub invariant-loop-name : goal.invariant-loop-name
invariant-loop-name l = record {
  kept : l.is_kept ≡ (list_all (passes (λ x. x) (named_in l.model.named l.model.members.items) is_plain_kept) (take l.name-index l.name-items) && l.initial.is_kept);
  known : list_any (misses (λ x. x) (named_in l.model.named l.model.members.items)) (take l.name-index l.name-items) ≡ false;
}
