use Rattle.std.proofs.Common.{◌≡◌, ◌+◌, drop, length, take}
use Rattle.std.specs.Prelude.{All}
use Rattle.std.specs.List.{AllZip}
use Rattle.std.specs.Vec.Iter.{into_iter_items, into_iter_len}
use Rattle.ob_registry.specs.Building.{HasNativeDefaults}
use Rattle.ob_schema.specs.Built.{IsModelOf}
use Rattle.ob_registry.proofs.building.infos_of.Given as goal

abbrev pub invariant-loop-own : goal.invariant-loop-own
invariant-loop-own l = record {
  rest : into_iter_items l.own-iterator ≡ drop l.place l.fn.formulas.items;
  left : l.place + into_iter_len l.own-iterator ≡ length l.fn.formulas.items;
  of : AllZip (IsModelOf l.models) (take l.place l.models) l.infos;
  native : All HasNativeDefaults l.infos;
}
