use Rattle.std.proofs.Common.{◌≡◌, pos, map, take}
use Rattle.std.specs.Prelude.{int_lt}
use Rattle.std.specs.List.{filter}
use Rattle.wh_quant.specs.declared.stock.Stock.{Stock}
use Rattle.wh_quant.proofs.taking.ranked.Given as goal

abbrev pub invariant-loop-stock : goal.invariant-loop-stock
invariant-loop-stock l = map (λ s. s.now) l.candidates.items ≡ filter (λ (s : Stock). int_lt (pos 0) s.free) (take l.stock-index l.free)
