use Rattle.std.proofs.Common.{None, false, pos, arith}
use Rattle.std.proofs.lemmas.List.{append-nil}
use Rattle.std.proofs.lemmas.List.Elements.{filter_more}
use Rattle.wh_quant.specs.declared.quant.Quant.{Quant}
use Rattle.wh_quant.specs.Indexed.{stays_beside}
use Rattle.wh_quant.proofs.moving.left_after.Goals as goal

-- where a list has no quant
abbrev none : Quant
none = record { id = record { 0 = 0 }; product = record { 0 = 0 }; place = record { 0 = 0 }; lot = None; quantity = pos 0; reserved = pos 0; in_date = pos 0; guarded = false }

pub loop-quant-preserved : goal.loop-quant-preserved
loop-quant-preserved c =
    let more = filter_more (stays_beside c.args.touched.now) c.args.quants.now c.loop-quant.quant-index none c.loop-quant-test.true in
    grind (arith, more, append-nil)
