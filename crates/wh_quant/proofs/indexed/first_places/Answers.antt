use Rattle.std.proofs.Common.{sym, None, false, take, get_or, pos, arith, length-take-le}
use Rattle.std.proofs.lemmas.List.{take_more}
use Rattle.wh_quant.specs.declared.quant.Quant.{Quant}
use Rattle.wh_quant.proofs.Places.{indexed_skip_tested, indexed_push_tested}
use Rattle.wh_quant.proofs.indexed.first_places.Goals as goal
use Rattle.wh_quant.proofs.indexed.first_places.Goals.{then-not-contains_key+in_ok-insert, else-not-contains_key}

pub loop-place-preserved : goal.loop-place-preserved
loop-place-preserved c =
    let none : Quant = record { id = record { 0 = 0 }; product = record { 0 = 0 }; place = record { 0 = 0 }; lot = None; quantity = pos 0; reserved = pos 0; in_date = pos 0; guarded = false } in
    let quant = get_or c.args.quants.now c.loop-place.place none in
    let seen = take c.loop-place.place c.args.quants.now in
    let more = take_more c.args.quants.now c.loop-place.place none c.loop-place-test.true in
    elim c.if-not-contains_key.branch [
      | then-not-contains_key+in_ok-insert w ↦ rw (w.places-is, more)
          (indexed_push_tested c.loop-place.places w.insert.new.self seen quant c.spot.result w.spot-then-not-contains_key.result c.loop-place.place c.contains_key.result
          c.loop-place.invariant c.spot.ensures w.spot-then-not-contains_key.ensures (sym (length-take-le c.loop-place.place c.args.quants.now (omega arith)))
          c.contains_key.ensures w.if-not-contains_key.true (λ spot. w.in_ok-insert.ensures.updates.0 spot))
      | else-not-contains_key w ↦ rw (w.places-is, more)
          (indexed_skip_tested c.loop-place.places seen quant c.spot.result c.contains_key.result c.loop-place.invariant c.spot.ensures c.contains_key.ensures w.if-not-contains_key.false)
    ]
