use Rattle.std.proofs.Common.{◌+◌, subst}
use Rattle.ob_base.specs.declared.id.Cell.{Cell}
use Rattle.ob_cache.proofs.TakenOut.{Takes, loses-none, loses-one, loses-then, up_to-all, up_to-more, up_to-none}
use Rattle.ob_change.specs.Changing.{models_of}
use Rattle.ob_cache.proofs.lasting.take_out_row.Goals as goal

pub loop-place-init : goal.loop-place-init
loop-place-init c = record { loses = loses-none c.args.change.behind.now.tables c.args.values.now; none = up_to-none (models_of c.args.change) c.args.key c.args.values.now }

pub loop-place-preserved : goal.loop-place-preserved
loop-place-preserved c =
    let tables = c.args.change.behind.now.tables in
    let key = c.args.key in
    let place = c.loop-place.place in
    let old = c.loop-place.values in
    let new = c.remove.new.self in
    let cell : Cell = record { model = key.model; id = key.id; field = record { 0 = place + 1 } } in
    let takes : Takes cell old new = subst (λ (k : Cell). Takes k old new) c.cell_in.ensures c.in_ok-remove.ensures.updates.0 in
    record {
      loses = loses-then tables c.args.values.now old new c.loop-place.invariant.loses (loses-one tables old new cell c.requires takes);
      none = up_to-more (models_of c.args.change) key place old new takes c.loop-place.invariant.none;
    }

pub returns-clause-loses : goal.returns-clause-loses
returns-clause-loses c = c.loop-place.invariant.loses

pub returns-clause-gone : goal.returns-clause-gone
returns-clause-gone c =
    up_to-all (models_of c.args.change) c.args.key c.last_field-count.result c.loop-place.place c.last_field-count.ensures c.loop-place-test.false c.loop-place.values c.loop-place.invariant.none
