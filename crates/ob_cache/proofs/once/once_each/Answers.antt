use Rattle.std.proofs.Common.{List, subst}
use Rattle.std.proofs.lemmas.List.{take_all}
use Rattle.ob_base.specs.declared.id.RowKey.{RowKey}
use Rattle.ob_cache.proofs.OnceEach.{AreListed, next-row}
use Rattle.ob_cache.proofs.once.once_each.Goals as goal

pub loop-row-preserved : goal.loop-row-preserved
loop-row-preserved c =
    let none : RowKey = record { model = record { 0 = 0 }; id = record { 0 = 0 } } in
    let once = c.loop-row.once.items in
    let now = c.add_new.new.once.items in (
      c.in_ok-add_new.ensures.met,
      next-row c.args.rows.now c.loop-row.row-index none once now c.loop-row-test.true c.loop-row.invariant.1 c.in_ok-add_new.ensures.kept c.in_ok-add_new.ensures.added,
    )

pub returns : goal.returns
returns c = subst (λ (l : List RowKey). AreListed l c.loop-row.once.items) (take_all c.loop-row.row-index c.args.rows.now c.loop-row-test.false) c.loop-row.invariant.1
