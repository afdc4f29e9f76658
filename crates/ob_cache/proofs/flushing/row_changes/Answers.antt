use Rattle.std.proofs.Common.{get_or, subst, sym}
use Rattle.std.proofs.lemmas.List.{get_or_default}
use Rattle.ob_base.specs.declared.id.RowKey.{RowKey}
use Rattle.ob_cache.proofs.Gathering.{TurnedTo, turned-all, turned-more, turned-none}
use Rattle.ob_cache.proofs.flushing.row_changes.Goals as goal

pub loop-key-init : goal.loop-key-init
loop-key-init c = subst (TurnedTo c.args.old.now c.args.new.now _) (sym c.new-changes.ensures) (turned-none c.args.old.now c.args.new.now)

pub loop-key-preserved : goal.loop-key-preserved
loop-key-preserved c =
    let keys = c.args.keys.now in
    let i = c.loop-key.key-index in
    let none : RowKey = record { model = record { 0 = 0 }; id = record { 0 = 0 } } in
    let key = get_or keys i none in
    let low = c.loop-key-test.true in
    turned-more c.args.old.now c.args.new.now keys i key low (get_or_default keys i none key low) c.loop-key.changes c.add_row.new.changes c.loop-key.invariant c.in_ok-add_row.ensures

pub returns : goal.returns
returns c = turned-all c.args.old.now c.args.new.now c.args.keys.now c.loop-key.key-index c.loop-key-test.false c.requires.others c.loop-key.changes c.loop-key.invariant
