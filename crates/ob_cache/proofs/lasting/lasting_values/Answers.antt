use Rattle.std.proofs.Common.{List, get_or, subst, sym}
use Rattle.std.proofs.lemmas.List.{get_or_default, take_all}
use Rattle.std.specs.BTreeMap as tree
use Rattle.ob_base.specs.declared.id.Cell.{Cell}
use Rattle.ob_base.specs.declared.id.RowKey.{RowKey}
use Rattle.ob_base.specs.declared.value.Value.{Value}
use Rattle.ob_cache.specs.Behind.{LosesGone}
use Rattle.ob_cache.proofs.TakenOut.{NoneOf, gone-lost, loses-none, loses-then, none-begun, none-more, there-last}
use Rattle.ob_change.specs.Changing.{models_of, sides_of}
use Rattle.ob_cache.proofs.lasting.lasting_values.Goals as goal

pub loop-key-init : goal.loop-key-init
loop-key-init c =
    let tables = c.args.change.behind.now.tables in
    record {
      loses = subst (λ (m : tree.BTreeMap Cell Value). LosesGone tables c.args.before.now m) (sym c.in_ok-values.ensures) (loses-none tables c.args.before.now);
      none = none-begun (models_of c.args.change) tables c.in_ok-values.values;
    }

pub loop-key-preserved : goal.loop-key-preserved
loop-key-preserved c =
    let tables = c.args.change.behind.now.tables in
    let keys = c.args.change.touched.now in
    let i = c.loop-key.key-index in
    let none : RowKey = record { model = record { 0 = 0 }; id = record { 0 = 0 } } in
    let key = get_or keys i none in
    let low = c.loop-key-test.true in
    let old = c.loop-key.values in
    let new = c.take_out_gone.new.values in
    let told = c.in_ok-take_out_gone.ensures in
    record {
      loses = loses-then tables c.args.before.now old new c.loop-key.invariant.loses told.loses;
      none = none-more (models_of c.args.change) tables keys i key low (get_or_default keys i none key low) old new told.loses told.gone c.loop-key.invariant.none;
    }

pub returns-clause-lasting : goal.returns-clause-lasting
returns-clause-lasting c = there-last (models_of c.args.change) (sides_of c.args.change) c.args.before.now c.loop-key.values c.loop-key.invariant.loses

pub returns-clause-gone : goal.returns-clause-gone
returns-clause-gone c =
    let keys = c.args.change.touched.now in
    gone-lost (models_of c.args.change) (sides_of c.args.change) c.args.before.now c.loop-key.values c.loop-key.invariant.loses keys c.requires.touches c.requires.before
    (subst (λ (l : List RowKey). NoneOf (models_of c.args.change) c.args.change.behind.now.tables l c.loop-key.values) (take_all c.loop-key.key-index keys c.loop-key-test.false) c.loop-key.invariant.none)
