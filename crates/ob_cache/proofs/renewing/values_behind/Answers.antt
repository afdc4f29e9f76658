use Rattle.std.proofs.Common.{◌≡◌, ◌+◌, List, get_or, length, refl, subst, sym, ◌∙◌, arith}
use Rattle.std.proofs.lemmas.List.{get_or_default}
use Rattle.ob_base.specs.declared.id.Cell.{Cell}
use Rattle.ob_cache.specs.Behind.{AreKnown}
use Rattle.ob_cache.specs.Rooms.{AreRight}
use Rattle.ob_cache.proofs.CellOrder.{cell-exact}
use Rattle.ob_cache.proofs.Inserting.{insert-keeps, insert-right}
use Rattle.ob_cache.proofs.MarkedValues.{all-done, all-pass, contains-none, done-more, others-stand, passes-more, passes-none, renewed-all}
use Rattle.ob_cache.proofs.Ticking.{no-ticks, not-done, ticked-more}
use Rattle.ob_change.specs.Changing.{models_of, sides_of}
use Rattle.ob_schema.specs.Tables.{Standing}
use Rattle.ob_schema.specs.Tied.{IsTied}
use Rattle.ob_schema.specs.declared.info.ModelInfo.{ModelInfo}
use Rattle.ob_cache.proofs.renewing.values_behind.Goals as goal

pub of-requires : goal.of-requires
of-requires g c = subst (λ (m : List ModelInfo). IsTied m c.args.change.behind.now.tables) (sym c.args.change.behind_over) c.requires.tied

pub know_read-requires : goal.know_read-requires
unfolding AreKnown
know_read-requires g c = record {
  right = subst (λ (s : Standing). AreRight s.models s.tables c.in_ok-values.values) (sym c.in_ok-source.ensures)
      (subst (λ (m : List ModelInfo). AreRight m c.args.change.behind.now.tables c.in_ok-values.values) (sym c.args.change.behind_over) c.in_ok-values.ensures.right);
}

pub loop-cell-init : goal.loop-cell-init
loop-cell-init g c = record {
  few = omega arith;
  ticks = refl;
  same = c.know_read.ensures ∙ c.in_ok-source.ensures;
  right = c.in_ok-values.ensures.right;
  others = c.in_ok-values.ensures.others;
  done = λ cell one. absurd (contains-none cell one);
  passes = passes-none (models_of c.args.change) (sides_of c.args.change);
}

pub value_behind-requires-clause-source : goal.value_behind-requires-clause-source
value_behind-requires-clause-source g c = c.loop-cell.invariant.same

pub value_behind-requires-clause-known : goal.value_behind-requires-clause-known
unfolding AreKnown
value_behind-requires-clause-known g c = subst (λ (m : List ModelInfo). AreRight m c.args.change.behind.now.tables c.loop-cell.values) (sym c.args.change.behind_over) c.loop-cell.invariant.right

pub value_behind-requires-clause-cell : goal.value_behind-requires-clause-cell
value_behind-requires-clause-cell g c =
    let none : Cell = record { model = record { 0 = 0 }; id = record { 0 = 0 }; field = record { 0 = 0 } } in
    c.requires.marked.behind c.loop-cell.cell-index none c.loop-cell-test.true

pub loop-cell-preserved : goal.loop-cell-preserved
loop-cell-preserved g c =
    let models = models_of c.args.change in
    let sides = sides_of c.args.change in
    let cells = c.args.marked.now in
    let i = c.loop-cell.cell-index in
    let none : Cell = record { model = record { 0 = 0 }; id = record { 0 = 0 }; field = record { 0 = 0 } } in
    let cell = get_or cells i none in
    let low = c.loop-cell-test.true in
    let at = get_or_default cells i none cell low in
    let old = c.loop-cell.values in
    let new = c.put.new.values in
    let v = c.in_ok-value.value in
    let updates = c.in_ok-put.ensures in
    let unbroken = c.in_ok-value.ensures.unbroken in
    let keeps = insert-keeps cell-exact old new cell v updates in
    record {
      few = omega (arith, low);
      ticks = ticked-more g.L.Ledger.noted i c.args.steps.now c.loop-cell.steps c.tick.new.self c.loop-cell.invariant.ticks c.tick.ensures;
      same = c.value_behind.ensures.same ∙ c.loop-cell.invariant.same;
      right = insert-right cell-exact old new cell v updates models sides.behind (c.requires.marked.behind i none low) unbroken.value c.loop-cell.invariant.right;
      others = others-stand models sides cells old new keeps c.loop-cell.invariant.others;
      done = done-more models sides cells i cell low at old new v updates keeps c.loop-cell.invariant.done;
      passes = passes-more models sides cells i cell low at unbroken.passes c.loop-cell.invariant.passes;
    }

pub returns-clause-unbroken : goal.returns-clause-unbroken
returns-clause-unbroken g c =
    let models = models_of c.args.change in
    let sides = sides_of c.args.change in
    let cells = c.args.marked.now in
    let i = c.loop-cell.cell-index in
    let long = c.loop-cell-test.false in
    record {
      passes = all-pass models sides cells i long c.loop-cell.invariant.passes;
      told = renewed-all models sides cells c.loop-cell.values c.requires.marked c.loop-cell.invariant.right c.loop-cell.invariant.others
          (all-done models sides cells i long c.loop-cell.values c.loop-cell.invariant.done);
    }

pub returns-in_err-values-clause-ticks : goal.returns-in_err-values-clause-ticks
returns-in_err-values-clause-ticks g c = no-ticks g.L.Ledger.noted (length c.args.marked.now) _ c.args.steps.now (λ is. not-done _ c.from_residual.result c.from_residual.ensures.1 is)

pub returns-in_err-source-clause-ticks : goal.returns-in_err-source-clause-ticks
returns-in_err-source-clause-ticks g c = no-ticks g.L.Ledger.noted (length c.args.marked.now) _ c.args.steps.now (λ is. not-done _ c.from_residual-in_err-source.result c.from_residual-in_err-source.ensures.1 is)

pub returns-in_err-know_read-clause-ticks : goal.returns-in_err-know_read-clause-ticks
returns-in_err-know_read-clause-ticks g c = no-ticks g.L.Ledger.noted (length c.args.marked.now) _ c.args.steps.now (λ is. not-done _ c.from_residual-in_err-know_read.result c.from_residual-in_err-know_read.ensures.1 is)

pub returns-in_err-value-clause-ticks : goal.returns-in_err-value-clause-ticks
returns-in_err-value-clause-ticks g c =
    let i = c.loop-cell.cell-index in
    let low = c.loop-cell-test.true in
    (i + 1, omega (arith, low), ticked-more g.L.Ledger.noted i c.args.steps.now c.loop-cell.steps c.tick.new.self c.loop-cell.invariant.ticks c.tick.ensures, λ is. absurd (not-done _ c.from_residual-in_err-value.result c.from_residual-in_err-value.ensures.1 is))

pub returns-in_err-put-clause-ticks : goal.returns-in_err-put-clause-ticks
returns-in_err-put-clause-ticks g c =
    let i = c.loop-cell.cell-index in
    let low = c.loop-cell-test.true in
    (i + 1, omega (arith, low), ticked-more g.L.Ledger.noted i c.args.steps.now c.loop-cell.steps c.tick.new.self c.loop-cell.invariant.ticks c.tick.ensures, λ is. absurd (not-done _ c.from_residual-in_err-put.result c.from_residual-in_err-put.ensures.1 is))

pub returns-clause-ticks : goal.returns-clause-ticks
returns-clause-ticks g c =
    let few = c.loop-cell.invariant.few in
    let all = c.loop-cell-test.false in
    let same : c.loop-cell.cell-index ≡ length c.args.marked.now = omega (arith, few, all) in (c.loop-cell.cell-index, few, c.loop-cell.invariant.ticks, λ is. same)
