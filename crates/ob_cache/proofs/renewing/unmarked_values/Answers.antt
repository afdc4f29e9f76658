use Rattle.std.proofs.Common.{get_or, subst}
use Rattle.std.proofs.lemmas.List.{get_or_default}
use Rattle.ob_base.specs.declared.id.Cell.{Cell}
use Rattle.ob_change.specs.Changing.{models_of, sides_of}
use Rattle.ob_schema.specs.Models.{IsRegistry}
use Rattle.ob_cache.proofs.MarkedValues.{all-unmarked, unmarked-begun, unmarked-more, unmarked-right}
use Rattle.ob_cache.proofs.renewing.unmarked_values.Goals as goal

pub loop-cell-init : goal.loop-cell-init
loop-cell-init c =
    unmarked-begun (models_of c.args.change) (sides_of c.args.change) c.args.before.now c.in_ok-values.values c.requires.before c.in_ok-values.ensures.lasting c.in_ok-values.ensures.gone

pub loop-cell-preserved : goal.loop-cell-preserved
loop-cell-preserved c =
    let cells = c.args.marked.now in
    let i = c.loop-cell.cell-index in
    let none : Cell = record { model = record { 0 = 0 }; id = record { 0 = 0 }; field = record { 0 = 0 } } in
    let cell = get_or cells i none in
    let low = c.loop-cell-test.true in
    unmarked-more (models_of c.args.change) (sides_of c.args.change) cells i cell low (get_or_default cells i none cell low) c.loop-cell.values c.remove.new.self c.in_ok-remove.ensures.updates.0 c.loop-cell.invariant

pub returns-clause-right : goal.returns-clause-right
returns-clause-right c =
    let models = models_of c.args.change in
    let sides = sides_of c.args.change in
    let registry = subst IsRegistry c.args.change.behind_over c.fit_together.ensures.registry in
    unmarked-right models sides c.args.marked.now c.loop-cell.values c.requires.marked (λ cell computed not. c.others_keep_values.ensures models sides cell registry c.requires.sound computed not)
    (all-unmarked models sides c.args.marked.now c.loop-cell.cell-index c.loop-cell-test.false c.loop-cell.values c.loop-cell.invariant)

pub returns-clause-others : goal.returns-clause-others
returns-clause-others c =
    (all-unmarked (models_of c.args.change) (sides_of c.args.change) c.args.marked.now c.loop-cell.cell-index c.loop-cell-test.false c.loop-cell.values c.loop-cell.invariant).all
