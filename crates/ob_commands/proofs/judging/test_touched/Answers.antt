use Rattle.std.proofs.Common.{◌≡◌, sym, true, ◌∙◌}
use Rattle.std.proofs.lemmas.List.Elements.{All-rest}
use Rattle.std.proofs.lemmas.Map.Iter.{rest_more}
use Rattle.std.proofs.lemmas.Result.{err_from_is_err_and}
use Rattle.std.specs.Map.Iter.{deref}
use Rattle.ob_commands.proofs.JudgedEdits.{asked-judges, told-behind}
use Rattle.ob_effect.proofs.CallerLemmas.{asks_then}
use Rattle.ob_effect.specs.declared.notes.Touch.{Touch}
use Rattle.ob_schema.specs.Facts.{Told}
use Rattle.ob_schema.specs.Models.{HasModel}
use Rattle.ob_commands.proofs.judging.test_touched.Goals as goal

pub returns-in_err-was_there-clause-asked : goal.returns-in_err-was_there-clause-asked
returns-in_err-was_there-clause-asked g c = asks_then g.K.Keeper _ _ _ c.loop-touch.invariant.asked c.was_there.ensures.asked

pub test_row-requires-clause-known : goal.test_row-requires-clause-known
test_row-requires-clause-known g c =
    let row = c.in-Some.touch.now.row in
    told-behind g.K.Keeper _ _ c.was_there.ensures.asked (λ (told : Told). told.knows row.model row.id ≡ true) (λ told tells. sym (c.in_ok-was_there.ensures.told told tells) ∙ c.if-branch.true)

pub loop-touch-preserved-in-Continue-branch-2 : goal.loop-touch-preserved-in-Continue-branch-2
loop-touch-preserved-in-Continue-branch-2 g c = record {
  asked = asks_then g.K.Keeper _ _ _ (asks_then g.K.Keeper _ _ _ c.loop-touch.invariant.asked c.was_there.ensures.asked) c.test_row.ensures.asked;
  models = All-rest (λ (touch : Touch). HasModel c.args.engine.now.held.models touch.row.model) c.in-Some.touch.now c.next.new.self c.loop-touch.touch-iterator
      (rest_more deref c.loop-touch.touch-iterator c.next.new.self c.next.result c.in-Some.touch c.in-Some.is c.next.ensures.steps) c.loop-touch.invariant.models;
}

pub returns-in_err-test_row-clause-refused : goal.returns-in_err-test_row-clause-refused
returns-in_err-test_row-clause-refused g c =
    let p = err_from_is_err_and c.from_residual-in_err-test_row.result c.from_residual-in_err-test_row.ensures.1 in
    let touch = c.in-Some.touch.now in
    rw (p.1, p.2) (asked-judges g.K.Keeper c.args.writer.now.by _ _ c.requires.usable (asks_then g.K.Keeper _ _ _ c.loop-touch.invariant.asked c.was_there.ensures.asked) (g.K.Keeper.faults c.test_row.new.engine.keeper.now)
    touch.op touch.row c.in_err-test_row.field-0.0 c.in_err-test_row.ensures.refused)

pub returns-in_err-test_row-clause-asked : goal.returns-in_err-test_row-clause-asked
returns-in_err-test_row-clause-asked g c = asks_then g.K.Keeper _ _ _ (asks_then g.K.Keeper _ _ _ c.loop-touch.invariant.asked c.was_there.ensures.asked) c.test_row.ensures.asked

pub loop-touch-preserved : goal.loop-touch-preserved
loop-touch-preserved g c = record {
  asked = asks_then g.K.Keeper _ _ _ c.loop-touch.invariant.asked c.was_there.ensures.asked;
  models = All-rest (λ (touch : Touch). HasModel c.args.engine.now.held.models touch.row.model) c.in-Some.touch.now c.next.new.self c.loop-touch.touch-iterator
      (rest_more deref c.loop-touch.touch-iterator c.next.new.self c.next.result c.in-Some.touch c.in-Some.is c.next.ensures.steps) c.loop-touch.invariant.models;
}
