use Rattle.std.proofs.Common.{◌≡◌, List, subst, sym, true, ◌∙◌}
use Rattle.std.proofs.lemmas.List.Elements.{All-rest}
use Rattle.std.proofs.lemmas.Map.Iter.{rest_more}
use Rattle.std.proofs.lemmas.Result.{err_from_is_err_and}
use Rattle.std.specs.Map.Iter.{deref}
use Rattle.ob_base.specs.declared.id.RowKey.{RowKey}
use Rattle.ob_commands.proofs.JudgedEdits.{asked-denies, next-holds, set-holds, told-behind}
use Rattle.ob_effect.proofs.CallerLemmas.{asks_none, asks_then}
use Rattle.ob_schema.specs.Facts.{Told}
use Rattle.ob_schema.specs.Models.{HasModel}
use Rattle.ob_schema.specs.declared.info.ModelInfo.{ModelInfo}
use Rattle.ob_commands.proofs.judging.test_made.Goals as goal

pub loop-row-init : goal.loop-row-init
loop-row-init g c = record {
  asked = asks_none g.K.Keeper c.args.engine.now;
  models = set-holds (λ (row : RowKey). HasModel c.args.engine.now.held.models row.model) c.args.notes.now.made.items c.as_slice.result.now c.in_ok-made.made.keys c.into_iter-row-iterator.result c.as_slice.ensures.value
      c.in_ok-made.ensures c.into_iter-row-iterator.ensures.into_iter_gives.0 c.requires.models;
}

pub was_there-requires : goal.was_there-requires
was_there-requires g c =
    let row = c.in-Some.row.now in
    let rest = rest_more deref c.loop-row.row-iterator c.next.new.self c.next.result c.in-Some.row c.in-Some.is c.next.ensures.steps in
    record {
      model = subst (λ (ms : List ModelInfo). HasModel ms row.model) (sym c.loop-row.invariant.asked.same.models)
          (next-holds (λ (r : RowKey). HasModel c.args.engine.now.held.models r.model) c.loop-row.row-iterator c.next.new.self row rest c.loop-row.invariant.models);
    }

pub returns-in_err-was_there-clause-asked : goal.returns-in_err-was_there-clause-asked
returns-in_err-was_there-clause-asked g c = asks_then g.K.Keeper _ _ _ c.loop-row.invariant.asked c.was_there.ensures.asked

pub test_row-requires-clause-known : goal.test_row-requires-clause-known
test_row-requires-clause-known g c =
    let row = c.in-Some.row.now in
    told-behind g.K.Keeper _ _ c.was_there.ensures.asked (λ (told : Told). told.knows row.model row.id ≡ true) (λ told tells. sym (c.in_ok-was_there.ensures.told told tells) ∙ c.if-branch.true)

pub loop-row-preserved-in-Continue-branch-3 : goal.loop-row-preserved-in-Continue-branch-3
loop-row-preserved-in-Continue-branch-3 g c = record {
  asked = asks_then g.K.Keeper _ _ _ (asks_then g.K.Keeper _ _ _ c.loop-row.invariant.asked c.was_there.ensures.asked) c.test_row.ensures.asked;
  models = All-rest (λ (row : RowKey). HasModel c.args.engine.now.held.models row.model) c.in-Some.row.now c.next.new.self c.loop-row.row-iterator
      (rest_more deref c.loop-row.row-iterator c.next.new.self c.next.result c.in-Some.row c.in-Some.is c.next.ensures.steps) c.loop-row.invariant.models;
}

pub returns-in_err-test_row-clause-refused : goal.returns-in_err-test_row-clause-refused
returns-in_err-test_row-clause-refused g c =
    let p = err_from_is_err_and c.from_residual-in_err-test_row.result c.from_residual-in_err-test_row.ensures.1 in
    rw (p.1, p.2) (asked-denies g.K.Keeper c.args.writer.now.by _ _ (asks_then g.K.Keeper _ _ _ c.loop-row.invariant.asked c.was_there.ensures.asked) (g.K.Keeper.faults c.test_row.new.engine.keeper.now)
    c.in-Some.row.now c.in_err-test_row.field-0.0 c.in_err-test_row.ensures.refused)

pub returns-in_err-test_row-clause-asked : goal.returns-in_err-test_row-clause-asked
returns-in_err-test_row-clause-asked g c = asks_then g.K.Keeper _ _ _ (asks_then g.K.Keeper _ _ _ c.loop-row.invariant.asked c.was_there.ensures.asked) c.test_row.ensures.asked

pub loop-row-preserved : goal.loop-row-preserved
loop-row-preserved g c = record {
  asked = asks_then g.K.Keeper _ _ _ c.loop-row.invariant.asked c.was_there.ensures.asked;
  models = All-rest (λ (row : RowKey). HasModel c.args.engine.now.held.models row.model) c.in-Some.row.now c.next.new.self c.loop-row.row-iterator
      (rest_more deref c.loop-row.row-iterator c.next.new.self c.next.result c.in-Some.row c.in-Some.is c.next.ensures.steps) c.loop-row.invariant.models;
}
