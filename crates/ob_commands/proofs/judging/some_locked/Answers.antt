use Rattle.std.specs.Map.Iter.{deref}
use Rattle.std.proofs.lemmas.List.Elements.{All-rest}
use Rattle.std.proofs.lemmas.Map.Iter.{rest_more}
use Rattle.ob_effect.proofs.CallerLemmas.{asks_then}
use Rattle.ob_effect.specs.declared.notes.Touch.{Touch}
use Rattle.ob_schema.specs.Models.{HasModel}
use Rattle.ob_commands.proofs.judging.some_locked.Goals as goal

pub returns-in_err-broken-clause-asked : goal.returns-in_err-broken-clause-asked
returns-in_err-broken-clause-asked g c = asks_then g.K.Keeper _ _ _ c.loop-touch.invariant.asked c.locked.ensures.asked

pub returns-in-Some-2-clause-asked : goal.returns-in-Some-2-clause-asked
returns-in-Some-2-clause-asked g c = asks_then g.K.Keeper _ _ _ c.loop-touch.invariant.asked c.locked.ensures.asked

pub loop-touch-preserved : goal.loop-touch-preserved
loop-touch-preserved g c = record {
  asked = asks_then g.K.Keeper _ _ _ c.loop-touch.invariant.asked c.locked.ensures.asked;
  models = All-rest (λ (touch : Touch). HasModel c.args.engine.now.held.models touch.row.model) c.in-Some.touch.now c.next.new.self c.loop-touch.touch-iterator
      (rest_more deref c.loop-touch.touch-iterator c.next.new.self c.next.result c.in-Some.touch c.in-Some.is c.next.ensures.steps) c.loop-touch.invariant.models;
}

pub returns-in_err-broken-2-clause-asked : goal.returns-in_err-broken-2-clause-asked
returns-in_err-broken-2-clause-asked g c = asks_then g.K.Keeper _ _ _ c.loop-row.invariant c.locked-in-loop-row.ensures.asked

pub returns-in-Some-3-clause-asked : goal.returns-in-Some-3-clause-asked
returns-in-Some-3-clause-asked g c = asks_then g.K.Keeper _ _ _ c.loop-row.invariant c.locked-in-loop-row.ensures.asked

pub loop-row-preserved : goal.loop-row-preserved
loop-row-preserved g c = asks_then g.K.Keeper _ _ _ c.loop-row.invariant c.locked-in-loop-row.ensures.asked
