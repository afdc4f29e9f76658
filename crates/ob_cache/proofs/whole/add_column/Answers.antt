use Rattle.std.proofs.Common.{◌≤◌, ◌∙◌, List, get_or, length, take, subst}
use Rattle.std.proofs.lemmas.List.{get_or_default}
use Rattle.ob_base.specs.declared.id.RecId.{RecId}
use Rattle.ob_cache.specs.Rooms.{AreRight}
use Rattle.ob_cache.proofs.Filling.{HaveRows, rows-all, rows-more}
use Rattle.ob_schema.specs.Tables.{Standing}
use Rattle.ob_cache.proofs.whole.add_column.Goals as goal

pub loop-id-preserved : goal.loop-id-preserved
loop-id-preserved c =
    let ids = c.args.ids.now in
    let i = c.loop-id.id-index in
    let none : RecId = record { 0 = 0 } in
    let id = get_or ids i none in
    record {
      same = c.add_value.ensures.same ∙ c.loop-id.invariant.same;
      right = subst (λ (s : Standing). AreRight s.models s.tables c.add_value.new.values) c.loop-id.invariant.same c.in_ok-add_value.ensures.right;
      kept = λ cell there. c.in_ok-add_value.ensures.kept cell (c.loop-id.invariant.kept cell there);
      done = rows-more c.args.model c.args.field ids i id c.loop-id-test.true (get_or_default ids i none id c.loop-id-test.true) c.loop-id.values c.add_value.new.values c.in_ok-add_value.ensures.kept
          c.loop-id.invariant.done c.in_ok-add_value.ensures.there;
    }

pub returns-clause-values : goal.returns-clause-values
returns-clause-values c =
    let s = c.args.source.now in
    let i = c.loop-id.id-index in
    rows-all s.models s.tables c.args.model c.args.field i c.loop-id.values (c.ids_are_of_rows.ensures.listed s.tables c.args.model)
    (subst (λ (l : List RecId). length l ≤ i) c.requires.ids c.loop-id-test.false) (subst (λ (l : List RecId). HaveRows c.args.model c.args.field (take i l) c.loop-id.values) c.requires.ids c.loop-id.invariant.done)
