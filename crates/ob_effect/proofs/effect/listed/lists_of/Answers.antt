use Rattle.std.proofs.Common.{◌≡◌, List, sym, subst}
use Rattle.std.specs.Prelude.{Contains}
use Rattle.std.proofs.lemmas.List.Elements.{All-nil, All-push}
use Rattle.ob_effect.proofs.Questions.{asks_none, asks_then}
use Rattle.ob_effect.specs.Lists.{IsListField}
use Rattle.ob_effect.specs.declared.effect.listed.Listed.{Listed}
use Rattle.ob_effect.specs.declared.object.Orders.{Orders}
use Rattle.ob_schema.specs.declared.info.ModelInfo.{ModelInfo}
use Rattle.ob_tables.proofs.CallerLemmas.{known_if}
use Rattle.ob_effect.proofs.effect.listed.lists_of.Goals as goal
use Rattle.ob_effect.proofs.effect.listed.lists_of.Goals.{in-Some+in_ok-push, in_default}

pub loop-orders-init : goal.loop-orders-init
loop-orders-init g c = record {
  asked = asks_none g.K.Keeper c.args.engine.now;
  lists = rw c.new-lists.ensures.items (All-nil (λ (l : Listed). IsListField c.args.engine.now.held.models l.cell.model l.cell.field));
  orders = rw c.new-lists.ensures.items (All-nil (λ (l : Listed). Contains c.args.all.now l.orders.now));
}

pub returns-in_err-one-clause-asked : goal.returns-in_err-one-clause-asked
returns-in_err-one-clause-asked g c = asks_then g.K.Keeper c.args.engine.now c.loop-orders.engine c.meant_list.new.engine c.loop-orders.invariant.asked c.meant_list.ensures.asked

pub returns-in_err-push-clause-asked : goal.returns-in_err-push-clause-asked
returns-in_err-push-clause-asked g c = asks_then g.K.Keeper c.args.engine.now c.loop-orders.engine c.meant_list.new.engine c.loop-orders.invariant.asked c.meant_list.ensures.asked

pub loop-orders-preserved : goal.loop-orders-preserved
loop-orders-preserved g c =
    let a = c.args.engine.now in let b = c.loop-orders.engine in let given = c.args.all.now in let far = c.loop-orders.invariant in
    let is_list = λ (l : Listed). IsListField a.held.models l.cell.model l.cell.field in
    let is_given = λ (l : Listed). Contains given l.orders.now in
    let asked = asks_then g.K.Keeper a b c.meant_list.new.engine far.asked c.meant_list.ensures.asked in
    elim c.match-branch-2.branch [
      | in-Some+in_ok-push w ↦
          let told = c.in_ok-one in
          let here = subst (λ (ms : List ModelInfo). IsListField ms w.in-Some.one.cell.model w.in-Some.one.cell.field) far.asked.same.models
          (known_if told.field-0 w.in-Some.one (λ (l : Listed). IsListField b.held.models l.cell.model l.cell.field) w.in-Some.is told.ensures.list) in
          let same = known_if told.field-0 w.in-Some.one (λ (l : Listed). l.orders.now ≡ c.orders-item.result) w.in-Some.is told.ensures.orders in
          let among : Contains given c.orders-item.result = (c.loop-orders.orders-index, c.loop-orders-test.true, sym c.orders-item.is) in
          record {
            asked = asked;
            lists = rw (w.lists-is, w.in_ok-push.ensures.items) (All-push is_list c.loop-orders.lists.items _ far.lists here);
            orders = rw (w.lists-is, w.in_ok-push.ensures.items) (All-push is_given c.loop-orders.lists.items _ far.orders (subst (λ (o : Orders). Contains given o) (sym same) among));
          }
      | in_default w ↦ record { asked = asked; lists = rw w.lists-is far.lists; orders = rw w.lists-is far.orders }
    ]
