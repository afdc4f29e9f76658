use Rattle.std.proofs.Common.{◌≤◌, ◌++◌, List, length, map, ap, sym, subst, ◌∙◌, arith}
use Rattle.std.specs.List.Sorted.{IsStrictlySortedBy}
use Rattle.std.proofs.lemmas.List.{length_push}
use Rattle.ob_base.specs.declared.id.RecId.{RecId}
use Rattle.ob_schema.specs.Tables.{PlainRow, rows_in}
use Rattle.ob_tables.proofs.FirstIds.{above-rise, ids-above}
use Rattle.ob_tables.proofs.Rising.{below-next, entry-ids, entry_id, id_cmp, pushed}
use Rattle.ob_tables.proofs.tables.Tables.ids_above.Goals as goal

pub loop-key-init : goal.loop-key-init
loop-key-init c =
    let left = c.into_iter-key-iterator.result in
    record {
      all = ap (λ l. l ++ map entry_id left) c.new-ids.ensures ∙ ap (map entry_id) c.into_iter-key-iterator.ensures.into_iter_gives ∙ sym (entry-ids c.rows_above-key-items.result)
          ∙ ap (map (λ (e : RecId × PlainRow). e.0)) c.rows_above-key-items.ensures ∙ ids-above c.args.after (rows_in c.args.self.now.tables c.args.model);
      few = subst (λ (l : List RecId). length l ≤ c.args.most) (sym c.new-ids.ensures) (omega arith);
    }

pub push-requires : goal.push-requires
push-requires c = below-next c.loop-key.ids c.in-Some.key.now.id (map entry_id c.next.new.self)
    (subst (IsStrictlySortedBy id_cmp) (sym c.loop-key.invariant.all ∙ ap (λ es. c.loop-key.ids ++ map entry_id es) c.in-Some.ensures.steps) (above-rise c.args.after c.args.self.now.tables c.args.model))

pub loop-key-preserved : goal.loop-key-preserved
loop-key-preserved c =
    let ids = c.loop-key.ids in
    let id = c.in-Some.key.now.id in
    record {
      all = pushed ids c.push.new.self id (map entry_id c.next.new.self) c.in_ok-push.ensures.ok ∙ sym (ap (λ es. ids ++ map entry_id es) c.in-Some.ensures.steps) ∙ c.loop-key.invariant.all;
      few = subst (λ (l : List RecId). length l ≤ c.args.most) (sym c.in_ok-push.ensures.ok) (omega (arith, length_push ids id));
    }
