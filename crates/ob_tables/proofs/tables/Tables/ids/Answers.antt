use Rattle.std.proofs.Common.{◌++◌, map, ap, sym, subst, ◌∙◌}
use Rattle.std.proofs.lemmas.List.{append-nil}
use Rattle.std.specs.List.Sorted.{IsStrictlySortedBy}
use Rattle.ob_base.specs.declared.id.RecId.{RecId}
use Rattle.ob_schema.specs.Tables.{PlainRow}
use Rattle.ob_tables.proofs.Rising.{below-next, entry-ids, entry_id, id_cmp, ids-rise, pushed}
use Rattle.ob_tables.proofs.tables.Tables.ids.Goals as goal

pub loop-key-init : goal.loop-key-init
loop-key-init c =
    ap (λ l. l ++ map entry_id c.into_iter-key-iterator.result) c.new-ids.ensures ∙ ap (map entry_id) c.into_iter-key-iterator.ensures.into_iter_gives
    ∙ sym (entry-ids c.rows_of-key-items.result) ∙ ap (map (λ (e : RecId × PlainRow). e.0)) c.rows_of-key-items.ensures

pub push-requires : goal.push-requires
push-requires c = below-next c.loop-key.ids c.in-Some.key.now.id (map entry_id c.next.new.self)
    (subst (IsStrictlySortedBy id_cmp) (sym c.loop-key.invariant ∙ ap (λ es. c.loop-key.ids ++ map entry_id es) c.in-Some.ensures.steps) (ids-rise c.args.model c.args.self.now.tables))

pub loop-key-preserved : goal.loop-key-preserved
loop-key-preserved c =
    pushed c.loop-key.ids c.push.new.self c.in-Some.key.now.id (map entry_id c.next.new.self) c.in_ok-push.ensures.ok ∙ sym (ap (λ es. c.loop-key.ids ++ map entry_id es) c.in-Some.ensures.steps) ∙ c.loop-key.invariant

pub returns : goal.returns
returns c = sym (append-nil c.loop-key.ids) ∙ sym (ap (λ es. c.loop-key.ids ++ map entry_id es) c.in-None.ensures.steps.0) ∙ c.loop-key.invariant
