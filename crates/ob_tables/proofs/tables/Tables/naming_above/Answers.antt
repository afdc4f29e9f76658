use Rattle.std.proofs.Common.{◌≤◌, ◌++◌, List, length, map, ap, sym, subst, ◌∙◌, arith}
use Rattle.std.specs.List.Sorted.{IsStrictlySortedBy}
use Rattle.std.proofs.lemmas.List.{length_push}
use Rattle.ob_base.specs.declared.id.RecId.{RecId}
use Rattle.ob_tables.proofs.FirstIds.{named-rise}
use Rattle.ob_tables.proofs.Rising.{below-next, id_cmp, pushed}
use Rattle.ob_tables.proofs.tables.Tables.naming_above.Goals as goal

pub loop-holding-init : goal.loop-holding-init
loop-holding-init c =
    let left = c.into_iter-holding-iterator.result in
    record {
      all = ap (λ l. l ++ map (λ entry. entry.0.holder) left) c.new-ids.ensures ∙ ap (map (λ entry. entry.0.holder)) c.into_iter-holding-iterator.ensures.into_iter_gives ∙ c.holders_above-holding-items.ensures;
      few = subst (λ (l : List RecId). length l ≤ c.args.most) (sym c.new-ids.ensures) (omega arith);
    }

pub push-requires : goal.push-requires
push-requires c =
    let ids = c.loop-holding.ids in
    below-next ids c.in-Some.holding.now.holder (map (λ entry. entry.0.holder) c.next.new.self)
    (subst (λ es. IsStrictlySortedBy id_cmp (ids ++ map (λ entry. entry.0.holder) es)) c.in-Some.ensures.steps
    (subst (IsStrictlySortedBy id_cmp) (sym c.loop-holding.invariant.all) (named-rise c.args.after c.args.self.now.tables c.args.model c.args.field c.args.id)))

pub loop-holding-preserved : goal.loop-holding-preserved
loop-holding-preserved c =
    let ids = c.loop-holding.ids in
    let id = c.in-Some.holding.now.holder in
    record {
      all = pushed ids c.push.new.self id (map (λ entry. entry.0.holder) c.next.new.self) c.in_ok-push.ensures.ok
          ∙ sym (ap (λ es. ids ++ map (λ entry. entry.0.holder) es) c.in-Some.ensures.steps) ∙ c.loop-holding.invariant.all;
      few = subst (λ (l : List RecId). length l ≤ c.args.most) (sym c.in_ok-push.ensures.ok) (omega (arith, length_push ids id));
    }
