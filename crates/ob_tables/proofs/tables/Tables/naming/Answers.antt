use Rattle.std.proofs.Common.{◌++◌, map, ap, sym, subst, ◌∙◌}
use Rattle.std.specs.List.Sorted.{IsStrictlySortedBy}
use Rattle.ob_tables.proofs.Listing.{naming-rises}
use Rattle.ob_tables.proofs.Rising.{below-next, id_cmp, pushed}
use Rattle.ob_tables.proofs.tables.Tables.naming.Goals as goal

pub loop-holding-init : goal.loop-holding-init
loop-holding-init c =
    ap (λ l. l ++ map (λ entry. entry.0.holder) c.into_iter-holding-iterator.result) c.new-ids.ensures ∙ ap (map (λ entry. entry.0.holder)) c.into_iter-holding-iterator.ensures.into_iter_gives ∙ c.holders-holding-items.ensures

pub push-requires : goal.push-requires
push-requires c =
    let ids = c.loop-holding.ids in
    below-next ids c.in-Some.holding.now.holder (map (λ entry. entry.0.holder) c.next.new.self)
    (subst (λ es. IsStrictlySortedBy id_cmp (ids ++ map (λ entry. entry.0.holder) es)) c.in-Some.ensures.steps
    (subst (IsStrictlySortedBy id_cmp) (sym c.loop-holding.invariant) (naming-rises c.args.self.now.tables c.args.model c.args.field c.args.id)))

pub loop-holding-preserved : goal.loop-holding-preserved
loop-holding-preserved c =
    let ids = c.loop-holding.ids in
    pushed ids c.push.new.self c.in-Some.holding.now.holder (map (λ entry. entry.0.holder) c.next.new.self) c.in_ok-push.ensures.ok
    ∙ sym (ap (λ es. ids ++ map (λ entry. entry.0.holder) es) c.in-Some.ensures.steps) ∙ c.loop-holding.invariant
