-- One group that is pending gives way to those that it implies.
use Rattle.std.proofs.Common.{◌≡◌, ◌||◌, ◌&&◌, List, All, length, not, ap, sym, subst, ◌∙◌, arith, length-append, [], ◌∷◌}
use Rattle.ob_base.specs.declared.id.RecId.{RecId}
use Rattle.ob_access.specs.Finding.{IsUpTo}
use Rattle.ob_access.specs.Groups.{has_group}
use Rattle.ob_access.proofs.Searching.{IsSearch, begun, ended, none_of, searched, smaller}
use Rattle.ob_access.proofs.Unfound.{implied_up_to}
use Rattle.ob_access.proofs.groups.found_from.Goals as goal

pub loop-id-init : goal.loop-id-init
loop-id-init c =
    begun c.args.groups.now c.args.stated.now c.new-found.result.keys c.new-pending.result.items c.add_new.new.found.keys c.add_new.new.pending.items
    c.new-found.ensures.empty c.new-pending.ensures.items c.in_ok-add_new.ensures.found c.in_ok-add_new.ensures.pending

pub loop-id-preserved : goal.loop-id-preserved
loop-id-preserved c =
    searched c.args.groups.now c.args.stated.now c.loop-id.found.keys c.add_new-in-Some.new.found.keys c.pop.new.self.items c.add_new-in-Some.new.pending.items c.in-Some.id
    (subst (λ (l : List RecId). IsSearch c.args.groups.now c.args.stated.now c.loop-id.found.keys l) c.in-Some.ensures.items c.loop-id.invariant)
    (λ id. c.in_ok-add_new-2.ensures.found id ∙ ap (λ (l : List RecId). has_group c.loop-id.found.keys id || has_group l id) c.implied_by.ensures)
    (λ id. c.in_ok-add_new-2.ensures.pending id ∙ ap (λ (l : List RecId). has_group c.pop.new.self.items id || (has_group l id && not (has_group c.loop-id.found.keys id))) c.implied_by.ensures)

pub loop-id-smaller : goal.loop-id-smaller
loop-id-smaller c =
    smaller _ _ _ _ _
    (c.in_ok-add_new-2.ensures.fewer (length c.args.groups.now) (subst (All (IsUpTo (length c.args.groups.now))) (sym c.implied_by.ensures) (implied_up_to c.args.groups.now c.requires c.in-Some.id)))
    (ap length c.in-Some.ensures.items ∙ length-append c.pop.new.self.items (c.in-Some.id ∷ []))

pub returns : goal.returns
returns c =
    let none : length c.loop-id.pending.items ≡ 0 = omega (arith, c.in_default.ensures.cases.0, c.loop-id.pending.ok.0) in
    ended c.args.groups.now c.args.stated.now c.loop-id.found.keys c.loop-id.pending.items c.loop-id.invariant (none_of c.loop-id.pending.items none)
