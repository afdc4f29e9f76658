use Rattle.std.proofs.Common.{◌≡◌, [], length, option_map, sym, ap, subst, ◌∙◌, rules}
use Rattle.std.specs.Map.Iter.{TakesFirst, deref_pair}
use Rattle.ob_shared.specs.Trees.{entries_in}
use Rattle.ob_shared.proofs.Ranges.{step_end, step_first, step_none}
use Rattle.ob_shared.proofs.range.RangeIterator.next.Goals as goal

pub returns-in_err-key-clause-steps : goal.returns-in_err-key-clause-steps
returns-in_err-key-clause-steps g c =
    let r = c.self.inside in
    let empty : c.args.self.now ≡ [] =
    sym c.self.view_is ∙ step_none g.K.Ord.cmp r.start r.end (entries_in r.root.now) (sym c.first_inside.ensures ∙ ap (option_map deref_pair) c.in_err-key.was) in
    subst (λ given. TakesFirst deref_pair c.args.self.now given c.args.self.now) (sym c.from_residual.ensures) (empty, empty)

pub returns-then-is_past-clause-steps : goal.returns-then-is_past-clause-steps
returns-then-is_past-clause-steps g c =
    let r = c.self.inside in
    let empty : c.args.self.now ≡ [] =
    sym c.self.view_is
    ∙ step_end g.K.Ord.cmp r.start r.end (entries_in r.root.now) g.met.K.Ord.total c.self.invariant (c.in_ok-key.key.now, c.in_ok-key.value.now)
    (sym c.first_inside.ensures ∙ ap (option_map deref_pair) c.in_ok-key.was) (sym c.is_past.ensures ∙ c.if-is_past.true) in
    (empty, empty)

pub returns-clause-steps : goal.returns-clause-steps
returns-clause-steps g c =
    let r = c.self.inside in
    sym c.self.view_is
    ∙ step_first g.K.Ord.cmp r.start r.end (entries_in r.root.now) g.met.K.Ord.total c.self.invariant (c.in_ok-key.key.now, c.in_ok-key.value.now)
    (sym c.first_inside.ensures ∙ ap (option_map deref_pair) c.in_ok-key.was) (sym c.is_past.ensures ∙ c.if-is_past.false)

pub returns-clause-goes : goal.returns-clause-goes
returns-clause-goes g c =
    let steps = returns-clause-steps g c in
    let fewer = ap length steps in
    search rules
