use Rattle.std.proofs.Common.{◌≡◌, List, [], Option, None, ap, refl, subst, sym, ◌∙◌}
use Rattle.std.specs.Prelude.{IsOk, unwrap_or}
use Rattle.std.proofs.lemmas.Bool.{false≢true}
use Rattle.ob_base.specs.declared.id.RowKey.{RowKey}
use Rattle.ob_cache.specs.Changing.{KeepsOthers}
use Rattle.ob_cache.specs.Rooms.{AreHeldOver, AreListed, ShowsUnsettled}
use Rattle.ob_cache.specs.Telling.{sides_of}
use Rattle.ob_cache.specs.declared.held.Held.TheInside.{Inside}
use Rattle.ob_cache.specs.declared.stages.Phase.TheVariants as phase
use Rattle.ob_cache.proofs.HeldSteps.{none-staged-evaluated, staged-evaluated, still-settled, to-settled, to-spoiled}
use Rattle.ob_cache.proofs.Standings.{held-unsettled}
use Rattle.ob_cache.proofs.Ticking.{same-ticks, settled-as}
use Rattle.ob_schema.specs.Tables.{Standing}
use Rattle.ob_tables.proofs.CallerLemmas.{known_if}
use Rattle.ob_cache.proofs.held.Held.settle.Goals as goal
use Rattle.ob_cache.proofs.held.Held.settle.Goals.{in-Some+in-Ok, in_default}

pub returns-in-Err-clause-unsettled : goal.returns-in-Err-clause-unsettled
returns-in-Err-clause-unsettled g c =
    subst (ShowsUnsettled c.args.self.now) (sym c.settle_fault.ensures)
    (held-unsettled c.self.inside.schema.now c.self.inside.flushed c.self.inside.settled c.self.inside.staged c.self.inside.phase c.args.self.now c.self.view_is c.self.invariant.0 c.in-Some.staged (cc) c.in-Err.fault
    c.in-Err.ensures.fault)

pub invariant_of-self : goal.invariant_of-self
invariant_of-self g c =
    let h = c.self.inside in
    subst (λ (o : Option Standing). AreHeldOver h.schema.now h.flushed h.settled o phase.Spoiled × AreListed h.schema.now h.flushed h.settled o h.triggers h.touched.items c.settled_behind.new.unkept.items)
    (sym c.take.ensures.after)
    (to-spoiled h.schema.now h.flushed h.settled h.staged h.phase h.triggers h.touched.items h.unkept.items c.self.invariant.0 c.self.invariant.1
    h.touched.items c.settled_behind.new.unkept.items c.settled_behind.ensures.kept)

pub invariant_of-self-2 : goal.invariant_of-self-2
invariant_of-self-2 g c =
    let h = c.self.inside in
    let now = λ (i : Inside). AreHeldOver i.schema.now i.flushed i.settled i.staged phase.Settled × AreListed i.schema.now i.flushed i.settled i.staged i.triggers c.clear.new.self.items i.unkept.items in
    let settled = λ (s : Option Standing) (o : Option Standing) (touched unkept : List RowKey). AreHeldOver h.schema.now h.flushed s o phase.Settled × AreListed h.schema.now h.flushed s o h.triggers touched unkept in
    elim c.match-take.branch [
      | in-Some+in-Ok w ↦
          let whole = w.in-Ok.whole in
          let staged = w.in-Some.staged in
          let wider = w.settled_behind.new.unkept.items in
          let over = known_if h.staged staged (λ s. s.models ≡ h.schema.now) (sym c.take.ensures.value ∙ w.in-Some.is) c.self.invariant.0.staged_over in
          let whole_over : whole.models ≡ h.schema.now = ap (λ (s : Standing). s.models) w.in-Ok.ensures.whole ∙ over in
          let others : KeepsOthers (unwrap_or h.settled h.flushed) whole wider =
          subst (λ (s : Standing). KeepsOthers (unwrap_or h.settled h.flushed) s wider) (sym w.in-Ok.ensures.whole) (subst (λ (s : Standing). KeepsOthers s staged wider) w.last-settled.ensures w.in-Ok.ensures.forms) in
          let place = w.put_settled.new.place in
          subst now (sym w.self-inside-is) (subst (λ (o : Option Standing). settled place o c.clear.new.self.items wider) (sym c.take.ensures.after)
          (subst (λ (l : List RowKey). settled place None l wider) (sym c.clear.ensures.items) (subst (λ (s : Option Standing). settled s None [] wider) (sym w.put_settled.ensures)
          (to-settled h.schema.now h.flushed h.settled h.staged h.phase h.triggers h.touched.items h.unkept.items c.self.invariant.0 c.self.invariant.1 whole wider whole_over others w.settled_behind.ensures.kept))))
      | in_default w ↦ subst now (sym w.self-inside-is) (subst (λ (o : Option Standing). settled h.settled o c.clear.new.self.items h.unkept.items) (sym c.take.ensures.after)
          (subst (λ (l : List RowKey). settled h.settled None l h.unkept.items) (sym c.clear.ensures.items)
          (still-settled h.schema.now h.flushed h.settled h.staged h.phase h.triggers h.touched.items h.unkept.items c.self.invariant.0 c.self.invariant.1 (sym c.take.ensures.value ∙ w.in_default.is))))
    ]

pub returns-in-Err-clause-evaluated : goal.returns-in-Err-clause-evaluated
returns-in-Err-clause-evaluated g c =
    let h = c.self.inside in
    let self = c.args.self.now in
    let noted = g.L.Ledger.noted in
    let old = c.args.steps.now in
    settled-as noted self.models (sides_of self) (IsOk c.settled_behind.result) _ (λ is. absurd (false≢true is)) old c.settled_behind.new.steps
    (staged-evaluated h.schema.now h.flushed h.settled h.staged h.phase h.triggers h.touched.items h.unkept.items c.self.invariant.0 c.self.invariant.1 noted self c.self.view_is old c.settled_behind.new.steps (IsOk c.settled_behind.result) c.last-settled.result.now c.in-Some.staged c.last-settled.ensures
    (sym c.take.ensures.value ∙ c.in-Some.is) c.settled_behind.ensures.evaluated)

pub returns-clause-evaluated : goal.returns-clause-evaluated
returns-clause-evaluated g c =
    let h = c.self.inside in
    let self = c.args.self.now in
    let noted = g.L.Ledger.noted in
    let old = c.args.steps.now in
    elim c.match-take.branch [
      | in-Some+in-Ok w ↦ same-ticks noted self.models (sides_of self) _ old _ _ w.steps-is
          (settled-as noted self.models (sides_of self) (IsOk w.settled_behind.result) _ (λ is. subst IsOk (sym w.in-Ok.is) refl) old w.settled_behind.new.steps
          (staged-evaluated h.schema.now h.flushed h.settled h.staged h.phase h.triggers h.touched.items h.unkept.items c.self.invariant.0 c.self.invariant.1 noted self c.self.view_is old w.settled_behind.new.steps (IsOk w.settled_behind.result) w.last-settled.result.now w.in-Some.staged w.last-settled.ensures
          (sym c.take.ensures.value ∙ w.in-Some.is) w.settled_behind.ensures.evaluated))
      | in_default w ↦ same-ticks noted self.models (sides_of self) _ old _ _ w.steps-is
          (none-staged-evaluated h.schema.now h.flushed h.settled h.staged h.phase h.triggers h.touched.items h.unkept.items c.self.invariant.0 c.self.invariant.1 noted self c.self.view_is old _ (sym c.take.ensures.value ∙ w.in_default.is))
    ]
