-- What is asked of what is seen is asked of the facts below it.
use Rattle.std.proofs.Common.{refl}
use Rattle.ob_access.specs.Views.{viewer_of}
use Rattle.ob_access.proofs.Viewing.{fails-below, through-all}
use Rattle.ob_access.proofs.views.Seen.meets.Goals as goal

pub returns-in-Ok-clause-holds : goal.returns-in-Ok-clause-holds
returns-in-Ok-clause-holds g c = λ told tells. c.in-Ok.ensures.holds _ (told, tells, refl)

pub returns-in-Err-clause-fault : goal.returns-in-Err-clause-fault
returns-in-Err-clause-fault g c =
    rw c.fault_below.ensures
    (fails-below g.F.Facts.registry g.F.Facts.tells g.F.Facts.asks g.F.Facts.has_failed (λ it. it.facts.now) (λ it. it.facts.ghost_name)
    (λ it. viewer_of it.schema.now it.policy.now it.groups.now it.user) c.args.self.now c.holds.new.facts c.in-Err.fault c.in-Err.ensures.fault)

pub returns-in-Ok-clause-asked : goal.returns-in-Ok-clause-asked
returns-in-Ok-clause-asked g c =
    (through-all g.F.Facts.registry g.F.Facts.tells g.F.Facts.asks (λ it. it.facts.now) (λ it. it.facts.ghost_name) (λ it. viewer_of it.schema.now it.policy.now it.groups.now it.user)
    c.args.self.now c.holds.new.facts c.holds.ensures.asked).0

pub returns-in-Ok-clause-lender : goal.returns-in-Ok-clause-lender
returns-in-Ok-clause-lender g c =
    (through-all g.F.Facts.registry g.F.Facts.tells g.F.Facts.asks (λ it. it.facts.now) (λ it. it.facts.ghost_name) (λ it. viewer_of it.schema.now it.policy.now it.groups.now it.user)
    c.args.self.now c.holds.new.facts c.holds.ensures.asked).1

pub returns-in-Ok-clause-viewer : goal.returns-in-Ok-clause-viewer
returns-in-Ok-clause-viewer g c =
    (through-all g.F.Facts.registry g.F.Facts.tells g.F.Facts.asks (λ it. it.facts.now) (λ it. it.facts.ghost_name) (λ it. viewer_of it.schema.now it.policy.now it.groups.now it.user)
    c.args.self.now c.holds.new.facts c.holds.ensures.asked).2

pub returns-in-Err-clause-asked : goal.returns-in-Err-clause-asked
returns-in-Err-clause-asked g c =
    (through-all g.F.Facts.registry g.F.Facts.tells g.F.Facts.asks (λ it. it.facts.now) (λ it. it.facts.ghost_name) (λ it. viewer_of it.schema.now it.policy.now it.groups.now it.user)
    c.args.self.now c.holds.new.facts c.holds.ensures.asked).0

pub returns-in-Err-clause-lender : goal.returns-in-Err-clause-lender
returns-in-Err-clause-lender g c =
    (through-all g.F.Facts.registry g.F.Facts.tells g.F.Facts.asks (λ it. it.facts.now) (λ it. it.facts.ghost_name) (λ it. viewer_of it.schema.now it.policy.now it.groups.now it.user)
    c.args.self.now c.holds.new.facts c.holds.ensures.asked).1

pub returns-in-Err-clause-viewer : goal.returns-in-Err-clause-viewer
returns-in-Err-clause-viewer g c =
    (through-all g.F.Facts.registry g.F.Facts.tells g.F.Facts.asks (λ it. it.facts.now) (λ it. it.facts.ghost_name) (λ it. viewer_of it.schema.now it.policy.now it.groups.now it.user)
    c.args.self.now c.holds.new.facts c.holds.ensures.asked).2
