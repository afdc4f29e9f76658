use Rattle.std.proofs.Common.{◌≡◌}
use Rattle.std.proofs.lemmas.Result.{IfOk-weaker}
use Rattle.ob_definition.specs.declared.fault.Spot.{Spot}
use Rattle.ob_definition.specs.Findings.{Adds, IsAt, fault_at, lesser_of}
use Rattle.ob_definition.proofs.Adding.{Adds-told, Adds-untold}
use Rattle.ob_definition.proofs.first.First.at_field.Goals as goal

pub returns-in-Some-clause-found : goal.returns-in-Some-clause-found
returns-in-Some-clause-found c =
    let spot : Spot = record { entry = c.args.entry; field = c.args.field.now } in
    IfOk-weaker c.add.result (λ _. c.add.new.self ≡ lesser_of c.args.self.now (fault_at c.in-Some.wrong spot)) (λ _. Adds (IsAt c.args.wrong spot) c.args.self.now c.add.new.self)
    (λ _ new. Adds-told c.args.wrong c.in-Some.wrong spot c.args.self.now c.add.new.self c.in-Some.is new) c.add.ensures.found

pub returns-in-None-clause-found : goal.returns-in-None-clause-found
returns-in-None-clause-found c = Adds-untold c.args.wrong (record { entry = c.args.entry; field = c.args.field.now }) c.args.self.now c.in-None.is
