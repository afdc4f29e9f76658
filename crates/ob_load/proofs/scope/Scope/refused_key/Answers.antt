use Rattle.std.proofs.Common.{List, ◌∷◌, ap, subst, ◌∙◌}
use Rattle.ob_base.specs.declared.place.PathStep.{PathStep}
use Rattle.ob_base.specs.declared.place.PathStep.TheVariants.{Item, Key}
use Rattle.ob_load.specs.Rooms.{Refuses}
use Rattle.ob_load.specs.declared.fault.ModuleFault.TheVariants as fault
use Rattle.ob_load.proofs.scope.Scope.refused_key.Goals as goal

pub returns-in-Ok-clause-told : goal.returns-in-Ok-clause-told
returns-in-Ok-clause-told c =
    subst (λ (w : List PathStep). Refuses (record { name = c.args.self.now.owner.now; place = Key c.args.entry.table.now ∷ (Item c.args.entry.number ∷ w); fault = fault.Form }) c.refused.result)
    (c.in-Ok.ensures ∙ ap (λ (w : List PathStep). Key c.args.key.now ∷ w) c.here.ensures) c.refused.ensures.told
