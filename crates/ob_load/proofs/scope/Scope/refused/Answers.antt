use Rattle.std.proofs.Common.{List, subst}
use Rattle.ob_base.specs.declared.place.PathStep.{PathStep}
use Rattle.ob_load.specs.Rooms.{Refuses}
use Rattle.ob_load.proofs.Told.{refused-of-text}
use Rattle.ob_load.proofs.scope.Scope.refused.Goals as goal

pub returns-in-Ok-clause-told : goal.returns-in-Ok-clause-told
returns-in-Ok-clause-told c =
    subst (λ (p : List PathStep). Refuses (record { name = c.args.self.now.owner.now; place = p; fault = c.args.fault }) c.refused_at.result) c.in-Ok.ensures c.refused_at.ensures.fault

pub returns-in-Ok-clause-read : goal.returns-in-Ok-clause-read
returns-in-Ok-clause-read c =
    refused-of-text (record { name = c.args.self.now.owner.now; place = c.in-Ok.place; fault = c.args.fault }) c.refused_at.result c.refused_at.ensures.fault c.refused_at.ensures.not_files c.requires
