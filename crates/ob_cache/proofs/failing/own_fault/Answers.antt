use Rattle.std.proofs.Common.{List, Option, subst, sym}
use Rattle.std.specs.Prelude.{IfSome}
use Rattle.ob_base.specs.declared.refusal.Broken.{Broken}
use Rattle.ob_change.specs.Changing.{models_of}
use Rattle.ob_schema.specs.Broken.{IsBroken}
use Rattle.ob_schema.specs.declared.info.ModelInfo.{ModelInfo}
use Rattle.ob_sound.specs.FormulasBreak.{FormulasBreak}
use Rattle.ob_cache.proofs.failing.own_fault.Goals as goal

pub returns-in-Ok-Some-clause-fault : goal.returns-in-Ok-Some-clause-fault
returns-in-Ok-Some-clause-fault c =
    let models = models_of c.args.change in
    let t = c.args.change.behind.now.tables in
    let broken = c.in-Ok-Some.broken in
    let breaks = subst (λ (o : Option Broken). IfSome o (λ b. FormulasBreak models t b.kind b.cell)) c.in-Ok-Some.field-0-is c.in-Ok-Some.ensures.fails in
    subst (λ (m : List ModelInfo). IsBroken m t broken) (sym c.args.change.behind_over) (c.broken_formulas_found.ensures models t broken.kind broken.cell c.requires.tied breaks)
