-- The rows are made, or why not is told.
use Rattle.std.proofs.Common.{ℤ, subst}
use Rattle.std.proofs.lemmas.Int.{to_z-of_z}
use Rattle.ob_cache.specs.Calls.{HasTables, KeeperRose, models_at, standpoint}
use Rattle.ob_install.specs.Install.{IsInstalled}
use Rattle.ob_schema.specs.Tables.{Tables}
use Rattle.ob_server.specs.Opening.{StopsFilling}
use Rattle.ob_server.proofs.Filling.{filling_told}
use Rattle.ob_server.proofs.opening.bring.Goals as goal

pub returns-in-Ok-clause-brought : goal.returns-in-Ok-clause-brought
returns-in-Ok-clause-brought g c = λ first rests.
    let at = standpoint g.K.Keeper c.args.engine.now in
    let after = standpoint g.K.Keeper c.install.new.engine in
    subst (λ (moment : ℤ). (begun : Tables) × IsInstalled (models_at at) moment c.args.preset.now.rows begun × HasTables after begun) (to_z-of_z _ _ c.ranges.now) (c.in-Ok.ensures.answer first rests)

pub returns-in-Err-clause-stops : goal.returns-in-Err-clause-stops
returns-in-Err-clause-stops g c = λ first rests.
    let at = standpoint g.K.Keeper c.args.engine.now in
    let after = standpoint g.K.Keeper c.install.new.engine in
    subst (λ (moment : ℤ). StopsFilling (models_at at) c.args.preset.now.rows moment (KeeperRose at after) c.filling_fault.result) (to_z-of_z _ _ c.ranges.now)
    (filling_told _ _ _ _ c.in-Err.fault c.filling_fault.result (c.in-Err.ensures.answer first rests).0 c.filling_fault.ensures)
