-- What rows are made and changed with, passed on from step to step.
use Rattle.std.proofs.Common.{◌≡◌, List, sym, subst}
use Rattle.ob_cache.specs.Standing.{Holding}
use Rattle.ob_cache.specs.declared.engine.Engine.{Engine}
use Rattle.ob_effect.proofs.CallerLemmas.{noted_on}
use Rattle.ob_effect.specs.Effect.{Asks, IsNoted}
use Rattle.ob_effect.specs.declared.notes.Notes.{Notes}
use Rattle.ob_io.specs.declared.keeper.Keeper.{Ghosts}
use Rattle.ob_schema.specs.declared.info.ModelInfo.{ModelInfo}

pub noted-at : (old new : List ModelInfo) (notes : Notes) (held : Holding) → new ≡ old → IsNoted old notes held → IsNoted new notes held
noted-at old new notes held same = subst (λ (models : List ModelInfo). IsNoted models notes held) (sym same)

-- what is noted, behind questions
pub noted-asked : {K : Type 0} (g : Ghosts K) (a b : Engine K) (notes : Notes) → Asks g a b → IsNoted a.held.models notes a.held → IsNoted b.held.models notes b.held
noted-asked g a b notes asked noted = noted-at a.held.models b.held.models notes b.held asked.same.models (noted_on g a.held.models notes a.held b.held asked.same.next_ids noted)
