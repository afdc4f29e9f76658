-- What an engine stands at where the edits of a create were refused.
use Rattle.std.proofs.Common.{◌≡◌, List, Option, refl, sym, ◌∙◌}
use Rattle.ob_cache.specs.Stages.{resting, spoiled, with_edits}
use Rattle.ob_cache.specs.Standing.{Holding, IsSpoiled, OfStages, RestsAt, Stands}
use Rattle.ob_io.specs.Store.{Store}
use Rattle.ob_schema.specs.Tables.{Tables}
use Rattle.ob_tables.specs.declared.edit.Edit.{Edit}
use Rattle.ob_rows.specs.Settling.{KeepsTables}

-- an engine that rests at tables keeps them where staging fails
pub staged_spoiled : (before now : Option Store) (old new : Holding) → IsSpoiled before old now new → (tables : Tables) → RestsAt before old tables → KeepsTables now new tables
staged_spoiled before now old new failed tables rests =
    let at = resting old.models tables in
    (spoiled at, failed.stands at rests, sym failed.models, refl)

-- and where settling does
pub settled_spoiled : (before mid now : Option Store) (old staged new : Holding) (edits : List Edit) → staged.models ≡ old.models → OfStages before old (λ at. Stands mid staged (with_edits at edits))
    → IsSpoiled mid staged now new → (tables : Tables) → RestsAt before old tables → KeepsTables now new tables
settled_spoiled before mid now old staged new edits same stands failed tables rests =
    let at = resting old.models tables in
    (spoiled (with_edits at edits), failed.stands (with_edits at edits) (stands at rests), sym same ∙ sym failed.models, refl)
