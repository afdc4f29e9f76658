-- What is carried out for a model that may be there.
use Rattle.std.specs.Prelude.{◌≡◌, ◌≤◌, IfErr, IfSome, Option, Some, None, Result}
use Rattle.ob_base.specs.declared.refusal.Refusal.{Refusal}
use Rattle.ob_cache.specs.Calls.{AnswersBy, HasTables, IsCalled, KeeperRose, Refuses, Standpoint, models_at}
use Rattle.ob_cache.specs.Standing.{IsAtRest}
use Rattle.ob_schema.specs.Tables.{Tables}

-- a writing call, by what is known of its answer, its causes and where it ends
pub IsCalled-found : {M A : Type 0} (found : Option M) (Means : M → Tables → Result A Refusal → Tables → Type 0) (MayCome : M → Refusal → Type 0) (before after : Standpoint) (outcome : Result A Refusal)
    → ((tables : Tables) → HasTables before tables → IfSome found (λ m. AnswersBy (Means m) before after tables outcome))
    → IfErr outcome (Refuses (KeeperRose before after) (λ why. IfSome found (λ m. MayCome m why)))
    → IsAtRest (models_at before) after.held → after.kept ≡ before.kept → before.faults ≤ after.faults
    → IfSome found (λ m. IsCalled (Means m) before after (MayCome m) outcome)
IsCalled-found None Means MayCome before after outcome answer causes rests same count = tt
IsCalled-found (Some m) Means MayCome before after outcome answer causes rests same count = record { answer = answer; causes = causes; rests = rests; same = same; count = count }
