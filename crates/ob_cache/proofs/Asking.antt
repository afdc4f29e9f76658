-- What is asked of a model that may be there.
use Rattle.std.specs.Prelude.{◌≤◌, IfErr, IfSome, Option, Some, None, Result}
use Rattle.ob_base.specs.declared.refusal.Refusal.{Refusal}
use Rattle.ob_cache.specs.Calls.{HasTables, IsAsked, KeeperRose, Refuses, Standpoint, TellsBy}
use Rattle.ob_cache.specs.Standing.{Stays}
use Rattle.ob_schema.specs.Tables.{Tables}

-- a reading call, by what is known of its answer, its causes and what stays
pub IsAsked-found : {M A : Type 0} (found : Option M) (Tells : M → Tables → Result A Refusal → Type 0) (MayCome : M → Refusal → Type 0) (before after : Standpoint) (outcome : Result A Refusal)
    → ((tables : Tables) → HasTables before tables → IfSome found (λ m. TellsBy (Tells m) before after tables outcome))
    → IfErr outcome (Refuses (KeeperRose before after) (λ why. IfSome found (λ m. MayCome m why)))
    → Stays before.kept before.held after.kept after.held → before.faults ≤ after.faults
    → IfSome found (λ m. IsAsked (Tells m) before after (MayCome m) outcome)
IsAsked-found None Tells MayCome before after outcome answer causes same count = tt
IsAsked-found (Some m) Tells MayCome before after outcome answer causes same count = record { answer = answer; causes = causes; same = same; count = count }
