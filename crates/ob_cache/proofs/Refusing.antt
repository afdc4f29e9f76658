-- Causes of refusals, and calls that may be refused for any.
use Rattle.std.proofs.Common.{Result, Ok, Err}
use Rattle.std.specs.Prelude.{IfErr, ⊤}
use Rattle.ob_base.specs.declared.refusal.Refusal.{Refusal}
use Rattle.ob_base.specs.declared.refusal.Refusal.TheVariants as refusal
use Rattle.ob_cache.specs.Calls.{IsAsked, IsCalled, Refuses, Standpoint}
use Rattle.ob_schema.specs.Tables.{Tables}

-- a refusal with a cause from which another one follows
pub Refuses-weaker : (rose later : Type 0) (P Q : Refusal → Type 0) (why : Refusal) → (rose → later) → ((r : Refusal) → P r → Q r) → Refuses rose P why → Refuses later Q why
Refuses-weaker rose later P Q refusal.Keeper up step h = up h
Refuses-weaker rose later P Q refusal.NoMemory up step h = tt
Refuses-weaker rose later P Q why up step h = step why h

-- whatever the cause
any_cause : {A : Type 0} (rose : Type 0) (P : Refusal → Type 0) (r : Result A Refusal) → IfErr r (Refuses rose P) → IfErr r (Refuses rose (λ _. ⊤))
any_cause rose P (Ok a) h = tt
any_cause rose P (Err why) h = Refuses-weaker rose rose P (λ _. ⊤) why (λ risen. risen) (λ w known. tt) h

pub called-anyhow : {A : Type 0} (Means : Tables → Result A Refusal → Tables → Type 0) (before after : Standpoint) (MayCome : Refusal → Type 0) (r : Result A Refusal)
    → IsCalled Means before after MayCome r → IsCalled Means before after (λ _. ⊤) r
called-anyhow Means before after MayCome r is = record { answer = is.answer; causes = any_cause _ MayCome r is.causes; rests = is.rests; same = is.same; count = is.count }

pub asked-anyhow : {A : Type 0} (Tells : Tables → Result A Refusal → Type 0) (before after : Standpoint) (MayCome : Refusal → Type 0) (r : Result A Refusal)
    → IsAsked Tells before after MayCome r → IsAsked Tells before after (λ _. ⊤) r
asked-anyhow Tells before after MayCome r is = record { answer = is.answer; causes = any_cause _ MayCome r is.causes; same = is.same; count = is.count }
