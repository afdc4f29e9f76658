-- Why a call is refused that looks for rows, by what its caller may ask.
use Rattle.std.proofs.Common.{◌≡◌, List, Result, Ok, Err, refl, subst}
use Rattle.std.specs.Prelude.{IsOk, IsOkAnd}
use Rattle.ob_base.specs.declared.id.RecId.{RecId}
use Rattle.ob_base.specs.declared.place.PathStep.{PathStep}
use Rattle.ob_base.specs.declared.refusal.Refusal.{Refusal}
use Rattle.ob_base.specs.declared.refusal.Refusal.TheVariants as refusal
use Rattle.ob_cache.specs.Calls.{Refuses}
use Rattle.ob_call.specs.Called.{Called}
use Rattle.ob_query.specs.Callers.{IsAskedBy}
use Rattle.ob_query.specs.Denials.{AskCause, DenialCause, IsDeniedWith, IsRefused, MayAsk}
use Rattle.ob_query.specs.Views.{view_of}
use Rattle.ob_query.specs.declared.caller.Caller.{Caller}
use Rattle.ob_schema.specs.Tables.{Tables}
use Rattle.ob_schema.specs.declared.info.ModelInfo.{ModelInfo}
use Rattle.ob_schema.specs.declared.info.Step.{Step}

is_ok : {A : Type 0} (r : Result A (List PathStep)) (P : A → Type 0) → IsOkAnd r P → IsOk r
is_ok (Ok a) P h = refl
is_ok (Err place) P h = absurd h

of_ok : {A B : Type 0} (r : Result A (List PathStep)) (P : A → Type 0) → ((a : A) → P a → B) → IsOkAnd r P → B
of_ok (Ok a) P f h = f a h
of_ok (Err place) P f h = absurd h

weaker_ok : {A : Type 0} (r : Result A (List PathStep)) (P Q : A → Type 0) → ((a : A) → P a → Q a) → IsOkAnd r P → IsOkAnd r Q
weaker_ok (Ok a) P Q f h = f a h
weaker_ok (Err place) P Q f h = absurd h

module _ {A B : Type 0} (by : Caller) (c : Called) (models : List ModelInfo) (tables : Tables) (rose : Type 0) (Stands : A → B → Type 0) (asked : Result B (List PathStep)) (named : Result (List Step) (List PathStep)) (user : by.user ≡ c.caller) where
  -- by the view that the caller has
  pub asked_refuses : (why : Refusal) → IsAskedBy by c.model Stands asked named (Err why) → Refuses rose (IsRefused by.policy.now (view_of models by.policy.now by.groups.now by.user tables) c asked named) why
  asked_refuses (refusal.Request place) is = is
  asked_refuses refusal.NoMemory is = tt
  asked_refuses refusal.Keeper is = of_ok named _ (λ fields h. absurd h) is
  asked_refuses (refusal.Right m operation) is = (is_ok named _ is, of_ok named _ (λ fields h. h.0) is, of_ok named _ (λ fields h. h.1) is, of_ok named _ (λ fields h. h.2) is)
  asked_refuses (refusal.FieldRight m field) is = is
  asked_refuses (refusal.Missing m id) is = of_ok named _ (λ fields h. absurd h) is
  asked_refuses (refusal.Rule m operation id name) is = of_ok named _ (λ fields h. absurd h) is
  asked_refuses (refusal.Constraint b) is = of_ok named _ (λ fields h. absurd h) is

  -- and he may ask where he isn't refused
  pub asked_may : (a : A) → IsAskedBy by c.model Stands asked named (Ok a) → MayAsk by.policy.now (view_of models by.policy.now by.groups.now by.user tables) c named
  asked_may a is = record { model = of_ok named _ (λ fields h. h.0) is.1; fields = weaker_ok named _ _ (λ fields h. h.1) is.1 }

-- ---- whatever the keeper tells

module _ {A B : Type 0} (by : Caller) (c : Called) (rose : Type 0) (Stands : A → B → Type 0) (asked : Result B (List PathStep)) (named : Result (List Step) (List PathStep)) (user : by.user ≡ c.caller) where
  -- by the groups that he has
  denied_here : (why : Refusal) → IsDeniedWith by.policy.now by.groups.now by.user c named why → DenialCause by.policy.now c named why
  denied_here why h = (by.groups.now, subst (λ (u : RecId). IsDeniedWith by.policy.now by.groups.now u c named why) user h)

  pub asked_causes : (why : Refusal) → IsAskedBy by c.model Stands asked named (Err why) → Refuses rose (AskCause by.policy.now c asked named) why
  asked_causes (refusal.Request place) is = is
  asked_causes refusal.NoMemory is = tt
  asked_causes refusal.Keeper is = of_ok named _ (λ fields h. absurd h) is
  asked_causes (refusal.Right m operation) is =
      denied_here (refusal.Right m operation) (is_ok named _ is, of_ok named _ (λ fields h. h.0) is, of_ok named _ (λ fields h. h.1) is, of_ok named _ (λ fields h. h.2) is)
  asked_causes (refusal.FieldRight m field) is = denied_here (refusal.FieldRight m field) is
  asked_causes (refusal.Missing m id) is = of_ok named _ (λ fields h. absurd h) is
  asked_causes (refusal.Rule m operation id name) is = of_ok named _ (λ fields h. absurd h) is
  asked_causes (refusal.Constraint b) is = of_ok named _ (λ fields h. absurd h) is
