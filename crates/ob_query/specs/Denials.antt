-- When a call that reads is refused for its arguments, or for want of a right.
use Rattle.std.specs.Prelude.{◌≡◌, List, true, false, Some, None, IsOk, IsOkAnd, Result, Err}
use Rattle.ob_access.specs.Policies.{PolicyData}
use Rattle.ob_base.specs.declared.id.RecId.{RecId}
use Rattle.ob_base.specs.declared.place.PathStep.{PathStep}
use Rattle.ob_base.specs.declared.refusal.Op.TheVariants as op
use Rattle.ob_base.specs.declared.refusal.Refusal.{Refusal}
use Rattle.ob_base.specs.declared.refusal.Refusal.TheVariants as refusal
use Rattle.ob_call.specs.Called.{Called}
use Rattle.ob_query.specs.Views.{View, first_denied, may_read}
use Rattle.ob_schema.specs.declared.info.Step.{Step}

-- a refusal tells the first place that is wrong
abbrev pub IsMalformed : {A : Type 0} → Result A (List PathStep) → Refusal → Type 0
IsMalformed asked (refusal.Request place) = asked ≡ Err place
IsMalformed asked _ = ⊥

-- why a caller with these groups may not ask: he has no right to read the model's rows; else, to read a field, the first of those that the arguments name
module _ (policy : PolicyData) (own : List RecId) (user : RecId) (c : Called) where
  abbrev pub IsDeniedWith : Result (List Step) (List PathStep) → Refusal → Type 0
  IsDeniedWith named (refusal.Right m operation) = IsOk named × (m ≡ c.model) × (operation ≡ op.Read) × (may_read policy own user c.model ≡ false)
  IsDeniedWith named (refusal.FieldRight m field) = IsOkAnd named (λ fields. (may_read policy own user c.model ≡ true) × (first_denied policy own user fields ≡ Some (record { model = m; field = field })))
  IsDeniedWith named _ = ⊥

module _ (policy : PolicyData) (view : View) (c : Called) where
  -- the caller may read the model's rows, and each field that the arguments name
  pub record MayAsk (named : Result (List Step) (List PathStep)) : Type 0 where
    pub model : may_read policy view.own view.user c.model ≡ true
    pub fields : IsOkAnd named (λ fields. first_denied policy view.own view.user fields ≡ None)

  -- why he may not, with the groups of the view
  abbrev pub IsDenied : Result (List Step) (List PathStep) → Refusal → Type 0
  IsDenied named why = IsDeniedWith policy view.own view.user c named why

  -- why a call is refused that looks for rows: its arguments are malformed, first at this place, or he may not ask
  abbrev pub IsRefused : {A : Type 0} → Result A (List PathStep) → Result (List Step) (List PathStep) → Refusal → Type 0
  IsRefused asked named (refusal.Request place) = asked ≡ Err place
  IsRefused asked named why = IsDenied named why

-- ---- whatever the keeper tells

module _ (policy : PolicyData) (c : Called) where
  -- in some groups a caller may not ask
  abbrev pub DenialCause : Result (List Step) (List PathStep) → Refusal → Type 0
  DenialCause named why = (own : List RecId) × IsDeniedWith policy own c.caller c named why

  -- why a call that looks for rows may be refused over any keeper
  abbrev pub AskCause : {A : Type 0} → Result A (List PathStep) → Result (List Step) (List PathStep) → Refusal → Type 0
  AskCause asked named (refusal.Request place) = asked ≡ Err place
  AskCause asked named why = DenialCause named why
