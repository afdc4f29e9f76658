-- Private: what the code has of a caller, and of the fields that arguments name.
use Rattle.std.specs.Prelude.{◌≡◌, ◌++◌, List, [], ◌∷◌, map, Bool, true, false, not, if◌then◌else◌, Option, Some, None, IsOkAnd, Result, Ok, Err, ⊤}
use Rattle.std.specs.Option.{option_map_or}
use Rattle.ob_access.specs.Views.{seen}
use Rattle.ob_base.specs.declared.id.ModelNo.{ModelNo}
use Rattle.ob_base.specs.declared.id.RecId.{RecId}
use Rattle.ob_base.specs.declared.place.PathStep.{PathStep}
use Rattle.ob_base.specs.declared.refusal.Op.TheVariants as op
use Rattle.ob_base.specs.declared.refusal.Refusal.{Refusal}
use Rattle.ob_base.specs.declared.refusal.Refusal.TheVariants as refusal
use Rattle.ob_cache.specs.declared.fault.ReadFault.{ReadFault}
use Rattle.ob_cache.specs.declared.fault.ReadFault.TheVariants as read_fault
use Rattle.ob_call.specs.Arguments.{Given}
use Rattle.ob_domain.specs.declared.fault.HoldFault.{HoldFault}
use Rattle.ob_domain.specs.declared.fault.HoldFault.TheVariants as hold_fault
use Rattle.ob_io.specs.declared.keeper.KeepFault.{KeepFault}
use Rattle.ob_io.specs.declared.keeper.KeepFault.TheVariants as keep_fault
use Rattle.ob_query.specs.NamedFields.{is_positioned}
use Rattle.ob_query.specs.Views as views
use Rattle.ob_query.specs.declared.caller.Caller.{Caller}
use Rattle.ob_query.specs.declared.naming.Naming.{Naming}
use Rattle.ob_schema.specs.Facts.{Told}
use Rattle.ob_schema.specs.declared.info.ModelInfo.{ModelInfo}
use Rattle.ob_schema.specs.declared.info.Step.{Step}

module _ (by : Caller) where
  -- what he may read
  abbrev pub may_read : ModelNo → Bool
  may_read model = views.may_read by.policy.now by.groups.now by.user model

  abbrev pub may_read_field : Step → Bool
  may_read_field field = views.may_read_field by.policy.now by.groups.now by.user field

  abbrev pub first_denied : List Step → Option Step
  first_denied fields = views.first_denied by.policy.now by.groups.now by.user fields

  -- what he sees of what is told
  abbrev pub seen_by : List ModelInfo → Told → Told
  seen_by models told = seen models by.policy.now by.groups.now by.user told

-- what an argument names, and whether it is given by position
abbrev pub Named : Type 0
Named = Bool × List Step

abbrev pub named_of : Naming → Named
named_of n = (n.positioned, n.fields.items)

-- what those name that are given by position, or the others
abbrev pub named_where : Bool → List Named → List Step
named_where positioned [] = []
named_where positioned (n ∷ ns) = (if (if positioned then n.0 else not n.0) then n.1 else []) ++ named_where positioned ns

-- the fields that arguments name: first those of arguments by position
abbrev pub in_turn : List Named → List Step
in_turn ns = named_where true ns ++ named_where false ns

abbrev pub fields_named : List Naming → List Step
fields_named namings = in_turn (map named_of namings)

-- an argument that is given by position, or isn't given
abbrev pub is_first : Option Given → Bool
is_first given = option_map_or (λ g. is_positioned g.place) given true

-- an answer about rows, told apart: where nothing is told, this stands in for it
abbrev pub IsAnswered : {T : Type 0} → Result T (HoldFault ReadFault) → T → Result T KeepFault → Type 0
IsAnswered (Ok x) other told = told ≡ Ok x
IsAnswered (Err (hold_fault.Fact read_fault.Missing)) other told = told ≡ Ok other
IsAnswered (Err (hold_fault.Fact read_fault.Keeper)) other told = told ≡ Err keep_fault.Failed
IsAnswered (Err (hold_fault.Fact read_fault.NoMemory)) other told = told ≡ Err keep_fault.NoMemory
IsAnswered (Err hold_fault.NoMemory) other told = told ≡ Err keep_fault.NoMemory

-- he may ask; or he may not read the model's rows; else a field that is named, the first of those
abbrev pub IsGranted : {T : Type 0} → Caller → ModelNo → List Step → Result T Refusal → Type 0
IsGranted by model fields (Ok _) = (may_read by model ≡ true) × (first_denied by fields ≡ None)
IsGranted by model fields (Err (refusal.Right m operation)) = (m ≡ model) × (operation ≡ op.Read) × (may_read by model ≡ false)
IsGranted by model fields (Err (refusal.FieldRight m field)) = (may_read by model ≡ true) × (first_denied by fields ≡ Some (record { model = m; field = field }))
IsGranted by model fields (Err _) = ⊥

-- what a call asks for, where its caller may ask it; or why it is refused: at the first place that is wrong, or since he may not
abbrev pub IsAskedBy : {A B : Type 0} → Caller → ModelNo → (A → B → Type 0) → Result B (List PathStep) → Result (List Step) (List PathStep) → Result A Refusal → Type 0
IsAskedBy by model Stands asked named (Ok a) = IsOkAnd asked (Stands a) × IsOkAnd named (λ fields. (may_read by model ≡ true) × (first_denied by fields ≡ None))
IsAskedBy by model Stands asked named (Err (refusal.Request place)) = asked ≡ Err place
IsAskedBy by model Stands asked named (Err refusal.NoMemory) = ⊤
IsAskedBy {A} by model Stands asked named (Err why) = IsOkAnd named (λ fields. IsGranted {T = A} by model fields (Err why))

-- what is asked for stands so, where its caller may ask it; or why he may not; or memory is wanting
abbrev pub IsAllowed : {A : Type 0} → Caller → ModelNo → List Step → (A → Type 0) → Result A Refusal → Type 0
IsAllowed by model fields Stands (Ok a) = Stands a × (may_read by model ≡ true) × (first_denied by fields ≡ None)
IsAllowed by model fields Stands (Err refusal.NoMemory) = ⊤
IsAllowed {A} by model fields Stands (Err why) = IsGranted {T = A} by model fields (Err why)
