-- What the JSON of one value gives a field of a row.
use Rattle.std.proofs.Common.{true, true≢false, ◌≡◌, ◌≢◌, ℕ, ◌++◌, Bool, false, cond, List, Option, Some, None, Result, Ok, Err, option_map, sym, ap, subst, ◌∙◌, Bor, string_bytes}
use Rattle.std.specs.Prelude.{IfSome}
use Rattle.std.specs.BTreeMap.{is_at}
use Rattle.std.specs.Cmp.Lexicographic.{slice_cmp}
use Rattle.std.specs.Map.{lookup}
use Rattle.std.specs.Ordering.{nat_cmp}
use Rattle.serde_json.specs.Data.{Data}
use Rattle.serde_json.specs.Find.{get_member}
use Rattle.serde_json.specs.View.{view, members_view}
use Rattle.serde_json.specs.declared.value.Value.{Value as Json}
use Rattle.serde_json.proofs.Views.{Entry, view_of_ref, view-lookup}
use Rattle.ob_base.specs.declared.place.PathStep.{PathStep}
use Rattle.ob_base.specs.declared.refusal.Refusal.{Refusal}
use Rattle.ob_base.specs.declared.refusal.Refusal.TheVariants as refusal
use Rattle.ob_base.specs.declared.value.Value.{Value}
use Rattle.ob_codec.proofs.CallerLemmas.{HasType-from_IsValueOf}
use Rattle.ob_codec.specs.JsonForm.{IsInput, IsInputFault, value_from}
use Rattle.ob_codec.specs.declared.input.Command.{Command}
use Rattle.ob_codec.specs.declared.input.Input.{Input}
use Rattle.ob_codec.specs.declared.input.Input.TheVariants as input
use Rattle.ob_codec.specs.declared.fault.CodecFault.{CodecFault}
use Rattle.ob_codec.specs.declared.fault.CodecFault.TheVariants as codec
use Rattle.ob_schema.specs.Fields.{HasFieldType, Holds}
use Rattle.ob_definition.specs.Types.{is_list}
use Rattle.ob_schema.specs.declared.info.FieldInfo.{FieldInfo}
use Rattle.ob_orm.specs.RowValues.{placed}
use Rattle.ob_orm.specs.CreateSteps.{IsFaultAt}
use Rattle.ob_rows.specs.Makeable.{IsMakeable}
use Rattle.ob_call.specs.Places.{IsMalformedAt}
use Rattle.ob_call.specs.Results.{IsResultOf}
use Rattle.ob_rows.proofs.CallerLemmas.{told, tell}

-- ---- a value, where the field is no list

-- what JSON gives a field
abbrev pub GivesInput : Option FieldInfo → Data → Input → Type 0
GivesInput o d given = IfSome o (λ info. IsInput info.field_type info.selection d given)

-- the fault for which it gives nothing
abbrev pub GivesFault : Option FieldInfo → Data → CodecFault → Type 0
GivesFault o d fault = IfSome o (λ info. IsInputFault info.field_type info.selection d fault)

abbrev pub NoList : Option FieldInfo → Type 0
NoList o = IfSome o (λ field. is_list field.field_type ≡ false)

-- commands are given to lists alone
pub no_commands : (o : Option FieldInfo) (f : FieldInfo) (d : Data) (commands : List Command) → o ≡ Some f → NoList o → GivesInput o d (input.Commands commands) → ⊥
no_commands o f d commands is no_list given =
    let flat : is_list f.field_type ≡ false = told o f (λ field. is_list field.field_type ≡ false) is no_list in
    let own = told o f (λ info. IsInput info.field_type info.selection d (input.Commands commands)) is given in
    true≢false (sym own.0 ∙ flat)

-- a value as it was read
pub value_read : (o : Option FieldInfo) (f : FieldInfo) (d : Data) (place : FieldInfo → List PathStep) (v : Value) → o ≡ Some f → GivesInput o d (input.Plain v)
    → IfSome o (λ field. IsResultOf (λ w. w) (Ok v) (placed (place field) (value_from field.field_type field.selection d)))
value_read o f d place v is given =
    let own = told o f (λ info. IsInput info.field_type info.selection d (input.Plain v)) is given in
    tell o f (λ field. placed (place field) (value_from field.field_type field.selection d) ≡ Ok v) is (ap (placed (place f)) own.1)

-- what tells a place gives it
pub IsResultOf-malformed : {A B : Type 0} (of : A → B) (place : List PathStep) (why : Refusal) (meant : Result B (List PathStep)) → IsMalformedAt place why → meant ≡ Err place → IsResultOf of (Err why) meant
IsResultOf-malformed of place (refusal.Request told) meant at is = is ∙ ap Err (sym at)
IsResultOf-malformed of place (refusal.Right m op) meant at is = absurd at
IsResultOf-malformed of place (refusal.FieldRight m field) meant at is = absurd at
IsResultOf-malformed of place (refusal.Missing m id) meant at is = absurd at
IsResultOf-malformed of place (refusal.Rule m op id name) meant at is = absurd at
IsResultOf-malformed of place (refusal.Constraint b) meant at is = absurd at
IsResultOf-malformed of place refusal.Keeper meant at is = absurd at
IsResultOf-malformed of place refusal.NoMemory meant at is = tt

-- want of memory gives anything
pub IsResultOf-no_memory : {A B : Type 0} (of : A → B) (why : Refusal) (meant : Result B (List PathStep)) → why ≡ refusal.NoMemory → IsResultOf of (Err why) meant
IsResultOf-no_memory {A = A} of why meant is = subst (λ (w : Refusal). IsResultOf of (Err w) meant) (sym is) tt

-- a fault of the value is one at its place
fault_gives : (place : List PathStep) (fault : CodecFault) (why : Refusal) (r : Result Value CodecFault) → IsFaultAt place fault why → (fault ≢ codec.NoMemory → r ≡ Err fault) → IsResultOf (λ w. w) (Err why) (placed place r)
fault_gives place (codec.Shape below) why r at is = IsResultOf-malformed (λ w. w) (place ++ below) why (placed place r) at (ap (placed place) (is (λ e. cc)))
fault_gives place (codec.Range below) why r at is = IsResultOf-malformed (λ w. w) (place ++ below) why (placed place r) at (ap (placed place) (is (λ e. cc)))
fault_gives place (codec.Unknown below) why r at is = IsResultOf-malformed (λ w. w) (place ++ below) why (placed place r) at (ap (placed place) (is (λ e. cc)))
fault_gives place codec.NoMemory why r at is = IsResultOf-no_memory (λ w. w) why (placed place r) at

-- a value that wasn't read
pub value_refused : (o : Option FieldInfo) (f : FieldInfo) (d : Data) (place : FieldInfo → List PathStep) (fault : CodecFault) (why : Refusal) → o ≡ Some f → NoList o → (fault ≢ codec.NoMemory
    → GivesFault o d fault) → IsFaultAt (place f) fault why
    → IfSome o (λ field. IsResultOf (λ w. w) (Err why) (placed (place field) (value_from field.field_type field.selection d)))
value_refused o f d place fault why is no_list given at =
    let flat : is_list f.field_type ≡ false = told o f (λ field. is_list field.field_type ≡ false) is no_list in
    tell o f (λ field. IsResultOf (λ w. w) (Err why) (placed (place field) (value_from field.field_type field.selection d))) is
    (fault_gives (place f) fault why (value_from f.field_type f.selection d) at (λ apart.
    let own = told o f (λ info. IsInputFault info.field_type info.selection d fault) is (given apart) in own.value flat))

-- ---- the value of a field of a row

-- what a look-up in the map answers, which is a member of the object
abbrev pub FoundAt : List ℕ → List Entry → Option (Bor Json) → Type 0
FoundAt name es r = option_map (λ x. x.now) r ≡ lookup (is_at (λ k. slice_cmp nat_cmp name (string_bytes k))) es

-- as its data
pub found : (name : List ℕ) (es : List Entry) (r : Option (Bor Json)) → FoundAt name es r → option_map (λ x. view x.now) r ≡ get_member name (members_view es)
found name es r e = view_of_ref r ∙ ap (option_map view) e ∙ view-lookup name es

-- ---- each has the type of the field

-- a value that the field holds
pub held_typed : (o : Option FieldInfo) (v : Value) → IfSome o (λ field. Holds field v) → HasFieldType o v
held_typed None v holds = tt
held_typed (Some f) v holds = HasType-from_IsValueOf f.field_type f.selection v holds

-- its default
pub default_typed : (o : Option FieldInfo) (f : FieldInfo) (made : Bool) (own : Option Value)
    → o ≡ Some f → IfSome o IsMakeable → own ≡ cond made f.default None → IfSome own (HasFieldType o)
default_typed o f made own is makeable default = subst (λ (d : Option Value). IfSome d (HasFieldType o)) (sym default) (by made) where
  each : (d : Option Value) → IfSome d (Holds f) → IfSome d (HasFieldType o)
  each None holds = tt
  each (Some v) holds = held_typed o v (tell o f (λ field. Holds field v) is holds)

  by : (b : Bool) → IfSome (cond b f.default None) (HasFieldType o)
  by true = each f.default (told o f IsMakeable is makeable).default
  by false = tt
