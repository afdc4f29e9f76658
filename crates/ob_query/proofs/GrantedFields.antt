-- What a caller may ask, by what he is granted.
use Rattle.std.proofs.Common.{◌≡◌, true, List, Option, Some, None, Result, Ok, Err, sym, subst, ap}
use Rattle.std.specs.Prelude.{IfErr, IfOk, IfSome, IsOkAnd}
use Rattle.std.proofs.lemmas.Option.{IfSome_then}
use Rattle.ob_base.specs.Chain.{◌>>=◌}
use Rattle.ob_base.specs.declared.id.ModelNo.{ModelNo}
use Rattle.ob_base.specs.declared.place.PathStep.{PathStep}
use Rattle.ob_base.specs.declared.refusal.Refusal.{Refusal}
use Rattle.ob_base.specs.declared.refusal.Refusal.TheVariants as refusal
use Rattle.ob_call.proofs.CallerLemmas.{at_info}
use Rattle.ob_call.specs.Arguments.{Expected, Given, arguments_of}
use Rattle.ob_call.specs.Forms.{fields_at}
use Rattle.ob_call.specs.Results.{IsResultOf}
use Rattle.ob_query.specs.Callers.{IsAllowed, IsAskedBy, IsGranted, first_denied, may_read}
use Rattle.ob_query.specs.declared.caller.Caller.{Caller}
use Rattle.ob_schema.specs.Models.{model_at}
use Rattle.ob_schema.specs.declared.info.FieldInfo.{FieldInfo}
use Rattle.ob_schema.specs.declared.info.ModelInfo.{ModelInfo}
use Rattle.ob_schema.specs.declared.info.Step.{Step}
use Rattle.serde_json.specs.Data.{Data}

-- what holds whatever the model is
pub everywhere : {M : Type 0} (found : Option M) (P : M → Type 0) → ((m : M) → P m) → IfSome found P
everywhere None P each = tt
everywhere (Some m) P each = each m

module _ (by : Caller) (model : ModelNo) (fields : List Step) where
  -- one who isn't granted it is denied it
  pub denied_allowed : (S : Type 0) {T : Type 0} (Own : T → Type 0) (why : Refusal) → IsGranted {T = S} by model fields (Err why) → IsAllowed by model fields Own (Err why)
  denied_allowed S Own (refusal.Request place) h = absurd h
  denied_allowed S Own (refusal.Right m operation) h = h
  denied_allowed S Own (refusal.FieldRight m field) h = h
  denied_allowed S Own (refusal.Missing m id) h = absurd h
  denied_allowed S Own (refusal.Rule m operation id name) h = absurd h
  denied_allowed S Own (refusal.Constraint broken) h = absurd h
  denied_allowed S Own refusal.Keeper h = absurd h
  denied_allowed S Own refusal.NoMemory h = tt

  -- nor may he ask it
  pub denied_asked : (S : Type 0) {A B : Type 0} (Stands : A → B → Type 0) (asked : Result B (List PathStep)) (named : Result (List Step) (List PathStep)) → named ≡ Ok fields → (why : Refusal)
      → IsGranted {T = S} by model fields (Err why) → IsAskedBy by model Stands asked named (Err why)
  denied_asked S Stands asked named names (refusal.Request place) h = absurd h
  denied_asked S {A} Stands asked named names (refusal.Right m operation) h =
      subst (λ (r : Result (List Step) (List PathStep)). IsOkAnd r (λ fields. IsGranted {T = A} by model fields (Err (refusal.Right m operation)))) (sym names) h
  denied_asked S {A} Stands asked named names (refusal.FieldRight m field) h =
      subst (λ (r : Result (List Step) (List PathStep)). IsOkAnd r (λ fields. IsGranted {T = A} by model fields (Err (refusal.FieldRight m field)))) (sym names) h
  denied_asked S Stands asked named names (refusal.Missing m id) h = absurd h
  denied_asked S Stands asked named names (refusal.Rule m operation id name) h = absurd h
  denied_asked S Stands asked named names (refusal.Constraint broken) h = absurd h
  denied_asked S Stands asked named names refusal.Keeper h = absurd h
  denied_asked S Stands asked named names refusal.NoMemory h = absurd h

  -- one who is gets what is made
  pub granted_allowed : {S T : Type 0} (s : S) (Own : T → Type 0) (r : Result T Refusal) → IsGranted by model fields (Ok s) → IfOk r Own → IfErr r (λ why. why ≡ refusal.NoMemory) → IsAllowed by model fields Own r
  granted_allowed s Own (Ok t) may made causes = (made, may.0, may.1)
  granted_allowed s Own (Err why) may made causes = subst (λ (w : Refusal). IsAllowed by model fields Own (Err w)) (sym causes) tt

  -- what is allowed stands so
  pub allowed_ok : {T : Type 0} (Own : T → Type 0) (r : Result T Refusal) → IsAllowed by model fields Own r → IfOk r Own
  allowed_ok Own (Ok t) h = h.0
  allowed_ok Own (Err why) h = tt

  module _ {A B : Type 0} (Own : A → Type 0) (Stands : A → B → Type 0) (asked : Result B (List PathStep)) (named : Result (List Step) (List PathStep)) (names : named ≡ Ok fields) where
    at_fields : (P : List Step → Type 0) → P fields → IsOkAnd named P
    at_fields P h = subst (λ (r : Result (List Step) (List PathStep)). IsOkAnd r P) (sym names) h

    -- so it is what the call asks, with the fields that it names
    pub allowed_asked : (b : B) (r : Result A Refusal) → asked ≡ Ok b → ((a : A) → Own a → Stands a b) → IsAllowed by model fields Own r → IsAskedBy by model Stands asked named r
    allowed_asked b (Ok a) is stands h = (
      subst (λ (q : Result B (List PathStep)). IsOkAnd q (Stands a)) (sym is) (stands a h.0),
      at_fields (λ fields. (may_read by model ≡ true) × (first_denied by fields ≡ None)) (h.1, h.2),
    )
    allowed_asked b (Err (refusal.Request place)) is stands h = absurd h
    allowed_asked b (Err (refusal.Right m operation)) is stands h = at_fields (λ fields. IsGranted {T = A} by model fields (Err (refusal.Right m operation))) h
    allowed_asked b (Err (refusal.FieldRight m field)) is stands h = at_fields (λ fields. IsGranted {T = A} by model fields (Err (refusal.FieldRight m field))) h
    allowed_asked b (Err (refusal.Missing m id)) is stands h = absurd h
    allowed_asked b (Err (refusal.Rule m operation id name)) is stands h = absurd h
    allowed_asked b (Err (refusal.Constraint broken)) is stands h = absurd h
    allowed_asked b (Err refusal.Keeper) is stands h = absurd h
    allowed_asked b (Err refusal.NoMemory) is stands h = tt

-- ---- of a model that may be there

module _ {A B : Type 0} (by : Caller) (model : ModelNo) (found : Option ModelInfo) (Stands : ModelInfo → A → B → Type 0) (asked : ModelInfo → Result B (List PathStep)) (named : ModelInfo → Result (List Step) (List PathStep)) where
  pub allowed_in : (fields : List Step) (Own : A → Type 0) (meant : ModelInfo → B) (r : Result A Refusal) → IfSome found (λ info. asked info ≡ Ok (meant info)) → IfSome found (λ info. named info ≡ Ok fields)
      → ((info : ModelInfo) (a : A) → Own a → Stands info a (meant info)) → IsAllowed by model fields Own r → IfSome found (λ info. IsAskedBy by model (Stands info) (asked info) (named info) r)
  allowed_in fields Own meant r is names stands h = both found is names where
    both : (o : Option ModelInfo) → IfSome o (λ info. asked info ≡ Ok (meant info)) → IfSome o (λ info. named info ≡ Ok fields) → IfSome o (λ info. IsAskedBy by model (Stands info) (asked info) (named info) r)
    both None is names = tt
    both (Some info) is names = allowed_asked by model fields Own (Stands info) (asked info) (named info) names (meant info) r is (stands info) h

  -- where memory is wanting
  pub wanting_in : IfSome found (λ info. IsAskedBy by model (Stands info) (asked info) (named info) (Err refusal.NoMemory))
  wanting_in = everywhere found _ (λ info. tt)

-- arguments that are refused ask for nothing
pub denied_by : {A B G : Type 0} (by : Caller) (models : List ModelInfo) (model : ModelNo) (of : G → List (Option Given)) (Stands : ModelInfo → A → B → Type 0) (expects : List FieldInfo → List Expected)
    (asks : ModelInfo → List (Option Given) → B) (named : ModelInfo → Result (List Step) (List PathStep)) (args kw : Data) (why : Refusal) → IsResultOf of (Err why) (arguments_of (expects (fields_at models model)) args kw)
    → IfSome (model_at models model) (λ info. IsAskedBy by model (Stands info) (arguments_of (expects info.fields) args kw >>= λ gs. Ok (asks info gs)) (named info) (Err why))
denied_by by models model of Stands expects asks named args kw (refusal.Request place) is =
    IfSome_then (model_at models model) (at_info models model (λ fields. arguments_of (expects fields) args kw ≡ Err place) is)
    (λ info e. ap (λ (r : Result (List (Option Given)) (List PathStep)). r >>= λ gs. Ok (asks info gs)) e)
denied_by by models model of Stands expects asks named args kw refusal.NoMemory is = everywhere (model_at models model) _ (λ info. tt)
denied_by by models model of Stands expects asks named args kw _ is = absurd is
