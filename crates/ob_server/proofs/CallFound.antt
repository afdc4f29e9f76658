-- The call that six elements or more make, where each is as it has to be.
use Rattle.std.proofs.Common.{◌≡◌, ◌<◌, ◌≢◌, arith, length, Err, ℕ, suc, Bool, true, false, List, [], ◌∷◌, Option, Some, None, Ok, Result, option_map, refl, Bor, slice_get}
use Rattle.std.specs.Prelude.{option_and_then, unwrap_or}
use Rattle.serde_json.specs.Data.{Data, object, no_members, Items, item}
use Rattle.serde_json.specs.View.{view, items_view}
use Rattle.serde_json.specs.declared.value.Value.{Value}
use Rattle.ob_base.specs.Chain.{◌>>=◌}
use Rattle.ob_base.specs.declared.id.ModelNo.{ModelNo}
use Rattle.ob_base.specs.declared.id.RecId.{RecId}
use Rattle.ob_rpc.specs.Envelope.{is_text}
use Rattle.serde_json.specs.Find.{as_str}
use Rattle.ob_schema.specs.Models.{model_named}
use Rattle.ob_server.specs.Directory.{Directory}
use Rattle.ob_server.specs.MethodCall.{LooksUpCaller}
use Rattle.ob_server.specs.Request.{Call, call_in, call_of, caller_of, element, method_named, named_args, whole_number}
use Rattle.ob_server.specs.Setup.{Setup}
use Rattle.ob_server.specs.declared.request.Layout.{Layout}
use Rattle.ob_server.specs.declared.request.Method.{Method}

-- the first of the elements left, seen by its data, is the arguments by name
pub named_first : (rest : List Value) (found : Option (Bor Value)) → option_map (λ kw. kw.now) found ≡ slice_get rest 0 → named_args (items_view rest) ≡ unwrap_or (option_map (λ kw. view kw.now) found) (object no_members)
named_first [] None is = refl
named_first [] (Some kw) is = absurd (cc)
named_first (v ∷ rest) None is = absurd (cc)
named_first (v ∷ rest) (Some kw) is = let same : kw.now ≡ v = cc in rw same refl

-- the answer that a call with these arguments by name is found
abbrev pub with_kw : RecId → Layout → ModelNo → Method → (args kw : Data) → Result Call ℕ
with_kw caller layout m meth args kw = Ok (record { caller = caller; model = m; method = meth; args = args; kw = kw; layout = layout })

-- what is wrong behind the first element isn't wrong there
past_first : {A B : Type 0} (n : ℕ) (o : Option A) (next : A → Result B ℕ) → ((a : A) → next a ≢ Err 0) → (element (suc n) o >>= next) ≢ Err 0
past_first n None next rest = λ is. absurd cc
past_first n (Some a) next rest = rest a

module _ (setup : Setup) (directory : Directory) (layout : Layout) (db user key model method args : Data) (rest : Items) where
  abbrev elements : Items
  elements = item db (item user (item key (item model (item method (item args rest)))))

  -- elements of another database are wrong there
  pub no_database : is_text setup.database db ≡ false → call_of setup directory layout elements ≡ Err 0
  no_database other = rw other refl

  module _ (is_db : is_text setup.database db ≡ true) where
    -- else a caller has to be looked up
    pub looks_up : LooksUpCaller (call_of setup directory layout elements)
    looks_up = rw is_db
        (past_first 0 (caller_of directory user key) (call_in setup.models layout model method args rest)
        (λ caller. past_first 2 (option_and_then (model_named setup.models) (as_str model)) _ (λ number. past_first 3 (method_named method) _ (λ named none. absurd cc))))

    -- those of no caller are wrong at the user
    pub no_caller : caller_of directory user key ≡ None → call_of setup directory layout elements ≡ Err 1
    no_caller none = rw (is_db, none) refl

    module _ (caller : RecId) (is_caller : caller_of directory user key ≡ Some caller) where
      -- without a model of its name at that of the model
      pub no_model : option_and_then (model_named setup.models) (as_str model) ≡ None → call_of setup directory layout elements ≡ Err 3
      no_model none = rw (is_db, is_caller, none) refl

      module _ (m : ModelNo) (found : option_and_then (model_named setup.models) (as_str model) ≡ Some m) where
        -- without a method of it at that of the method
        pub no_method : method_named method ≡ None → call_of setup directory layout elements ≡ Err 4
        no_method named = rw (is_db, is_caller, found, named) refl

        -- else they make a call
        pub call_found : (meth : Method) → method_named method ≡ Some meth → call_of setup directory layout elements ≡ with_kw caller layout m meth args (named_args rest)
        call_found meth named = rw (is_db, is_caller, found, named) refl

-- ---- the caller

module _ (directory : Directory) (user key : Data) where
  -- what is no integer names nobody
  pub no_number : whole_number user ≡ None → None ≡ caller_of directory user key
  no_number none = rw none refl

  module _ (id : ℕ) (is_id : whole_number user ≡ Some id) where
    -- nor does what has no text for a key
    pub no_word : as_str key ≡ None → None ≡ caller_of directory user key
    no_word none = rw (is_id, none) refl

    -- else it is whom the key opens a call for
    module _ (word : List ℕ) (is_word : as_str key ≡ Some word) where
      pub opened_for : (may : Bool) → may ≡ true → may ≡ directory.may_call (record { 0 = id }) word → Some (record { 0 = id }) ≡ caller_of directory user key
      opened_for may opens is = rw (is_id, is_word, ← is, opens) refl

      pub shut_for : (may : Bool) → may ≡ false → may ≡ directory.may_call (record { 0 = id }) word → None ≡ caller_of directory user key
      shut_for may shuts is = rw (is_id, is_word, ← is, shuts) refl

-- ---- all elements

-- fewer than six elements are wrong at the first that is missing
pub few_elements : (setup : Setup) (directory : Directory) (layout : Layout) (vs : List Value) → length vs < 6 → call_of setup directory layout (items_view vs) ≡ Err (length vs)
few_elements setup directory layout [] few = refl
few_elements setup directory layout (a ∷ []) few = refl
few_elements setup directory layout (a ∷ b ∷ []) few = refl
few_elements setup directory layout (a ∷ b ∷ c ∷ []) few = refl
few_elements setup directory layout (a ∷ b ∷ c ∷ d ∷ []) few = refl
few_elements setup directory layout (a ∷ b ∷ c ∷ d ∷ e ∷ []) few = refl
few_elements setup directory layout (a ∷ b ∷ c ∷ d ∷ e ∷ f ∷ rest) few = absurd (omega arith)
