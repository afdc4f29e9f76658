-- The answer of a fields_get, by its arguments.
use Rattle.std.proofs.Common.{◌≡◌, ◌≤◌, List, [], ◌∷◌, filter, get_or, Option, Some, None, option_map, Result, Ok, Err, refl, sym, ap, ◌∙◌}
use Rattle.std.specs.Prelude.{IfSome}
use Rattle.ob_access.specs.Policies.{PolicyData}
use Rattle.ob_access.specs.Users.{AreGroupsOf}
use Rattle.ob_base.specs.declared.id.FieldNo.{FieldNo}
use Rattle.ob_base.specs.declared.id.ModelNo.{ModelNo}
use Rattle.ob_base.specs.declared.id.RecId.{RecId}
use Rattle.ob_base.specs.declared.refusal.Refusal.{Refusal}
use Rattle.ob_base.specs.declared.refusal.Refusal.TheVariants as refusal
use Rattle.ob_cache.specs.Calls.{HasTables, IsAsked, KeeperRose, Refuses, Standpoint}
use Rattle.ob_cache.specs.Standing.{Stays}
use Rattle.ob_cache.proofs.CallerLemmas.{Refuses-weaker}
use Rattle.ob_call.specs.Arguments as arguments
use Rattle.ob_call.specs.Arguments.{AreFit, arguments_of}
use Rattle.ob_call.specs.ArgumentsSteps.{all_given_of, given_of}
use Rattle.ob_call.specs.Called.{called_by}
use Rattle.ob_call.specs.Columns.{asked_columns, columns_at}
use Rattle.ob_call.specs.Forms.{fields_at}
use Rattle.ob_call.specs.Results.{IsResultOf}
use Rattle.ob_call.specs.declared.arguments.Given.{Given}
use Rattle.ob_call.specs.declared.call.Call.{Call}
use Rattle.ob_call.proofs.CallerLemmas.{at_info}
use Rattle.ob_fields.proofs.ReadableFields.{columns-readable}
use Rattle.ob_fields.specs.FieldsGet.{GetsFields, GetsFieldsCause, fields_data, fields_get_expects, fields_told, readable, texts_in}
use Rattle.ob_fields.specs.FieldsGetSteps.{AreAsked, IsTold, may_read, readable_by}
use Rattle.ob_rows.specs.declared.asking.Caller.{Caller}
use Rattle.ob_fields.specs.declared.fields.attributes.Attributes.{Attributes}
use Rattle.ob_schema.specs.Models.{model_at}
use Rattle.ob_schema.specs.Tables.{Tables}
use Rattle.ob_schema.specs.declared.info.FieldInfo.{FieldInfo}
use Rattle.ob_schema.specs.declared.info.ModelInfo.{ModelInfo}
use Rattle.serde_json.specs.Data.{Data}
use Rattle.serde_json.specs.View.{view}

-- ---- the arguments

-- the arguments are two
pub record Two (given : List (Option Given)) : Type 0 where
  pub names : Option Given
  pub words : Option Given
  pub are : given ≡ names ∷ words ∷ []

-- the arguments of a fields_get that fit
two_given : (fields : List FieldInfo) (given : List (Option Given)) → AreFit (fields_get_expects fields) (all_given_of given) → Two given
two_given fields [] fit = absurd fit
two_given fields (a ∷ []) fit = absurd fit.1
two_given fields (a ∷ b ∷ []) fit = record { names = a; words = b; are = refl }
two_given fields (a ∷ b ∷ more ∷ given) fit = absurd fit.1.1

-- those at the two places are all
all_two : (given : List (Option Given)) (a b : Option Given) → Two given → a ≡ get_or given 0 a → b ≡ get_or given 1 b → given ≡ a ∷ b ∷ []
all_two given a b two one other =
    let first : a ≡ two.names = one ∙ ap (λ (gs : List (Option Given)). get_or gs 0 a) two.are in
    let second : b ≡ two.words = other ∙ ap (λ (gs : List (Option Given)). get_or gs 1 b) two.are in
    two.are ∙ sym (ap (λ (x : Option Given). x ∷ two.words ∷ []) first ∙ refl) ∙ ap (λ (y : Option Given). a ∷ y ∷ []) (sym second)

-- where memory is wanting
pub wanting : (models : List ModelInfo) (policy : PolicyData) (own : List RecId) (call : Call) → IfSome (model_at models call.model) (λ info. IsTold models policy own (called_by call info) (Err refusal.NoMemory))
wanting models policy own call = each (model_at models call.model) where
  each : (found : Option ModelInfo) → IfSome found (λ info. IsTold models policy own (called_by call info) (Err refusal.NoMemory))
  each None = tt
  each (Some info) = tt

-- ---- what is told of the fields that a caller may read

-- of the numbers of the fields that are asked for those that he may read, and what is told of them
pub told-readable : (models : List ModelInfo) (by : Caller) (model : ModelNo) (names words : Option arguments.Given) (attributes : Attributes) (numbers readable : List FieldNo) (json : Data)
    → IfSome (model_at models model) (λ info. columns_at info numbers ≡ asked_columns info names) → AreAsked (texts_in words) attributes → readable ≡ filter (may_read by model) numbers
    → IfSome (model_at models model) (λ info. (texts : List Data) → AreAsked texts attributes → json ≡ fields_data models texts (columns_at info readable))
    → IfSome (model_at models model) (λ info. json ≡ fields_data models (texts_in words) (readable_by by model (asked_columns info names)))
told-readable models by model names words attributes numbers readable json asked are cut told = both (model_at models model) asked told where
  both : (found : Option ModelInfo) → IfSome found (λ info. columns_at info numbers ≡ asked_columns info names)
      → IfSome found (λ info. (texts : List Data) → AreAsked texts attributes → json ≡ fields_data models texts (columns_at info readable))
      → IfSome found (λ info. json ≡ fields_data models (texts_in words) (readable_by by model (asked_columns info names)))
  both None a t = tt
  both (Some info) a t =
      t (texts_in words) are
      ∙ ap (fields_data models (texts_in words)) (ap (columns_at info) cut ∙ columns-readable by model info numbers ∙ ap (readable_by by model) a)

-- ---- the refusal and the answer, by his groups

-- arguments that are wrong at a place
pub denied : {A : Type 0} (of : A → List (Option arguments.Given)) (models : List ModelInfo) (policy : PolicyData) (own : List RecId) (call : Call) (why : Refusal)
    → IsResultOf of (Err why) (arguments_of (fields_get_expects (fields_at models call.model)) (view call.args.now) (view call.kw.now))
    → IfSome (model_at models call.model) (λ info. IsTold models policy own (called_by call info) (Err why))
denied of models policy own call (refusal.Request place) e = at_info models call.model (λ fields. arguments_of (fields_get_expects fields) (view call.args.now) (view call.kw.now) ≡ Err place) e
denied of models policy own call refusal.NoMemory e = wanting models policy own call
denied of models policy own call _ e = absurd e

-- arguments that are right, and what is told of the fields that he may read
pub answered : (models : List ModelInfo) (by : Caller) (call : Call) (given : List (Option Given)) (a b : Option Given) (json : Data) → by.user ≡ call.caller
    → AreFit (fields_get_expects (fields_at models call.model)) (all_given_of given)
    → arguments_of (fields_get_expects (fields_at models call.model)) (view call.args.now) (view call.kw.now) ≡ Ok (all_given_of given)
    → a ≡ get_or given 0 a → b ≡ get_or given 1 b
    → IfSome (model_at models call.model) (λ info. json ≡ fields_data models (texts_in (option_map given_of b)) (readable_by by call.model (asked_columns info (option_map given_of a))))
    → IfSome (model_at models call.model) (λ info. IsTold models by.policy.now by.groups.now (called_by call info) (Ok json))
answered models by call given a b json user fit are one other told =
    each (model_at models call.model) (at_info models call.model (λ fields. arguments_of (fields_get_expects fields) (view call.args.now) (view call.kw.now) ≡ Ok (all_given_of given)) are) told where
      all : given ≡ a ∷ b ∷ []
      all = all_two given a b (two_given (fields_at models call.model) given fit) one other

      says : ModelInfo → RecId → Data
      says info who = fields_data models (texts_in (option_map given_of b)) (readable by.policy.now by.groups.now who call.model (asked_columns info (option_map given_of a)))

      each : (found : Option ModelInfo) → IfSome found (λ info. arguments_of (fields_get_expects info.fields) (view call.args.now) (view call.kw.now) ≡ Ok (all_given_of given))
          → IfSome found (λ info. json ≡ fields_data models (texts_in (option_map given_of b)) (readable_by by call.model (asked_columns info (option_map given_of a))))
          → IfSome found (λ info. IsTold models by.policy.now by.groups.now (called_by call info) (Ok json))
      each None right tells = tt
      each (Some info) right tells = (
        all_given_of given,
        right,
        tells ∙ ap (says info) user ∙ ap (λ (gs : List (Option Given)). fields_told models by.policy.now by.groups.now (called_by call info) (all_given_of gs)) (sym all),
      )

-- ---- the call

module _ (models : List ModelInfo) (policy : PolicyData) (call : Call) (before after : Standpoint) (same : Stays before.kept before.held after.kept after.held) (count : before.faults ≤ after.faults) where
  -- what a call does of a model that may be there
  abbrev pub Gets : Option ModelInfo → Result Data Refusal → Type 0
  Gets found outcome = IfSome found (λ info. IsAsked (GetsFields models policy (called_by call info)) before after (GetsFieldsCause (called_by call info)) outcome)

  -- the engine told no groups
  pub ungrouped : (found : Option ModelInfo) (why : Refusal) → Refuses (KeeperRose before after) (λ _. ⊥) why → Gets found (Err why)
  ungrouped None why h = tt
  ungrouped (Some info) why h = record {
    answer = λ tables has. caused;
    causes = caused;
    same = same;
    count = count;
  } where
    caused : Refuses (KeeperRose before after) (GetsFieldsCause (called_by call info)) why
    caused = Refuses-weaker (KeeperRose before after) (KeeperRose before after) (λ _. ⊥) (GetsFieldsCause (called_by call info)) why (λ risen. risen) (λ r never. absurd never) h

  -- it told them, and nothing more was asked
  pub grouped : (own : List RecId) → ((tables : Tables) → HasTables before tables → AreGroupsOf models policy tables call.caller own) → (found : Option ModelInfo) (outcome : Result Data Refusal)
      → IfSome found (λ info. IsTold models policy own (called_by call info) outcome) → Gets found outcome
  grouped own groups None outcome told = tt
  grouped own groups (Some info) (Ok json) told = record { answer = λ tables has. (own, groups tables has, told); causes = tt; same = same; count = count }
  grouped own groups (Some info) (Err why) told = record { answer = λ tables has. refused; causes = refused; same = same; count = count } where
    refused : Refuses (KeeperRose before after) (GetsFieldsCause (called_by call info)) why
    refused = Refuses-weaker ⊥ (KeeperRose before after) (GetsFieldsCause (called_by call info)) (GetsFieldsCause (called_by call info)) why (λ never. absurd never) (λ r cause. cause) told
