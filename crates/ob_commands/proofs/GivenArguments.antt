-- The arguments of a create and of a write, as the code has them.
use Rattle.std.proofs.Common.{◌≡◌, codes, true, false, List, [], ◌∷◌, get_or, Option, Some, None, option_map, Result, Ok, Err, refl, sym, ap, subst, ◌∙◌}
use Rattle.std.specs.Prelude.{IfSome, ⊤}
use Rattle.std.proofs.lemmas.Bool.{false≢true}
use Rattle.serde_json.specs.View.{view}
use Rattle.ob_base.specs.declared.place.PathStep.{PathStep}
use Rattle.ob_base.specs.declared.refusal.Refusal.{Refusal}
use Rattle.ob_base.specs.declared.refusal.Refusal.TheVariants as refusal
use Rattle.ob_call.proofs.CallerLemmas.{at_info}
use Rattle.ob_call.specs.Arguments as arguments
use Rattle.ob_call.specs.Arguments.{AreFit, Expected, IsFit, arguments_of}
use Rattle.ob_call.specs.ArgumentsSteps.{all_given_of, given_of}
use Rattle.ob_call.specs.Called.{called_by}
use Rattle.ob_call.specs.Forms.{fields_at, ids_fault}
use Rattle.ob_call.specs.Ids.{named_ids}
use Rattle.ob_call.specs.Results.{IsResultOf}
use Rattle.ob_call.specs.declared.arguments.Given.{Given}
use Rattle.ob_call.specs.declared.call.Call.{Call}
use Rattle.ob_commands.specs.Asked.{create_expects, object_fault, objects_fault, write_expects}
use Rattle.ob_commands.specs.AskedSteps.{IsAskedWrite, IsGivenCreate}
use Rattle.ob_commands.specs.Changes.{first_of, second_of}
use Rattle.ob_commands.specs.declared.asked.Change.{Change}
use Rattle.ob_schema.specs.Models.{model_at}
use Rattle.ob_schema.specs.declared.info.FieldInfo.{FieldInfo}
use Rattle.ob_schema.specs.declared.info.ModelInfo.{ModelInfo}

-- one that fits
pub record IsSole (p : Expected) (gs : List (Option Given)) : Type 0 where
  pub first : Option Given
  pub are : gs ≡ first ∷ []
  pub fit : IsFit p (option_map given_of first)

pub sole : (p : Expected) (gs : List (Option Given)) → AreFit (p ∷ []) (all_given_of gs) → IsSole p gs
sole p [] h = absurd h
sole p (x ∷ []) h = record { first = x; are = refl; fit = h.0 }
sole p (x ∷ y ∷ gs) h = absurd h.1

-- the first of them is it
pub sole_is : (p : Expected) (gs : List (Option Given)) (x : Option Given) (one : IsSole p gs) → x ≡ get_or gs 0 x → x ≡ one.first
sole_is p gs x one at = at ∙ ap (λ (hs : List (Option Given)). get_or hs 0 x) one.are

-- so it fits
pub sole_fits : (p : Expected) (gs : List (Option Given)) (x : Option Given) → AreFit (p ∷ []) (all_given_of gs) → x ≡ get_or gs 0 x → IsFit p (option_map given_of x)
sole_fits p gs x h at = let one = sole p gs h in subst (λ (g : Option Given). IsFit p (option_map given_of g)) (sym (sole_is p gs x one at)) one.fit

-- and there is no other
pub sole_are : (p : Expected) (gs : List (Option Given)) (x : Option Given) → AreFit (p ∷ []) (all_given_of gs) → x ≡ get_or gs 0 x → gs ≡ x ∷ []
sole_are p gs x h at = let one = sole p gs h in one.are ∙ ap (λ (g : Option Given). g ∷ []) (sym (sole_is p gs x one at))

-- two that fit
pub record ArePair (p q : Expected) (gs : List (Option Given)) : Type 0 where
  pub first : Option Given
  pub second : Option Given
  pub are : gs ≡ first ∷ second ∷ []
  pub first_fits : IsFit p (option_map given_of first)
  pub second_fits : IsFit q (option_map given_of second)

pub pair : (p q : Expected) (gs : List (Option Given)) → AreFit (p ∷ q ∷ []) (all_given_of gs) → ArePair p q gs
pair p q [] h = absurd h
pair p q (x ∷ []) h = absurd h.1
pair p q (x ∷ y ∷ []) h = record { first = x; second = y; are = refl; first_fits = h.0; second_fits = h.1.0 }
pair p q (x ∷ y ∷ z ∷ gs) h = absurd h.1.1

-- the first and the second of them are these
pub first_is : (p q : Expected) (gs : List (Option Given)) (x : Option Given) (two : ArePair p q gs) → x ≡ get_or gs 0 x → x ≡ two.first
first_is p q gs x two at = at ∙ ap (λ (hs : List (Option Given)). get_or hs 0 x) two.are

pub second_is : (p q : Expected) (gs : List (Option Given)) (y : Option Given) (two : ArePair p q gs) → y ≡ get_or gs 1 y → y ≡ two.second
second_is p q gs y two at = at ∙ ap (λ (hs : List (Option Given)). get_or hs 1 y) two.are

pub second_fit : (p q : Expected) (gs : List (Option Given)) (y : Option Given) → AreFit (p ∷ q ∷ []) (all_given_of gs) → y ≡ get_or gs 1 y → IsFit q (option_map given_of y)
second_fit p q gs y h at = let two = pair p q gs h in subst (λ (g : Option Given). IsFit q (option_map given_of g)) (sym (second_is p q gs y two at)) two.second_fits

pub pair_are : (p q : Expected) (gs : List (Option Given)) (x y : Option Given) → AreFit (p ∷ q ∷ []) (all_given_of gs) → x ≡ get_or gs 0 x → y ≡ get_or gs 1 y → gs ≡ x ∷ y ∷ []
pair_are p q gs x y h at then =
    let two = pair p q gs h in
    two.are ∙ ap (λ (g : Option Given). g ∷ two.second ∷ []) (sym (first_is p q gs x two at)) ∙ ap (λ (g : Option Given). x ∷ g ∷ []) (sym (second_is p q gs y two then))

-- an argument that must be given is
pub must_be_given : (p : Expected) (o : Option Given) → p.required ≡ true → IsFit p (option_map given_of o) → o ≡ None → ⊥
must_be_given p None must fit is = let wrong : false ≡ true = sym fit ∙ must in false≢true wrong
must_be_given p (Some given) must fit is = absurd cc

-- ---- what is known of a model that may be there

pub everywhere : (o : Option ModelInfo) (P : ModelInfo → Type 0) → ((info : ModelInfo) → P info) → IfSome o P
everywhere None P each = tt
everywhere (Some info) P each = each info

pub known_of : (o : Option ModelInfo) (P Q : ModelInfo → Type 0) → ((info : ModelInfo) → P info → Q info) → IfSome o P → IfSome o Q
known_of None P Q step h = tt
known_of (Some info) P Q step h = step info h

-- ---- what is expected

abbrev pub vals_objects : List FieldInfo → Expected
vals_objects fields = record { name = codes "vals"; required = true; fault = objects_fault fields }

abbrev pub vals_object : List FieldInfo → Expected
vals_object fields = record { name = codes "vals"; required = true; fault = object_fault fields }

abbrev pub ids_given : Expected
ids_given = record { name = codes "ids"; required = true; fault = ids_fault }

-- ---- what a create is given

module _ (models : List ModelInfo) (call : Call) where
  abbrev CreateArguments : List FieldInfo → Result (List (Option arguments.Given)) (List PathStep)
  CreateArguments fields = arguments_of (create_expects fields) (view call.args.now) (view call.kw.now)

  abbrev WriteArguments : List FieldInfo → Result (List (Option arguments.Given)) (List PathStep)
  WriteArguments fields = arguments_of (write_expects fields) (view call.args.now) (view call.kw.now)

  abbrev pub GivesCreate : Result Given Refusal → Type 0
  GivesCreate r = IfSome (model_at models call.model) (λ info. IsGivenCreate (called_by call info) r)

  -- arguments that are refused
  pub create-refused : {A : Type 0} (of : A → List (Option arguments.Given)) (why : Refusal) → IsResultOf of (Err why) (CreateArguments (fields_at models call.model)) → GivesCreate (Err why)
  create-refused of (refusal.Request place) e = at_info models call.model (λ fields. CreateArguments fields ≡ Err place) e
  create-refused of refusal.NoMemory e = everywhere (model_at models call.model) (λ info. ⊤) (λ info. tt)
  create-refused of _ e = absurd e

  -- and arguments that are taken
  pub create-taken : (items : List (Option Given)) (vals : Given) → CreateArguments (fields_at models call.model) ≡ Ok (all_given_of items) → items ≡ Some vals ∷ [] → GivesCreate (Ok vals)
  create-taken items vals gives one =
      known_of (model_at models call.model) (λ info. CreateArguments info.fields ≡ Ok (all_given_of items)) (λ info. IsGivenCreate (called_by call info) (Ok vals))
      (λ info is. (all_given_of items, is, ap (λ (gs : List (Option Given)). first_of (all_given_of gs)) one))
      (at_info models call.model (λ fields. CreateArguments fields ≡ Ok (all_given_of items)) gives)

  -- ---- what a write is given

  abbrev pub GivesWrite : Result Change Refusal → Type 0
  GivesWrite r = IfSome (model_at models call.model) (λ info. IsAskedWrite (called_by call info) r)

  pub write-refused : {A : Type 0} (of : A → List (Option arguments.Given)) (why : Refusal) → IsResultOf of (Err why) (WriteArguments (fields_at models call.model)) → GivesWrite (Err why)
  write-refused of (refusal.Request place) e = at_info models call.model (λ fields. WriteArguments fields ≡ Err place) e
  write-refused of refusal.NoMemory e = everywhere (model_at models call.model) (λ info. ⊤) (λ info. tt)
  write-refused of _ e = absurd e

  pub write-taken : (items : List (Option Given)) (ids vals : Given) (change : Change) → WriteArguments (fields_at models call.model) ≡ Ok (all_given_of items) → items ≡ Some ids ∷ Some vals ∷ []
      → change.vals ≡ vals → change.ids.items ≡ named_ids (view ids.json.now) → GivesWrite (Ok change)
  write-taken items ids vals change gives two own are =
      known_of (model_at models call.model) (λ info. WriteArguments info.fields ≡ Ok (all_given_of items)) (λ info. IsAskedWrite (called_by call info) (Ok change))
      (λ info is. (
        all_given_of items,
        is,
        ap (λ (gs : List (Option Given)). second_of (all_given_of gs)) two ∙ ap (λ (v : Given). Some (given_of v)) (sym own),
        given_of ids,
        ap (λ (gs : List (Option Given)). first_of (all_given_of gs)) two,
        are,
      ))
      (at_info models call.model (λ fields. WriteArguments fields ≡ Ok (all_given_of items)) gives)
