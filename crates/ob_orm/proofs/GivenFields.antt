-- What an object gives a row, field by field.
use Rattle.std.proofs.Common.{◌≡◌, ℕ, suc, ◌+◌, ◌<◌, ◌≤◌, Bool, true, false, cond, not, List, [], ◌∷◌, ◌++◌, ◌&&◌, ◌||◌, length, drop, Option, None, Some, option_map, Result, Ok, Err, append-nil, append_assoc, Bor, refl, sym, ap, subst, ◌∙◌, arith}
use Rattle.std.specs.Prelude.{All, IfOk, IfSome, IsSomeAnd, slice_get}
use Rattle.std.specs.List.{enumerate_from}
use Rattle.std.specs.Option.{option_map_or, option_or}
use Rattle.std.specs.Result.{result_err}
use Rattle.std.proofs.lemmas.Bool.{and_parts, not-true, or_parts}
use Rattle.std.proofs.lemmas.List.{drop_all, drop_more}
use Rattle.std.proofs.lemmas.List.Elements.{All-append, All-nil, All-push}
use Rattle.std.proofs.lemmas.Option.{get_or_from_slice_get, same_Some, slice_get_within}
use Rattle.std.proofs.lemmas.Result.{IfOk-weaker}
use Rattle.serde_json.proofs.Views.{Entry}
use Rattle.serde_json.specs.Data.{Data, Members, object}
use Rattle.serde_json.specs.Find.{as_object, get_member}
use Rattle.serde_json.specs.View.{members_view, view}
use Rattle.serde_json.specs.declared.value.Value.{Value as Json}
use Rattle.ob_base.specs.Chain.{◌>>=◌}
use Rattle.ob_base.specs.declared.id.FieldNo.{FieldNo}
use Rattle.ob_base.specs.declared.id.ModelNo.{ModelNo}
use Rattle.ob_base.specs.declared.place.PathStep.{PathStep}
use Rattle.ob_base.specs.declared.place.PathStep.TheVariants.{Key}
use Rattle.ob_base.specs.declared.refusal.Refusal.{Refusal}
use Rattle.ob_base.specs.declared.refusal.Refusal.TheVariants as refusal
use Rattle.ob_base.specs.declared.value.Value.{Value}
use Rattle.ob_base.specs.declared.value.Value.TheVariants as value
use Rattle.ob_call.proofs.CallerLemmas.{slice_get-before}
use Rattle.ob_call.specs.Results.{IsResultOf}
use Rattle.ob_codec.proofs.CallerLemmas.{HasType-from_IsValueOf}
use Rattle.ob_codec.specs.JsonForm.{value_from}
use Rattle.ob_definition.specs.Types.{is_list}
use Rattle.ob_definition.specs.Values.{IsValueOf}
use Rattle.ob_definition.specs.declared.field_type.Choice.{Choice}
use Rattle.ob_definition.specs.declared.field_type.FieldType.{FieldType}
use Rattle.ob_definition.specs.declared.field_type.FieldType.TheVariants as type
use Rattle.ob_schema.specs.Fields.{Column, Holds, IsGivable, columns, is_plain_kept}
use Rattle.ob_schema.specs.Models.{HasKeysOf, IsField, IsModel, IsOriginIn, field_at, fields_of, model_at}
use Rattle.ob_schema.specs.declared.info.FieldInfo.{FieldInfo}
use Rattle.ob_schema.specs.declared.info.ModelInfo.{ModelInfo}
use Rattle.ob_schema.specs.declared.info.Origin.{Origin}
use Rattle.ob_schema.specs.declared.info.Origin.TheVariants as origin
use Rattle.ob_orm.specs.GivenValues.{GivenObject, formed, formed_values, given_to, keyed_fields, object_from, set_by, wrong_value}
use Rattle.ob_orm.specs.NewRows.{Values}
use Rattle.ob_orm.specs.NewRowSteps.{HasTargetKeys, HasTargetKeysFrom, IsLowRef, IsTyped}
use Rattle.ob_orm.specs.RowValues.{given_value, members_of, placed, valued}
use Rattle.ob_rows.specs.Values.{is_free, is_settable, is_settable_from, new_values_fault}
use Rattle.ob_rows.proofs.CallerLemmas.{All-at, step_in, tell, told}
use Rattle.ob_orm.proofs.RowValue.{FoundAt, found}

-- ---- what is known of a field

-- a delegated field has the keys of the parent's
pub keys_at : (models : List ModelInfo) (model : ModelNo) (info : ModelInfo) (i : ℕ) → model_at models model ≡ Some info → i < length info.fields → IsModel models model info
    → IfSome (field_at models model (record { 0 = i + 1 })) (HasTargetKeys models)
keys_at models model info i is lt valid =
    let there = step_in models model info i is lt in
    let own : IsField models model info there.f = All-at (IsField models model info) (fields_of info) i there.f (slice_get-before info.fields info.hidden i there.f there.field_is) valid.fields in
    tell (field_at models model (record { 0 = i + 1 })) there.f (HasTargetKeys models) there.at (by there.f there.f.origin own.origin) where
      by : (f : FieldInfo) (o : Origin) → IsOriginIn models model info f o → HasTargetKeysFrom models o f
      by f (origin.Delegated at) h = h.target
      by f _ h = tt

-- a free field is no list
free-flat : (f : FieldInfo) → is_free f ≡ true → is_list f.field_type ≡ false
free-flat f free =
    let (plain, rest) = and_parts (is_plain_kept f) (not (is_list f.field_type || f.managed)) free in
    (or_parts (is_list f.field_type) f.managed (not-true (is_list f.field_type || f.managed) rest)).0

-- nor is one that calls give
settable-flat : (models : List ModelInfo) (f : FieldInfo) → HasTargetKeys models f → is_settable models f ≡ true → is_list f.field_type ≡ false
settable-flat models f keys given = by f.origin keys given where
  of_target : (o : Option FieldInfo) → IsSomeAnd o (λ other. HasKeysOf other f) → option_map_or (λ own. is_free own && not own.fixed) o false ≡ true → is_list f.field_type ≡ false
  of_target None has given = absurd has
  of_target (Some other) has given = ap is_list (sym has.field_type) ∙ free-flat other (and_parts (is_free other) (not other.fixed) given).0

  by : (o : Origin) → HasTargetKeysFrom models o f → is_settable_from models o f ≡ true → is_list f.field_type ≡ false
  by (origin.Delegated at) has given = of_target (field_at models at.model at.field) has given
  by _ has given = free-flat f given

-- what a look-up of its name finds is what the members give it
pub set-found : (models : List ModelInfo) (f : FieldInfo) (name : List ℕ) (es : List Entry) (r : Option (Bor Json)) → name ≡ f.name → is_settable models f ≡ true → FoundAt name es r
    → option_map (λ x. view x.now) r ≡ set_by models (members_view es) f
set-found models f name es r same given at =
    found name es r at ∙ ap (λ (n : List ℕ). get_member n (members_view es)) same ∙ sym (ap (λ (b : Bool). cond b (get_member f.name (members_view es)) None) given)

pub set-nothing : (models : List ModelInfo) (f : FieldInfo) (es : List Entry) → is_settable models f ≡ false → None ≡ set_by models (members_view es) f
set-nothing models f es given = sym (ap (λ (b : Bool). cond b (get_member f.name (members_view es)) None) given)

pub set-flat : (models : List ModelInfo) (f : FieldInfo) (r : Option (Bor Json)) → HasTargetKeys models f → is_settable models f ≡ true → IfSome r (λ _. is_list f.field_type ≡ false)
set-flat models f None keys given = tt
set-flat models f (Some x) keys given = settable-flat models f keys given

-- an id within its limit has a next one
low_ref : (t : FieldType) (choices : List Choice) (v : Value) → IsValueOf t choices v → IsLowRef v
low_ref type.Many2one choices (value.Ref id) holds = omega arith
low_ref _ choices (value.Ref id) holds = absurd holds
low_ref t choices _ holds = tt

-- a value that a field may hold is one of its type
pub holds-typed : (models : List ModelInfo) (model : ModelNo) (number : FieldNo) (f : FieldInfo) (v : Value) → field_at models model number ≡ Some f → Holds f v → IsTyped models model (number, v)
holds-typed models model number f v at holds = (
  tell (field_at models model number) f (λ info. IsGivable info v) at (HasType-from_IsValueOf f.field_type f.selection v holds),
  low_ref f.field_type f.selection v holds,
)

-- ---- the value of one field

module _ (models : List ModelInfo) (place : List PathStep) (ms : Members) where
  -- what it is read from
  abbrev read : FieldInfo → Data → Result Value (List PathStep)
  read field d = placed (place ++ Key field.name ∷ []) (value_from field.field_type field.selection d)

  meant : (f : FieldInfo) (d : Data) → Some d ≡ set_by models ms f → given_to models place ms f ≡ (read f d >>= λ v. Ok (Some v))
  meant f d at = ap (given_value false (place ++ Key f.name ∷ []) f) (sym at)

  -- as it was read
  pub given-value : (o : Option FieldInfo) (f : FieldInfo) (d : Data) (v : Value) → o ≡ Some f → Some d ≡ set_by models ms f
      → IfSome o (λ field. placed (place ++ Key field.name ∷ []) (value_from field.field_type field.selection d) ≡ Ok v) → IfSome o (λ field. Ok (Some v) ≡ given_to models place ms field)
  given-value o f d v is at given =
      let own : read f d ≡ Ok v = told o f (λ field. placed (place ++ Key field.name ∷ []) (value_from field.field_type field.selection d) ≡ Ok v) is given in
      tell o f (λ field. Ok (Some v) ≡ given_to models place ms field) is (sym (meant f d at ∙ ap (λ (r : Result Value (List PathStep)). r >>= λ w. Ok (Some w)) own))

  -- where it is wrong
  pub given-wrong : (o : Option FieldInfo) (f : FieldInfo) (d : Data) (wrong : List PathStep) (r : Result Value Refusal) → o ≡ Some f → Some d ≡ set_by models ms f → r ≡ Err (refusal.Request wrong)
      → IfSome o (λ field. IsResultOf (λ w. w) r (placed (place ++ Key field.name ∷ []) (value_from field.field_type field.selection d))) → IfSome o (λ field. Err wrong ≡ given_to models place ms field)
  given-wrong o f d wrong r is at refused given =
      let here : IsResultOf (λ (w : Value). w) r (read f d) = told o f (λ field. IsResultOf (λ (w : Value). w) r (placed (place ++ Key field.name ∷ []) (value_from field.field_type field.selection d))) is given in
      let own : read f d ≡ Err wrong = subst (λ (q : Result Value Refusal). IsResultOf (λ (w : Value). w) q (read f d)) refused here in
      tell o f (λ field. Err wrong ≡ given_to models place ms field) is (sym (meant f d at ∙ ap (λ (q : Result Value (List PathStep)). q >>= λ w. Ok (Some w)) own))

  -- or nothing
  pub given-none : (o : Option FieldInfo) (f : FieldInfo) → o ≡ Some f → None ≡ set_by models ms f → IfSome o (λ field. Ok None ≡ given_to models place ms field)
  given-none o f is at = tell o f (λ field. Ok None ≡ given_to models place ms field) is (sym (ap (given_value false (place ++ Key f.name ∷ []) f) (sym at)))

  -- ---- one field behind another

  -- the fields from a place on
  abbrev pub fields_from : ModelInfo → ℕ → List Column
  fields_from info i = enumerate_from (suc i) (drop i info.fields)

  fields-more : (info : ModelInfo) (i : ℕ) (f : FieldInfo) → slice_get info.fields i ≡ Some f → fields_from info i ≡ (suc i, f) ∷ fields_from info (i + 1)
  fields-more info i f at =
      ap (enumerate_from (suc i)) (drop_more info.fields i f (slice_get_within info.fields i f at) ∙ ap (λ (g : FieldInfo). g ∷ drop (i + 1) info.fields) (get_or_from_slice_get info.fields i f f at))
      ∙ ap (λ (n : ℕ). (suc i, f) ∷ enumerate_from n (drop (i + 1) info.fields)) (let e : suc i + 1 ≡ suc (i + 1) = omega arith in e)

  or_assoc : (a b c : Option (List PathStep)) → option_or a (option_or b c) ≡ option_or (option_or a b) c
  or_assoc None b c = refl
  or_assoc (Some x) b c = refl

  module _ (model : ModelNo) (info : ModelInfo) where
    -- with what is left to give the values and the first wrong place are those of the object
    pub record GivenSoFar (i : ℕ) (values : Values) (wrong : Option (List PathStep)) : Type 0 where
      pub same : formed_values models place ms (columns info) ≡ values ++ formed_values models place ms (fields_from info i)
      pub first : wrong_value models place ms (columns info) ≡ option_or wrong (wrong_value models place ms (fields_from info i))
      pub typed : All (IsTyped models model) values

    given_nothing : GivenSoFar 0 [] None
    given_nothing = record { same = refl; first = refl; typed = All-nil (IsTyped models model) }

    -- a value that is given has the field's type
    valued-typed : (i : ℕ) (f : FieldInfo) (r : Result (Option Value) (List PathStep)) → field_at models model (record { 0 = i + 1 }) ≡ Some f → IfOk r (λ value. IfSome value (Holds f))
        → All (IsTyped models model) (valued (record { 0 = i + 1 }) (formed r))
    valued-typed i f (Ok None) own holds = All-nil (IsTyped models model)
    valued-typed i f (Ok (Some v)) own holds = All-push (IsTyped models model) [] (record { 0 = i + 1 }, v) (All-nil (IsTyped models model)) (holds-typed models model (record { 0 = i + 1 }) f v own holds)
    valued-typed i f (Err e) own holds = All-nil (IsTyped models model)

    -- one more field
    given_next : (i : ℕ) (f : FieldInfo) (values : Values) (wrong : Option (List PathStep)) → slice_get info.fields i ≡ Some f → field_at models model (record { 0 = i + 1 }) ≡ Some f
        → IfOk (given_to models place ms f) (λ value. IfSome value (Holds f)) → GivenSoFar i values wrong
        → GivenSoFar (i + 1) (values ++ valued (record { 0 = i + 1 }) (formed (given_to models place ms f))) (option_or wrong (result_err (given_to models place ms f)))
    given_next i f values wrong at own holds far =
        let number : suc i ≡ i + 1 = omega arith in
        let rest = fields_from info (i + 1) in
        let one = formed (given_to models place ms f) in
        record {
          same = far.same ∙ ap (λ (cs : List Column). values ++ formed_values models place ms cs) (fields-more info i f at)
              ∙ ap (λ (n : ℕ). values ++ (valued (record { 0 = n }) one ++ formed_values models place ms rest)) number
              ∙ sym (append_assoc values (valued (record { 0 = i + 1 }) one) (formed_values models place ms rest));
          first = far.first ∙ ap (λ (cs : List Column). option_or wrong (wrong_value models place ms cs)) (fields-more info i f at)
              ∙ or_assoc wrong (result_err (given_to models place ms f)) (wrong_value models place ms rest);
          typed = All-append (IsTyped models model) values (valued (record { 0 = i + 1 }) one) far.typed (valued-typed i f (given_to models place ms f) own holds);
        }

    -- at last they are the object's
    given_all : (i : ℕ) (values : Values) (wrong : Option (List PathStep)) → length info.fields ≤ i → GivenSoFar i values wrong
        → (values ≡ formed_values models place ms (columns info)) × (wrong ≡ wrong_value models place ms (columns info))
    given_all i values wrong past far =
        let none : fields_from info i ≡ [] = ap (enumerate_from (suc i)) (drop_all i info.fields past) in (
          sym (far.same ∙ ap (λ (cs : List Column). values ++ formed_values models place ms cs) none ∙ append-nil values),
          sym (far.first ∙ ap (λ (cs : List Column). option_or wrong (wrong_value models place ms cs)) none ∙ or_none wrong),
        )
      where
        or_none : (o : Option (List PathStep)) → option_or o None ≡ o
        or_none None = refl
        or_none (Some x) = refl

  -- ---- as the steps say it

  module _ (model : ModelNo) (info : ModelInfo) (is : model_at models model ≡ Some info) where
    -- so far
    abbrev pub SoFar : ℕ → Values → Option (List PathStep) → Type 0
    SoFar n values wrong = IfSome (model_at models model) (λ own. GivenSoFar model own n values wrong)

    known : (n : ℕ) (values : Values) (wrong : Option (List PathStep)) → SoFar n values wrong → GivenSoFar model info n values wrong
    known n values wrong far = told (model_at models model) info (λ own. GivenSoFar model own n values wrong) is far

    pub so_far-none : (values : Values) (wrong : Option (List PathStep)) → values ≡ [] → wrong ≡ None → SoFar 0 values wrong
    so_far-none values wrong none right =
        tell (model_at models model) info (λ own. GivenSoFar model own 0 values wrong) is
        (subst (λ (vs : Values). GivenSoFar model info 0 vs wrong) (sym none) (subst (GivenSoFar model info 0 []) (sym right) (given_nothing model info)))

    pub so_far-more : (i : ℕ) → i < length info.fields → (values more : Values) (wrong still : Option (List PathStep)) (given : Result (Option Value) (List PathStep))
        → IfSome (field_at models model (record { 0 = i + 1 })) (λ field. given ≡ given_to models place ms field)
        → IfOk given (λ value. IfSome (field_at models model (record { 0 = i + 1 })) (λ field. IfSome value (Holds field)))
        → more ≡ values ++ valued (record { 0 = i + 1 }) (formed given) → still ≡ option_or wrong (result_err given) → SoFar i values wrong → SoFar (i + 1) more still
    so_far-more i lt values more wrong still given means holds pushed noted far =
        let there = step_in models model info i is lt in
        let o = field_at models model (record { 0 = i + 1 }) in
        let same : given ≡ given_to models place ms there.f = told o there.f (λ field. given ≡ given_to models place ms field) there.at means in
        let own : IfOk given (λ value. IfSome value (Holds there.f)) = IfOk-weaker given _ _ (λ value h. told o there.f (λ field. IfSome value (Holds field)) there.at h) holds in
        let next = given_next model info i there.f values wrong there.field_is there.at (subst (λ (r : Result (Option Value) (List PathStep)). IfOk r (λ value. IfSome value (Holds there.f))) same own) (known i values wrong far) in
        tell (model_at models model) info (λ own. GivenSoFar model own (i + 1) more still) is
        (subst (λ (vs : Values). GivenSoFar model info (i + 1) vs still) (sym (pushed ∙ ap (λ (r : Result (Option Value) (List PathStep)). values ++ valued (record { 0 = i + 1 }) (formed r)) same))
        (subst (GivenSoFar model info (i + 1) (values ++ valued (record { 0 = i + 1 }) (formed (given_to models place ms there.f)))) (sym (noted ∙ ap (λ (r : Result (Option Value) (List PathStep)). option_or wrong (result_err r)) same)) next))

    pub so_far-all : (i : ℕ) (values : Values) (wrong : Option (List PathStep)) → length info.fields ≤ i → SoFar i values wrong
        → IfSome (model_at models model) (λ own. (values ≡ formed_values models place ms (columns own)) × (wrong ≡ wrong_value models place ms (columns own)))
    so_far-all i values wrong past far =
        tell (model_at models model) info (λ own. (values ≡ formed_values models place ms (columns own)) × (wrong ≡ wrong_value models place ms (columns own))) is (given_all model info i values wrong past (known i values wrong far))

    pub so_far-typed : (i : ℕ) (values : Values) (wrong : Option (List PathStep)) → SoFar i values wrong → All (IsTyped models model) values
    so_far-typed i values wrong far = (known i values wrong far).typed

-- ---- the object

-- data of its form is an object
object_of : (models : List ModelInfo) (fields : List FieldInfo) (d : Data) → new_values_fault models fields d ≡ None → (ms : Members) × (d ≡ object ms)
object_of models fields (object ms) right = (ms, refl)
object_of models fields _ right = absurd cc

-- which has members
pub no_members_of : (models : List ModelInfo) (fields : List FieldInfo) (d : Data) → new_values_fault models fields d ≡ None → None ≡ as_object d → ⊥
no_members_of models fields d right found = let (ms, json) = object_of models fields d right in let wrong : None ≡ Some ms = found ∙ ap as_object json in cc

-- what its members give is what it gives
pub given_of_members : (o : Option ModelInfo) (models : List ModelInfo) (fields : List FieldInfo) (place : List PathStep) (d : Data) (ms : Members) (given : GivenObject)
    → new_values_fault models fields d ≡ None → Some ms ≡ as_object d → IfSome o (λ info. given.fields ≡ keyed_fields info.fields ms)
    → IfSome o (λ info. (given.values ≡ formed_values models place ms (columns info)) × (given.wrong ≡ wrong_value models place ms (columns info)))
    → IfSome o (λ info. given ≡ object_from models info (record { place = place; json = d }))
given_of_members None models fields place d ms given right found keyed values = tt
given_of_members (Some info) models fields place d ms given right found keyed values =
    let (held, json) = object_of models fields d right in
    let members : ms ≡ members_of d = same_Some ms held (found ∙ ap as_object json) ∙ sym (ap members_of json) in
    λ i. record {
      fields = (keyed ∙ ap (keyed_fields info.fields) members) i;
      values = (values.0 ∙ ap (λ (m : Members). formed_values models place m (columns info)) members) i;
      wrong = (values.1 ∙ ap (λ (m : Members). wrong_value models place m (columns info)) members) i;
    }
