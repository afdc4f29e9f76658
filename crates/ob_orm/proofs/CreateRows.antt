-- What the objects of a create ask for, one behind another.
use Rattle.std.proofs.Common.{◌≡◌, ◌<◌, ◌≤◌, ◌+◌, ◌∷◌, [], ◌++◌, ℕ, Bool, true, false, not, is_some, List, Vec, Global, get_or, length, map, take, Option, Some, None, append-nil, append_assoc, refl, sym, ap, ◌∙◌, arith}
use Rattle.std.specs.Prelude.{IfOk, IfSome, Result, Ok, Err}
use Rattle.std.specs.List.{flat_map}
use Rattle.std.specs.Option.{option_or}
use Rattle.std.proofs.lemmas.List.{length-map, length-take-le, map-append, take_all, take_more}
use Rattle.serde_json.specs.Data.{Data, array}
use Rattle.serde_json.specs.Find.{as_array}
use Rattle.serde_json.specs.View.{items_view, view}
use Rattle.serde_json.specs.declared.value.Value.{Value as Json}
use Rattle.ob_base.specs.declared.id.FieldNo.{FieldNo}
use Rattle.ob_base.specs.declared.memory.NoMemory.{NoMemory}
use Rattle.ob_base.specs.declared.place.PathStep.{PathStep}
use Rattle.ob_base.specs.declared.place.PathStep.TheVariants.{Item}
use Rattle.ob_call.proofs.CallerLemmas.{listed-items_view}
use Rattle.ob_call.specs.Arguments.{Given}
use Rattle.ob_schema.specs.declared.info.ModelInfo.{ModelInfo}
use Rattle.ob_orm.specs.Create.{Asked, asked_by, asked_in, wrong_among}
use Rattle.ob_orm.specs.CreateSteps.{rows_view}
use Rattle.ob_orm.specs.GivenValues.{GivenObject, object_from}
use Rattle.ob_orm.specs.NewRows.{Values}
use Rattle.ob_orm.specs.Objects.{items_at}
use Rattle.ob_orm.specs.ObjectSteps.{object_view}
use Rattle.ob_orm.specs.declared.creating.given.GivenObject.{GivenObject as Object}
use Rattle.ob_orm.specs.declared.creating.rows.Rows.{Rows}
use Rattle.ob_orm.proofs.ObjectPlaces.{array_found}

-- ---- one object more

or-none : {A : Type 0} (o : Option A) → option_or o None ≡ o
or-none None = refl
or-none (Some x) = refl

or-assoc : {A : Type 0} (a b c : Option A) → option_or a (option_or b c) ≡ option_or (option_or a b) c
or-assoc None b c = refl
or-assoc (Some x) b c = refl

-- the first place that is wrong
wrong-push : (objects : List GivenObject) (one : GivenObject) → wrong_among (objects ++ one ∷ []) ≡ option_or (wrong_among objects) one.wrong
wrong-push [] one = or-none one.wrong
wrong-push (object ∷ objects) one = ap (option_or object.wrong) (wrong-push objects one) ∙ or-assoc object.wrong (wrong_among objects) one.wrong

-- the fields that keys name
fields-push : (objects : List GivenObject) (one : GivenObject) → flat_map (λ object. object.fields) (objects ++ one ∷ []) ≡ flat_map (λ object. object.fields) objects ++ one.fields
fields-push [] one = append-nil one.fields
fields-push (object ∷ objects) one = ap (λ (fs : List FieldNo). object.fields ++ fs) (fields-push objects one) ∙ sym (append_assoc object.fields (flat_map (λ o. o.fields) objects) one.fields)

-- what it asks for behind others
abbrev pub with_object : Asked → GivenObject → Asked
with_object asked one = record {
  values = asked.values ++ one.values ∷ [];
  fields = asked.fields ++ one.fields;
  wrong = option_or asked.wrong one.wrong;
  is_list = asked.is_list;
}

pub asked-push : (is_list : Bool) (objects : List GivenObject) (one : GivenObject) → with_object (asked_by is_list objects) one ≡ asked_by is_list (objects ++ one ∷ [])
asked-push is_list objects one = λ i. record {
  values = sym (map-append (λ (object : GivenObject). object.values) objects (one ∷ [])) i;
  fields = sym (fields-push objects one) i;
  wrong = sym (wrong-push objects one) i;
  is_list = is_list;
}

-- the first of two places that are wrong
pub first-taken : {A : Type 0} (old more : Option A) (b : Bool) → is_some old ≡ not b → b ≡ true → more ≡ option_or old more
first-taken None more b is none = refl
first-taken (Some x) more b is none = let wrong : true ≡ false = is ∙ ap not none in cc

pub first-kept : {A : Type 0} (old more : Option A) (b : Bool) → is_some old ≡ not b → b ≡ false → old ≡ option_or old more
first-kept None more b is some = let wrong : false ≡ true = is ∙ ap not some in cc
first-kept (Some x) more b is some = refl

-- it is added, as the code has it
pub added : (old : Rows) (values : Vec Values Global) (fields : Vec FieldNo Global) (object : Object) (now : Rows) → values.items ≡ old.values.items ++ object.values ∷ []
    → fields.items ≡ old.fields.items ++ object.fields.items → (wrong : Option (List PathStep)) → now ≡ record { values = values; fields = fields; wrong = wrong; is_list = old.is_list }
    → wrong ≡ option_or old.wrong object.wrong → rows_view now ≡ with_object (rows_view old) (object_view object)
added old values fields object now more named wrong is first =
    ap rows_view is ∙ (λ i. record { values = more i; fields = named i; wrong = first i; is_list = old.is_list })

-- ---- the items of a list

items-push : (place : List PathStep) (n : ℕ) (ds : List Data) (d : Data) → items_at place n (ds ++ d ∷ []) ≡ items_at place n ds ++ record { place = place ++ Item (n + length ds) ∷ []; json = d } ∷ []
items-push place n [] d = ap (λ (k : ℕ). record { place = place ++ Item k ∷ []; json = d } ∷ []) (let e : n ≡ n + 0 = omega arith in e)
items-push place n (x ∷ ds) d =
    ap (λ (gs : List Given). record { place = place ++ Item n ∷ []; json = x } ∷ gs) (items-push place (n + 1) ds d
    ∙ ap (λ (k : ℕ). items_at place (n + 1) ds ++ record { place = place ++ Item k ∷ []; json = d } ∷ []) (let e : (n + 1) + length ds ≡ n + length (x ∷ ds) = omega arith in e))

module _ (models : List ModelInfo) (place : List PathStep) (items : List Json) where
  -- the object at a number, and where it stands
  abbrev pub object_at : ℕ → Json → Given
  object_at i item = record { place = place ++ Item i ∷ []; json = view item }

  -- what the first so many give
  abbrev pub given_upto : ModelInfo → ℕ → List GivenObject
  given_upto info i = map (object_from models info) (items_at place 0 (map view (take i items)))

  -- one more
  pub given-more : (info : ModelInfo) (i : ℕ) (item : Json) → i < length items → item ≡ get_or items i item → given_upto info i ++ object_from models info (object_at i item) ∷ [] ≡ given_upto info (i + 1)
  given-more info i item lt is =
      let more : take (i + 1) items ≡ take i items ++ item ∷ [] = take_more items i item lt ∙ ap (λ (x : Json). take i items ++ x ∷ []) (sym is) in
      let long : 0 + length (map view (take i items)) ≡ i = (let e = length-map (take i items) view ∙ length-take-le i items (omega arith) in omega (arith, e)) in
      let all : items_at place 0 (map view (take (i + 1) items)) ≡ items_at place 0 (map view (take i items)) ++ object_at i item ∷ [] =
      ap (λ (vs : List Json). items_at place 0 (map view vs)) more
      ∙ ap (items_at place 0) (map-append view (take i items) (item ∷ []))
      ∙ items-push place 0 (map view (take i items)) (view item)
      ∙ ap (λ (k : ℕ). items_at place 0 (map view (take i items)) ++ record { place = place ++ Item k ∷ []; json = view item } ∷ []) long in
      sym (ap (map (object_from models info)) all ∙ map-append (object_from models info) (items_at place 0 (map view (take i items))) (object_at i item ∷ []))

  -- so what they ask for
  pub listed-more : (o : Option ModelInfo) (i : ℕ) (item : Json) (before more : Asked) (one : GivenObject) → i < length items → item ≡ get_or items i item
      → ((is_list : Bool) (given : List GivenObject) → before ≡ asked_by is_list given → more ≡ asked_by is_list (given ++ one ∷ []))
      → IfSome o (λ info. one ≡ object_from models info (object_at i item)) → IfSome o (λ info. before ≡ asked_by true (given_upto info i))
      → IfSome o (λ info. more ≡ asked_by true (given_upto info (i + 1)))
  listed-more None i item before more one lt is adds own far = tt
  listed-more (Some info) i item before more one lt is adds own far =
      adds true (given_upto info i) far ∙ ap (λ (x : GivenObject). asked_by true (given_upto info i ++ x ∷ [])) own ∙ ap (asked_by true) (given-more info i item lt is)

  -- at last it is what all ask for
  pub listed-all : (o : Option ModelInfo) (i : ℕ) (asked : Asked) → length items ≤ i → IfSome o (λ info. asked ≡ asked_by true (given_upto info i))
      → IfSome o (λ info. asked ≡ asked_by true (map (object_from models info) (items_at place 0 (map view items))))
  listed-all None i asked past far = tt
  listed-all (Some info) i asked past far = far ∙ ap (λ (vs : List Json). asked_by true (map (object_from models info) (items_at place 0 (map view vs)))) (take_all i items past)

-- ---- what an argument asks for

module _ (models : List ModelInfo) (place : List PathStep) (d : Data) where
  -- a list
  asked-listed : (o : Option ModelInfo) (items : List Json) (asked : Asked) → Some (items_view items) ≡ as_array d
      → IfSome o (λ info. asked ≡ asked_by true (map (object_from models info) (items_at place 0 (map view items)))) → IfSome o (λ info. asked ≡ asked_in models info place d)
  asked-listed None items asked is h = tt
  asked-listed (Some info) items asked is h =
      h ∙ ap (λ (ds : List Data). asked_by true (map (object_from models info) (items_at place 0 ds))) (sym (listed-items_view items)) ∙ ap (asked_in models info place) (sym (array_found d (items_view items) is))

  pub listed-rows : (o : Option ModelInfo) (items : List Json) (r : Result Rows NoMemory) → Some (items_view items) ≡ as_array d
      → IfOk r (λ rows. IfSome o (λ info. rows_view rows ≡ asked_by true (map (object_from models info) (items_at place 0 (map view items))))) → IfOk r (λ rows. IfSome o (λ info. rows_view rows ≡ asked_in models info place d))
  listed-rows o items (Ok rows) is h = asked-listed o items (rows_view rows) is h
  listed-rows o items (Err e) is h = tt

  -- what is no list
  alone : (info : ModelInfo) (e : Data) → None ≡ as_array e → asked_by false (object_from models info (record { place = place; json = e }) ∷ []) ≡ asked_in models info place e
  alone info (array items) is = absurd cc
  alone info _ is = refl

  -- one object
  pub asked-alone : (o : Option ModelInfo) (asked none : Asked) (one : GivenObject) → None ≡ as_array d → none ≡ asked_by false []
      → ((is_list : Bool) (given : List GivenObject) → none ≡ asked_by is_list given → asked ≡ asked_by is_list (given ++ one ∷ []))
      → IfSome o (λ info. one ≡ object_from models info (record { place = place; json = d })) → IfSome o (λ info. asked ≡ asked_in models info place d)
  asked-alone None asked none one is empty adds own = tt
  asked-alone (Some info) asked none one is empty adds own = adds false [] empty ∙ ap (λ (x : GivenObject). asked_by false (x ∷ [])) own ∙ alone info d is
