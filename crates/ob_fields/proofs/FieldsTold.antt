-- What is told of a field, member by member.
use Rattle.std.proofs.Common.{◌≡◌, Bool, true, false, cond, List, [], ◌∷◌, ◌++◌, map, Option, Some, None, refl, sym, ap, ◌∙◌}
use Rattle.std.specs.List.{AllByRecursion}
use Rattle.std.specs.Option.{option_map_or}
use Rattle.serde_json.specs.Written.{has_float, items_have_float, members_have_float}
use Rattle.ob_call.proofs.CallerLemmas.{put_plain}
use Rattle.ob_definition.specs.declared.field_type.Choice.{Choice}
use Rattle.std.specs.Prelude.{codes, filter, option_and_then}
use Rattle.serde_json.specs.Data.{Data, boolean, string, array, object, Members, no_members, put}
use Rattle.serde_json.specs.View.{items_of}
use Rattle.ob_definition.specs.Keys.{is_selection}
use Rattle.ob_fields.specs.FieldsGet.{Attribute, asks, attributes_of, choice_data, field_data, members_put, relation_of, selection_of, type_name}
use Rattle.ob_rows.specs.Values.{is_readonly}
use Rattle.ob_fields.specs.FieldsGetSteps.{AreAsked, members_put_if}
use Rattle.ob_fields.specs.declared.fields.attributes.Attributes.{Attributes}
use Rattle.ob_schema.specs.Models.{model_at}
use Rattle.ob_schema.specs.declared.info.FieldInfo.{FieldInfo}
use Rattle.ob_schema.specs.declared.info.ModelInfo.{ModelInfo}

-- the attributes of a list that are asked for
abbrev asked_of : List Data → List Attribute → List Attribute
asked_of texts xs = filter (λ a. asks texts a.0) xs

-- one attribute, where it is asked for, and then the others
put_one : (texts : List Data) (x : Attribute) (xs : List Attribute) (ms : Members) → members_put (asked_of texts (x ∷ xs)) ms ≡ members_put (asked_of texts xs) (members_put_if (asks texts x.0) (x ∷ []) ms)
put_one texts x xs ms = by (asks texts x.0) where
  by : (b : Bool) → members_put (cond b (x ∷ asked_of texts xs) (asked_of texts xs)) ms ≡ members_put (asked_of texts xs) (members_put_if b (x ∷ []) ms)
  by true = refl
  by false = refl

-- nothing is put of nothing
put_none : (b : Bool) (ms : Members) → members_put_if b [] ms ≡ ms
put_none true ms = refl
put_none false ms = refl

-- the same, where it is known what is asked for and what was put
put_asked : (texts : List Data) (x : Attribute) (xs : List Attribute) (asked : Bool) (ms more : Members) → asked ≡ asks texts x.0 → more ≡ members_put_if asked (x ∷ []) ms
    → members_put (asked_of texts (x ∷ xs)) ms ≡ members_put (asked_of texts xs) more
put_asked texts x xs asked ms more is put =
    put_one texts x xs ms ∙ ap (λ (b : Bool). members_put (asked_of texts xs) (members_put_if b (x ∷ []) ms)) (sym is) ∙ ap (members_put (asked_of texts xs)) (sym put)

-- of the model whose rows a relation names
relation_asked : (models : List ModelInfo) (texts : List Data) (field : FieldInfo) (xs : List Attribute) (asked : Bool) (ms more : Members) → asked ≡ asks texts (codes "relation") → more ≡ members_put_if asked (relation_of models field) ms
    → members_put (asked_of texts (relation_of models field ++ xs)) ms ≡ members_put (asked_of texts xs) more
relation_asked models texts field xs asked ms more is put = by (option_and_then (model_at models) field.relation) put where
  told : Option ModelInfo → List Attribute
  told o = option_map_or (λ info. (codes "relation", string info.name) ∷ []) o []

  by : (o : Option ModelInfo) → more ≡ members_put_if asked (told o) ms → members_put (asked_of texts (told o ++ xs)) ms ≡ members_put (asked_of texts xs) more
  by None same = ap (members_put (asked_of texts xs)) (sym (same ∙ put_none asked ms))
  by (Some info) same = put_asked texts (codes "relation", string info.name) xs asked ms more is same

-- of a selection's keys
selection_asked : (texts : List Data) (field : FieldInfo) (xs : List Attribute) (asked : Bool) (ms more : Members) → asked ≡ asks texts (codes "selection") → more ≡ members_put_if asked (selection_of field) ms
    → members_put (asked_of texts (selection_of field ++ xs)) ms ≡ members_put (asked_of texts xs) more
selection_asked texts field xs asked ms more is put = by (is_selection field.field_type) put where
  told : Bool → List Attribute
  told b = cond b ((codes "selection", array (items_of (map choice_data field.selection))) ∷ []) []

  by : (b : Bool) → more ≡ members_put_if asked (told b) ms → members_put (asked_of texts (told b ++ xs)) ms ≡ members_put (asked_of texts xs) more
  by false same = ap (members_put (asked_of texts xs)) (sym (same ∙ put_none asked ms))
  by true same = put_asked texts (codes "selection", array (items_of (map choice_data field.selection))) xs asked ms more is same

-- the members that were put one after another, as far as they are asked for
pub record PutInTurn (models : List ModelInfo) (field : FieldInfo) (asked : Attributes) (first then_readonly then_relation then_required then_selection then_store then_string last : Members) : Type 0 where
  pub name : first ≡ members_put_if asked.name ((codes "name", string field.name) ∷ []) no_members
  pub readonly : then_readonly ≡ members_put_if asked.readonly ((codes "readonly", boolean (is_readonly models field)) ∷ []) first
  pub relation : then_relation ≡ members_put_if asked.relation (relation_of models field) then_readonly
  pub required : then_required ≡ members_put_if asked.required ((codes "required", boolean field.required) ∷ []) then_relation
  pub selection : then_selection ≡ members_put_if asked.selection (selection_of field) then_required
  pub store : then_store ≡ members_put_if asked.store ((codes "store", boolean field.store) ∷ []) then_selection
  pub label : then_string ≡ members_put_if asked.string ((codes "string", string field.string) ∷ []) then_store
  pub type_name : last ≡ members_put_if asked.type_name ((codes "type", string (type_name field.field_type)) ∷ []) then_string

-- they are those of the attributes for which the texts ask
in_order : (models : List ModelInfo) (texts : List Data) (field : FieldInfo) (asked : Attributes) (m1 m2 m3 m4 m5 m6 m7 m8 : Members) → AreAsked texts asked → PutInTurn models field asked m1 m2 m3 m4 m5 m6 m7 m8
    → (xs : List Attribute) → xs ≡ attributes_of models field → m8 ≡ members_put (asked_of texts xs) no_members
in_order models texts field asked m1 m2 m3 m4 m5 m6 m7 m8 are turn xs is =
    let end : List Attribute = (codes "type", string (type_name field.field_type)) ∷ [] in
    let from_string : List Attribute = (codes "string", string field.string) ∷ end in
    let from_store : List Attribute = (codes "store", boolean field.store) ∷ from_string in
    let from_required : List Attribute = (codes "required", boolean field.required) ∷ (selection_of field ++ from_store) in
    let from_readonly : List Attribute = (codes "readonly", boolean (is_readonly models field)) ∷ (relation_of models field ++ from_required) in
    let in_parts : attributes_of models field ≡ (codes "name", string field.name) ∷ from_readonly = refl in
    sym (ap (λ (ys : List Attribute). members_put (asked_of texts ys) no_members) (is ∙ in_parts)
    ∙ put_asked texts (codes "name", string field.name) from_readonly asked.name no_members m1 are.name turn.name
    ∙ put_asked texts (codes "readonly", boolean (is_readonly models field)) (relation_of models field ++ from_required) asked.readonly m1 m2 are.readonly turn.readonly
    ∙ relation_asked models texts field from_required asked.relation m2 m3 are.relation turn.relation
    ∙ put_asked texts (codes "required", boolean field.required) (selection_of field ++ from_store) asked.required m3 m4 are.required turn.required
    ∙ selection_asked texts field from_store asked.selection m4 m5 are.selection turn.selection
    ∙ put_asked texts (codes "store", boolean field.store) from_string asked.store m5 m6 are.store turn.store
    ∙ put_asked texts (codes "string", string field.string) end asked.string m6 m7 are.string turn.label
    ∙ put_asked texts (codes "type", string (type_name field.field_type)) [] asked.type_name m7 m8 are.type_name turn.type_name)

-- they are what the texts ask for
pub field_told : (models : List ModelInfo) (texts : List Data) (field : FieldInfo) (asked : Attributes) (m1 m2 m3 m4 m5 m6 m7 m8 : Members) → AreAsked texts asked → PutInTurn models field asked m1 m2 m3 m4 m5 m6 m7 m8
    → object m8 ≡ field_data models texts field
field_told models texts field asked m1 m2 m3 m4 m5 m6 m7 m8 are turn = ap object (in_order models texts field asked m1 m2 m3 m4 m5 m6 m7 m8 are turn (attributes_of models field) refl)

-- the keys of a selection, where they are asked for
pub selection_put : (field : FieldInfo) (asked : Bool) (d : Data) (old new : Members) → asked ≡ true → is_selection field.field_type ≡ true → d ≡ array (items_of (map choice_data field.selection)) → new ≡ put (codes "selection") d old
    → new ≡ members_put_if asked (selection_of field) old
selection_put field asked d old new is kind choices is_put =
    is_put ∙ ap (λ (x : Data). put (codes "selection") x old) choices
    ∙ ap (λ (b : Bool). members_put (cond b ((codes "selection", array (items_of (map choice_data field.selection))) ∷ []) []) old) (sym kind)
    ∙ ap (λ (b : Bool). members_put_if b (selection_of field) old) (sym is)

-- ---- no float is told

-- none of the attributes has a float
abbrev ArePlain : List Attribute → Type 0
ArePlain xs = AllByRecursion (λ a. has_float a.1 ≡ false) xs

-- members without floats, put among others without
put_plainly : (xs : List Attribute) (ms : Members) → ArePlain xs → members_have_float ms ≡ false → members_have_float (members_put xs ms) ≡ false
put_plainly [] ms plain so = so
put_plainly (x ∷ xs) ms plain so = put_plainly xs (put x.0 x.1 ms) plain.1 (put_plain x.0 x.1 ms plain.0 so)

put_plainly_if : (asked : Bool) (xs : List Attribute) (ms more : Members) → ArePlain xs → more ≡ members_put_if asked xs ms → members_have_float ms ≡ false → members_have_float more ≡ false
put_plainly_if true xs ms more plain is so = ap members_have_float is ∙ put_plainly xs ms plain so
put_plainly_if false xs ms more plain is so = ap members_have_float is ∙ so

-- keys and labels are texts
choices_plain : (choices : List Choice) → items_have_float (items_of (map choice_data choices)) ≡ false
choices_plain [] = refl
choices_plain (choice ∷ choices) = choices_plain choices

relation_plain : (models : List ModelInfo) (field : FieldInfo) → ArePlain (relation_of models field)
relation_plain models field = by (option_and_then (model_at models) field.relation) where
  by : (o : Option ModelInfo) → ArePlain (option_map_or (λ info. (codes "relation", string info.name) ∷ []) o [])
  by None = tt
  by (Some info) = (refl, tt)

selection_plain : (field : FieldInfo) → ArePlain (selection_of field)
selection_plain field = by (is_selection field.field_type) where
  by : (b : Bool) → ArePlain (cond b ((codes "selection", array (items_of (map choice_data field.selection))) ∷ []) [])
  by true = (choices_plain field.selection, tt)
  by false = tt

-- nor have the members of a field
pub field_plain : (models : List ModelInfo) (field : FieldInfo) (asked : Attributes) (m1 m2 m3 m4 m5 m6 m7 m8 : Members) → PutInTurn models field asked m1 m2 m3 m4 m5 m6 m7 m8 → members_have_float m8 ≡ false
field_plain models field asked m1 m2 m3 m4 m5 m6 m7 m8 turn =
    put_plainly_if asked.type_name ((codes "type", string (type_name field.field_type)) ∷ []) m7 m8 (refl, tt) turn.type_name
    (put_plainly_if asked.string ((codes "string", string field.string) ∷ []) m6 m7 (refl, tt) turn.label
    (put_plainly_if asked.store ((codes "store", boolean field.store) ∷ []) m5 m6 (refl, tt) turn.store
    (put_plainly_if asked.selection (selection_of field) m4 m5 (selection_plain field) turn.selection
    (put_plainly_if asked.required ((codes "required", boolean field.required) ∷ []) m3 m4 (refl, tt) turn.required
    (put_plainly_if asked.relation (relation_of models field) m2 m3 (relation_plain models field) turn.relation
    (put_plainly_if asked.readonly ((codes "readonly", boolean (is_readonly models field)) ∷ []) m1 m2 (refl, tt) turn.readonly
    (put_plainly_if asked.name ((codes "name", string field.name) ∷ []) no_members m1 (refl, tt) turn.name refl)))))))
