-- The object of the fields that are asked for, one field after another.
use Rattle.std.proofs.Common.{◌≡◌, false, List, [], ◌∷◌, ◌++◌, map, Option, Some, None, refl, sym, ap, ◌∙◌}
use Rattle.std.specs.List.{filter_map}
use Rattle.std.specs.Prelude.{IfSome, option_and_then, option_map}
use Rattle.std.proofs.lemmas.List.Elements.{filter_map-append}
use Rattle.std.proofs.lemmas.Option.{IfSome_then}
use Rattle.std.proofs.lemmas.List.{map-append}
use Rattle.serde_json.specs.Data.{Data, Members, no_members, object, put}
use Rattle.serde_json.specs.Written.{has_float, members_have_float}
use Rattle.ob_base.specs.declared.id.FieldNo.{FieldNo}
use Rattle.ob_base.specs.declared.id.ModelNo.{ModelNo}
use Rattle.ob_call.specs.Columns.{columns_at}
use Rattle.ob_call.proofs.CallerLemmas.{put_plain}
use Rattle.ob_schema.specs.Built.{numbered}
use Rattle.ob_fields.specs.FieldsGet.{Attribute, field_data, fields_data, members_put}
use Rattle.ob_fields.specs.FieldsGetSteps.{AreAsked}
use Rattle.ob_fields.specs.declared.fields.attributes.Attributes.{Attributes}
use Rattle.ob_schema.specs.Fields.{Column}
use Rattle.ob_schema.specs.Models.{field_at, fields_of, model_at}
use Rattle.ob_schema.specs.declared.info.FieldInfo.{FieldInfo}
use Rattle.ob_schema.specs.declared.info.ModelInfo.{ModelInfo}

-- the member of a column
abbrev member_of : List ModelInfo → List Data → Column → Attribute
member_of models texts column = (column.1.name, field_data models texts column.1)

-- the members so far are those of the fields of these numbers, and none has a float
pub record IsPutTo (models : List ModelInfo) (model : ModelNo) (asked : Attributes) (numbers : List FieldNo) (members : Members) : Type 0 where
  pub told : IfSome (model_at models model) (λ info. (texts : List Data) → AreAsked texts asked → members ≡ members_put (map (member_of models texts) (columns_at info numbers)) no_members)
  pub plain : members_have_float members ≡ false

-- nothing is put at first
pub IsPutTo-none : (models : List ModelInfo) (model : ModelNo) (asked : Attributes) → IsPutTo models model asked [] no_members
IsPutTo-none models model asked = record { told = by (model_at models model); plain = refl } where
  by : (found : Option ModelInfo) → IfSome found (λ info. (texts : List Data) → AreAsked texts asked → no_members ≡ members_put (map (member_of models texts) (columns_at info [])) no_members)
  by None = tt
  by (Some info) = λ texts are. refl

-- one member more is put behind the others
put_last : (xs : List Attribute) (x : Attribute) (ms : Members) → members_put (xs ++ x ∷ []) ms ≡ put x.0 x.1 (members_put xs ms)
put_last [] x ms = refl
put_last (y ∷ xs) x ms = put_last xs x (put y.0 y.1 ms)

-- the column of one number more stands behind the others
one_more_column : (info : ModelInfo) (numbers : List FieldNo) (n : FieldNo) (field : FieldInfo) → numbered (fields_of info) n.0 ≡ Some field → columns_at info (numbers ++ n ∷ []) ≡ columns_at info numbers ++ (n.0, field) ∷ []
one_more_column info numbers n field here =
    filter_map-append _ numbers (n ∷ []) ∙ ap (λ (o : Option FieldInfo). columns_at info numbers ++ filter_map (λ (x : Option Column). x) (option_map (λ f. (n.0, f)) o ∷ [])) here

-- the member of one field more is put
pub IsPutTo-more : (models : List ModelInfo) (model : ModelNo) (asked : Attributes) (numbers : List FieldNo) (n : FieldNo) (field : FieldInfo) (told : Data) (ms more : Members) → field_at models model n ≡ Some field
    → ((texts : List Data) → AreAsked texts asked → told ≡ field_data models texts field) → has_float told ≡ false → more ≡ put field.name told ms
    → IsPutTo models model asked numbers ms → IsPutTo models model asked (numbers ++ n ∷ []) more
IsPutTo-more models model asked numbers n field told ms more there tells plain is so_far = record {
  told = by (model_at models model) there so_far.told;
  plain = ap members_have_float is ∙ put_plain field.name told ms plain so_far.plain;
} where
  by : (found : Option ModelInfo) → option_and_then (λ info. numbered (fields_of info) n.0) found ≡ Some field
      → IfSome found (λ info. (texts : List Data) → AreAsked texts asked → ms ≡ members_put (map (member_of models texts) (columns_at info numbers)) no_members)
      → IfSome found (λ info. (texts : List Data) → AreAsked texts asked → more ≡ members_put (map (member_of models texts) (columns_at info (numbers ++ n ∷ []))) no_members)
  by None here so = tt
  by (Some info) here so = λ texts are.
      is ∙ ap (put field.name told) (so texts are) ∙ ap (λ (d : Data). put field.name d (members_put (map (member_of models texts) (columns_at info numbers)) no_members)) (tells texts are)
      ∙ sym (put_last (map (member_of models texts) (columns_at info numbers)) (field.name, field_data models texts field) no_members)
      ∙ ap (λ (xs : List Attribute). members_put xs no_members) (sym (map-append (member_of models texts) (columns_at info numbers) ((n.0, field) ∷ [])))
      ∙ ap (λ (cs : List Column). members_put (map (member_of models texts) cs) no_members) (sym (one_more_column info numbers n field here))

-- the object of all
pub IsPutTo-object : (models : List ModelInfo) (model : ModelNo) (asked : Attributes) (numbers : List FieldNo) (ms : Members) (d : Data) → d ≡ object ms → IsPutTo models model asked numbers ms
    → IfSome (model_at models model) (λ info. (texts : List Data) → AreAsked texts asked → d ≡ fields_data models texts (columns_at info numbers))
IsPutTo-object models model asked numbers ms d is put = IfSome_then (model_at models model) put.told (λ info told texts are. is ∙ ap object (told texts are))
