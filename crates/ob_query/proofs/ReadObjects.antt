-- The object that tells of a row, one field after another.
use Rattle.std.proofs.Common.{◌≡◌, ℕ, ◌+◌, ◌<◌, ◌≤◌, Bool, true, false, List, [], ◌∷◌, map, length, get_or, drop, Option, Some, None, refl, sym, ap, subst, ◌∙◌}
use Rattle.std.specs.Prelude.{IfSome, pos, negsuc, option_and_then}
use Rattle.std.proofs.lemmas.List.{drop_more, drop_all}
use Rattle.serde_json.specs.Data.{Data, object, Members, put}
use Rattle.serde_json.specs.View.{items_of, view}
use Rattle.serde_json.specs.Written.{has_float, items_have_float, members_have_float}
use Rattle.serde_json.specs.declared.value.Value.{Value as Json}
use Rattle.ob_base.specs.declared.id.FieldNo.{FieldNo}
use Rattle.ob_base.specs.declared.id.ModelNo.{ModelNo}
use Rattle.ob_base.specs.declared.id.RecId.{RecId}
use Rattle.ob_base.specs.declared.value.Value.{Value}
use Rattle.ob_base.specs.declared.value.Value.TheVariants as value
use Rattle.ob_cache.specs.declared.engine.Engine.{Engine}
use Rattle.ob_call.proofs.CallerLemmas.{put_plain}
use Rattle.ob_call.specs.Columns.{columns_at}
use Rattle.ob_codec.specs.CommandForms.{id_json}
use Rattle.ob_codec.specs.JsonForm.{IsJsonOf}
use Rattle.ob_io.specs.declared.keeper.Keeper.{Ghosts}
use Rattle.ob_query.proofs.Asked.{asked_then}
use Rattle.ob_query.proofs.Callers.{tells_on}
use Rattle.ob_query.specs.Read.{TellsFields, TellsRow}
use Rattle.ob_query.specs.ReadParts.{TellsCell}
use Rattle.ob_query.specs.SearchQuestions.{OnlyAsked, TellsTo}
use Rattle.ob_query.specs.declared.caller.Caller.{Caller}
use Rattle.ob_schema.specs.Built.{numbered}
use Rattle.ob_schema.specs.Facts.{OfAllTold, Told}
use Rattle.ob_schema.specs.Fields.{Column}
use Rattle.ob_schema.specs.Models.{field_at, fields_of, model_at}
use Rattle.ob_schema.specs.declared.info.FieldInfo.{FieldInfo}
use Rattle.ob_schema.specs.declared.info.ModelInfo.{ModelInfo}

-- ---- no float is told

-- ids are no floats
pub ids_plain : (ids : List RecId) → items_have_float (items_of (map id_json ids)) ≡ false
ids_plain [] = refl
ids_plain (id ∷ ids) = ids_plain ids

-- the JSON of a value has no float
pub value_plain : (v : Value) (d : Data) → IsJsonOf v d → has_float d ≡ false
value_plain value.Nil d told = ap has_float told
value_plain (value.Bool b) d told = ap has_float told
value_plain (value.Int (pos n)) d told = ap has_float told
value_plain (value.Int (negsuc n)) d told = ap has_float told
value_plain (value.Word text) d told = ap has_float told
value_plain (value.Day n) d told = ap has_float told.1
value_plain (value.Moment n) d told = ap has_float told.1
value_plain (value.Ref id) d told = ap has_float told
value_plain (value.Refs ids) d told = ap has_float told ∙ ids_plain ids

-- ---- the object so far

-- what tells of the fields that are left makes the object of the row
abbrev pub ToldSo : Told → Option ModelInfo → ModelNo → List FieldNo → RecId → ℕ → Members → Type 0
ToldSo told found model numbers id i members =
    IfSome found (λ info. (d : Data) → TellsFields told model id (columns_at info (drop i numbers)) members d → TellsRow told model (columns_at info numbers) id d)

-- the field of the next number
next_number : (info : ModelInfo) (numbers : List FieldNo) (i : ℕ) (number : FieldNo) (field : FieldInfo) → i < length numbers → number ≡ get_or numbers i number → numbered (fields_of info) number.0 ≡ Some field
    → columns_at info (drop i numbers) ≡ (number.0, field) ∷ columns_at info (drop (i + 1) numbers)
next_number info numbers i number field lt is there =
    ap (columns_at info) (drop_more numbers i number lt ∙ ap (λ (n : FieldNo). n ∷ drop (i + 1) numbers) (sym is))
    ∙ rw there refl

-- one field more is told
one_told : (told : Told) (found : Option ModelInfo) (model : ModelNo) (numbers : List FieldNo) (id : RecId) (i : ℕ) (old : Members) (json : Data) (number : FieldNo) (field : FieldInfo)
    → i < length numbers → number ≡ get_or numbers i number → option_and_then (λ info. numbered (fields_of info) number.0) found ≡ Some field → TellsCell told model number id json
    → ToldSo told found model numbers id i old → ToldSo told found model numbers id (i + 1) (put field.name json old)
one_told told None model numbers id i old json number field lt is there cell so_far = tt
one_told told (Some info) model numbers id i old json number field lt is there cell so_far = λ d more.
    so_far d (subst (λ (cs : List Column). TellsFields told model id cs old d) (sym (next_number info numbers i number field lt is there)) (json, cell, more))

-- all fields are told
all_told : (told : Told) (found : Option ModelInfo) (model : ModelNo) (numbers : List FieldNo) (id : RecId) (i : ℕ) (members : Members) (d : Data) → length numbers ≤ i → d ≡ object members
    → ToldSo told found model numbers id i members → IfSome found (λ info. TellsRow told model (columns_at info numbers) id d)
all_told told None model numbers id i members d le is so_far = tt
all_told told (Some info) model numbers id i members d le is so_far = so_far d (subst (λ (ns : List FieldNo). TellsFields told model id (columns_at info ns) members d) (sym (drop_all i numbers le)) is)

module _ {K : Type 0} (g : Ghosts K) (by : Caller) (first : Engine K) (model : ModelNo) (numbers : List FieldNo) (id : RecId) where
  -- only questions came since, and the row is told so far
  pub record IsToldTo (now : Engine K) (i : ℕ) (members : Members) : Type 0 where
    pub asked : OnlyAsked g first now
    pub told : OfAllTold (TellsTo g by first) (λ told. ToldSo told (model_at first.held.models model) model numbers id i members)
    pub plain : members_have_float members ≡ false

  -- one field more is put into the object
  pub IsToldTo-more : (now next : Engine K) (i : ℕ) (old members : Members) (json : Data) (number : FieldNo) (field : FieldInfo) → i < length numbers → number ≡ get_or numbers i number
      → field_at next.held.models model number ≡ Some field → OnlyAsked g now next → OfAllTold (TellsTo g by now) (λ told. TellsCell told model number id json) → has_float json ≡ false → members ≡ put field.name json old
      → IsToldTo now i old → IsToldTo next (i + 1) members
  IsToldTo-more now next i old grown json number field lt is there asked cell plain made so_far =
      let all = asked_then g first now next so_far.asked asked in
      let field_is : field_at first.held.models model number ≡ Some field = subst (λ (models : List ModelInfo). field_at models model number ≡ Some field) all.same.models there in
      rw made (record {
        asked = all;
        told = λ told tells. one_told told (model_at first.held.models model) model numbers id i old json number field lt is field_is (cell told (tells_on g by first now so_far.asked told tells)) (so_far.told told tells);
        plain = put_plain field.name json old plain so_far.plain;
      })

  -- all are
  pub IsToldTo-all : (now : Engine K) (i : ℕ) (members : Members) (d : Data) → length numbers ≤ i → d ≡ object members → IsToldTo now i members
      → OfAllTold (TellsTo g by first) (λ told. IfSome (model_at first.held.models model) (λ info. TellsRow told model (columns_at info numbers) id d))
  IsToldTo-all now i members d le is so_far told tells = all_told told (model_at first.held.models model) model numbers id i members d le is (so_far.told told tells)
