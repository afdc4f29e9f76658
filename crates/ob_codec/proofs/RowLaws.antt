-- The two laws of a row: what is read is a row's form, and a row's form is read as that row.
use Rattle.std.proofs.Common.{◌≡◌, ℕ, suc, ◌^◌, ◌<◌, ◌≤◌, ◌⊎◌, ◌&&◌, inl, inr, Bool, cond, eqb, List, [], ◌∷◌, ◌++◌, length, get_or, drop, filter, Option, Some, None, Result, Ok, Err, refl, sym, ap, subst, ◌∙◌, append_assoc, arith}
use Rattle.std.specs.Prelude.{option_and_then, IfOk, IsErrOf}
use Rattle.std.specs.Int.{w16, to_be_bytes}
use Rattle.std.specs.List.{flat_map}
use Rattle.std.specs.Option.{option_map, option_map_or}
use Rattle.std.proofs.lemmas.Bool.{eqb-true, eq-eqb, and_parts}
use Rattle.std.proofs.lemmas.List.{nil_from_length}
use Rattle.std.proofs.lemmas.List.Sums.{length-filter, count_by-le-length}
use Rattle.std.proofs.lemmas.Option.{cond_some, same_Some}
use Rattle.ob_base.specs.declared.value.Value.{Value}
use Rattle.ob_base.specs.declared.id.ModelNo.{ModelNo}
use Rattle.ob_schema.specs.Fields.{Holds, is_kept, kept_fields}
use Rattle.ob_schema.specs.Models.{kept_at, model_at}
use Rattle.ob_schema.specs.declared.info.FieldInfo.{FieldInfo}
use Rattle.ob_schema.specs.declared.info.ModelInfo.{ModelInfo}
use Rattle.ob_codec.specs.declared.fault.RowFault.{RowFault}
use Rattle.ob_codec.specs.declared.fault.RowFault.TheVariants as fault
use Rattle.ob_codec.specs.KeptForm.{HasContent, content_of, field_form, head_form}
use Rattle.ob_codec.specs.KeptReading.{IsRowFault, IsRowResult, first_byte, body_front, body_number, body_fields, body_named}
use Rattle.ob_codec.specs.RowForm.{HoldAll, named, row_form}
use Rattle.ob_codec.specs.RowReading.{body_tagged, body_field, body_values, body_row}
use Rattle.ob_codec.proofs.KeptParts.{IsBytes, bind_some, bind_at, chosen, Takes, Takes-then, first_takes, front_takes, front_again, wide16, number_takes, number_again}
use Rattle.ob_codec.proofs.ValueLaws.{tagged_takes, tagged_again, value_tag, value_content, content_parts, HasContent-from_IsValueOf}

-- ---- the head of a body

fields_takes : (count : ℕ) (body rest : List ℕ) → IsBytes body → body_fields count body ≡ Some rest → Takes body (head_form count) rest
unfolding body_fields
fields_takes count body rest fits e =
    let a = bind_some (first_byte body) _ rest e in
    let b = bind_some (body_number w16 a.0.1) _ rest a.2 in
    let g = cond_some (eqb a.0.0 1 && eqb b.0.0 count) b.0.1 rest b.2 in
    let tests = and_parts (eqb a.0.0 1) (eqb b.0.0 count) g.0 in
    let t0 = first_takes body a.0 fits a.1 in
    let t1 = number_takes w16 (2 ^ 16) wide16 a.0.1 b.0 t0.rest_fits b.1 in
    let both = Takes-then body (a.0.0 ∷ []) a.0.1 (to_be_bytes w16 b.0.0) b.0.1 t0 t1.0 in
    let version : Takes body (1 ∷ to_be_bytes w16 b.0.0) b.0.1 = subst (λ (v : ℕ). Takes body (v ∷ to_be_bytes w16 b.0.0) b.0.1) (eqb-true a.0.0 1 tests.0) both in
    let counted : Takes body (head_form count) b.0.1 = subst (λ (n : ℕ). Takes body (head_form n) b.0.1) (eqb-true b.0.0 count tests.1) version in
    subst (λ (r : List ℕ). Takes body (head_form count) r) g.1 counted

fields_again : (count : ℕ) (rest : List ℕ) → count < 2 ^ 16 → body_fields count (head_form count ++ rest) ≡ Some rest
unfolding body_fields
fields_again count rest lt =
    bind_at (body_number w16 (to_be_bytes w16 count ++ rest)) _ (count, rest) (number_again w16 (2 ^ 16) wide16 count rest lt)
    ∙ ap (λ (b : Bool). cond b (Some rest) None) (eq-eqb count count refl)

-- ---- fields

-- the length of a name, and the name
abbrev name_form : List ℕ → List ℕ
name_form name = length name ∷ name

named_takes : (name bytes : List ℕ) (x : ℕ × List ℕ) → IsBytes bytes → body_named name bytes ≡ Some x → Takes bytes (name_form name) (x.0 ∷ x.1) × IsBytes x.1
unfolding body_named
named_takes name bytes x fits e =
    let a = bind_some (first_byte bytes) _ x e in
    let b = bind_some (body_front name a.0.1) _ x a.2 in
    elim (chosen (eqb a.0.0 (length name)) (first_byte b.0) None (Some x) b.2) [
      | inr wrong ↦ absurd (let n : None ≡ Some x = wrong.1 in cc)
      | inl right ↦ (let t0 = first_takes bytes a.0 fits a.1 in
          let t1 = front_takes name a.0.1 b.0 t0.rest_fits b.1 in
          let t2 = first_takes b.0 x t1.rest_fits right.1 in
          let t01 = Takes-then bytes (a.0.0 ∷ []) a.0.1 name b.0 t0 t1 in
          let counted : Takes bytes (name_form name) b.0 = subst (λ (k : ℕ). Takes bytes (k ∷ name) b.0) (eqb-true a.0.0 (length name) right.0) t01 in
          (subst (λ (r : List ℕ). Takes bytes (name_form name) r) t2.parts counted, t2.rest_fits))
    ]

named_again : (name : List ℕ) (tag : ℕ) (rest : List ℕ) → body_named name (name_form name ++ tag ∷ rest) ≡ Some (tag, rest)
unfolding body_named
named_again name tag rest =
    bind_at (body_front name (name ++ tag ∷ rest)) _ (tag ∷ rest) (front_again name (tag ∷ rest))
    ∙ ap (λ (b : Bool). cond b (Some (tag, rest)) None) (eq-eqb (length name) (length name) refl)

-- a field's form
abbrev form_at : FieldInfo → Value → List ℕ
form_at field v = field_form (record { name = field.name; value = v })

field_takes : (field : FieldInfo) (bytes : List ℕ) (x : Value × List ℕ) → IsBytes bytes → body_field field bytes ≡ Some x → Takes bytes (form_at field x.0) x.1 × Holds field x.0
unfolding body_field
field_takes field bytes x fits e =
    let a = bind_some (body_named field.name bytes) (λ t. body_tagged field.field_type field.selection t.0 t.1) x e in
    let t0 = named_takes field.name bytes a.0 fits a.1 in
    let t1 = tagged_takes field.field_type field.selection a.0.0 a.0.1 x t0.1 a.2 in
    (Takes-then bytes (name_form field.name) (a.0.0 ∷ a.0.1) (content_of x.0) x.1 t0.0 t1.0, t1.1)

field_again : (field : FieldInfo) (v : Value) (rest : List ℕ) → Holds field v → body_field field (form_at field v ++ rest) ≡ Some (v, rest)
unfolding body_field
field_again field v rest holds =
    let after = value_content v ++ rest in
    ap (body_field field) (append_assoc (name_form field.name) (content_of v) rest ∙ ap (λ (c : List ℕ). name_form field.name ++ (c ++ rest)) (content_parts v))
    ∙ bind_at (body_named field.name (name_form field.name ++ value_tag v ∷ after)) (λ t. body_tagged field.field_type field.selection t.0 t.1) (value_tag v, after) (named_again field.name (value_tag v) after)
    ∙ tagged_again field.field_type field.selection v rest holds

-- ---- rows

-- the fields one after the other
abbrev forms : List FieldInfo → List Value → List ℕ
forms fields values = flat_map field_form (named fields values)

values_takes : (fields : List FieldInfo) (bytes : List ℕ) (values : List Value) → IsBytes bytes → body_values fields bytes ≡ Some values → HoldAll fields values × (bytes ≡ forms fields values)
unfolding body_values
values_takes [] bytes values fits e =
    let g = cond_some (eqb (length bytes) 0) [] values e in
    subst (λ (vs : List Value). HoldAll [] vs × (bytes ≡ forms [] vs)) g.1 (tt, nil_from_length bytes (eqb-true _ _ g.0))
values_takes (field ∷ fields) bytes values fits e =
    let a = bind_some (body_field field bytes) (λ v. option_and_then (λ vs. Some (v.0 ∷ vs)) (body_values fields v.1)) values e in
    let b = bind_some (body_values fields a.0.1) (λ vs. Some (a.0.0 ∷ vs)) values a.2 in
    let t0 = field_takes field bytes a.0 fits a.1 in
    let t1 = values_takes fields a.0.1 b.0 t0.0.rest_fits b.1 in
    let whole : bytes ≡ form_at field a.0.0 ++ forms fields b.0 = t0.0.parts ∙ ap (λ (r : List ℕ). form_at field a.0.0 ++ r) t1.1 in
    subst (λ (vs : List Value). HoldAll (field ∷ fields) vs × (bytes ≡ forms (field ∷ fields) vs)) (same_Some (a.0.0 ∷ b.0) values b.2) ((t0.1, t1.0), whole)

values_again : (fields : List FieldInfo) (values : List Value) → HoldAll fields values → body_values fields (forms fields values) ≡ Some values
unfolding body_values
values_again [] [] holds = refl
values_again [] (v ∷ values) holds = absurd holds
values_again (field ∷ fields) [] holds = absurd holds
values_again (field ∷ fields) (v ∷ values) holds =
    bind_at (body_field field (form_at field v ++ forms fields values)) (λ x. option_and_then (λ vs. Some (x.0 ∷ vs)) (body_values fields x.1)) (v, forms fields values) (field_again field v (forms fields values) holds.0)
    ∙ bind_at (body_values fields (forms fields values)) (λ vs. Some (v ∷ vs)) values (values_again fields values holds.1)

-- as many values as fields
pub length-named : (fields : List FieldInfo) (values : List Value) → HoldAll fields values → length (named fields values) ≡ length fields
length-named [] values holds = refl
length-named (field ∷ fields) [] holds = absurd holds
length-named (field ∷ fields) (v ∷ values) holds = ap suc (length-named fields values holds.1)

pub length-values : (fields : List FieldInfo) (values : List Value) → HoldAll fields values → length values ≡ length fields
length-values [] [] holds = refl
length-values [] (v ∷ values) holds = absurd holds
length-values (field ∷ fields) [] holds = absurd holds
length-values (field ∷ fields) (v ∷ values) holds = ap suc (length-values fields values holds.1)

-- the form of a row, by the number of its fields
pub row_parts : (fields : List FieldInfo) (values : List Value) → HoldAll fields values → row_form fields values ≡ head_form (length fields) ++ forms fields values
row_parts fields values holds = ap (λ (n : ℕ). head_form n ++ forms fields values) (length-named fields values holds)

pub row_takes : (fields : List FieldInfo) (body : List ℕ) (values : List Value) → IsBytes body → body_row fields body ≡ Some values → HoldAll fields values × (body ≡ row_form fields values)
unfolding body_row
row_takes fields body values fits e =
    let a = bind_some (body_fields (length fields) body) _ values e in
    let t0 = fields_takes (length fields) body a.0 fits a.1 in
    let t1 = values_takes fields a.0 values t0.rest_fits a.2 in
    (t1.0, t0.parts ∙ ap (λ (r : List ℕ). head_form (length fields) ++ r) t1.1 ∙ sym (row_parts fields values t1.0))

pub row_again : (fields : List FieldInfo) (values : List Value) → length fields < 2 ^ 16 → HoldAll fields values → body_row fields (row_form fields values) ≡ Some values
unfolding body_row
row_again fields values few holds =
    ap (body_row fields) (row_parts fields values holds)
    ∙ bind_at (body_fields (length fields) (head_form (length fields) ++ forms fields values)) _ (forms fields values) (fields_again (length fields) (forms fields values) few)
    ∙ values_again fields values holds

pub one_row_lem : (fields : List FieldInfo) (a b : List Value) → HoldAll fields a → HoldAll fields b → row_form fields a ≡ row_form fields b → a ≡ b
one_row_lem fields a b p q e =
    let same : forms fields a ≡ forms fields b = ap (λ (body : List ℕ). drop 3 body) e in
    same_Some a b (sym (values_again fields a p) ∙ ap (body_values fields) same ∙ values_again fields b q)

-- ---- the steps of writing and reading a row

-- the value of the first of these fields
pub first_held : (all rest : List FieldInfo) (field : FieldInfo) (values : List Value) (v : Value) → all ≡ field ∷ rest → HoldAll all values → 1 ≤ length values → v ≡ get_or values 0 v → HasContent v
first_held all rest field values v more holds some at = first_kept rest field values v (subst (λ (fs : List FieldInfo). HoldAll fs values) more holds) some at where
  first_kept : (rest : List FieldInfo) (field : FieldInfo) (values : List Value) (v : Value) → HoldAll (field ∷ rest) values → 1 ≤ length values → v ≡ get_or values 0 v → HasContent v
  first_kept rest field [] v holds some at = absurd holds
  first_kept rest field (x ∷ values) v holds some at = subst HasContent (sym at) (HasContent-from_IsValueOf field.field_type field.selection x holds.0)

-- the head and the fields, after nothing
pub written : (fields : List FieldInfo) (values : List Value) (start head out : List ℕ) → HoldAll fields values → start ≡ [] → head ≡ start ++ head_form (length values)
    → out ≡ head ++ forms fields values → out ≡ row_form fields values
written fields values start head out holds e0 e1 e2 =
    e2 ∙ ap (λ (h : List ℕ). h ++ forms fields values) (e1 ∙ ap (λ (s : List ℕ). s ++ head_form (length values)) e0)
    ∙ ap (λ (n : ℕ). head_form n ++ forms fields values) (length-values fields values holds)
    ∙ sym (row_parts fields values holds)

pub row_fail : (fields : List FieldInfo) (body : List ℕ) (count : ℕ) (e : RowFault) → count ≡ length fields → IsRowFault e (body_fields count body) → IsRowFault e (body_row fields body)
unfolding body_row
row_fail fields body count fault.Bad same failed = ap (λ (o : Option (List ℕ)). option_and_then (λ rest. body_values fields rest) o) (ap (λ (n : ℕ). body_fields n body) (sym same) ∙ failed)
row_fail fields body count fault.NoMemory same failed = tt

pub row_more : (fields : List FieldInfo) (body : List ℕ) (count : ℕ) (rest : List ℕ) (r : Result (List Value) RowFault) → count ≡ length fields → body_fields count body ≡ Some rest
    → IsRowResult (λ values. values) r (body_values fields rest) → IsRowResult (λ values. values) r (body_row fields body)
unfolding body_row
row_more fields body count rest r same read given =
    let reads : (option_and_then (λ left. body_values fields left) (body_fields (length fields) body)) ≡ body_values fields rest = ap (λ (o : Option (List ℕ)). option_and_then (λ left. body_values fields left) o)
    (ap (λ (n : ℕ). body_fields n body) (sym same) ∙ read) in
    subst (λ (o : Option (List Value)). IsRowResult (λ values. values) r o) (sym reads) given

-- ---- the kept fields of a model

kept_is : (model : Option ModelInfo) (fields : List FieldInfo) → option_map (λ info. info.fields) model ≡ Some fields → option_map_or kept_fields model [] ≡ filter is_kept fields
kept_is None fields e = absurd cc
kept_is (Some model) fields e = ap (filter is_kept) (same_Some model.fields fields e)

pub kept_at_is : (models : List ModelInfo) (model : ModelNo) (fields : List FieldInfo) → option_map (λ info. info.fields) (model_at models model) ≡ Some fields → kept_at models model ≡ filter is_kept fields
kept_at_is models model fields e = kept_is (model_at models model) fields e

pub few_kept : (fields : List FieldInfo) → length fields ≤ 256 → length (filter is_kept fields) ≤ 256
few_kept fields few = omega (arith, length-filter is_kept fields, count_by-le-length is_kept fields)

-- ---- what the reading of a body says of its rows

pub read_ok : (fields : List FieldInfo) (body : List ℕ) (r : Result (List Value) RowFault) → IsBytes body → IsRowResult (λ values. values) r (body_row fields body)
    → IfOk r (λ values. HoldAll fields values × (body ≡ row_form fields values))
read_ok fields body (Ok values) fits given = row_takes fields body values fits given
read_ok fields body (Err e) fits given = tt

pub read_holds : (fields : List FieldInfo) (body : List ℕ) (r : Result (List Value) RowFault) → IsBytes body → IsRowResult (λ values. values) r (body_row fields body) → IfOk r (λ values. HoldAll fields values)
read_holds fields body (Ok values) fits given = (row_takes fields body values fits given).0
read_holds fields body (Err e) fits given = tt

pub read_only : (fields : List FieldInfo) (body : List ℕ) (r : Result (List Value) RowFault) (values : List Value) → length fields < 2 ^ 16 → HoldAll fields values → body ≡ row_form fields values
    → IsRowResult (λ values. values) r (body_row fields body) → (r ≡ Ok values) ⊎ (r ≡ Err fault.NoMemory)
read_only fields body (Ok found) values few holds e given = inl (ap Ok (same_Some found values (sym given ∙ ap (body_row fields) e ∙ row_again fields values few holds)))
read_only fields body (Err fault.Bad) values few holds e given = absurd (let n : None ≡ Some values = sym given ∙ ap (body_row fields) e ∙ row_again fields values few holds in cc)
read_only fields body (Err fault.NoMemory) values few holds e given = inr refl

pub read_bad : (fields : List FieldInfo) (body : List ℕ) (r : Result (List Value) RowFault) → length fields < 2 ^ 16 → IsRowResult (λ values. values) r (body_row fields body) → IsErrOf r fault.Bad → (values : List Value)
    → HoldAll fields values → body ≡ row_form fields values → ⊥
read_bad fields body r few given bad values holds e =
    elim (read_only fields body r values few holds e given) [
      | inl found ↦ (let n : Ok values ≡ Err fault.Bad = sym found ∙ bad in cc)
      | inr full ↦ (let n : Err fault.NoMemory ≡ Err fault.Bad = sym full ∙ bad in cc)
    ]
