-- One turn of a loop that reads: what it reads next, and what is left after it.
use Rattle.std.proofs.Common.{◌≡◌, ℕ, suc, ◌+◌, ◌<◌, ◌≤◌, Bool, true, false, cond, eqb, List, [], ◌∷◌, ◌++◌, length, get_or, drop, filter, Option, Some, None, sym, ap, ◌∙◌, arith}
use Rattle.std.specs.Prelude.{option_and_then}
use Rattle.std.specs.List.{All}
use Rattle.std.proofs.lemmas.List.{append-nil, drop_more, drop_all}
use Rattle.std.proofs.lemmas.Bool.Decides.{nat_tests}
use Rattle.std.proofs.lemmas.List.Elements.{All-push}
use Rattle.ob_base.specs.declared.id.RecId.{RecId}
use Rattle.ob_base.specs.declared.value.Value.{Value}
use Rattle.ob_schema.specs.Fields.{is_kept}
use Rattle.ob_schema.specs.declared.info.FieldInfo.{FieldInfo}
use Rattle.ob_codec.specs.declared.fault.RowFault.{RowFault}
use Rattle.ob_codec.specs.declared.fault.RowFault.TheVariants as fault
use Rattle.ob_codec.specs.KeptReading.{IsRowFault}
use Rattle.ob_codec.specs.RowReading.{body_field, body_values}
use Rattle.ob_codec.specs.ValueReading.{body_id, body_ids}
use Rattle.ob_codec.proofs.Prefixes.{listed_after, listed_after-more, read_after, read_after-more}

-- a whole that ends where a step read nothing
fails_on : {X Y : Type 0} (e : RowFault) (read : Option X) (whole : Option Y) → IsRowFault e read → (read ≡ None → whole ≡ None) → IsRowFault e whole
fails_on fault.Bad read whole failed none = none failed
fails_on fault.NoMemory read whole failed none = tt

-- ---- ids

pub ids_fail : (n left before : ℕ) (ids : List RecId) (bytes : List ℕ) (whole : Option (List RecId × List ℕ)) (e : RowFault) → n ≡ suc left → IsRowFault e (body_id before bytes)
    → read_after ids (body_ids n before bytes) ≡ whole → IsRowFault e whole
unfolding body_ids
ids_fail n left before ids bytes whole e more failed same =
    fails_on e (body_id before bytes) whole failed
    (λ none. sym same ∙ ap (λ (k : ℕ). read_after ids (body_ids k before bytes)) more
    ∙ ap (λ (o : Option (RecId × List ℕ)). read_after ids (option_and_then (λ id. option_and_then (λ is. Some (id.0 ∷ is.0, is.1)) (body_ids left id.0.0 id.1)) o)) none)

pub ids_more : (n left before : ℕ) (ids : List RecId) (bytes : List ℕ) (id : RecId) (rest : List ℕ) (whole : Option (List RecId × List ℕ)) → n ≡ suc left → body_id before bytes ≡ Some (id, rest)
    → read_after ids (body_ids n before bytes) ≡ whole → read_after (ids ++ id ∷ []) (body_ids left id.0 rest) ≡ whole
unfolding body_ids
ids_more n left before ids bytes id rest whole more read same =
    read_after-more ids id (body_ids left id.0 rest)
    ∙ sym (ap (λ (k : ℕ). read_after ids (body_ids k before bytes)) more
    ∙ ap (λ (o : Option (RecId × List ℕ)). read_after ids (option_and_then (λ i. option_and_then (λ is. Some (i.0 ∷ is.0, is.1)) (body_ids left i.0.0 i.1)) o)) read)
    ∙ same

pub ids_end : (n before : ℕ) (ids : List RecId) (bytes : List ℕ) (whole : Option (List RecId × List ℕ)) → n ≡ 0 → read_after ids (body_ids n before bytes) ≡ whole → whole ≡ Some (ids, bytes)
unfolding body_ids
ids_end n before ids bytes whole none same =
    sym same ∙ ap (λ (k : ℕ). read_after ids (body_ids k before bytes)) none ∙ ap (λ (l : List RecId). Some (l, bytes)) (append-nil ids)

pub below_push : (ids : List RecId) (id : RecId) (before : ℕ) → All (λ i. i.0 ≤ before) ids → before < id.0 → All (λ i. i.0 ≤ id.0) (ids ++ id ∷ [])
below_push ids id before below above = All-push (λ (i : RecId). i.0 ≤ id.0) ids id (λ k d h. omega (arith, below k d h)) (omega arith)

-- ---- values

-- the kept ones of the fields from a place on
pub kept_more : (fields : List FieldInfo) (i : ℕ) (field : FieldInfo) → i < length fields → field ≡ get_or fields i field → is_kept field ≡ true
    → filter is_kept (drop i fields) ≡ field ∷ filter is_kept (drop (i + 1) fields)
kept_more fields i field lt at kept =
    ap (filter is_kept) (drop_more fields i field lt ∙ ap (λ (f : FieldInfo). f ∷ drop (i + 1) fields) (sym at))
    ∙ ap (λ (b : Bool). cond b (field ∷ filter is_kept (drop (i + 1) fields)) (filter is_kept (drop (i + 1) fields))) kept

pub kept_pass : (fields : List FieldInfo) (i : ℕ) (field : FieldInfo) → i < length fields → field ≡ get_or fields i field → is_kept field ≡ false → filter is_kept (drop i fields) ≡ filter is_kept (drop (i + 1) fields)
kept_pass fields i field lt at other =
    ap (filter is_kept) (drop_more fields i field lt ∙ ap (λ (f : FieldInfo). f ∷ drop (i + 1) fields) (sym at))
    ∙ ap (λ (b : Bool). cond b (field ∷ filter is_kept (drop (i + 1) fields)) (filter is_kept (drop (i + 1) fields))) other

pub values_fail : (all rest : List FieldInfo) (field : FieldInfo) (values : List Value) (bytes : List ℕ) (whole : Option (List Value)) (e : RowFault) → all ≡ field ∷ rest → IsRowFault e (body_field field bytes)
    → listed_after values (body_values all bytes) ≡ whole → IsRowFault e whole
unfolding body_values
values_fail all rest field values bytes whole e more failed same =
    fails_on e (body_field field bytes) whole failed
    (λ none. sym same ∙ ap (λ (fs : List FieldInfo). listed_after values (body_values fs bytes)) more
    ∙ ap (λ (o : Option (Value × List ℕ)). listed_after values (option_and_then (λ v. option_and_then (λ vs. Some (v.0 ∷ vs)) (body_values rest v.1)) o)) none)

pub values_more : (all rest : List FieldInfo) (field : FieldInfo) (values : List Value) (bytes : List ℕ) (v : Value) (left : List ℕ) (whole : Option (List Value)) → all ≡ field ∷ rest → body_field field bytes ≡ Some (v, left)
    → listed_after values (body_values all bytes) ≡ whole → listed_after (values ++ v ∷ []) (body_values rest left) ≡ whole
unfolding body_values
values_more all rest field values bytes v left whole more read same =
    listed_after-more values v (body_values rest left)
    ∙ sym (ap (λ (fs : List FieldInfo). listed_after values (body_values fs bytes)) more
    ∙ ap (λ (o : Option (Value × List ℕ)). listed_after values (option_and_then (λ x. option_and_then (λ vs. Some (x.0 ∷ vs)) (body_values rest x.1)) o)) read)
    ∙ same

pub values_pass : (all rest : List FieldInfo) (values : List Value) (bytes : List ℕ) (whole : Option (List Value)) → all ≡ rest → listed_after values (body_values all bytes) ≡ whole
    → listed_after values (body_values rest bytes) ≡ whole
values_pass all rest values bytes whole pass same = ap (λ (fs : List FieldInfo). listed_after values (body_values fs bytes)) (sym pass) ∙ same

-- nothing is left to read
pub values_end : (fields : List FieldInfo) (i : ℕ) (values : List Value) (bytes : List ℕ) (whole : Option (List Value)) → length fields ≤ i → bytes ≡ []
    → listed_after values (body_values (filter is_kept (drop i fields)) bytes) ≡ whole → whole ≡ Some values
unfolding body_values
values_end fields i values bytes whole past nothing same =
    sym same
    ∙ ap (λ (fs : List FieldInfo). listed_after values (body_values (filter is_kept fs) bytes)) (drop_all i fields past)
    ∙ ap (λ (b : List ℕ). listed_after values (body_values [] b)) nothing
    ∙ ap Some (append-nil values)

-- something is left after the last
rest_left : (bytes : List ℕ) → 0 < length bytes → body_values [] bytes ≡ None
unfolding body_values
rest_left bytes some =
    let full : eqb (length bytes) 0 ≡ false = grind (arith, nat_tests) in
    ap (λ (b : Bool). cond b (Some []) None) full

pub values_left : (fields : List FieldInfo) (i : ℕ) (values : List Value) (bytes : List ℕ) (whole : Option (List Value)) → length fields ≤ i → 0 < length bytes
    → listed_after values (body_values (filter is_kept (drop i fields)) bytes) ≡ whole → whole ≡ None
values_left fields i values bytes whole past some same =
    sym same
    ∙ ap (λ (fs : List FieldInfo). listed_after values (body_values (filter is_kept fs) bytes)) (drop_all i fields past)
    ∙ ap (λ (o : Option (List Value)). listed_after values o) (rest_left bytes some)
