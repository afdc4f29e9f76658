-- Lines that are added to a report, field by field.
use Rattle.std.proofs.Common.{◌≡◌, ◌<◌, ◌++◌, ◌+◌, ◌&&◌, inl, ℕ, suc, Bool, true, false, cond, not, is_none, is_some, List, [], ◌∷◌, map, filter, length}
use Rattle.std.proofs.Common.{take, get_or, Option, Some, None, option_map, Result, Ok, Err, refl, sym, ap, subst, ◌∙◌, arith, append_assoc}
use Rattle.std.specs.Prelude.{◌↔◌, IsTrue, IsSomeAnd, OnOk, slice_get}
use Rattle.std.specs.List.{AllByRecursion, AllZip, enumerate_from}
use Rattle.std.specs.Option.{option_map_or}
use Rattle.std.proofs.lemmas.Bool.{and_parts}
use Rattle.std.proofs.lemmas.Grind.{flat_map-append}
use Rattle.std.proofs.lemmas.Option.{same_Some, slice_get-get_or}
use Rattle.std.proofs.lemmas.List.{append-nil, length-take, take_more}
use Rattle.ob_base.specs.declared.id.Cell.{Cell}
use Rattle.ob_base.specs.declared.id.ModelNo.{ModelNo}
use Rattle.ob_base.specs.declared.value.Value.{Value}
use Rattle.ob_audit.specs.Comparing.{AddsFields, AgreesBy, AreRightIn, IsFirstWrong, IsFound, IsIn, IsRight, LineBy, TellsBy, cell_at, field_of, step_of}
use Rattle.ob_audit.specs.Reading.{IsOneOf}
use Rattle.ob_audit.specs.Report.{FieldOf, field_name, is_stored, model_name, stored_fields, stored_of_model}
use Rattle.ob_audit.specs.declared.comparing.Difference.{Difference}
use Rattle.ob_audit.specs.declared.report.Report.{Report}
use Rattle.ob_audit.proofs.ModelFields.{field-of}
use Rattle.ob_audit.proofs.PagedRows.{all-appended, one-right}
use Rattle.ob_audit.proofs.StoreTables.{of-one}
use Rattle.ob_schema.specs.Fields.{Column}
use Rattle.ob_schema.specs.Models.{HasModel, field_at, model_at}
use Rattle.ob_schema.specs.Tables.{Standing, ids_in}
use Rattle.ob_schema.specs.declared.info.FieldInfo.{FieldInfo}
use Rattle.ob_schema.specs.declared.info.ModelInfo.{ModelInfo}
use Rattle.ob_schema.specs.declared.info.Step.{Step}
use Rattle.ob_tables.proofs.CallerLemmas.{is_there, told_and}

never : false ≡ true → ⊥
never is = absurd cc

-- ---- lists

pub all-left : {X : Type 0} (P : X → Type 0) (xs ys : List X) → AllByRecursion P (xs ++ ys) → AllByRecursion P xs
all-left P [] ys all = tt
all-left P (x ∷ xs) ys all = (all.0, all-left P xs ys all.1)

pub all-right : {X : Type 0} (P : X → Type 0) (xs ys : List X) → AllByRecursion P (xs ++ ys) → AllByRecursion P ys
all-right P [] ys all = all
all-right P (x ∷ xs) ys all = all-right P xs ys all.1

zip-appended : {A B : Type 0} (R : A → B → Type 0) (xs ys : List A) (us vs : List B) → AllZip R xs us → AllZip R ys vs → AllZip R (xs ++ ys) (us ++ vs)
zip-appended R [] ys [] vs first second = second
zip-appended R [] ys (u ∷ us) vs first second = absurd first
zip-appended R (x ∷ xs) ys [] vs first second = absurd first
zip-appended R (x ∷ xs) ys (u ∷ us) vs first second = (first.0, zip-appended R xs ys us vs first.1 second)

-- ---- fields of models

module _ (model : ModelNo) where
  abbrev with_model : Column → FieldOf
  with_model column = (model, column)

  -- the stored ones of these fields, numbered from one on
  abbrev pub stored_from : ℕ → List FieldInfo → List FieldOf
  stored_from n fields = map with_model (filter (λ column. is_stored column.1) (enumerate_from n fields))

  -- one field, if it is stored
  abbrev pub one_stored : ℕ → FieldInfo → List FieldOf
  one_stored n field = cond (is_stored field) (with_model (n, field) ∷ []) []

  stored-last : (n : ℕ) (xs : List FieldInfo) (x : FieldInfo) (m : ℕ) → m ≡ n + length xs → stored_from n (xs ++ x ∷ []) ≡ stored_from n xs ++ one_stored m x
  stored-last n [] x m is = by (is_stored x) (number n m is)
    where
      number : (n m : ℕ) → m ≡ n + 0 → n ≡ m
      number n m is = omega arith

      by : (b : Bool) → n ≡ m → map with_model (cond b ((n, x) ∷ []) []) ≡ cond b (with_model (m, x) ∷ []) []
      by true same = ap (λ (k : ℕ). with_model (k, x) ∷ []) same
      by false same = refl
  stored-last n (y ∷ xs) x m is = by (is_stored y) (stored-last (n + 1) xs x m (further n m (length xs) is))
    where
      further : (n m k : ℕ) → m ≡ n + suc k → m ≡ n + 1 + k
      further n m k is = omega arith

      by : (b : Bool) → stored_from (n + 1) (xs ++ x ∷ []) ≡ stored_from (n + 1) xs ++ one_stored m x
          → map with_model (cond b ((n, y) ∷ filter (λ column. is_stored column.1) (enumerate_from (n + 1) (xs ++ x ∷ []))) (filter (λ column. is_stored column.1) (enumerate_from (n + 1) (xs ++ x ∷ []))))
          ≡ map with_model (cond b ((n, y) ∷ filter (λ column. is_stored column.1) (enumerate_from (n + 1) xs)) (filter (λ column. is_stored column.1) (enumerate_from (n + 1) xs))) ++ one_stored m x
      by true later = ap (λ (l : List FieldOf). with_model (n, y) ∷ l) later
      by false later = later

  -- one field more
  pub stored-more : (fields : List FieldInfo) (i : ℕ) (field : FieldInfo) → i < length fields → field ≡ get_or fields i field → stored_from 1 (take (i + 1) fields) ≡ stored_from 1 (take i fields) ++ one_stored (i + 1) field
  stored-more fields i field low at =
      ap (stored_from 1) (take_more fields i field low ∙ ap (λ (f : FieldInfo). take i fields ++ f ∷ []) (sym at))
      ∙ stored-last 1 (take i fields) field (i + 1) (let size = length-take i fields in omega (arith, size))

-- the fields of one model more
pub fields-more : (models : List ModelInfo) (named : List (ModelNo × List ℕ)) (i : ℕ) (one : ModelNo × List ℕ) → i < length named → one ≡ get_or named i one
    → stored_fields models (take (i + 1) named) ≡ stored_fields models (take i named) ++ stored_of_model models one.0
fields-more models named i one low at =
    ap (stored_fields models) (take_more named i one low ∙ ap (λ (o : ModelNo × List ℕ). take i named ++ o ∷ []) (sym at))
    ∙ flat_map-append (λ (o : ModelNo × List ℕ). stored_of_model models o.0) (take i named) (one ∷ [])
    ∙ ap (λ (l : List FieldOf). stored_fields models (take i named) ++ l) (append-nil (stored_of_model models one.0))

-- ---- lines

module _ (standing : Standing) (stored : List (Cell × Value)) where
  -- what is wrong isn't right
  wrong-not : (at : Step) (d : Difference) → IsFirstWrong standing stored at d → AreRightIn standing at stored → ⊥
  wrong-not at d wrong right =
      let here : Cell × Value = (cell_at at d.id, d.kept) in
      of-one (λ s. IsIn at s.0 → IsRight standing s) stored here right (subst (IsOneOf here) (sym wrong.split) (one-right here wrong.front (here ∷ wrong.rest) (inl refl)))
      (refl, refl) d.scratch wrong.valued wrong.other

  pub adds-none : (report : Report) → AddsFields standing stored [] report report
  adds-none report = record { told = []; lines = sym (append-nil report.lines); each = tt; equal = (λ is. (is, tt), λ both. both.0) }

  pub adds-join : (xs ys : List FieldOf) (a b c : Report) → AddsFields standing stored xs a b → AddsFields standing stored ys b c → AddsFields standing stored (xs ++ ys) a c
  adds-join xs ys a b c first second = record {
    told = first.told ++ second.told;
    lines = second.lines ∙ ap (λ (l : List (List ℕ)). l ++ second.told) first.lines ∙ append_assoc a.lines first.told second.told;
    each = zip-appended (TellsBy standing stored) xs ys first.told second.told first.each second.each;
    equal = (
      λ is. (let later = second.equal.0 is in let before = first.equal.0 later.0 in (before.0, all-appended (AgreesBy standing stored) xs ys before.1 later.1)),
      λ both. second.equal.1 (first.equal.1 (both.0, all-left (AgreesBy standing stored) xs ys both.1), all-right (AgreesBy standing stored) xs ys both.1),
    );
  }

  -- a field is told
  pub adds-one : (field : FieldOf) (found : Option Difference) (line : List ℕ) (a b : Report) → IsFound standing stored (step_of field) found
      → LineBy (model_name standing.models field.0) field.1.1.name (length (ids_in standing.tables field.0)) found line
      → b.lines ≡ a.lines ++ line ∷ [] → b.equal ≡ (a.equal && is_none found) → AddsFields standing stored (field ∷ []) a b
  adds-one field found line a b is text lines equal = record {
    told = line ∷ [];
    lines = lines;
    each = (record { found = found; is = is; text = text }, tt);
    equal = by found is equal;
  }
    where
      by : (o : Option Difference) → IsFound standing stored (step_of field) o → b.equal ≡ (a.equal && is_none o) → IsTrue b.equal ↔ (IsTrue a.equal × AllByRecursion (AgreesBy standing stored) (field ∷ []))
      by None right same = (
        λ yes. ((and_parts a.equal true (sym same ∙ yes)).0, (right, tt)),
        λ both. same ∙ ap (λ (e : Bool). e && true) both.0,
      )
      by (Some d) wrong same = (
        λ yes. absurd (never ((and_parts a.equal false (sym same ∙ yes)).1)),
        λ both. absurd (wrong-not (step_of field) d wrong both.1.0),
      )

  -- the same by the number of the field
  pub adds-field : (models : List ModelInfo) (at : Step) (found : Option Difference) (line : List ℕ) (a b : Report) → standing.models ≡ models → IsSomeAnd (field_at models at.model at.field) (λ info. is_stored info ≡ true)
      → IsFound standing stored at found → LineBy (model_name models at.model) (field_name models at.model at.field) (length (ids_in standing.tables at.model)) found line
      → b.lines ≡ a.lines ++ line ∷ [] → b.equal ≡ (a.equal && is_none found) → AddsFields standing stored (field_of models at) a b
  adds-field models at found line a b over there is text lines equal =
      let (info, field_is, known) = told_and (field_at models at.model at.field) (λ info. is_stored info ≡ true) there in
      let field : FieldOf = (at.model, (at.field.0, info)) in
      let name_is : field_name models at.model at.field ≡ info.name = ap (λ (o : Option FieldInfo). option_map_or (λ i. i.name) o []) field_is in
      let fields_are : field_of models at ≡ field ∷ [] = ap (λ (o : Option FieldInfo). option_map_or (λ i. (at.model, (at.field.0, i)) ∷ []) o []) field_is in
      subst (λ (l : List FieldOf). AddsFields standing stored l a b) (sym fields_are)
      (adds-one field found line a b is
      (subst (λ (m : List ModelInfo). LineBy (model_name m at.model) info.name (length (ids_in standing.tables at.model)) found line) (sym over)
      (subst (λ (name : List ℕ). LineBy (model_name models at.model) name (length (ids_in standing.tables at.model)) found line) name_is text)) lines equal)

-- there is nothing where not something is
pub none-told : {X : Type 0} (o : Option X) (b : Bool) → is_some o ≡ not b → b ≡ is_none o
none-told None true is = refl
none-told None false is = absurd (never is)
none-told (Some x) true is = absurd (never (sym is))
none-told (Some x) false is = refl

-- the same of what is answered, where the line is added
pub adds-told : {X E : Type 0} (r : Result X E) (standing : Standing) (stored : List (Cell × Value)) (models : List ModelInfo) (at : Step) (found : Option Difference) (agrees : Bool) (line : List ℕ) (a b : Report)
    → standing.models ≡ models
    → IsSomeAnd (field_at models at.model at.field) (λ info. is_stored info ≡ true) → IsFound standing stored at found
    → LineBy (model_name models at.model) (field_name models at.model at.field) (length (ids_in standing.tables at.model)) found line → agrees ≡ is_none found
    → OnOk r (b.lines ≡ a.lines ++ line ∷ []) → OnOk r (b.equal ≡ (a.equal && agrees)) → OnOk r (AddsFields standing stored (field_of models at) a b)
adds-told (Err e) standing stored models at found agrees line a b over there is text none lines equal = tt
adds-told (Ok x) standing stored models at found agrees line a b over there is text none lines equal =
    adds-field standing stored models at found line a b over there is text lines (equal ∙ ap (λ (e : Bool). a.equal && e) none)

-- ---- the fields of a model

-- a field of a model by its place
pub field-here : (models : List ModelInfo) (model : ModelNo) (fields : List FieldInfo) (i : ℕ) (field : FieldInfo)
    → HasModel models model → option_map (λ (info : ModelInfo). info.fields) (model_at models model) ≡ Some fields → i < length fields
    → field ≡ get_or fields i field → field_at models model (record { 0 = i + 1 }) ≡ Some field
field-here models model fields i field there same low is =
    let (info, found) = is_there (model_at models model) there in
    let one : info.fields ≡ fields = same_Some info.fields fields (sym (ap (option_map (λ (m : ModelInfo). m.fields)) found) ∙ same) in
    let named : slice_get info.fields i ≡ Some field = ap (λ (l : List FieldInfo). slice_get l i) one ∙ slice_get-get_or fields i field low ∙ ap Some (sym is) in
    let number : i + 1 ≡ suc i = omega arith in
    ap (λ (n : ℕ). field_at models model (record { 0 = n })) number ∙ field-of models model info (suc i) field found named

module _ (standing : Standing) (stored : List (Cell × Value)) (model : ModelNo) (fields : List FieldInfo) (i : ℕ) (field : FieldInfo) (low : i < length fields) (is : field ≡ get_or fields i field) (start a : Report)
    (before : AddsFields standing stored (stored_from model 1 (take i fields)) start a) where
  -- one of them is stored
  pub field-told : (now : Standing) (models : List ModelInfo) (b : Report) → now ≡ standing → field_at models model (record { 0 = i + 1 }) ≡ Some field → is_stored field ≡ true
      → AddsFields now stored (field_of models (record { model = model; field = record { 0 = i + 1 } })) a b → AddsFields standing stored (stored_from model 1 (take (i + 1) fields)) start b
  field-told now models b same at kept after =
      let one : field_of models (record { model = model; field = record { 0 = i + 1 } }) ≡ one_stored model (i + 1) field =
      ap (λ (o : Option FieldInfo). option_map_or (λ info. (model, (i + 1, info)) ∷ []) o []) at ∙ sym (ap (λ (t : Bool). cond t ((model, (i + 1, field)) ∷ []) []) kept) in
      let here : AddsFields standing stored (one_stored model (i + 1) field) a b =
      subst (λ (l : List FieldOf). AddsFields standing stored l a b) one (subst (λ (s : Standing). AddsFields s stored (field_of models (record { model = model; field = record { 0 = i + 1 } })) a b) same after) in
      subst (λ (l : List FieldOf). AddsFields standing stored l start b) (sym (stored-more model fields i field low is))
      (adds-join standing stored (stored_from model 1 (take i fields)) (one_stored model (i + 1) field) start a b before here)

  -- or not
  pub field-passed : is_stored field ≡ false → AddsFields standing stored (stored_from model 1 (take (i + 1) fields)) start a
  field-passed not =
      let none : one_stored model (i + 1) field ≡ [] = ap (λ (t : Bool). cond t ((model, (i + 1, field)) ∷ []) []) not in
      let same : stored_from model 1 (take (i + 1) fields) ≡ stored_from model 1 (take i fields) =
      stored-more model fields i field low is ∙ ap (λ (l : List FieldOf). stored_from model 1 (take i fields) ++ l) none ∙ append-nil (stored_from model 1 (take i fields)) in
      subst (λ (l : List FieldOf). AddsFields standing stored l start a) (sym same) before
