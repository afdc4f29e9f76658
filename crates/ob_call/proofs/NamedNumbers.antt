-- The numbers of fields that a list names.
use Rattle.std.proofs.Common.{◌≡◌, ◌≢◌, ℕ, zero, suc, add-zero, ◌+◌, ◌-◌, ◌<◌, ◌≤◌, ◌||◌, ◌==◌, Bool, true, false, cond, List, [], ◌∷◌, ◌++◌, map, length, get_or, set, take, drop, Option, Some, None}
use Rattle.std.proofs.Common.{option_map, option_and_then, Result, Ok, Err, Vec, Global, refl, sym, ap, ◌∙◌, arith}
use Rattle.std.specs.Prelude.{IsSome, IfOk, IfSome, filter}
use Rattle.std.specs.List.{enumerate_from}
use Rattle.std.specs.Option.{option_map_or}
use Rattle.std.proofs.Math.ListN.{replicate}
use Rattle.std.proofs.lemmas.Bool.Decides.{nat_tests}
use Rattle.std.proofs.lemmas.Bool.{eq-eqb}
use Rattle.std.proofs.lemmas.List.Folds.{list_any-append}
use Rattle.std.proofs.lemmas.List.{length-replicate, length-set, map-append, take_all, take_more}
use Rattle.serde_json.specs.Data.{Data}
use Rattle.serde_json.specs.Find.{as_str}
use Rattle.serde_json.specs.View.{view}
use Rattle.serde_json.specs.declared.value.Value.{Value}
use Rattle.ob_base.specs.declared.id.FieldNo.{FieldNo}
use Rattle.ob_base.specs.declared.memory.NoMemory.{NoMemory}
use Rattle.ob_schema.specs.Fields.{Column, columns}
use Rattle.ob_schema.specs.Models.{field_named}
use Rattle.ob_schema.specs.declared.info.FieldInfo.{FieldInfo}
use Rattle.ob_schema.specs.declared.info.ModelInfo.{ModelInfo}
use Rattle.ob_call.specs.Forms.{number_from}
use Rattle.ob_call.specs.Columns.{columns_named, flagged, is_named}
use Rattle.ob_call.proofs.NumberedFields.{named-range}

-- the numbers of fields
abbrev pub numbers_in : List FieldNo → List ℕ
numbers_in numbers = map (λ n. n.0) numbers

-- the numbers so far, and those of the flags that are left
pub record IsNumberedTo (all : Bool) (flags : List Bool) (i : ℕ) (numbers : List FieldNo) : Type 0 where
  pub rest : numbers_in numbers ++ flagged all (i + 1) (drop i flags) ≡ flagged all 1 flags

-- ---- flags

-- whether a list names the field of each number
abbrev pub flags_of : ModelInfo → List Value → List Bool
flags_of info items = map (λ c. is_named info (map view items) c.0) (columns info)

-- no flag is set at first
none_named : (fields : List FieldInfo) (n : ℕ) → replicate (length fields) false ≡ map (λ (c : Column). false) (enumerate_from n fields)
none_named [] n = refl
none_named (f ∷ fields) n = ap (λ (bs : List Bool). false ∷ bs) (none_named fields (n + 1))

-- two tests that agree from a number on set the same flags from it on
same_after : (p q : ℕ → Bool) (fields : List FieldInfo) (n : ℕ) → ((k : ℕ) → n ≤ k → p k ≡ q k) → map (λ (c : Column). p c.0) (enumerate_from n fields) ≡ map (λ (c : Column). q c.0) (enumerate_from n fields)
same_after p q [] n same = refl
same_after p q (f ∷ fields) n same =
    ap (λ (b : Bool). b ∷ map (λ (c : Column). p c.0) (enumerate_from (n + 1) fields)) (same n (omega arith))
    ∙ ap (λ (bs : List Bool). q n ∷ bs) (same_after p q fields (n + 1) (λ k le. same k (omega arith)))

-- one more is set
set_one : (p q : ℕ → Bool) (fields : List FieldInfo) (n i : ℕ) → i < length fields → q (n + i) ≡ true → ((k : ℕ) → k ≢ n + i → p k ≡ q k)
    → set (map (λ (c : Column). p c.0) (enumerate_from n fields)) i true ≡ map (λ (c : Column). q c.0) (enumerate_from n fields)
set_one p q [] n i lt here same = absurd (omega arith)
set_one p q (f ∷ fields) n zero lt here same =
    let first : q n ≡ true = ap q (sym (add-zero n)) ∙ here in
    ap (λ (b : Bool). b ∷ map (λ (c : Column). p c.0) (enumerate_from (n + 1) fields)) (sym first)
    ∙ ap (λ (bs : List Bool). q n ∷ bs) (same_after p q fields (n + 1) (λ k le. same k (λ e. omega arith)))
set_one p q (f ∷ fields) n (suc i) lt here same =
    let moved : n + 1 + i ≡ n + suc i = omega arith in
    ap (λ (b : Bool). b ∷ set (map (λ (c : Column). p c.0) (enumerate_from (n + 1) fields)) i true) (same n (λ e. omega arith))
    ∙ ap (λ (bs : List Bool). q n ∷ bs) (set_one p q fields (n + 1) i (omega arith) (ap q moved ∙ here) (λ k other. same k (λ e. other (e ∙ sym moved))))

-- ---- numbers of fields

-- the number of a field that a text names is from 1 to how many there are
pub text-range : (fields : List FieldInfo) (d : Data) (number : FieldNo) → Some number ≡ number_from fields d → (0 < number.0) × (number.0 ≤ length fields)
text-range fields d number named = by (as_str d) named where
  by : (o : Option (List ℕ)) → Some number ≡ option_and_then (field_named fields) o → (0 < number.0) × (number.0 ≤ length fields)
  by None is = absurd cc
  by (Some name) is = named-range fields name number is

-- ---- the flags of the fields that items name

-- whether a text names the field of this number
abbrev names : ModelInfo → Data → ℕ → Bool
names info d number = option_map_or (λ named. named.0 == number) (number_from info.fields d) false

-- the flags are set of the fields that the items before a place name
pub record IsFlaggedTo (found : Option ModelInfo) (items : List Value) (i : ℕ) (flags : List Bool) : Type 0 where
  pub few : length flags ≤ 256
  pub named : IfSome found (λ info. flags ≡ flags_of info (take i items))

-- no item names a field
pub IsFlaggedTo-none : (found : Option ModelInfo) (items : List Value) (fields : List FieldInfo) (flags : List Bool) → option_map (λ info. info.fields) found ≡ Some fields → length fields ≤ 256
    → flags ≡ replicate (length fields) false → IsFlaggedTo found items 0 flags
IsFlaggedTo-none None items fields flags same few e = absurd cc
IsFlaggedTo-none (Some info) items fields flags same few e =
    let own : info.fields ≡ fields = cc in
    let all : flags ≡ flags_of info [] = e ∙ ap (λ (fs : List FieldInfo). replicate (length fs) false) (sym own) ∙ none_named info.fields 1 in
    record { few = rw e (omega (arith, length-replicate (length fields) false)); named = all }

-- nothing more passes
or_false : (b : Bool) → (b || false) ≡ b
or_false true = refl
or_false false = refl

-- something passes
or_true : (b : Bool) → (b || true) ≡ true
or_true true = refl
or_true false = refl

-- two numbers that are not equal test so
not_same : (m n : ℕ) → (m ≡ n → ⊥) → (m == n) ≡ false
not_same m n other = grind (arith, nat_tests)

-- a field is named by the items so far, or by one more
named_more : (info : ModelInfo) (items : List Value) (i : ℕ) (item : Value) (number : ℕ) → i < length items → item ≡ get_or items i item
    → is_named info (map view (take (i + 1) items)) number ≡ (is_named info (map view (take i items)) number || names info (view item) number)
named_more info items i item number lt is =
    ap (λ (vs : List Value). is_named info (map view vs) number) (take_more items i item lt ∙ ap (λ (v : Value). take i items ++ v ∷ []) (sym is))
    ∙ ap (λ (ds : List Data). is_named info ds number) (map-append view (take i items) (item ∷ []))
    ∙ list_any-append (λ d. names info d number) (map view (take i items)) (view item ∷ [])
    ∙ ap (λ (b : Bool). is_named info (map view (take i items)) number || b) (or_false (names info (view item) number))

-- ---- steps

-- the flag of the field that an item names is set
pub IsFlaggedTo-more : (found : Option ModelInfo) (items : List Value) (i : ℕ) (flags : List Bool) (item : Value) (number : FieldNo) → i < length items → item ≡ get_or items i item
    → IsSome found → IfSome found (λ info. Some number ≡ number_from info.fields (view item))
    → IsFlaggedTo found items i flags → IsFlaggedTo found items (i + 1) (set flags (number.0 - 1) true)
IsFlaggedTo-more None items i flags item number lt is there given so_far = absurd cc
IsFlaggedTo-more (Some info) items i flags item number lt is there given so_far =
    let range = text-range info.fields (view item) number given in
    let place : 1 + (number.0 - 1) ≡ number.0 = omega arith in
    let p = λ (k : ℕ). is_named info (map view (take i items)) k in
    let q = λ (k : ℕ). is_named info (map view (take (i + 1) items)) k in
    let test = λ (k : ℕ). ap (λ (o : Option FieldNo). option_map_or (λ (named : FieldNo). named.0 == k) o false) (sym given) in
    record {
      few = rw (length-set flags (number.0 - 1) true) so_far.few;
      named = ap (λ (bs : List Bool). set bs (number.0 - 1) true) so_far.named
          ∙ set_one p q info.fields 1 (number.0 - 1) (omega arith)
          (named_more info items i item (1 + (number.0 - 1)) lt is ∙ ap (λ (b : Bool). p (1 + (number.0 - 1)) || b) (test (1 + (number.0 - 1)) ∙ eq-eqb number.0 (1 + (number.0 - 1)) (sym place)) ∙ or_true (p (1 + (number.0 - 1))))
          (λ k other. sym (named_more info items i item k lt is ∙ ap (λ (b : Bool). p k || b) (test k ∙ not_same number.0 k (λ e. other (sym e ∙ sym place))) ∙ or_false (p k)));
    }

-- an item that names no field sets no flag
pub IsFlaggedTo-pass : (found : Option ModelInfo) (items : List Value) (i : ℕ) (flags : List Bool) (item : Value) → i < length items → item ≡ get_or items i item
    → IfSome found (λ info. None ≡ number_from info.fields (view item)) → IsFlaggedTo found items i flags → IsFlaggedTo found items (i + 1) flags
IsFlaggedTo-pass None items i flags item lt is given so_far = record { few = so_far.few; named = tt }
IsFlaggedTo-pass (Some info) items i flags item lt is given so_far =
    let p = λ (k : ℕ). is_named info (map view (take i items)) k in
    let q = λ (k : ℕ). is_named info (map view (take (i + 1) items)) k in
    record {
      few = so_far.few;
      named = so_far.named ∙ same_after p q info.fields 1
          (λ k le. sym (named_more info items i item k lt is ∙ ap (λ (b : Bool). p k || b) (ap (λ (o : Option FieldNo). option_map_or (λ (named : FieldNo). named.0 == k) o false) (sym given)) ∙ or_false (p k)));
    }

-- all items were gone through
pub IsFlaggedTo-all : (found : Option ModelInfo) (items : List Value) (i : ℕ) (flags : List Bool) → length items ≤ i → IsFlaggedTo found items i flags → IfSome found (λ info. flags ≡ flags_of info items)
IsFlaggedTo-all None items i flags le so_far = tt
IsFlaggedTo-all (Some info) items i flags le so_far = so_far.named ∙ ap (λ (vs : List Value). flags_of info vs) (take_all i items le)

-- ---- the numbers of the fields that are named

-- the numbers whose flags are set are those of the fields that pass
flagged_filter : (test : ℕ → Bool) (fields : List FieldInfo) (n : ℕ) → flagged false n (map (λ (c : Column). test c.0) (enumerate_from n fields)) ≡ map (λ (c : Column). c.0) (filter (λ c. test c.0) (enumerate_from n fields))
flagged_filter test [] n = refl
flagged_filter test (f ∷ fields) n =
    let left = flagged false (n + 1) (map (λ (c : Column). test c.0) (enumerate_from (n + 1) fields)) in
    let right = filter (λ (c : Column). test c.0) (enumerate_from (n + 1) fields) in
    let more : left ≡ map (λ (c : Column). c.0) right = flagged_filter test fields (n + 1) in
    one_filtered (test n) n f left right more
  where
    one_filtered : (b : Bool) (n : ℕ) (f : FieldInfo) (left : List ℕ) (right : List Column) → left ≡ map (λ (c : Column). c.0) right
        → cond (b || false) (n ∷ left) left ≡ map (λ (c : Column). c.0) (cond b ((n, f) ∷ right) right)
    one_filtered true n f left right e = ap (λ (ns : List ℕ). n ∷ ns) e
    one_filtered false n f left right e = e

-- all numbers are those of all fields
flagged_all : (test : ℕ → Bool) (fields : List FieldInfo) (n : ℕ) → flagged true n (map (λ (c : Column). test c.0) (enumerate_from n fields)) ≡ map (λ (c : Column). c.0) (enumerate_from n fields)
flagged_all test [] n = refl
flagged_all test (f ∷ fields) n = ap (λ (b : Bool). cond b (n ∷ flagged true (n + 1) (map (λ (c : Column). test c.0) (enumerate_from (n + 1) fields))) (flagged true (n + 1) (map (λ
    (c : Column). test c.0) (enumerate_from (n + 1) fields)))) (or_true (test n))
    ∙ ap (λ (ns : List ℕ). n ∷ ns) (flagged_all test fields (n + 1))

-- whether there is no item
abbrev pub is_none_of : List Value → Bool
is_none_of [] = true
is_none_of (v ∷ items) = false

-- the numbers of the flags are those of the fields that are named
pub numbers_named : (info : ModelInfo) (items : List Value) → flagged (is_none_of items) 1 (flags_of info items) ≡ map (λ (c : Column). c.0) (columns_named info (map view items))
numbers_named info [] = flagged_all (λ k. false) info.fields 1
numbers_named info (v ∷ items) = flagged_filter (λ k. is_named info (map view (v ∷ items)) k) info.fields 1

-- a list is empty where its length is 0
none_of : (items : List Value) (empty : Bool) → empty ≡ (length items == 0) → empty ≡ is_none_of items
none_of [] empty e = e
none_of (v ∷ items) empty e = e ∙ grind (arith, nat_tests)

-- the same, of an answer and a model that may be there
pub named_numbers : (found : Option ModelInfo) (items : List Value) (empty : Bool) (flags : List Bool) (r : Result (Vec FieldNo Global) NoMemory) → empty ≡ (length items == 0) → IfSome found (λ info. flags ≡ flags_of info items)
    → IfOk r (λ numbers. numbers_in numbers.items ≡ flagged empty 1 flags) → IfOk r (λ numbers. IfSome found (λ info. numbers_in numbers.items ≡ map (λ c. c.0) (columns_named info (map view items))))
named_numbers found items empty flags (Err e) none named given = tt
named_numbers None items empty flags (Ok numbers) none named given = tt
named_numbers (Some info) items empty flags (Ok numbers) none named given =
    given ∙ ap (λ (b : Bool). flagged b 1 flags) (none_of items empty none) ∙ ap (flagged (is_none_of items) 1) named ∙ numbers_named info items
