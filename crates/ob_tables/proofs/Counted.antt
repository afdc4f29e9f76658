-- How many rows name a row by a field.
use Rattle.std.proofs.Common.{◌≡◌, ◌<◌, ◌+◌, ◌||◌, ℕ, zero, suc, Bool, true, false, cond, List, [], ◌∷◌, map, length, take, get_or, Some, count_by, refl, sym, ap, subst, ◌∙◌, inl, inr, arith, eqb-true, eq-eqb, add_assoc, zero-add}
use Rattle.std.specs.Prelude.{nat_eq, slice_get, if◌then◌else◌}
use Rattle.std.specs.declared.cmp.Ordering.TheVariants.{Less}
use Rattle.std.specs.List.{AllByRecursion, list_any}
use Rattle.std.specs.List.Sorted.{IsStrictlySortedBy}
use Rattle.std.specs.Ordering.{is_eq, nat_cmp}
use Rattle.std.specs.Cmp.{nat_cmp_total, tied_itself}
use Rattle.std.proofs.lemmas.Cmp.{ranked}
use Rattle.std.proofs.lemmas.List.Sums.{count_by_more_no, count_by_more_yes, sum_by-cons}
use Rattle.std.proofs.lemmas.Map.Keys.{sorted_from_strictly_increasing, sorted_head, sorted_tail}
use Rattle.std.proofs.lemmas.Map.Lookups.{exact_unsigned}
use Rattle.std.proofs.lemmas.Map.Views.{tells_apart}
use Rattle.ob_base.specs.Rising.{IsRising}
use Rattle.ob_base.specs.declared.id.RecId.{RecId}
use Rattle.ob_base.specs.declared.value.Value.{Value}
use Rattle.ob_base.specs.declared.value.Value.TheVariants as value
use Rattle.std.specs.BTreeMap.{BTreeMap}
use Rattle.std.proofs.lemmas.Option.{same_Some}
use Rattle.ob_base.specs.declared.id.FieldNo.{FieldNo}
use Rattle.ob_base.specs.declared.id.ModelNo.{ModelNo}
use Rattle.ob_base.specs.declared.id.RowKey.{RowKey}
use Rattle.ob_definition.specs.Values.{HasType}
use Rattle.ob_definition.specs.declared.field_type.Choice.{Choice}
use Rattle.ob_definition.specs.declared.field_type.FieldType.{FieldType}
use Rattle.ob_definition.specs.declared.field_type.FieldType.TheVariants as type
use Rattle.ob_schema.specs.declared.info.FieldInfo.{FieldInfo}
use Rattle.ob_schema.specs.Fields.{IsGivable}
use Rattle.ob_schema.specs.Plain.{names}
use Rattle.ob_schema.specs.Tables.{PlainRow, Tables, kept_in, row_at, rows_in}
use Rattle.ob_tables.proofs.NamedBack.{Stands, rows_in-there}
use Rattle.ob_tables.proofs.Rising.{chosen-more, chosen-passed, chosen_ids, shown_entry}
use Rattle.ob_schema.specs.Plain.{targets_of}
use Rattle.ob_tables.specs.Rooms.{shown_row}

contrary : {P : Type 0} → false ≡ true → P
contrary e = cc

abbrev pub is_id : RecId → RecId → Bool
is_id id other = nat_eq other.0 id.0

eq_is : (a b : ℕ) → a ≡ b → nat_eq a b ≡ true
eq_is a b same = eq-eqb a b same

equal_self : (a : ℕ) → is_eq (nat_cmp a a) ≡ true
equal_self a = ap is_eq (tied_itself nat_cmp_total a)

apart_by : (a b : ℕ) (t : Bool) → nat_eq a b ≡ t → is_eq (nat_cmp a b) ≡ false → t ≡ false
apart_by a b true test apart = sym (subst (λ n. is_eq (nat_cmp a n) ≡ true) (eqb-true a b test) (equal_self a)) ∙ apart
apart_by a b false test apart = refl

counted_by : (x : RecId) (xs : List RecId) (i : ℕ) (d : RecId) (old new first : ℕ → ℕ) (id : RecId) → get_or xs i d ≡ x → i < length xs → new id.0 ≡ cond (is_eq (nat_cmp x.0 id.0)) (old x.0 + 1) (old id.0)
    → old id.0 ≡ first id.0 + count_by (is_id id) (take i xs) → (b : Bool) → is_eq (nat_cmp x.0 id.0) ≡ b → new id.0 ≡ first id.0 + count_by (is_id id) (take (i + 1) xs)
counted_by x xs i d old new first id at low step here true e =
    let same : x.0 ≡ id.0 = tells_apart exact_unsigned x.0 id.0 e in
    let more : count_by (is_id id) (take (i + 1) xs) ≡ count_by (is_id id) (take i xs) + 1 = count_by_more_yes (is_id id) xs i d low (ap (is_id id) at ∙ eq_is x.0 id.0 same) in
    let now : new id.0 ≡ old id.0 + 1 = step ∙ ap (λ b. cond b (old x.0 + 1) (old id.0)) e ∙ ap (λ n. old n + 1) same in
    now ∙ ap (λ n. n + 1) here ∙ add_assoc (first id.0) _ 1 ∙ ap (λ n. first id.0 + n) (sym more)
counted_by x xs i d old new first id at low step here false e =
    let more : count_by (is_id id) (take (i + 1) xs) ≡ count_by (is_id id) (take i xs) = count_by_more_no (is_id id) xs i d low (ap (is_id id) at ∙ apart_by x.0 id.0 (nat_eq x.0 id.0) refl e) in
    let now : new id.0 ≡ old id.0 = step ∙ ap (λ b. cond b (old x.0 + 1) (old id.0)) e in
    now ∙ here ∙ ap (λ n. first id.0 + n) (sym more)

-- one more is counted at one number
pub counted : (xs : List RecId) (i : ℕ) (d : RecId) (old new first : ℕ → ℕ) → i < length xs → ((q : ℕ) → new q ≡ cond (is_eq (nat_cmp (get_or xs i d).0 q)) (old (get_or xs i d).0 + 1) (old q))
    → ((id : RecId) → old id.0 ≡ first id.0 + count_by (is_id id) (take i xs)) → (id : RecId) → new id.0 ≡ first id.0 + count_by (is_id id) (take (i + 1) xs)
counted xs i d old new first low step so_far id = counted_by (get_or xs i d) xs i d old new first id refl low (step id.0) (so_far id) (is_eq (nat_cmp (get_or xs i d).0 id.0)) refl

count_by-cons : (p : RecId → Bool) (x : RecId) (xs : List RecId) → count_by p (x ∷ xs) ≡ cond (p x) 1 0 + count_by p xs
count_by-cons p x xs = sum_by-cons (λ x. cond (p x) 1 0) x xs

above_none : (id : RecId) (n : ℕ) (ids : List RecId) → n ≡ id.0 → AllByRecursion (λ q. nat_cmp n q ≡ Less) (map (λ i. i.0) ids) → count_by (is_id id) ids ≡ 0
above_none id n [] same h = refl
above_none id n (x ∷ ids) same h = count_by-cons (is_id id) x ids ∙ by (nat_eq x.0 id.0) refl (above_none id n ids same h.1)
  where
    by : (b : Bool) → nat_eq x.0 id.0 ≡ b → count_by (is_id id) ids ≡ 0 → cond b 1 0 + count_by (is_id id) ids ≡ 0
    by false e rest = omega (arith, rest)
    by true e rest = let less = ranked n x.0 Less (sym h.0) in let at = eqb-true x.0 id.0 e in absurd (omega (arith, less, at, same))

-- an id stands once among ids that rise
count_once : (id : RecId) (ids : List RecId) → IsStrictlySortedBy nat_cmp (map (λ i. i.0) ids) → count_by (is_id id) ids ≡ (if list_any (is_id id) ids then 1 else 0)
count_once id [] h = refl
count_once id (x ∷ ids) h = count_by-cons (is_id id) x ids ∙ by (nat_eq x.0 id.0) refl (count_once id ids (sorted_tail nat_cmp x.0 (map (λ i. i.0) ids) h))
  where
    by : (b : Bool) → nat_eq x.0 id.0 ≡ b → count_by (is_id id) ids ≡ (if list_any (is_id id) ids then 1 else 0)
        → cond b 1 0 + count_by (is_id id) ids ≡ (if (b || list_any (is_id id) ids) then 1 else 0)
    by false e rest = zero-add (count_by (is_id id) ids) ∙ rest
    by true e rest = ap (λ n. 1 + n) (above_none id x.0 ids (eqb-true x.0 id.0 e) (sorted_head nat_cmp x.0 (map (λ i. i.0) ids) h))

-- a value names a row once or not at all
pub count-names : (v : Value) (id : RecId) → IsRising (targets_of v) → count_by (is_id id) (targets_of v) ≡ (if names id v then 1 else 0)
count-names (value.Ref other) id h = count_by-cons (is_id id) other [] ∙ one (nat_eq other.0 id.0)
  where
    one : (b : Bool) → cond b 1 0 + 0 ≡ (if b then 1 else 0)
    one true = refl
    one false = refl
count-names (value.Refs ids) id h = count_once id ids (sorted_from_strictly_increasing (map (λ i. i.0) ids) h)
count-names value.Nil id h = refl
count-names (value.Bool b) id h = refl
count-names (value.Int n) id h = refl
count-names (value.Word t) id h = refl
count-names (value.Day n) id h = refl
count-names (value.Moment n) id h = refl

-- the rows of a list of a type rise
rising-list : (t : FieldType) (choices : List Choice) (ids : List RecId) → HasType t choices (value.Refs ids) → IsRising ids
rising-list type.One2many choices ids h = h
rising-list type.Many2many choices ids h = h
rising-list _ choices ids h = absurd h

-- the rows that a value of a field names rise
pub rising-targets : (info : FieldInfo) (v : Value) → IsGivable info v → IsRising (targets_of v)
rising-targets info (value.Ref id) h = λ k low. absurd (omega arith)
rising-targets info (value.Refs ids) h = rising-list info.field_type info.selection ids h
rising-targets info value.Nil h = λ k low. absurd (omega arith)
rising-targets info (value.Bool b) h = λ k low. absurd (omega arith)
rising-targets info (value.Int n) h = λ k low. absurd (omega arith)
rising-targets info (value.Word t) h = λ k low. absurd (omega arith)
rising-targets info (value.Day n) h = λ k low. absurd (omega arith)
rising-targets info (value.Moment n) h = λ k low. absurd (omega arith)

module _ (t : Tables) (model : ModelNo) (field : FieldNo) where
  -- those of these entries that name a row
  abbrev pub holders : RecId → List (RowKey × BTreeMap ℕ Value) → List RecId
  holders id es = chosen_ids (λ entry. names id (kept_in entry.1 field)) es

  -- each of these entries is of a row that is there
  abbrev pub AreThere : List (RowKey × BTreeMap ℕ Value) → Type 0
  AreThere es = (k : ℕ) (e : RecId × PlainRow) → slice_get (map shown_entry es) k ≡ Some e → row_at t model e.0 ≡ Some e.1

  pub there-rest : (from es : List (RowKey × BTreeMap ℕ Value)) (e : RowKey × BTreeMap ℕ Value) → from ≡ e ∷ es → AreThere from → AreThere es
  there-rest from es e is h k x at = h (suc k) x (ap (λ l. slice_get (map shown_entry l) (suc k)) is ∙ at)

  pub there-first : (from es : List (RowKey × BTreeMap ℕ Value)) (e : RowKey × BTreeMap ℕ Value) → from ≡ e ∷ es → AreThere from → row_at t model e.0.id ≡ Some (shown_row e.1)
  there-first from es e is h = h 0 (shown_entry e) (ap (λ l. slice_get (map shown_entry l) 0) is)

  stands_at : {X : Type 0} (xs : List X) (k : ℕ) (x : X) → slice_get xs k ≡ Some x → Stands x xs
  stands_at [] k x e = cc
  stands_at (y ∷ xs) zero x e = inl (sym (same_Some y x e))
  stands_at (y ∷ xs) (suc k) x e = inr (stands_at xs k x e)

  pub there-all : (es : List (RowKey × BTreeMap ℕ Value)) → map shown_entry es ≡ rows_in t model → AreThere es
  there-all es is k e at = rows_in-there t model e (stands_at (rows_in t model) k e (ap (λ l. slice_get l k) (sym is) ∙ at))

  -- one more row is counted
  pub holder-more : (old new : ℕ) (from es : List (RowKey × BTreeMap ℕ Value)) (e : RowKey × BTreeMap ℕ Value) (v : Value) (id : RecId) (total : ℕ) → from ≡ e ∷ es → kept_in (shown_row e.1) field ≡ v
      → IsRising (targets_of v)
      → new ≡ old + count_by (is_id id) (targets_of v) → old + length (holders id from) ≡ total → new + length (holders id es) ≡ total
  holder-more old new from es e v id total is kept rising one all = by (names id (kept_in (shown_row e.1) field)) refl (one ∙ ap (λ n. old + n) (count-names v id rising ∙ ap (λ w. if names id w then 1 else 0) (sym kept)))
    where
      by : (b : Bool) → names id (kept_in (shown_row e.1) field) ≡ b → new ≡ old + (if names id (kept_in (shown_row e.1) field) then 1 else 0) → new + length (holders id es) ≡ total
      by true named is_new =
          let now : new ≡ old + 1 = is_new ∙ ap (λ b. old + (if b then 1 else 0)) named in
          let more : length (holders id from) ≡ length (e.0.id ∷ holders id es) = ap length (chosen-more (λ entry. names id (kept_in entry.1 field)) from es e is named) in
          omega (arith, now, more, all)
      by false none is_new =
          let now : new ≡ old + 0 = is_new ∙ ap (λ b. old + (if b then 1 else 0)) none in
          let more : length (holders id from) ≡ length (holders id es) = ap length (chosen-passed (λ entry. names id (kept_in entry.1 field)) from es e is none) in
          omega (arith, now, more, all)

  -- one that names none isn't
  pub holder-passed : (old : ℕ) (from es : List (RowKey × BTreeMap ℕ Value)) (e : RowKey × BTreeMap ℕ Value) (id : RecId) (total : ℕ) → from ≡ e ∷ es → kept_in (shown_row e.1) field ≡ value.Nil
      → old + length (holders id from) ≡ total → old + length (holders id es) ≡ total
  holder-passed old from es e id total is kept all =
      let more : length (holders id from) ≡ length (holders id es) = ap length (chosen-passed (λ entry. names id (kept_in entry.1 field)) from es e is (ap (names id) kept)) in
      omega (arith, more, all)
