-- A row by the values of its kept fields: its plain values, the values that make it, its links.
use Rattle.std.proofs.Common.{◌≡◌, ◌==◌, ◌+◌, ◌<◌, ◌++◌, ℕ, zero, suc, Bool, true, false, ◌&&◌, cond, List, [], ◌∷◌, map, filter, Option, Some, None, unwrap_or, is_some, refl, sym, ap, ◌∙◌, arith, eq-eqb}
use Rattle.std.specs.List.{AllByRecursion, cons_option, enumerate_from, filter_map, flat_map, slice_get, zip}
use Rattle.std.specs.Map.{lookup}
use Rattle.std.specs.Ordering.{nat_cmp, eq_by_cmp}
use Rattle.std.specs.Cmp.{nat_cmp_total}
use Rattle.std.specs.FinMap as finite
use Rattle.std.specs.FinMap.Entries.{find}
use Rattle.std.proofs.lemmas.Bool.Decides.{nat_tests}
use Rattle.std.proofs.lemmas.Map.Lookups.{exact_unsigned}
use Rattle.ob_base.specs.declared.id.FieldNo.{FieldNo}
use Rattle.ob_base.specs.declared.value.Value.{Value}
use Rattle.ob_base.specs.declared.value.Value.TheVariants as value
use Rattle.ob_audit.specs.Rows.{kept_columns, links_by, links_of}
use Rattle.ob_audit.specs.Rows.{plain_entry, plain_row}
use Rattle.ob_audit.specs.Reading.{entries, given_of, links_for}
use Rattle.ob_codec.specs.RowForm.{HoldAll}
use Rattle.ob_definition.specs.Values.{initial_value}
use Rattle.ob_io.specs.declared.store.Link.{Link}
use Rattle.ob_schema.specs.Built.{numbered}
use Rattle.ob_schema.specs.Fields.{Column, columns, is_kept, is_kept_from, is_own, is_plain_from, is_plain_kept, kept_fields, plain_columns}
use Rattle.ob_schema.specs.Tables.{IsRowOf, PlainRow, kept_in}
use Rattle.ob_schema.specs.declared.info.FieldInfo.{FieldInfo}
use Rattle.ob_schema.specs.declared.info.ModelInfo.{ModelInfo}
use Rattle.ob_schema.specs.declared.info.Origin.{Origin}
use Rattle.ob_schema.specs.declared.info.Origin.TheVariants as origin
use Rattle.ob_tables.proofs.CallerLemmas.{find-columns, get-row_of, keeps, kept_as, row-has, same_test}
use Rattle.ob_tables.specs.After.{given_for, row_of}

-- plain kept fields are kept
kept-from : (o : Origin) (field : FieldInfo) → (is_plain_from o && is_own field) ≡ true → is_kept_from o field ≡ true
kept-from origin.Id field is = cc
kept-from origin.Plain field is = is
kept-from (origin.Delegated at) field is = cc
kept-from (origin.Computed formula) field is = cc

pub plain-kept : (field : FieldInfo) → is_plain_kept field ≡ true → is_kept field ≡ true
plain-kept field is = kept-from field.origin field is

-- the kept ones of these fields, and the plain ones, each with its number
abbrev pub kept_ones : ℕ → List FieldInfo → List Column
kept_ones n fields = filter (λ column. is_kept column.1) (enumerate_from n fields)

abbrev pub plain_ones : ℕ → List FieldInfo → List Column
plain_ones n fields = filter (λ column. is_plain_kept column.1) (enumerate_from n fields)

-- each with the value that a function gives it
abbrev pub with_values : (Column → Value) → List Column → List (Column × Value)
with_values g cols = map (λ column. (column, g column)) cols

pub zip-map : (g : Column → Value) (cols : List Column) → zip cols (map g cols) ≡ with_values g cols
zip-map g [] = refl
zip-map g (c ∷ cols) = ap (λ (l : List (Column × Value)). (c, g c) ∷ l) (zip-map g cols)

-- ---- the plain ones among the kept ones

module _ (g : Column → Value) {X : Type 0} (make : Column × Value → X) where
  -- what is made of a plain one
  abbrev of_plain : Column × Value → Option X
  of_plain entry = cond (is_plain_kept entry.0.1) (Some (make entry)) None

  plain-step : (n : ℕ) (f : FieldInfo) (k p : Bool) → is_plain_kept f ≡ p → (p ≡ true → k ≡ true) → (kept plain : List Column) → filter_map of_plain (with_values g kept) ≡ map (λ c. make (c, g c)) plain
      → filter_map of_plain (with_values g (cond k ((n, f) ∷ kept) kept)) ≡ map (λ c. make (c, g c)) (cond p ((n, f) ∷ plain) plain)
  plain-step n f true true is both kept plain later =
      ap (λ (b : Bool). cons_option (cond b (Some (make ((n, f), g (n, f)))) None) (filter_map of_plain (with_values g kept))) is ∙ ap (λ (l : List X). make ((n, f), g (n, f)) ∷ l) later
  plain-step n f true false is both kept plain later = ap (λ (b : Bool). cons_option (cond b (Some (make ((n, f), g (n, f)))) None) (filter_map of_plain (with_values g kept))) is ∙ later
  plain-step n f false true is both kept plain later = absurd (let not : false ≡ true = both refl in cc)
  plain-step n f false false is both kept plain later = later

  pub plain-made : (n : ℕ) (fields : List FieldInfo) → filter_map of_plain (with_values g (kept_ones n fields)) ≡ map (λ c. make (c, g c)) (plain_ones n fields)
  plain-made n [] = refl
  plain-made n (f ∷ fields) = plain-step n f (is_kept f) (is_plain_kept f) refl (plain-kept f) (kept_ones (n + 1) fields) (plain_ones (n + 1) fields) (plain-made (n + 1) fields)

module _ (g : Column → Value) where
  links-step : (n : ℕ) (f : FieldInfo) (k p : Bool) → is_plain_kept f ≡ p → (p ≡ true → k ≡ true) → (kept plain : List Column) → flat_map links_for (with_values g kept) ≡ flat_map (λ c. links_by c (g c)) plain
      → flat_map links_for (with_values g (cond k ((n, f) ∷ kept) kept)) ≡ flat_map (λ c. links_by c (g c)) (cond p ((n, f) ∷ plain) plain)
  links-step n f true true is both kept plain later =
      ap (λ (b : Bool). cond b (links_by (n, f) (g (n, f))) [] ++ flat_map links_for (with_values g kept)) is ∙ ap (λ (l : List Link). links_by (n, f) (g (n, f)) ++ l) later
  links-step n f true false is both kept plain later = ap (λ (b : Bool). cond b (links_by (n, f) (g (n, f))) [] ++ flat_map links_for (with_values g kept)) is ∙ later
  links-step n f false true is both kept plain later = absurd (let not : false ≡ true = both refl in cc)
  links-step n f false false is both kept plain later = later

  links-made : (n : ℕ) (fields : List FieldInfo) → flat_map links_for (with_values g (kept_ones n fields)) ≡ flat_map (λ c. links_by c (g c)) (plain_ones n fields)
  links-made n [] = refl
  links-made n (f ∷ fields) = links-step n f (is_kept f) (is_plain_kept f) refl (plain-kept f) (kept_ones (n + 1) fields) (plain_ones (n + 1) fields) (links-made (n + 1) fields)

-- ---- what is at a number

-- a column stands at its number, and its field passes a test
pub record IsColumn (test : FieldInfo → Bool) (fields : List FieldInfo) (column : Column) : Type 0 where
  pub at : numbered fields column.0 ≡ Some column.1
  pub passes : test column.1 ≡ true

next-at : (fields : List FieldInfo) (n i : ℕ) → numbered fields (n + 1 + i) ≡ numbered fields (n + suc i)
next-at fields n i = ap (numbered fields) (by n i)
  where
    by : (n i : ℕ) → n + 1 + i ≡ n + suc i
    by n i = omega arith

module _ (test : FieldInfo → Bool) (whole : List FieldInfo) where
  columns-from : (n : ℕ) (fields : List FieldInfo) → ((i : ℕ) → numbered whole (n + i) ≡ slice_get fields i) → AllByRecursion (IsColumn test whole) (filter (λ column. test column.1) (enumerate_from n fields))
  columns-from n [] at = tt
  columns-from n (f ∷ fields) at = by (test f) refl (columns-from (n + 1) fields (λ i. next-at whole n i ∙ at (suc i)))
    where
      here : numbered whole n ≡ Some f
      here = ap (numbered whole) (let same : n ≡ n + zero = omega arith in same) ∙ at zero

      by : (b : Bool) → test f ≡ b → AllByRecursion (IsColumn test whole) (filter (λ column. test column.1) (enumerate_from (n + 1) fields))
          → AllByRecursion (IsColumn test whole) (cond b ((n, f) ∷ filter (λ column. test column.1) (enumerate_from (n + 1) fields)) (filter (λ column. test column.1) (enumerate_from (n + 1) fields)))
      by true is rest = (record { at = here; passes = is }, rest)
      by false is rest = rest

first-at : (fields : List FieldInfo) (i : ℕ) → numbered fields (1 + i) ≡ slice_get fields i
first-at fields i = ap (numbered fields) (let same : 1 + i ≡ suc i = omega arith in same)

-- the columns of a model whose fields pass a test stand at their numbers
pub columns-at : (test : FieldInfo → Bool) (info : ModelInfo) → AllByRecursion (IsColumn test info.fields) (filter (λ column. test column.1) (columns info))
columns-at test info = columns-from test info.fields 1 info.fields (first-at info.fields)

-- lists that agree
links-agree : (P : Column → Type 0) (f h : Column → List Link) → ((c : Column) → P c → f c ≡ h c) → (cols : List Column) → AllByRecursion P cols → flat_map f cols ≡ flat_map h cols
links-agree P f h same [] all = refl
links-agree P f h same (c ∷ cols) all = ap (λ (l : List Link). l ++ flat_map f cols) (same c all.0) ∙ ap (λ (l : List Link). h c ++ l) (links-agree P f h same cols all.1)

pub values-agree : (P : Column → Type 0) (f h : Column → Value) → ((c : Column) → P c → f c ≡ h c) → (cols : List Column) → AllByRecursion P cols → map f cols ≡ map h cols
values-agree P f h same [] all = refl
values-agree P f h same (c ∷ cols) all = ap (λ (v : Value). v ∷ map f cols) (same c all.0) ∙ ap (λ (l : List Value). h c ∷ l) (values-agree P f h same cols all.1)

-- the value of a column at its number
pub kept-at : (g : Column → Value) (fields : List FieldInfo) (c : Column) → IsColumn is_plain_kept fields c → kept_as g c.0 (numbered fields c.0) ≡ Some (g c)
kept-at g fields c is = ap (kept_as g c.0) is.at ∙ ap (λ (b : Bool). cond b (Some (g (c.0, c.1))) None) is.passes

-- ---- rows

module _ (info : ModelInfo) (g : Column → Value) where
  -- the values of its kept fields
  abbrev pub values_by : List Value
  values_by = map g (kept_columns info)

  -- the plain values
  pub get-plain_row : (q : ℕ) → finite.get (plain_row info values_by) q ≡ kept_as g q (numbered info.fields q)
  get-plain_row q =
      ap (λ (es : List (Column × Value)). finite.get (finite.from_entries {R = nat_cmp} (filter_map plain_entry es)) q) (zip-map g (kept_columns info))
      ∙ ap (λ (es : List (ℕ × Value)). finite.get (finite.from_entries {R = nat_cmp} es) q) (plain-made g (λ (e : Column × Value). (e.0.0, e.1)) 1 info.fields)
      ∙ finite.get-from_entries nat_cmp_total (map (λ (c : Column). (c.0, g c)) (plain_columns info)) q ∙ find-columns g info q

  -- what an edit is given that makes the row
  abbrev given : List (FieldNo × Value)
  given = map (λ column. (record { 0 = column.0 }, g column)) (plain_columns info)

  pub given-are : filter_map given_of (entries info.fields values_by) ≡ given
  given-are =
      ap (filter_map given_of) (zip-map g (kept_columns info)) ∙ plain-made g (λ (e : Column × Value). let number : FieldNo = record { 0 = e.0.0 } in (number, e.1)) 1 info.fields

  lookup-find : (q : ℕ) (cols : List Column) → lookup (λ (field : FieldNo). field.0 == q) (map (λ (c : Column). let number : FieldNo = record { 0 = c.0 } in (number, g c)) cols) ≡ find nat_cmp q (map (λ (c : Column). (c.0, g c)) cols)
  lookup-find q [] = refl
  lookup-find q (c ∷ cols) =
      ap (λ (b : Bool). cond b (Some (g c)) (lookup (λ (field : FieldNo). field.0 == q) (map (λ (c : Column). let number : FieldNo = record { 0 = c.0 } in (number, g c)) cols))) (sym (same_test q c.0))
      ∙ ap (λ (o : Option Value). cond (eq_by_cmp nat_cmp q c.0) (Some (g c)) o) (lookup-find q cols)

  given-at : (q : ℕ) (field : FieldInfo) → numbered info.fields q ≡ Some field → is_plain_kept field ≡ true → given_for given (q, field) ≡ g (q, field)
  given-at q field at plain =
      ap (λ (o : Option Value). unwrap_or o (initial_value field.field_type))
      (lookup-find q (plain_columns info) ∙ find-columns g info q ∙ ap (kept_as g q) at ∙ ap (λ (b : Bool). cond b (Some (g (q, field))) None) plain)

  same-at : (q : ℕ) (found : Option FieldInfo) → numbered info.fields q ≡ found → kept_as (given_for given) q found ≡ kept_as g q found
  same-at q None at = refl
  same-at q (Some field) at = by (is_plain_kept field) refl
    where
      by : (b : Bool) → is_plain_kept field ≡ b → cond b (Some (given_for given (q, field))) None ≡ cond b (Some (g (q, field))) None
      by true plain = ap Some (given-at q field at plain)
      by false plain = refl

  -- the edit makes the row of the plain values
  pub made-row : row_of info (filter_map given_of (entries info.fields values_by)) ≡ plain_row info values_by
  made-row =
      ap (row_of info) given-are
      ∙ finite.same_map nat_cmp_total exact_unsigned (row_of info given) (plain_row info values_by) (λ q. get-row_of info given q ∙ same-at q (numbered info.fields q) refl ∙ sym (get-plain_row q))

  -- the links are by the plain fields
  pub links-plain : flat_map links_for (entries info.fields values_by) ≡ flat_map (λ c. links_by c (g c)) (plain_columns info)
  links-plain = ap (flat_map links_for) (zip-map g (kept_columns info)) ∙ links-made g 1 info.fields

  -- they are those of the plain values
  pub links-are : flat_map links_for (entries info.fields values_by) ≡ links_of info (plain_row info values_by)
  links-are =
      links-plain
      ∙ links-agree (IsColumn is_plain_kept info.fields) (λ c. links_by c (g c)) (λ c. links_by c (kept_in (plain_row info values_by) (record { 0 = c.0 })))
      (λ c is. ap (λ (o : Option Value). links_by c (unwrap_or o value.Nil)) (sym (get-plain_row c.0 ∙ kept-at g info.fields c is))) (plain_columns info) (columns-at is_plain_kept info)

  -- a row that has these values is the row of the plain values
  pub is-plain_row : (row : PlainRow) → IsRowOf info row → ((q : ℕ) (field : FieldInfo) → numbered info.fields q ≡ Some field → is_plain_kept field ≡ true → g (q, field) ≡ kept_in row (record { 0 = q }))
      → plain_row info values_by ≡ row
  is-plain_row row shape has = finite.same_map nat_cmp_total exact_unsigned (plain_row info values_by) row (λ q. get-plain_row q ∙ by q (numbered info.fields q) refl)
    where
      none : (o : Option Value) → is_some o ≡ false → None ≡ o
      none None is = refl
      none (Some v) is = absurd cc

      some : (o : Option Value) → is_some o ≡ true → Some (unwrap_or o value.Nil) ≡ o
      some None is = absurd cc
      some (Some v) is = refl

      at : (q : ℕ) (field : FieldInfo) (b : Bool) → numbered info.fields q ≡ Some field → is_plain_kept field ≡ b → cond b (Some (g (q, field))) None ≡ finite.get row q
      at q field true is plain = ap Some (has q field is plain) ∙ some (finite.get row q) (row-has info row shape q ∙ ap keeps is ∙ plain)
      at q field false is plain = none (finite.get row q) (row-has info row shape q ∙ ap keeps is ∙ plain)

      by : (q : ℕ) (found : Option FieldInfo) → numbered info.fields q ≡ found → kept_as g q found ≡ finite.get row q
      by q None is = none (finite.get row q) (row-has info row shape q ∙ ap keeps is)
      by q (Some field) is = at q field (is_plain_kept field) is refl

-- ---- values in a list

-- the value that stands at a column's place
abbrev pub value_of : List Column → List Value → Column → Value
value_of [] values column = value.Nil
value_of (c ∷ cols) [] column = value.Nil
value_of (c ∷ cols) (v ∷ values) column = cond (c.0 == column.0) v (value_of cols values column)

-- numbers from one on
kept-above : (from n : ℕ) (fields : List FieldInfo) → from < n → AllByRecursion (λ c. from < c.0) (kept_ones n fields)
kept-above from n [] low = tt
kept-above from n (f ∷ fields) low = by (is_kept f) (kept-above from (n + 1) fields (omega arith))
  where
    by : (b : Bool) → AllByRecursion (λ c. from < c.0) (kept_ones (n + 1) fields) → AllByRecursion (λ c. from < c.0) (cond b ((n, f) ∷ kept_ones (n + 1) fields) (kept_ones (n + 1) fields))
    by true rest = (low, rest)
    by false rest = rest

differ : (a b : ℕ) → a < b → (a == b) ≡ false
differ a b low = grind (arith, nat_tests)

-- values that fields hold are those at the fields' places
pub value_of-back : (n : ℕ) (fields : List FieldInfo) (values : List Value) → HoldAll (filter is_kept fields) values → map (value_of (kept_ones n fields) values) (kept_ones n fields) ≡ values
value_of-back n [] [] holds = refl
value_of-back n [] (v ∷ values) holds = absurd holds
value_of-back n (f ∷ fields) values holds = by (is_kept f) values holds (value_of-back (n + 1) fields)
  where
    by : (b : Bool) (values : List Value) → HoldAll (cond b (f ∷ filter is_kept fields) (filter is_kept fields)) values
        → ((others : List Value) → HoldAll (filter is_kept fields) others → map (value_of (kept_ones (n + 1) fields) others) (kept_ones (n + 1) fields) ≡ others)
        → map (value_of (cond b ((n, f) ∷ kept_ones (n + 1) fields) (kept_ones (n + 1) fields)) values) (cond b ((n, f) ∷ kept_ones (n + 1) fields) (kept_ones (n + 1) fields)) ≡ values
    by true [] holds later = absurd holds
    by true (v ∷ values) holds later =
        let rest = kept_ones (n + 1) fields in
        ap (λ (b : Bool). cond b v (value_of rest values (n, f)) ∷ map (value_of ((n, f) ∷ rest) (v ∷ values)) rest) (eq-eqb n n refl)
        ∙ ap (λ (l : List Value). v ∷ l)
        (values-agree (λ c. n < c.0) (value_of ((n, f) ∷ rest) (v ∷ values)) (value_of rest values) (λ c low. ap (λ (b : Bool). cond b v (value_of rest values c)) (differ n c.0 low)) rest (kept-above n (n + 1) fields (omega arith))
        ∙ later values holds.1)
    by false values holds later = later values holds

-- the values of a row's kept fields, column by column
abbrev pub each_of : ModelInfo → List Value → Column → Value
each_of info values = value_of (kept_columns info) values

pub each-back : (info : ModelInfo) (values : List Value) → HoldAll (kept_fields info) values → map (each_of info values) (kept_columns info) ≡ values
each-back info values holds = value_of-back 1 info.fields values holds
