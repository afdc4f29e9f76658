-- What edits do to rows, one behind another, as the code adds it up.
use Rattle.std.proofs.Common.{◌≡◌, ◌⊎◌, ◌↔◌, ◌||◌, ◌∷◌, [], ◌++◌, inl, inr, Bool, true, false, cond, List, map, Option, Some, None, append-nil, append_assoc, refl, sym, ap, subst, ◌∙◌}
use Rattle.std.specs.Prelude.{All, Contains, IsSome, IsSomeAnd, OnOk, Result, Ok, Err, filter, find, is_some, option_and_then}
use Rattle.std.specs.BTreeSet as sorted
use Rattle.std.specs.FinMap as finite
use Rattle.std.specs.Option.{option_map_or, option_or}
use Rattle.std.specs.Ordering.{eq_by_cmp, is_eq}
use Rattle.std.proofs.lemmas.List.{map-append}
use Rattle.std.proofs.lemmas.List.Elements.{All-contains, All-contains_itself, All-weaker, Contains-append_cases, Contains-append_left, Contains-append_right, Contains-push, Contains-push_cases, filter-append}
use Rattle.std.proofs.lemmas.List.Folds.{find-append}
use Rattle.ob_base.specs.Ids.{row_key_cmp}
use Rattle.ob_base.specs.declared.id.Cell.{Cell}
use Rattle.ob_base.specs.declared.id.FieldNo.{FieldNo}
use Rattle.ob_base.specs.declared.id.ModelNo.{ModelNo}
use Rattle.ob_base.specs.declared.id.RecId.{RecId}
use Rattle.ob_base.specs.declared.id.RowKey.{RowKey}
use Rattle.ob_base.specs.declared.refusal.Op.{Op}
use Rattle.ob_base.specs.declared.refusal.Op.TheVariants as op
use Rattle.ob_base.specs.declared.value.Value.{Value}
use Rattle.ob_rows.proofs.CallerLemmas.{after-then, contains-filter, fails, no_row, row-among, row-one, set-there}
use Rattle.ob_rows.specs.AskingSteps.{AreKnown}
use Rattle.ob_orm.specs.TouchSteps.{Adds, AsksSame, IsTouched, IsWithin, SameRows, is_there_by, knows_row}
use Rattle.ob_rows.specs.RowSets.{has_key}
use Rattle.ob_orm.specs.NewRowSteps.{MayFit}
use Rattle.ob_rows.specs.Rights.{Asking}
use Rattle.ob_orm.specs.Touches.{Touch, asking_of, is_create, is_write, rows_changed, rows_made, touch_by, touch_there, touches_of}
use Rattle.ob_orm.specs.declared.touching.Touched.{Touched}
use Rattle.ob_schema.proofs.CallerLemmas.{contains-cases, contains-none}
use Rattle.ob_schema.specs.Facts.{Told, told_by}
use Rattle.ob_schema.specs.Built.{numbered}
use Rattle.ob_schema.specs.Models.{HasModel, fields_of, model_at}
use Rattle.ob_schema.specs.Tables.{PlainRow, Tables, key_of, row_at}
use Rattle.ob_schema.specs.declared.info.ModelInfo.{ModelInfo}
use Rattle.ob_tables.proofs.CallerLemmas.{exact_rows, rows_total}
use Rattle.ob_tables.specs.After.{after, edited, row_of, with_row}
use Rattle.ob_tables.specs.Changes.{has_row}
use Rattle.ob_tables.specs.Fitting.{AreFitValues, IsFitIn}
use Rattle.ob_tables.specs.declared.edit.Edit.{Edit}
use Rattle.ob_tables.specs.declared.edit.Edit.TheVariants as edit
use Rattle.std.proofs.lemmas.Map.Views.{tells_apart}
use Rattle.std.specs.Cmp.{tied_itself}

-- ---- what is asked for

pub asked-then : (xs ys zs : List Asking) → AsksSame xs ys → AsksSame ys zs → AsksSame xs zs
asked-then xs ys zs one more test = one test ∙ more test

-- the same behind both
asked-behind : (xs ys zs : List Asking) → AsksSame xs ys → AsksSame (xs ++ zs) (ys ++ zs)
asked-behind xs ys zs same test = find-append test xs zs ∙ ap (λ (o : Option Asking). option_or o (find test zs)) (same test) ∙ sym (find-append test ys zs)

-- what isn't found fails
find-fails : (test : Asking → Bool) (xs : List Asking) (x : Asking) → find test xs ≡ None → Contains xs x → test x ≡ false
find-fails test [] x none among = absurd (contains-none x among)
find-fails test (y ∷ xs) x none among = by (test y) refl none (λ none later. find-fails test xs x none later) where
  by : (b : Bool) → test y ≡ b → cond b (Some y) (find test xs) ≡ None → (find test xs ≡ None → Contains xs x → test x ≡ false) → test x ≡ false
  by true is none rest = let wrong : Some y ≡ None = none in cc
  by false is none rest = elim (contains-cases y xs x among) [
    | inl same ↦ sym (ap test same) ∙ is
    | inr later ↦ rest none later
  ]

-- what is asked for already
pub asks-again : (xs : List Asking) (x : Asking) → Contains xs x → AsksSame xs (xs ++ x ∷ [])
asks-again xs x among test = by (find test xs) refl ∙ sym (find-append test xs (x ∷ [])) where
  by : (o : Option Asking) → find test xs ≡ o → find test xs ≡ option_or (find test xs) (find test (x ∷ []))
  by (Some y) is = is ∙ sym (ap (λ (o : Option Asking). option_or o (find test (x ∷ []))) is)
  by None is =
      is ∙ sym (ap (λ (b : Bool). cond b (Some x) None) (find-fails test xs x is among)) ∙ sym (ap (λ (o : Option Asking). option_or o (find test (x ∷ []))) is)

-- ---- rows

pub same-rows : (rows : List RowKey) → SameRows rows rows
same-rows rows row = (λ c. c, λ c. c)

pub rows-then : (xs ys zs : List RowKey) → SameRows xs ys → SameRows ys zs → SameRows xs zs
rows-then xs ys zs one more row = (λ c. (more row).0 ((one row).0 c), λ c. (one row).1 ((more row).1 c))

rows-behind : (xs ys zs : List RowKey) → SameRows xs ys → SameRows (xs ++ zs) (ys ++ zs)
rows-behind xs ys zs same row = (to xs ys (λ c. (same row).0 c), to ys xs (λ c. (same row).1 c)) where
  to : (ps qs : List RowKey) → (Contains ps row → Contains qs row) → Contains (ps ++ zs) row → Contains (qs ++ zs) row
  to ps qs goes c = elim (Contains-append_cases ps zs row c) [
    | inl first ↦ Contains-append_left qs zs row (goes first)
    | inr later ↦ Contains-append_right qs zs row later
  ]

rows-more : (rows : List RowKey) → SameRows rows (rows ++ [])
rows-more rows = subst (SameRows rows) (sym (append-nil rows)) (same-rows rows)

-- one row more of a set
pub set-more : (old new : sorted.BTreeSet RowKey) (row : RowKey) → ((other : RowKey) → has_key new other ≡ cond (is_eq (row_key_cmp row other)) true (has_key old other)) → SameRows new.keys (old.keys ++ row ∷ [])
set-more old new row updates other = (to, from) where
  one : (has_key new other ≡ true) ↔ ((has_key old other ≡ true) ⊎ (other ≡ row))
  one = row-one old new row updates other

  to : Contains new.keys other → Contains (old.keys ++ row ∷ []) other
  to c = elim (one.0 ((row-among new other).1 c)) [
    | inl had ↦ Contains-append_left old.keys (row ∷ []) other ((row-among old other).0 had)
    | inr is ↦ subst (λ (r : RowKey). Contains (old.keys ++ row ∷ []) r) (sym is) (Contains-push old.keys row)
  ]

  from : Contains (old.keys ++ row ∷ []) other → Contains new.keys other
  from c = (row-among new other).0 (one.1 (elim (Contains-push_cases old.keys row other c) [
    | inl had ↦ inl ((row-among old other).1 had)
    | inr is ↦ inr (sym is)
  ]))

-- ---- one edit more

abbrev none : List Touch
none = []

abbrev made_one : RowKey → List Touch
made_one row = record { op = op.Create; row = row } ∷ []

module _ (was_there : RowKey → Bool) (old new : Touched) (row : RowKey) where
  -- a row that is made
  pub adds-made : AsksSame new.askings.items (old.askings.items ++ (op.Create, row.model) ∷ []) → SameRows new.made.keys (old.made.keys ++ row ∷ []) → new.changed ≡ old.changed
      → Adds was_there (made_one row) old new
  adds-made asked made same = record {
    askings = asked;
    made = made;
    changed = subst (λ (s : sorted.BTreeSet RowKey). SameRows s.keys (old.changed.keys ++ [])) (sym same) (rows-more old.changed.keys);
  }

  -- one that was there and is changed
  pub adds-changed : (is_there : RowKey → Bool) → was_there row ≡ true → is_there row ≡ true → AsksSame new.askings.items (old.askings.items ++ (op.Write, row.model) ∷ [])
      → new.made ≡ old.made → SameRows new.changed.keys (old.changed.keys ++ row ∷ []) → Adds was_there (touch_there is_there op.Write row) old new
  adds-changed is_there was there asked same changed = subst (λ (b : Bool). Adds was_there (cond b (record { op = op.Write; row = row } ∷ []) []) old new) (sym there) (record {
    askings = asked;
    made = subst (λ (s : sorted.BTreeSet RowKey). SameRows s.keys (old.made.keys ++ [])) (sym same) (rows-more old.made.keys);
    changed = subst (λ (b : Bool). SameRows new.changed.keys (old.changed.keys ++ cond b (row ∷ []) [])) (sym was) changed;
  })

  -- one that was made before and is changed
  pub adds-made_changed : (is_there : RowKey → Bool) → was_there row ≡ false → is_there row ≡ true → AsksSame new.askings.items (old.askings.items ++ (op.Write, row.model) ∷ [])
      → new.made ≡ old.made → new.changed ≡ old.changed → Adds was_there (touch_there is_there op.Write row) old new
  adds-made_changed is_there was there asked same same_changed = subst (λ (b : Bool). Adds was_there (cond b (record { op = op.Write; row = row } ∷ []) []) old new) (sym there) (record {
    askings = asked;
    made = subst (λ (s : sorted.BTreeSet RowKey). SameRows s.keys (old.made.keys ++ [])) (sym same) (rows-more old.made.keys);
    changed = subst (λ (b : Bool). SameRows new.changed.keys (old.changed.keys ++ cond b (row ∷ []) [])) (sym was)
        (subst (λ (s : sorted.BTreeSet RowKey). SameRows s.keys (old.changed.keys ++ [])) (sym same_changed) (rows-more old.changed.keys));
  })

-- ---- edits so far

-- two tests that pass alike
pub alike : (a b : Bool) → ((a ≡ true) ↔ (b ≡ true)) → a ≡ b
alike true true h = refl
alike true false h = sym (h.0 refl)
alike false true h = h.1 refl
alike false false h = refl

or_false : (b : Bool) → (b || false) ≡ b
or_false true = refl
or_false false = refl

-- one of two passes
pub or-either : (a b : Bool) → (a || b) ≡ true → (a ≡ true) ⊎ (b ≡ true)
or-either true b is = inl refl
or-either false b is = inr is

pub or-left : (a b : Bool) → a ≡ true → (a || b) ≡ true
or-left a b is = ap (λ (c : Bool). c || b) is

pub or-right : (a b : Bool) → b ≡ true → (a || b) ≡ true
or-right true b is = refl
or-right false b is = is

-- a set with one key more, or with none
key-more : (old new : sorted.BTreeSet RowKey) (row key : RowKey) (was : Bool) → SameRows new.keys (old.keys ++ key ∷ []) → ((eq_by_cmp row_key_cmp row key || (was || has_key old row)) ≡ true) ↔ ((was || has_key new row) ≡ true)
key-more old new row key was same = (to, from) where
  new-has : Contains (old.keys ++ key ∷ []) row → has_key new row ≡ true
  new-has c = (row-among new row).1 ((same row).1 c)

  to : (eq_by_cmp row_key_cmp row key || (was || has_key old row)) ≡ true → (was || has_key new row) ≡ true
  to is = elim (or-either (eq_by_cmp row_key_cmp row key) (was || has_key old row) is) [
    | inl own ↦ or-right was (has_key new row) (new-has (subst (λ (r : RowKey). Contains (old.keys ++ key ∷ []) r) (sym (tells_apart exact_rows row key own)) (Contains-push old.keys key)))
    | inr rest ↦ elim (or-either was (has_key old row) rest) [
      | inl before ↦ or-left was (has_key new row) before
      | inr had ↦ or-right was (has_key new row) (new-has (Contains-append_left old.keys (key ∷ []) row ((row-among old row).0 had)))
    ]
  ]

  from : (was || has_key new row) ≡ true → (eq_by_cmp row_key_cmp row key || (was || has_key old row)) ≡ true
  from is = elim (or-either was (has_key new row) is) [
    | inl before ↦ or-right (eq_by_cmp row_key_cmp row key) (was || has_key old row) (or-left was (has_key old row) before)
    | inr has ↦ elim (Contains-push_cases old.keys key row ((same row).0 ((row-among new row).0 has))) [
      | inl had ↦ or-right (eq_by_cmp row_key_cmp row key) (was || has_key old row) (or-right was (has_key old row) ((row-among old row).1 had))
      | inr own ↦ or-left (eq_by_cmp row_key_cmp row key) (was || has_key old row) (ap (λ (r : RowKey). eq_by_cmp row_key_cmp r key) (sym own) ∙ ap is_eq (tied_itself rows_total key))
    ]
  ]

keys-same : (old new : sorted.BTreeSet RowKey) (row : RowKey) → SameRows new.keys (old.keys ++ []) → has_key old row ≡ has_key new row
keys-same old new row same =
    let all : SameRows new.keys old.keys = subst (SameRows new.keys) (append-nil old.keys) same in
    alike (has_key old row) (has_key new row) (λ had. (row-among new row).1 ((all row).1 ((row-among old row).0 had)), λ has. (row-among old row).1 ((all row).0 ((row-among new row).0 has)))

-- a change makes no row
none-made : (test : RowKey → Bool) (row : RowKey) → rows_made (touch_there test op.Write row) ≡ []
none-made test row = by (test row) where
  by : (b : Bool) → rows_made (cond b (record { op = op.Write; row = row } ∷ []) []) ≡ []
  by true = refl
  by false = refl

-- rows of what is done behind other things
rows_made-append : (one more : List Touch) → rows_made (one ++ more) ≡ rows_made one ++ rows_made more
rows_made-append one more =
    ap (map (λ (t : Touch). t.row)) (filter-append (λ (t : Touch). is_create t.op) one more) ∙ map-append (λ (t : Touch). t.row) (filter (λ t. is_create t.op) one) (filter (λ t. is_create t.op) more)

rows_changed-append : (test : RowKey → Bool) (one more : List Touch) → rows_changed test (one ++ more) ≡ rows_changed test one ++ rows_changed test more
rows_changed-append test one more =
    ap (λ (ts : List Touch). filter test (map (λ (t : Touch). t.row) ts)) (filter-append (λ (t : Touch). is_write t.op) one more)
    ∙ ap (filter test) (map-append (λ (t : Touch). t.row) (filter (λ t. is_write t.op) one) (filter (λ t. is_write t.op) more))
    ∙ filter-append test (map (λ (t : Touch). t.row) (filter (λ t. is_write t.op) one)) (map (λ (t : Touch). t.row) (filter (λ t. is_write t.op) more))

pub some_and : {A : Type 0} (P : A → Type 0) (o : Option A) → IsSomeAnd o P → IsSome o
some_and P None h = absurd h
some_and P (Some x) h = refl

module _ (models : List ModelInfo) (tables : Tables) where
  -- what one more does
  touches-push : (at : Tables) (edits : List Edit) (one : Edit) → touches_of models at (edits ++ one ∷ []) ≡ touches_of models at edits ++ touch_by (has_row (after models at edits)) one
  touches-push at [] one = append-nil (touch_by (has_row at) one)
  touches-push at (e ∷ edits) one =
      ap (λ (ts : List Touch). touch_by (has_row at) e ++ ts) (touches-push (edited models at e) edits one)
      ∙ sym (append_assoc (touch_by (has_row at) e) (touches_of models (edited models at e) edits) (touch_by (has_row (after models (edited models at e) edits)) one))

  -- a row is there once an edit is carried out
  made-has : (at : Tables) (model : ModelNo) (id : RecId) (values : List (FieldNo × Value)) → IsSome (model_at models model) → (row : RowKey)
      → has_row (edited models at (edit.Make model id values)) row ≡ (eq_by_cmp row_key_cmp row (key_of model id) || has_row at row)
  made-has at model id values there row = by (model_at models model) there where
    or_some : (b : Bool) (r : PlainRow) (o : Option PlainRow) → is_some (cond b (Some r) o) ≡ (b || is_some o)
    or_some true r o = refl
    or_some false r o = refl

    by : (o : Option ModelInfo) → IsSome o → has_row (option_map_or (λ info. with_row models model id (row_of info values) at) o at) row ≡ (eq_by_cmp row_key_cmp row (key_of model id) || has_row at row)
    by None there = let wrong : false ≡ true = there in cc
    by (Some info) there =
        ap is_some (finite.get-insert rows_total at.rows (key_of model id) (row_of info values) row) ∙ or_some (eq_by_cmp row_key_cmp row (key_of model id)) (row_of info values) (row_at at row.model row.id)

  -- what the first so many edits do, and which rows are there behind them
  pub record SoFar (first : Asking) (edits : List Edit) (touched : Touched) : Type 0 where
    pub done : IsTouched models tables first edits touched
    pub there : (row : RowKey) → has_row (after models tables edits) row ≡ (has_row tables row || has_key touched.made row)

  -- one edit more
  module _ (first : Asking) (edits : List Edit) (one : Edit) (old new : Touched) (so_far : SoFar first edits old) where
    abbrev told : Told
    told = told_by models tables

    abbrev before : List Touch
    before = touches_of models tables edits

    abbrev more : List Touch
    more = touch_by (is_there_by told old) one

    touched-all : touches_of models tables (edits ++ one ∷ []) ≡ before ++ more
    touched-all = touches-push tables edits one ∙ ap (λ (ts : List Touch). before ++ ts) (λ i. touch_by (λ row. so_far.there row i) one)

    done-more : Adds (knows_row told) more old new → IsTouched models tables first (edits ++ one ∷ []) new
    done-more adds = record {
      askings = asked-then new.askings.items (old.askings.items ++ map asking_of more) (first ∷ map asking_of (touches_of models tables (edits ++ one ∷ []))) adds.askings
          (subst (AsksSame (old.askings.items ++ map asking_of more)) (ap (λ (askings : List Asking). first ∷ askings) (sym (map-append asking_of before more) ∙ sym (ap (map asking_of) touched-all)))
          (asked-behind old.askings.items (first ∷ map asking_of before) (map asking_of more) so_far.done.askings));
      made = rows-then new.made.keys (old.made.keys ++ rows_made more) (rows_made (touches_of models tables (edits ++ one ∷ []))) adds.made
          (subst (SameRows (old.made.keys ++ rows_made more)) (sym (rows_made-append before more) ∙ sym (ap rows_made touched-all)) (rows-behind old.made.keys (rows_made before) (rows_made more) so_far.done.made));
      changed = rows-then new.changed.keys (old.changed.keys ++ rows_changed (has_row tables) more) (rows_changed (has_row tables) (touches_of models tables (edits ++ one ∷ []))) adds.changed
          (subst (SameRows (old.changed.keys ++ rows_changed (has_row tables) more)) (sym (rows_changed-append (has_row tables) before more) ∙ sym (ap (rows_changed (has_row tables)) touched-all))
          (rows-behind old.changed.keys (rows_changed (has_row tables) before) (rows_changed (has_row tables) more) so_far.done.changed));
    }

    there-more : MayFit models one → SameRows new.made.keys (old.made.keys ++ rows_made more) → (row : RowKey)
        → has_row (after models tables (edits ++ one ∷ [])) row ≡ (has_row tables row || has_key new.made row)
    there-more fit made row = ap (λ (t : Tables). has_row t row) (after-then models tables edits (one ∷ [])) ∙ by one fit made where
      at : Tables
      at = after models tables edits

      by : (e : Edit) → MayFit models e → SameRows new.made.keys (old.made.keys ++ rows_made (touch_by (is_there_by told old) e)) → has_row (edited models at e) row ≡ (has_row tables row || has_key new.made row)
      by (edit.Make model id values) fit made =
          made-has at model id values (some_and (λ info. AreFitValues info values) (model_at models model) fit.1) row
          ∙ ap (λ (b : Bool). eq_by_cmp row_key_cmp row (key_of model id) || b) (so_far.there row)
          ∙ alike (eq_by_cmp row_key_cmp row (key_of model id) || (has_row tables row || has_key old.made row)) (has_row tables row || has_key new.made row) (key-more old.made new.made row (key_of model id) (has_row tables row) made)
      by (edit.Set cell v) fit made =
          set-there models at cell v row ∙ so_far.there row
          ∙ ap (λ (b : Bool). has_row tables row || b) (keys-same old.made new.made row (subst (λ (rows : List RowKey). SameRows new.made.keys (old.made.keys ++ rows)) (none-made (is_there_by told old) (key_of cell.model cell.id)) made))
      by (edit.Gone model id) fit made = absurd fit

    pub so_far-more : MayFit models one → Adds (knows_row told) more old new → SoFar first (edits ++ one ∷ []) new
    so_far-more fit adds = record { done = done-more adds; there = there-more fit adds.made }

  -- none yet
  pub so_far-none : (first : Asking) (touched : Touched) → touched.askings.items ≡ first ∷ [] → touched.made.keys ≡ [] → touched.changed.keys ≡ [] → SoFar first [] touched
  so_far-none first touched asked made changed = record {
    done = record {
      askings = λ test. ap (find test) asked;
      made = subst (λ (rows : List RowKey). SameRows rows []) (sym made) (same-rows []);
      changed = subst (λ (rows : List RowKey). SameRows rows []) (sym changed) (same-rows []);
    };
    there = λ row. sym (ap (λ (b : Bool). has_row tables row || b) (fails (has_key touched.made row) (no_row touched.made row made)) ∙ or_false (has_row tables row));
  }

-- ---- whatever the tables

-- what holds of those before and of one more
within-set : (P : RowKey → Type 0) (old new : List RowKey) (row : RowKey) → SameRows new (old ++ row ∷ []) → All P old → P row → All P new
within-set P old new row same all own = All-weaker (Contains new) P (λ other c. by other (Contains-push_cases old row other ((same other).0 c))) new (All-contains_itself new) where
  by : (other : RowKey) → Contains old other ⊎ (row ≡ other) → P other
  by other (inl had) = All-contains P old other all had
  by other (inr is) = subst P is own

module _ (may : Op → ModelNo → Bool) (old new : Touched) (row : RowKey) (within : IsWithin may old) where
  abbrev Asked : Touched → Type 0
  Asked touched = All (λ asking. may asking.0 asking.1 ≡ true) touched.askings.items

  pub within-made : may op.Create row.model ≡ true → Asked new → SameRows new.made.keys (old.made.keys ++ row ∷ []) → new.changed ≡ old.changed → IsWithin may new
  within-made is asked made same = record {
    askings = asked;
    made = within-set (λ r. may op.Create r.model ≡ true) old.made.keys new.made.keys row made within.made is;
    changed = subst (λ (s : sorted.BTreeSet RowKey). All (λ r. may op.Write r.model ≡ true) s.keys) (sym same) within.changed;
  }

  pub within-changed : may op.Write row.model ≡ true → Asked new → new.made ≡ old.made → SameRows new.changed.keys (old.changed.keys ++ row ∷ []) → IsWithin may new
  within-changed is asked same changed = record {
    askings = asked;
    made = subst (λ (s : sorted.BTreeSet RowKey). All (λ r. may op.Create r.model ≡ true) s.keys) (sym same) within.made;
    changed = within-set (λ r. may op.Write r.model ≡ true) old.changed.keys new.changed.keys row changed within.changed is;
  }

  pub within-asked : Asked new → new.made ≡ old.made → new.changed ≡ old.changed → IsWithin may new
  within-asked asked same same_changed = record {
    askings = asked;
    made = subst (λ (s : sorted.BTreeSet RowKey). All (λ r. may op.Create r.model ≡ true) s.keys) (sym same) within.made;
    changed = subst (λ (s : sorted.BTreeSet RowKey). All (λ r. may op.Write r.model ≡ true) s.keys) (sym same_changed) within.changed;
  }

-- what is added where memory was enough
module _ {E : Type 0} (r : Result (Unit {0}) E) (old new : Touched) (row : RowKey) (same : new.changed ≡ old.changed) (made : SameRows new.made.keys (old.made.keys ++ row ∷ [])) where
  pub ok-made : OnOk r (AsksSame new.askings.items (old.askings.items ++ (op.Create, row.model) ∷ [])) → OnOk r ((was_there : RowKey → Bool) → Adds was_there (made_one row) old new)
  ok-made = by r where
    by : (q : Result (Unit {0}) E) → OnOk q (AsksSame new.askings.items (old.askings.items ++ (op.Create, row.model) ∷ [])) → OnOk q ((was_there : RowKey → Bool) → Adds was_there (made_one row) old new)
    by (Ok u) asked = λ was_there. adds-made was_there old new row asked made same
    by (Err e) asked = tt

  abbrev AskedWithin : Type 0
  AskedWithin = (may : Op → ModelNo → Bool) → may op.Create row.model ≡ true → All (λ asking. may asking.0 asking.1 ≡ true) old.askings.items → All (λ asking. may asking.0 asking.1 ≡ true) new.askings.items

  pub ok-made_within : OnOk r AskedWithin → OnOk r ((may : Op → ModelNo → Bool) → may op.Create row.model ≡ true → IsWithin may old → IsWithin may new)
  ok-made_within = by r where
    by : (q : Result (Unit {0}) E) → OnOk q AskedWithin → OnOk q ((may : Op → ModelNo → Bool) → may op.Create row.model ≡ true → IsWithin may old → IsWithin may new)
    by (Ok u) asked = λ may is within. within-made may old new row within is (asked may is within.askings) made same
    by (Err e) asked = tt

-- ---- rows that are known

-- one row more, where it is kept, and where it isn't
pub filter-kept : (test : RowKey → Bool) (kept rows : List RowKey) (row : RowKey) → kept ≡ filter test rows → test row ≡ true → kept ++ row ∷ [] ≡ filter test (rows ++ row ∷ [])
filter-kept test kept rows row is passes =
    ap (λ (rs : List RowKey). rs ++ row ∷ []) is ∙ sym (ap (λ (b : Bool). filter test rows ++ cond b (row ∷ []) []) passes) ∙ sym (filter-append test rows (row ∷ []))

pub filter-passed : (test : RowKey → Bool) (kept rows : List RowKey) (row : RowKey) → kept ≡ filter test rows → test row ≡ false → kept ≡ filter test (rows ++ row ∷ [])
filter-passed test kept rows row is fails =
    is ∙ sym (append-nil (filter test rows)) ∙ sym (ap (λ (b : Bool). filter test rows ++ cond b (row ∷ []) []) fails) ∙ sym (filter-append test rows (row ∷ []))

-- those that are kept are known
pub filter-knows : (told : Told) (rows there : List RowKey) → there ≡ filter (knows_row told) rows → AreKnown there told
filter-knows told rows there is = subst (λ (rs : List RowKey). AreKnown rs told) (sym is)
    (All-weaker (Contains (filter (knows_row told) rows)) (λ row. told.knows row.model row.id ≡ true) (λ row c. (contains-filter (knows_row told) rows row c).1) (filter (knows_row told) rows) (All-contains_itself (filter (knows_row told) rows)))

-- the model of a value that may be set
pub set-model : (models : List ModelInfo) (cell : Cell) (v : Value) → MayFit models (edit.Set cell v) → HasModel models cell.model
set-model models cell v fit = by (model_at models cell.model) fit.1 where
  by : (o : Option ModelInfo) → IsSomeAnd (option_and_then (λ info. numbered (fields_of info) cell.field.0) o) (λ field. IsFitIn field v) → IsSome o
  by None h = absurd h
  by (Some info) h = refl
