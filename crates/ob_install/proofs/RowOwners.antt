-- For which of the rows that modules bring a row is made: by the first edit that makes it.
use Rattle.std.proofs.Common.{◌≡◌, ◌<◌, ◌≤◌, ◌-◌, ◌==◌, ◌&&◌, ℕ, zero, suc, min, Bool, true, false, cond, List, [], ◌∷◌, length, get_or, slice_index, Option, Some, None, is_some, nat_lt, refl, sym, ap, subst, ◌∙◌, inl, inr, eq-eqb, arith}
use Rattle.std.specs.Prelude.{All, IfSome, IsSome, position}
use Rattle.std.specs.FinMap as finite
use Rattle.std.specs.List.{position_or_len}
use Rattle.std.specs.Option.{SomeIff, option_map_or}
use Rattle.std.specs.Ordering.{eq_by_cmp}
use Rattle.std.proofs.lemmas.Bool.{cases_lt, eqb-true, false≢true, ltb-false, ltb-true}
use Rattle.std.proofs.lemmas.List.{get_or-take, get_or_default, length-take-le}
use Rattle.std.proofs.lemmas.List.Elements.{All-from_get_or, All-head, All-tail, All-take}
use Rattle.std.proofs.lemmas.List.Quantifiers.{position-Some}
use Rattle.std.proofs.lemmas.List.Sums.{fails_before_first}
use Rattle.std.proofs.lemmas.Map.Views.{tells_apart}
use Rattle.std.proofs.lemmas.Option.{none-some, same_Some}
use Rattle.ob_base.specs.Ids.{row_key_cmp}
use Rattle.ob_base.specs.declared.id.Cell.{Cell}
use Rattle.ob_base.specs.declared.id.ModelNo.{ModelNo}
use Rattle.ob_base.specs.declared.id.RecId.{RecId}
use Rattle.ob_base.specs.declared.id.RowKey.{RowKey}
use Rattle.ob_orm.proofs.CallerLemmas.{made-there}
use Rattle.ob_rows.proofs.CallerLemmas.{set-there}
use Rattle.ob_install.proofs.PlacedRows.{count_of, min-low}
use Rattle.ob_install.specs.Install.{IsMadeFor}
use Rattle.ob_install.specs.InstallSteps.{AreCounted, ArePlaced, IsOwner, course_of, edits_of, makes}
use Rattle.ob_orm.specs.NewRowSteps.{MakesRow, MayFit}
use Rattle.ob_install.specs.declared.installing.placing.Placed.{Placed}
use Rattle.ob_schema.specs.Models.{model_at}
use Rattle.ob_schema.specs.Tables.{PlainRow, Tables, empty_tables, key_of, row_at}
use Rattle.ob_schema.specs.declared.info.ModelInfo.{ModelInfo}
use Rattle.ob_tables.proofs.CallerLemmas.{exact_rows, rows_total}
use Rattle.ob_tables.specs.After.{after, edited, row_of, with_row}
use Rattle.ob_tables.specs.declared.edit.Edit.{Edit}
use Rattle.ob_tables.specs.declared.edit.Edit.TheVariants as edit

-- the row of a cell
abbrev pub row_key : Cell → RowKey
row_key cell = key_of cell.model cell.id

-- ---- places

module _ {X : Type 0} (p : X → Bool) (xs : List X) where
  -- where none is found each fails
  pub none-fails : position p xs ≡ None → (k : ℕ) (d : X) → k < length xs → p (get_or xs k d) ≡ false
  none-fails none k d within = by (nat_lt (position_or_len p xs) (length xs)) refl none where
    by : (b : Bool) → nat_lt (position_or_len p xs) (length xs) ≡ b → cond b (Some (position_or_len p xs)) None ≡ None → p (get_or xs k d) ≡ false
    by true test is = absurd (none-some (position_or_len p xs) (sym is))
    by false test is = let high = ltb-false (position_or_len p xs) (length xs) test in fails_before_first p xs k d (omega arith)

-- ---- an edit that makes a row

both : (a b : Bool) → (a && b) ≡ true → (a ≡ true) × (b ≡ true)
both true true is = (refl, refl)
both true false is = absurd (false≢true is)
both false b is = absurd (false≢true is)

-- makes its row
pub makes-row : (cell : Cell) (one : Edit) → makes cell one ≡ true → MakesRow (row_key cell) one
makes-row cell (edit.Make model id values) is =
    let (of, at) = both (model.0 == cell.model.0) (id.0 == cell.id.0) is in
    let m = eqb-true model.0 cell.model.0 of in
    let i = eqb-true id.0 cell.id.0 at in
    λ k. record { model = record { 0 = sym m k }; id = record { 0 = sym i k } }
makes-row cell (edit.Set other v) is = absurd (false≢true is)
makes-row cell (edit.Gone model id) is = absurd (false≢true is)

same-test : (n : ℕ) → (n == n) ≡ true
same-test n = eq-eqb n n refl

pub its-own : (cell : Cell) (model : ModelNo) (id : RecId) → row_key cell ≡ key_of model id → ((model.0 == cell.model.0) && (id.0 == cell.id.0)) ≡ true
its-own cell model id is =
    subst (λ (k : RowKey). ((k.model.0 == cell.model.0) && (k.id.0 == cell.id.0)) ≡ true) is
    (ap (λ (b : Bool). b && (cell.id.0 == cell.id.0)) (same-test cell.model.0) ∙ same-test cell.id.0)

none_of : {X : Type 0} (o : Option X) → is_some o ≡ false → o ≡ None
none_of None is = refl
none_of (Some x) is = absurd (false≢true (sym is))

module _ (models : List ModelInfo) (cell : Cell) where
  abbrev Absent : Tables → Type 0
  Absent tables = row_at tables cell.model cell.id ≡ None

  -- a row that an edit doesn't make isn't there behind it, where it wasn't before
  absent-behind : (tables : Tables) (one : Edit) → MayFit models one → makes cell one ≡ false → Absent tables → Absent (edited models tables one)
  absent-behind tables (edit.Make m id values) fit other absent = by (model_at models m) where
    apart : (b : Bool) (row : PlainRow) → eq_by_cmp row_key_cmp (row_key cell) (key_of m id) ≡ b → cond b (Some row) (row_at tables cell.model cell.id) ≡ None
    apart true row is = absurd (false≢true (sym other ∙ its-own cell m id (tells_apart exact_rows (row_key cell) (key_of m id) is)))
    apart false row is = absent

    by : (o : Option ModelInfo) → Absent (option_map_or (λ info. with_row models m id (row_of info values) tables) o tables)
    by None = absent
    by (Some info) = finite.get-insert rows_total tables.rows (key_of m id) (row_of info values) (row_key cell) ∙ apart (eq_by_cmp row_key_cmp (row_key cell) (key_of m id)) (row_of info values) refl
  absent-behind tables (edit.Set c v) fit other absent = none_of (row_at (edited models tables (edit.Set c v)) cell.model cell.id) (set-there models tables c v (row_key cell) ∙ ap is_some absent)
  absent-behind tables (edit.Gone m id) fit other absent = absurd fit

  absent-after : (tables : Tables) (edits : List Edit) → All (MayFit models) edits → All (λ one. makes cell one ≡ false) edits → Absent tables → Absent (after models tables edits)
  absent-after tables [] fit others absent = absent
  absent-after tables (one ∷ edits) fit others absent =
      absent-after (edited models tables one) edits (All-tail (MayFit models) one edits fit) (All-tail (λ e. makes cell e ≡ false) one edits others)
      (absent-behind tables one (All-head (MayFit models) one edits fit) (All-head (λ e. makes cell e ≡ false) one edits others) absent)

  -- nothing is there at first
  none-yet : Absent (empty_tables models)
  none-yet = finite.get-empty row_key_cmp (row_key cell)

-- ---- the owner of a row

pub a_edit : Edit
a_edit = edit.Gone (record { 0 = 0 }) (record { 0 = 0 })

module _ (models : List ModelInfo) (placed : Placed) (fit : ArePlaced models placed) (cell : Cell) where
  abbrev all : List Edit
  all = placed.making.edits.items

  abbrev counts : ℕ → ℕ
  counts n = slice_index placed.counts.items (min n (count_of placed))

  abbrev IsThere : ℕ → Type 0
  IsThere n = IsSome (row_at ((course_of models placed).tables n) cell.model cell.id)

  low-counts : (n : ℕ) → counts n ≤ length all
  low-counts n =
      let up = fit.counted.rising (min n (count_of placed)) (count_of placed) (omega arith) (omega arith) in
      let end = fit.counted.all in
      omega (arith, up, end)

  -- with edits before the first that makes it a row isn't there
  pub absent-before : (n : ℕ) → ((k : ℕ) → k < counts n → makes cell (get_or all k a_edit) ≡ false) → row_at ((course_of models placed).tables n) cell.model cell.id ≡ None
  absent-before n fails =
      let low = low-counts n in
      absent-after models cell (empty_tables models) (edits_of placed n) (All-take (MayFit models) (counts n) all fit.ready.fit)
      (All-from_get_or (λ one. makes cell one ≡ false) (edits_of placed n) a_edit
      (λ k within.
      let len = length-take-le (counts n) all low in
      let lt : k < counts n = omega (arith, within, len) in
      ap (makes cell) (get_or-take (counts n) all k a_edit lt) ∙ fails k lt))
      (none-yet models cell)

  module _ (place : ℕ) (found : position (makes cell) all ≡ Some place) where
    its-place : (place < length all) × (makes cell (get_or all place a_edit) ≡ true) × ((k : ℕ) → k < place → makes cell (get_or all k a_edit) ≡ false)
    its-place = position-Some (makes cell) all place a_edit found

    -- with edits up to it the row isn't there
    absent-upto : (n : ℕ) → counts n ≤ place → row_at ((course_of models placed).tables n) cell.model cell.id ≡ None
    absent-upto n low = absent-before n (λ k lt. its-place.2 k (omega arith))

    -- behind it the row is there
    there-past : (n : ℕ) → place < counts n → IsThere n
    there-past n high =
        let low = low-counts n in
        let len = length-take-le (counts n) all low in
        let at = get_or-take (counts n) all place a_edit high in
        let one = get_or (edits_of placed n) place a_edit in
        let is : makes cell one ≡ true = ap (makes cell) at ∙ its-place.1 in
        let within : place < length (edits_of placed n) = omega (arith, len, high) in
        made-there models (empty_tables models) (edits_of placed n) (row_key cell) (All-take (MayFit models) (counts n) all fit.ready.fit)
        (place, one, within, get_or_default (edits_of placed n) place one a_edit within, makes-row cell one is)

    -- so where it is there it was made before
    pub past-there : (n : ℕ) → IsThere n → place < counts n
    past-there n there = elim (cases_lt place (counts n)) [
      | inl high ↦ high
      | inr low ↦ absurd (false≢true (sym (ap is_some (absent-upto n low)) ∙ there))
    ]

    pub upto-absent : (n : ℕ) → row_at ((course_of models placed).tables n) cell.model cell.id ≡ None → counts n ≤ place
    upto-absent n absent = elim (cases_lt place (counts n)) [
      | inl high ↦ absurd (false≢true (sym (ap is_some absent) ∙ there-past n high))
      | inr low ↦ low
    ]

  -- the row of an owner is made for it
  pub owner-made : (n : ℕ) → IsOwner placed cell n → IsMadeFor models (course_of models placed) n (row_key cell)
  owner-made n own =
      let here = min-low n (count_of placed) (let w = own.within in omega (arith, w)) in
      let next = min-low (suc n) (count_of placed) (let w = own.within in omega (arith, w)) in
      record {
        absent = absent-upto own.place own.made n (let b = own.before in let e = ap (slice_index placed.counts.items) here in omega (arith, b, e));
        there = there-past own.place own.made (suc n) (let b = own.behind in let e = ap (slice_index placed.counts.items) next in omega (arith, b, e));
      }

  -- and for no other row
  pub made-owner : (n m : ℕ) → IsMadeFor models (course_of models placed) n (row_key cell) → IsOwner placed cell m → n ≡ m
  made-owner n m is own =
      let low = upto-absent own.place own.made n is.absent in
      let high = past-there own.place own.made (suc n) is.there in
      let within = own.within in
      elim (cases_lt n m) [
        | inl less ↦
            let e : min (suc n) (count_of placed) ≡ suc n = omega arith in
            let at = ap (slice_index placed.counts.items) e in
            let up = fit.counted.rising (suc n) m (omega arith) (omega arith) in
            let b = own.before in
            absurd (omega (arith, high, at, up, b))
        | inr more ↦ elim (cases_lt m n) [
          | inl less ↦
              let up = fit.counted.rising (suc m) (min n (count_of placed)) (omega arith) (omega arith) in
              let b = own.behind in
              absurd (omega (arith, low, up, b))
          | inr same ↦ omega arith
        ]
      ]

  -- one that isn't made isn't there
  pub unmade-absent : position (makes cell) all ≡ None → (n : ℕ) → IsThere n → ⊥
  unmade-absent none n there =
      let low = low-counts n in
      false≢true (sym (ap is_some (absent-before n (λ k lt. none-fails (makes cell) all none k a_edit (omega arith)))) ∙ there)

  -- one that is there before the row of a number is made for a row before it
  pub owner-before : (n m : ℕ) → IsThere n → IsOwner placed cell m → m < n
  owner-before n m there own =
      let high = past-there own.place own.made n there in
      elim (cases_lt m n) [
        | inl less ↦ less
        | inr more ↦
            let within = own.within in
            let up = fit.counted.rising (min n (count_of placed)) m (omega arith) (omega arith) in
            let b = own.before in
            absurd (omega (arith, high, up, b))
      ]

-- a row has one owner
pub one-owner : (placed : Placed) (counted : AreCounted placed) (cell : Cell) (n m : ℕ) → IsOwner placed cell n → IsOwner placed cell m → n ≡ m
one-owner placed counted cell n m a b =
    let same = same_Some a.place b.place (sym a.made ∙ b.made) in
    let al = a.before in
    let ah = a.behind in
    let aw = a.within in
    let bl = b.before in
    let bh = b.behind in
    let bw = b.within in
    elim (cases_lt n m) [
      | inl less ↦ let up = counted.rising (suc n) m (omega arith) (omega arith) in absurd (omega (arith, same, up, ah, bl))
      | inr more ↦ elim (cases_lt m n) [
        | inl less ↦ let up = counted.rising (suc m) n (omega arith) (omega arith) in absurd (omega (arith, same, up, bh, al))
        | inr is ↦ omega arith
      ]
    ]

-- ---- how it is found

module _ (placed : Placed) (counted : AreCounted placed) (cell : Cell) (place : ℕ) (found : position (makes cell) placed.making.edits.items ≡ Some place) where
  -- one of the counts is above the place
  pub some-above : position (nat_lt place) placed.counts.items ≡ None → ⊥
  some-above none =
      let each = counted.each in
      let end = counted.all in
      let fails = none-fails (nat_lt place) placed.counts.items none (count_of placed) 0 (omega (arith, each)) in
      let high = ltb-false place (slice_index placed.counts.items (count_of placed)) fails in
      let within = (position-Some (makes cell) placed.making.edits.items place a_edit found).0 in
      omega (arith, end, high, within)

  module _ (behind : ℕ) (above : position (nat_lt place) placed.counts.items ≡ Some behind) where
    at-behind : (behind < length placed.counts.items) × (nat_lt place (slice_index placed.counts.items behind) ≡ true) × ((k : ℕ) → k < behind → nat_lt place (slice_index placed.counts.items k) ≡ false)
    at-behind = position-Some (nat_lt place) placed.counts.items behind 0 above

    -- it isn't the first
    pub not-first : 1 ≤ behind
    not-first = by behind refl where
      by : (b : ℕ) → b ≡ behind → 1 ≤ b
      by zero is =
          let none = counted.none in
          let high = ltb-true place (slice_index placed.counts.items behind) at-behind.1 in
          let first = ap (slice_index placed.counts.items) is in
          absurd (omega (arith, none, high, first))
      by (suc b) is = omega arith

    pub found-owner : IsOwner placed cell (behind - 1)
    found-owner =
        let first = not-first in
        let last = at-behind.0 in
        let each = counted.each in
        let next : suc (behind - 1) ≡ behind = omega arith in record {
          place = place;
          made = found;
          within = omega (arith, last, each, first);
          before = ltb-false place (slice_index placed.counts.items (behind - 1)) (at-behind.2 (behind - 1) (omega arith));
          behind = let high = ltb-true place (slice_index placed.counts.items behind) at-behind.1 in let e = ap (slice_index placed.counts.items) next in omega (arith, high, e);
        }

    pub owner-found : (r : Option ℕ) → SomeIff r (1 ≤ behind) (behind - 1) → IfSome r (IsOwner placed cell)
    owner-found None is = tt
    owner-found (Some n) is = subst (IsOwner placed cell) (sym is.1) found-owner
