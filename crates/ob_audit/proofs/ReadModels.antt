-- Models whose rows are read, one behind the other.
use Rattle.std.proofs.Common.{◌≡◌, ◌<◌, ◌≤◌, ◌+◌, ◌^◌, ◌⊎◌, ◌++◌, inl, inr, ℕ, zero, suc, Bool, true, false, cond, List, [], ◌∷◌, map, Option, Some, None, option_map, unwrap_or, is_some, IsSome, refl, sym, ap, subst, ◌∙◌, arith}
use Rattle.std.specs.Prelude.{⊤, IfSome, IsSomeAnd}
use Rattle.std.specs.FinMap as finite
use Rattle.std.specs.FinMap.Entries.{find}
use Rattle.std.specs.List.{AllByRecursion, enumerate_from}
use Rattle.std.specs.Ordering.{eq_by_cmp, is_eq, nat_cmp}
use Rattle.std.specs.Cmp.{nat_cmp_total, tied_itself}
use Rattle.std.proofs.lemmas.Bool.{cases_eq}
use Rattle.std.proofs.lemmas.Map.Lookups.{exact_unsigned}
use Rattle.std.proofs.lemmas.Map.Views.{tells_apart}
use Rattle.std.proofs.lemmas.Option.{same_Some}
use Rattle.ob_base.specs.Ids.{row_key_cmp}
use Rattle.ob_base.specs.declared.id.Cell.{Cell}
use Rattle.ob_base.specs.declared.id.ModelNo.{ModelNo}
use Rattle.ob_base.specs.declared.id.RecId.{RecId}
use Rattle.ob_audit.specs.Rows.{IsReadAs, IsUnreadable, ShowsUnread}
use Rattle.ob_audit.specs.Reading.{AreTold, EachBefore, IsBefore, IsFirstUnread, IsOneOf, IsReadRow, IsRowBefore, ReadRow, ReadsModels, ReadsRows, StopsReading, TellsAll, TellsNext, rows_of}
use Rattle.ob_audit.specs.Reading.{IsOf}
use Rattle.ob_audit.specs.declared.fault.ReadingFault.{ReadingFault}
use Rattle.ob_audit.specs.declared.fault.ReadingFault.TheVariants as reading_fault
use Rattle.ob_audit.specs.declared.kept_rows.ReadRows.{ReadRows}
use Rattle.ob_audit.proofs.CellOrder.{one-left, rising-appended}
use Rattle.ob_audit.proofs.StoreTables.{of-one}
use Rattle.ob_audit.proofs.PagedRows.{all-appended, one-right, one-unmapped, row-among, rows-rising, rows-there}
use Rattle.ob_audit.proofs.ReadPages.{adds-join, adds-none, none-shown, not-unreadable}
use Rattle.ob_io.specs.Store.{Fits63, RowsNamed, Store, next_of as kept_next_of, row_at as kept_row_at}
use Rattle.ob_io.specs.declared.store.KeptRow.{KeptRow}
use Rattle.ob_schema.specs.Models.{HasModel, model_at}
use Rattle.ob_schema.specs.Tables.{PlainRow, Tables, empty_tables, key_of, next_of, row_at}
use Rattle.ob_schema.specs.declared.info.ModelInfo.{ModelInfo}
use Rattle.ob_tables.specs.After.{with_next_id}
use Rattle.ob_tables.proofs.CallerLemmas.{known_if, told_and}

-- ---- what there is

-- what is there by its meaning is there
pub there-as : {X Y : Type 0} (f : X → Y) (o : Option X) (m : Option Y) (b : Bool) → option_map f o ≡ m → is_some o ≡ b → is_some m ≡ b
there-as f None m b is there = sym (ap is_some is) ∙ there
there-as f (Some x) m b is there = sym (ap is_some is) ∙ there

none-there : {X : Type 0} (o : Option X) → is_some o ≡ false → o ≡ None
none-there None is = refl
none-there (Some x) is = absurd cc

-- ---- next ids

abbrev with_one : ℕ × ModelInfo → ℕ × ℕ
with_one place = (place.0, 1)

-- of tables without rows each next id is 1
pub empty-next : (models : List ModelInfo) (model : ModelNo) → next_of (empty_tables models) model ≡ 1
empty-next models model = ap (λ (o : Option ℕ). unwrap_or o 1) (finite.get-from_entries nat_cmp_total (map with_one (enumerate_from 1 models)) model.0) ∙ ones (enumerate_from 1 models)
  where
    ones : (es : List (ℕ × ModelInfo)) → unwrap_or (find nat_cmp model.0 (map with_one es)) 1 ≡ 1
    ones [] = refl
    ones (e ∷ es) = by (eq_by_cmp nat_cmp model.0 e.0) (ones es)
      where
        by : (b : Bool) → unwrap_or (find nat_cmp model.0 (map with_one es)) 1 ≡ 1 → unwrap_or (cond b (Some 1) (find nat_cmp model.0 (map with_one es))) 1 ≡ 1
        by true rest = refl
        by false rest = rest

-- tables without rows have none
pub no-rows : (tables : Tables) → tables.rows ≡ finite.empty → (model : ModelNo) (id : RecId) → IsSome (row_at tables model id) → ⊥
no-rows tables empty model id there =
    let none : row_at tables model id ≡ None = ap (λ (rows : finite.FinMap row_key_cmp PlainRow). finite.get rows (key_of model id)) empty ∙ finite.get-empty row_key_cmp (key_of model id) in
    let both : false ≡ true = sym (ap is_some none) ∙ there in
    cc

module _ (tables : Tables) (model : ModelNo) (next : ℕ) where
  abbrev given : Tables
  given = with_next_id model next tables

  next-here : next_of given model ≡ next
  next-here = ap (λ (o : Option ℕ). unwrap_or o 1) (finite.get-insert nat_cmp_total tables.next_ids model.0 next model.0)
      ∙ ap (λ (b : Bool). unwrap_or (cond b (Some next) (finite.get tables.next_ids model.0)) 1) (ap is_eq (tied_itself nat_cmp_total model.0))

  next-other : (other : ModelNo) → (other.0 ≡ model.0 → ⊥) → next_of given other ≡ next_of tables other
  next-other other apart = ap (λ (o : Option ℕ). unwrap_or o 1) (finite.get-insert nat_cmp_total tables.next_ids model.0 next other.0) ∙ by (eq_by_cmp nat_cmp other.0 model.0) refl
    where
      by : (b : Bool) → eq_by_cmp nat_cmp other.0 model.0 ≡ b → unwrap_or (cond b (Some next) (finite.get tables.next_ids other.0)) 1 ≡ next_of tables other
      by true same = absurd (apart (tells_apart exact_unsigned other.0 model.0 same))
      by false not = refl

  -- what is known of both is known of each
  next-either : (P : ℕ → Type 0) (other : ModelNo) → P next → P (next_of tables other) → P (next_of given other)
  next-either P other here there = subst P (sym (ap (λ (o : Option ℕ). unwrap_or o 1) (finite.get-insert nat_cmp_total tables.next_ids model.0 next other.0))) (by (eq_by_cmp nat_cmp other.0 model.0))
    where
      by : (b : Bool) → P (unwrap_or (cond b (Some next) (finite.get tables.next_ids other.0)) 1)
      by true = here
      by false = there

-- ---- one more model

-- rows of models up to a number, below the next ids
abbrev pub AreUpTo : List ModelInfo → ℕ → Tables → List ReadRow → Type 0
AreUpTo models place tables reads = AllByRecursion (λ r. IsReadRow models r.model (next_of tables r.model) r × (r.model.0 ≤ place)) reads

wider : (a b : ℕ) → a ≤ b → a ≤ b + 1
wider a b low = omega arith

lower : (n place : ℕ) → n ≤ place + 1 → (n ≡ place + 1 → ⊥) → n ≤ place
lower n place low apart = omega arith

module _ (models : List ModelInfo) (place : ℕ) (tables : Tables) (model : ModelNo) (number : model.0 ≡ place + 1) (next : ℕ) where
  apart-from : (n : ℕ) → n ≤ place → n ≡ model.0 → ⊥
  apart-from n low same = by n model.0 number low same
    where
      by : (a b : ℕ) → b ≡ place + 1 → a ≤ place → a ≡ b → ⊥
      by a b at low same = omega arith

  rows-before : (reads : List ReadRow) → AreUpTo models place tables reads → AreUpTo models (place + 1) (given tables model next) reads
  rows-before [] all = tt
  rows-before (r ∷ reads) all =
      ((subst (λ (n : ℕ). IsReadRow models r.model n r) (sym (next-other tables model next r.model (apart-from r.model.0 all.0.1))) all.0.0, wider r.model.0 place all.0.1), rows-before reads all.1)

  rows-own : (more : List ReadRow) → AllByRecursion (IsReadRow models model next) more → AreUpTo models (place + 1) (given tables model next) more
  rows-own [] each = tt
  rows-own (r ∷ more) each =
      let read = each.0 in
      let next_is : next ≡ next_of (given tables model next) r.model = sym (ap (next_of (given tables model next)) read.model_is ∙ next-here tables model next) in
      ((record { model_is = refl; info_is = read.info_is; read_as = read.read_as; below = subst (λ (n : ℕ). r.row.id.0 < n) next_is read.below }, own r.model.0 (ap (λ (m : ModelNo). m.0) read.model_is ∙ number)), rows-own more each.1)
    where
      own : (n : ℕ) → n ≡ place + 1 → n ≤ place + 1
      own n is = omega arith

  -- the rows of the model are those that are kept
  module _ (store : Store) (named : RowsNamed store) (before more : List ReadRow) (each : AllByRecursion (IsReadRow models model next) more) (rows_are : map (λ r. r.row) more ≡ rows_of store model)
      (next_is : next ≡ kept_next_of store model) (told : AreTold models place tables before store) where
    rows-kept : (some : List ReadRow) → AllByRecursion (IsReadRow models model next) some → AllByRecursion (λ row. kept_row_at store model row.id ≡ Some row) (map (λ r. r.row) some)
        → AllByRecursion (λ r. kept_row_at store r.model r.row.id ≡ Some r.row) some
    rows-kept [] each there = tt
    rows-kept (r ∷ some) each there = (ap (λ (m : ModelNo). kept_row_at store m r.row.id) each.0.model_is ∙ there.0, rows-kept some each.1 there.1)

    -- those of models before stand before them
    rising-more : EachBefore IsBefore before → AreUpTo models place tables before → EachBefore IsBefore (before ++ more)
    rising-more rising up = rising-appended IsBefore before more rising (own more each (subst (EachBefore (λ a b. a.id.0 < b.id.0)) (sym rows_are) (rows-rising store named model))) across
      where
        later : (a : ReadRow) (others : List ReadRow) → a.model ≡ model → AllByRecursion (IsReadRow models model next) others → AllByRecursion (λ row. a.row.id.0 < row.id.0) (map (λ r. r.row) others) → AllByRecursion (IsBefore a) others
        later a [] is each low = tt
        later a (b ∷ others) is each low = (inr (ap (λ (m : ModelNo). m.0) (is ∙ sym each.0.model_is), low.0), later a others is each.1 low.1)

        own : (some : List ReadRow) → AllByRecursion (IsReadRow models model next) some → EachBefore (λ a b. a.id.0 < b.id.0) (map (λ r. r.row) some) → EachBefore IsBefore some
        own [] each low = tt
        own (r ∷ some) each low = (later r some each.0.model_is each.1 low.0, own some each.1 low.1)

        below : (m n k : ℕ) → m ≤ k → n ≡ k + 1 → m < n
        below m n k up is = omega arith

        across : (a b : ReadRow) → IsOneOf a before → IsOneOf b more → IsBefore a b
        across a b one other =
            inl (below a.model.0 b.model.0 place (of-one (λ r. IsReadRow models r.model (next_of tables r.model) r × (r.model.0 ≤ place)) before a up one).1
            (ap (λ (m : ModelNo). m.0) (of-one (IsReadRow models model next) more b each other).model_is ∙ number))

    model-is : (m : ModelNo) → m.0 ≡ place + 1 → m ≡ model
    model-is m at = ap (λ (n : ℕ). record { 0 = n }) (at ∙ sym number)

    pub told-more : AreUpTo models place tables before → AreTold models (place + 1) (given tables model next) (before ++ more) store
    told-more up = record {
      rising = rising-more told.rising up;
      row = all-appended (λ r. kept_row_at store r.model r.row.id ≡ Some r.row) before more told.row
          (rows-kept more each (subst (AllByRecursion (λ row. kept_row_at store model row.id ≡ Some row)) (sym rows_are) (rows-there store named model)));
      all = all;
      next = nexts;
    }
      where
        all : (m : ModelNo) (id : RecId) (row : KeptRow) → HasModel models m → m.0 ≤ place + 1 → kept_row_at store m id ≡ Some row → (r : ReadRow) × IsOneOf r (before ++ more) × (r.model ≡ m) × (r.row.id ≡ id)
        all m id row has low there = by (cases_eq m.0 (place + 1))
          where
            by : (m.0 ≡ place + 1) ⊎ (m.0 ≡ place + 1 → ⊥) → (r : ReadRow) × IsOneOf r (before ++ more) × (r.model ≡ m) × (r.row.id ≡ id)
            by (inl at) =
                let same = model-is m at in
                let here : kept_row_at store model id ≡ Some row = ap (λ (o : ModelNo). kept_row_at store o id) (sym same) ∙ there in
                let (r, among, row_is) = one-unmapped (λ (r : ReadRow). r.row) row more (subst (IsOneOf row) (sym rows_are) (row-among store named model id row here)) in (
                  r,
                  one-right r before more among,
                  (of-one (IsReadRow models model next) more r each among).model_is ∙ sym same,
                  ap (λ (k : KeptRow). k.id) (sym row_is) ∙ known_if (kept_row_at store model id) row (λ k. k.id ≡ id) here (named model id),
                )
            by (inr apart) = let (r, among, model_is, id_is) = told.all m id row has (lower m.0 place low apart) there in (r, one-left r before more among, model_is, id_is)

        nexts : (m : ModelNo) → HasModel models m → m.0 ≤ place + 1 → kept_next_of store m ≡ next_of (given tables model next) m
        nexts m has low = by (cases_eq m.0 (place + 1))
          where
            by : (m.0 ≡ place + 1) ⊎ (m.0 ≡ place + 1 → ⊥) → kept_next_of store m ≡ next_of (given tables model next) m
            by (inl at) = ap (kept_next_of store) (model-is m at) ∙ sym next_is ∙ sym (ap (next_of (given tables model next)) (model-is m at) ∙ next-here tables model next)
            by (inr apart) = told.next m has (lower m.0 place low apart) ∙ sym (next-other tables model next m (λ same. apart (same ∙ number)))

module _ (models : List ModelInfo) (kept : Option Store) where
  pub models-none : (rows : ReadRows) → ReadsModels models kept 0 (empty_tables models) rows rows
  models-none rows = record {
    reads = [];
    adds = adds-none rows;
    each = tt;
    empty = refl;
    low = λ model. low (next_of (empty_tables models) model) (empty-next models model);
    fits = λ model. fits (next_of (empty_tables models) model) (empty-next models model);
    told = told kept;
  }
    where
      low : (n : ℕ) → n ≡ 1 → 1 ≤ n
      low n is = omega arith

      fits : (n : ℕ) → n ≡ 1 → n < 2 ^ 63
      fits n is = omega arith

      -- no model has the number 0
      no-model : (n : ℕ) → n ≤ 0 → HasModel models (record { 0 = n }) → ⊥
      no-model zero low has = cc
      no-model (suc n) low has = omega arith

      told : (o : Option Store) → IfSome o (AreTold models 0 (empty_tables models) [])
      told None = tt
      told (Some store) = record { rising = tt; row = tt; all = λ model id row has low there. absurd (no-model model.0 low has); next = λ model has low. absurd (no-model model.0 low has) }

  -- a model that is there
  pub models-more : (place : ℕ) (tables : Tables) (model : ModelNo) (next : ℕ) (a b c : ReadRows) → model.0 ≡ place + 1 → 1 ≤ next → Fits63 next → TellsNext kept model next
      → ReadsModels models kept place tables a b → ReadsRows models model next (TellsAll kept model) b c → ReadsModels models kept (place + 1) (with_next_id model next tables) a c
  models-more place tables model next a b c number low fits tells first second = record {
    reads = first.reads ++ second.reads;
    adds = adds-join first.reads second.reads a b c first.adds second.adds;
    each = all-appended (λ r. IsReadRow models r.model (next_of (with_next_id model next tables) r.model) r × (r.model.0 ≤ place + 1)) first.reads second.reads
        (rows-before models place tables model number next first.reads first.each) (rows-own models place tables model number next second.reads second.each);
    empty = first.empty;
    low = λ other. next-either tables model next (λ n. 1 ≤ n) other low (first.low other);
    fits = λ other. next-either tables model next (λ n. n < 2 ^ 63) other fits (first.fits other);
    told = told kept tells first.told second.told;
  }
    where
      told : (o : Option Store) → TellsNext o model next → IfSome o (AreTold models place tables first.reads) → TellsAll o model (map (λ r. r.row) second.reads)
          → IfSome o (AreTold models (place + 1) (with_next_id model next tables) (first.reads ++ second.reads))
      told None tells before own = tt
      told (Some store) tells before own = told-more models place tables model number next store own.0 first.reads second.reads second.each own.1 tells before first.each

  -- and a number without one
  pub models-passed : (place : ℕ) (tables : Tables) (model : ModelNo) (a b : ReadRows) → model.0 ≡ place + 1 → is_some (model_at models model) ≡ false
      → ReadsModels models kept place tables a b → ReadsModels models kept (place + 1) tables a b
  models-passed place tables model a b number none read = record {
    reads = read.reads;
    adds = read.adds;
    each = rows read.reads read.each;
    empty = read.empty;
    low = read.low;
    fits = read.fits;
    told = told kept read.told;
  }
    where
      rows : (reads : List ReadRow) → AreUpTo models place tables reads → AreUpTo models (place + 1) tables reads
      rows [] all = tt
      rows (r ∷ reads) all = ((all.0.0, wider r.model.0 place all.0.1), rows reads all.1)

      below : (m : ModelNo) → HasModel models m → m.0 ≤ place + 1 → m.0 ≤ place
      below m has low = lower m.0 place low (λ at. absurd (let same : m ≡ model = ap (λ (n : ℕ). record { 0 = n }) (at ∙ sym number) in
          let both : false ≡ true = sym (ap (λ (o : ModelNo). is_some (model_at models o)) same ∙ none) ∙ has in cc))

      told : (o : Option Store) → IfSome o (AreTold models place tables read.reads) → IfSome o (AreTold models (place + 1) tables read.reads)
      told None before = tt
      told (Some store) before = record { rising = before.rising; row = before.row; all = λ m id row has low there. before.all m id row has (below m has low) there; next = λ m has low. before.next m has (below m has low) }

-- ---- what can't be read

module _ (models : List ModelInfo) (store : Store) (place : ℕ) (tables : Tables) (reads : List ReadRow) (up : AreUpTo models place tables reads) (told : AreTold models place tables reads store)
    (low : (model : ModelNo) → 1 ≤ next_of tables model) where
  -- no row of the models that were read shows that it can't be
  none-read : (cell : Cell) → cell.model.0 ≤ place → ShowsUnread models store cell → ⊥
  none-read cell within shows =
      let info = told_and (model_at models cell.model) (λ i. IsSomeAnd (kept_row_at store cell.model cell.id) (IsUnreadable store cell.model i cell.id) ⊎ ((cell.id.0 ≡ 0) × (kept_next_of store cell.model ≡ 0))) shows.1 in
      by info.0 info.1
    where
      past : (k n : ℕ) → k ≡ n → 1 ≤ n → k ≡ 0 → ⊥
      past k n same high next_is = omega arith

      by : (info : ModelInfo) → model_at models cell.model ≡ Some info → ⊥
      by info is =
          let has : HasModel models cell.model = ap is_some is in
          let next_is = told.next cell.model has within in
          none-shown models store cell.model info is cell.id cell.field (λ none at. past (kept_next_of store cell.model) (next_of tables cell.model) next_is (low cell.model) none)
          (λ row there unreadable.
          (let (r, among, model_is, id_is) = told.all cell.model cell.id row has within there in
          let read = (of-one (λ r. IsReadRow models r.model (next_of tables r.model) r × (r.model.0 ≤ place)) reads r up among).0 in
          let row_is : r.row ≡ row = same_Some r.row row (sym (of-one (λ r. kept_row_at store r.model r.row.id ≡ Some r.row) reads r told.row among) ∙ (λ i. kept_row_at store (model_is i) (id_is i)) ∙ there) in
          let info_is : r.info ≡ info = same_Some r.info info (sym read.info_is ∙ ap (model_at models) model_is ∙ is) in
          not-unreadable models store cell.model info is (next_of tables cell.model) (sym next_is) cell.id row (ap (λ (k : KeptRow). k.id) (sym row_is) ∙ id_is) (
            subst (λ (k : KeptRow). k.id.0 < next_of tables cell.model) row_is (subst (λ (m : ModelNo). r.row.id.0 < next_of tables m) model_is read.below),
            (r.values, subst (λ (i : ModelInfo). IsReadAs i row r.values) info_is (subst (λ (k : KeptRow). IsReadAs r.info k r.values) row_is read.read_as)),
          )
          unreadable)) shows

-- where a model's rows aren't read, the first that can't be is the first of all
pub models-stop : (models : List ModelInfo) (before now : Option Store) (rose risen : Type 0) (place : ℕ) (tables : Tables) (model : ModelNo) (fault : ReadingFault) (a b : ReadRows) → model.0 ≡ place + 1 → now ≡ before → (risen → rose)
    → ReadsModels models before place tables a b → StopsReading models now risen (IsOf model) fault → StopsReading models before rose (λ _. ⊤) fault
models-stop models before now rose risen place tables model reading_fault.Keeper a b number same more read stops = more stops
models-stop models before now rose risen place tables model reading_fault.NoMemory a b number same more read stops = tt
models-stop models before now rose risen place tables model (reading_fault.Unreadable cell) a b number same more read stops =
    by before read.told (subst (λ (o : Option Store). IfSome o (λ store. IsFirstUnread models store (IsOf model) cell)) same stops)
  where
    by : (o : Option Store) → IfSome o (AreTold models place tables read.reads) → IfSome o (λ store. IsFirstUnread models store (IsOf model) cell) → IfSome o (λ store. IsFirstUnread models store (λ _. ⊤) cell)
    by None told first = tt
    by (Some store) told first = record { among = tt; shows = first.shows; none_before = none }
      where
        under : (m n k : ℕ) → m < n → n ≡ k + 1 → m ≤ k
        under m n k low is = omega arith

        number_is : cell.model.0 ≡ place + 1
        number_is = ap (λ (m : ModelNo). m.0) first.among ∙ number

        none : (other : Cell) → ⊤ → ShowsUnread models store other → IsRowBefore other cell → ⊥
        none other _ shows (inl less) = none-read models store place tables read.reads read.each told read.low other (under other.model.0 cell.model.0 place less number_is) shows
        none other _ shows (inr less) = first.none_before other (ap (λ (n : ℕ). record { 0 = n }) less.0 ∙ first.among) shows (inr less)
