-- Rows that are read behind one another: a row, a page, all rows of a model.
use Rattle.std.proofs.Common.{Bor, ◌≡◌, ◌<◌, ◌≤◌, ◌⊎◌, ◌+◌, ◌-◌, ◌^◌, ◌++◌, inl, inr, ℕ, zero, suc, true, List, [], ◌∷◌, map, take, drop, length, get_or, Option, Some, None, refl, sym, ap, subst, ◌∙◌, arith, append_assoc, drop-cons}
use Rattle.std.specs.Prelude.{IfSome, IsSomeAnd, slice_get}
use Rattle.std.specs.List.{AllByRecursion, flat_map}
use Rattle.std.specs.Option.{option_copied, option_map_or}
use Rattle.std.proofs.lemmas.Grind.{flat_map-append}
use Rattle.std.proofs.lemmas.List.{append-nil, map-append, take-append-drop, take_all, take_more}
use Rattle.std.proofs.lemmas.List.Elements.{All-get_or}
use Rattle.std.proofs.lemmas.Option.{get_or_from_slice_get, same_Some, slice_get-map, slice_get_within}
use Rattle.ob_base.specs.declared.id.Cell.{Cell}
use Rattle.ob_base.specs.declared.id.FieldNo.{FieldNo}
use Rattle.ob_base.specs.declared.id.ModelNo.{ModelNo}
use Rattle.ob_base.specs.declared.id.RecId.{RecId}
use Rattle.ob_base.specs.declared.value.Value.{Value}
use Rattle.ob_audit.specs.Rows.{IsReadAs, IsUnreadable, ShowsUnread}
use Rattle.ob_audit.specs.Reading.{AddsRows, CanBeRead, CannotBeRead, IsAboveNone, IsFirstUnread, IsOneOf, IsReadRow, IsRowBefore, IsUnreadAmong, IsUnreadAt, ReadRow}
use Rattle.ob_audit.specs.Reading.{ReadsRows, StopsReading, TellsAfter, TellsAll, TellsNext, TellsUpTo, edit_of, tests_of}
use Rattle.ob_audit.specs.Reading.{IsOf}
use Rattle.ob_audit.specs.declared.fault.ReadingFault.{ReadingFault}
use Rattle.ob_audit.specs.declared.fault.ReadingFault.TheVariants as reading_fault
use Rattle.ob_audit.specs.declared.kept_rows.ReadRows.{ReadRows}
use Rattle.ob_audit.proofs.StoreTables.{of-one}
use Rattle.ob_audit.proofs.PagedRows.{all-appended, one-right, row-above, rows-after-above, rows-after-there, rows-behind}
use Rattle.ob_io.specs.Cause.{Rose}
use Rattle.ob_io.specs.Store.{Fits63, IsAnswerOf, IsPage, RowsNamed, Store, next_of as kept_next_of, row_at as kept_row_at, rows_after}
use Rattle.ob_io.specs.declared.store.KeptRow.{KeptRow}
use Rattle.ob_schema.specs.Models.{HasModel, field_at, is_id_from, model_at}
use Rattle.ob_schema.specs.declared.info.ModelInfo.{ModelInfo}
use Rattle.ob_tables.proofs.CallerLemmas.{is_there, known_at, known_if, tell_and, told_and}
use Rattle.ob_tables.specs.declared.edit.Edit.{Edit}

-- ---- lists

pub among-at : {X : Type 0} (xs : List X) (i : ℕ) (d : X) → i < length xs → IsOneOf (get_or xs i d) xs
among-at [] i d low = absurd (omega arith)
among-at (x ∷ xs) zero d low = inl refl
among-at (x ∷ xs) (suc i) d low = inr (among-at xs i d (omega arith))

-- one of a list's front is one of the list
among-front : {X : Type 0} (x : X) (n : ℕ) (xs : List X) → IsOneOf x (take n xs) → IsOneOf x xs
among-front x zero xs one = absurd one
among-front x (suc n) [] one = absurd one
among-front x (suc n) (y ∷ xs) (inl is) = inl is
among-front x (suc n) (y ∷ xs) (inr later) = inr (among-front x n xs later)

-- one more of which it is known
pub all-more : {X : Type 0} (P : X → Type 0) (xs : List X) (i : ℕ) (x : X) → i < length xs → x ≡ get_or xs i x → AllByRecursion P (take i xs) → P x → AllByRecursion P (take (i + 1) xs)
all-more {X = X} P xs i x low at all here =
    subst (AllByRecursion P) (sym (take_more xs i x low ∙ ap (λ (y : X). take i xs ++ y ∷ []) (sym at))) (all-appended P (take i xs) (x ∷ []) all (here, tt))

-- a list ends with its last
ends : {X : Type 0} (xs : List X) (last : X) → Some last ≡ slice_get xs (length xs - 1) → xs ≡ take (length xs - 1) xs ++ last ∷ []
ends {X = X} xs last at =
    let low = slice_get_within xs (length xs - 1) last (sym at) in
    sym (take_all (length xs - 1 + 1) xs (omega arith))
    ∙ take_more xs (length xs - 1) last low
    ∙ ap (λ (x : X). take (length xs - 1) xs ++ x ∷ []) (get_or_from_slice_get xs (length xs - 1) last last (sym at))

-- the last of a page, as a slice tells it
pub last-at : (told : Option (Bor KeptRow)) (last : Bor KeptRow) (slice page : List KeptRow) → told ≡ Some last → option_copied told ≡ slice_get slice (length slice - 1) → slice ≡ page → Some last.now ≡ slice_get page (length page - 1)
last-at told last slice page is value same = sym (ap option_copied is) ∙ value ∙ ap (λ (l : List KeptRow). slice_get l (length l - 1)) same

-- ---- faults

-- a count that rose since a later moment rose since an earlier one
pub rose-later : (a b c : ℕ) → a ≤ b → Rose b c → Rose a c
rose-later a b c low (inl rose) = inl (let up : a < c = omega arith in up)
rose-later a b c low (inr far) = inr far

pub stops-later : (models : List ModelInfo) (before now : Option Store) (rose risen : Type 0) (Among : Cell → Type 0) (fault : ReadingFault) → now ≡ before → (risen → rose)
    → StopsReading models now risen Among fault → StopsReading models before rose Among fault
stops-later models before now rose risen Among reading_fault.Keeper same more stops = more stops
stops-later models before now rose risen Among (reading_fault.Unreadable cell) same more stops = subst (λ (o : Option Store). IfSome o (λ store. IsFirstUnread models store Among cell)) same stops
stops-later models before now rose risen Among reading_fault.NoMemory same more stops = tt

-- ---- rows

pub adds-none : (rows : ReadRows) → AddsRows [] rows rows
adds-none rows = record { edits = sym (append-nil rows.edits); stored = sym (append-nil rows.stored) }

pub adds-join : (xs ys : List ReadRow) (a b c : ReadRows) → AddsRows xs a b → AddsRows ys b c → AddsRows (xs ++ ys) a c
adds-join xs ys a b c first second = record {
  edits = second.edits ∙ ap (λ (l : List Edit). l ++ map edit_of ys) first.edits ∙ append_assoc a.edits (map edit_of xs) (map edit_of ys) ∙ ap (λ (l : List Edit). a.edits ++ l) (sym (map-append edit_of xs ys));
  stored = second.stored ∙ ap (λ (l : List (Cell × Value)). l ++ flat_map tests_of ys) first.stored ∙ append_assoc a.stored (flat_map tests_of xs) (flat_map tests_of ys)
      ∙ ap (λ (l : List (Cell × Value)). a.stored ++ l) (sym (flat_map-append tests_of xs ys));
}

module _ (models : List ModelInfo) (model : ModelNo) (next : ℕ) where
  pub reads-none : (Told : List KeptRow → Type 0) (rows : ReadRows) → Told [] → ReadsRows models model next Told rows rows
  reads-none Told rows told = record { reads = []; adds = adds-none rows; each = tt; told = told }

  pub reads-join : (P Q R : List KeptRow → Type 0) (a b c : ReadRows) → ((xs ys : List KeptRow) → P xs → Q ys → R (xs ++ ys)) → ReadsRows models model next P a b → ReadsRows models model next Q b c → ReadsRows models model next R a c
  reads-join P Q R a b c join first second = record {
    reads = first.reads ++ second.reads;
    adds = adds-join first.reads second.reads a b c first.adds second.adds;
    each = all-appended (IsReadRow models model next) first.reads second.reads first.each second.each;
    told = subst R (sym (map-append (λ (r : ReadRow). r.row) first.reads second.reads)) (join (map (λ r. r.row) first.reads) (map (λ r. r.row) second.reads) first.told second.told);
  }

  pub reads-as : (P R : List KeptRow → Type 0) (a b : ReadRows) → ((xs : List KeptRow) → P xs → R xs) → ReadsRows models model next P a b → ReadsRows models model next R a b
  reads-as P R a b more read = record { reads = read.reads; adds = read.adds; each = read.each; told = more (map (λ r. r.row) read.reads) read.told }

  -- one more row of a page
  pub row-more : (page : List KeptRow) (i : ℕ) (row : KeptRow) (a b c : ReadRows) → i < length page → row ≡ get_or page i row
      → ReadsRows models model next (λ read. read ≡ take i page) a b → ReadsRows models model next (λ read. read ≡ row ∷ []) b c → ReadsRows models model next (λ read. read ≡ take (i + 1) page) a c
  row-more page i row a b c low at first second =
      reads-join (λ read. read ≡ take i page) (λ read. read ≡ row ∷ []) (λ read. read ≡ take (i + 1) page) a b c
      (λ xs ys here now. (λ j. here j ++ now j) ∙ ap (λ (r : KeptRow). take i page ++ r ∷ []) at ∙ sym (take_more page i row low)) first second

-- ---- a page

-- a list falls apart at one of its places
pub parted : {X : Type 0} (xs : List X) (i : ℕ) (x : X) → i < length xs → x ≡ get_or xs i x → xs ≡ take i xs ++ x ∷ drop (suc i) xs
parted {X = X} xs i x low at =
    sym (take-append-drop i xs) ∙ ap (λ (l : List X). take i xs ++ l) (drop-cons xs i x low) ∙ ap (λ (y : X). take i xs ++ y ∷ drop (suc i) xs) (sym at)

-- rows that were read can be
can-read : (models : List ModelInfo) (model : ModelNo) (next : ℕ) (info : ModelInfo) → model_at models model ≡ Some info → (reads : List ReadRow) → AllByRecursion (IsReadRow models model next) reads
    → AllByRecursion (CanBeRead next info) (map (λ r. r.row) reads)
can-read models model next info is [] all = tt
can-read models model next info is (r ∷ reads) all =
    let same : r.info ≡ info = same_Some r.info info (sym all.0.info_is ∙ ap (model_at models) all.0.model_is ∙ is) in
    ((all.0.below, (r.values, subst (λ (i : ModelInfo). IsReadAs i r.row r.values) same all.0.read_as)), can-read models model next info is reads all.1)

-- a row that isn't read is one of its page, where those before it were read
pub unread-among : (models : List ModelInfo) (model : ModelNo) (next : ℕ) (page : List KeptRow) (i : ℕ) (row : KeptRow) (fault : ReadingFault) (a b : ReadRows) → i < length page → row ≡ get_or page i row
    → ReadsRows models model next (λ read. read ≡ take i page) a b → IfSome (model_at models model) (λ info. IsUnreadAt models next info row model fault)
    → IfSome (model_at models model) (λ info. IsUnreadAmong models next info page model fault)
unread-among models model next page i row fault a b low at read unread = by (model_at models model) refl unread
  where
    by : (o : Option ModelInfo) → model_at models model ≡ o → IfSome o (λ info. IsUnreadAt models next info row model fault) → IfSome o (λ info. IsUnreadAmong models next info page model fault)
    by None is unread = tt
    by (Some info) is unread =
        (take i page, row, drop (suc i) page, parted page i row low at, subst (AllByRecursion (CanBeRead next info)) read.told (can-read models model next info is read.reads read.each), unread)

-- rows that are kept
abbrev pub AreKept : Option Store → ModelNo → List KeptRow → Type 0
AreKept kept model page = IfSome kept (λ store. (row : KeptRow) → IsOneOf row page → kept_row_at store model row.id ≡ Some row)

module _ (models : List ModelInfo) (store : Store) (model : ModelNo) (info : ModelInfo) (is : model_at models model ≡ Some info) where
  -- what a cell of the model shows of its row
  abbrev CellOf : RecId → FieldNo → Cell
  CellOf id field = record { model = model; id = id; field = field }

  way-of : (id : RecId) (field : FieldNo) → ShowsUnread models store (CellOf id field)
      → IsSomeAnd (kept_row_at store model id) (IsUnreadable store model info id) ⊎ ((id.0 ≡ 0) × (kept_next_of store model ≡ 0))
  way-of id field shows = known_at (model_at models model) info (λ i. IsSomeAnd (kept_row_at store model id) (IsUnreadable store model i id) ⊎ ((id.0 ≡ 0) × (kept_next_of store model ≡ 0))) is shows.1

  -- a row that can't be read shows it
  pub unread-shown : (next : ℕ) → next ≡ kept_next_of store model → (row : KeptRow) → kept_row_at store model row.id ≡ Some row → CannotBeRead next info row
      → (field : FieldNo) → IsSomeAnd (field_at models model field) (λ f. is_id_from f.origin ≡ true) → ShowsUnread models store (CellOf row.id field)
  unread-shown next tells row there cannot field named = (
    named,
    tell_and (model_at models model) info (λ i. IsSomeAnd (kept_row_at store model row.id) (IsUnreadable store model i row.id) ⊎ ((row.id.0 ≡ 0) × (kept_next_of store model ≡ 0))) is
        (inl (tell_and (kept_row_at store model row.id) row (IsUnreadable store model info row.id) there (turned cannot))),
  )
    where
      turned : CannotBeRead next info row → IsUnreadable store model info row.id row
      turned (inl past) = inl (subst (λ (n : ℕ). n ≤ row.id.0) tells past)
      turned (inr none) = inr none

  -- one that can be read doesn't
  pub not-unreadable : (next : ℕ) → next ≡ kept_next_of store model → (id : RecId) (row : KeptRow) → row.id ≡ id → CanBeRead next info row → IsUnreadable store model info id row → ⊥
  not-unreadable next tells id row id_is can (inl past) = past-of next (kept_next_of store model) row.id.0 id.0 tells (ap (λ (i : RecId). i.0) id_is) can.0 past
    where
      past-of : (n k i j : ℕ) → n ≡ k → i ≡ j → i < n → k ≤ j → ⊥
      past-of n k i j same id low past = omega arith
  not-unreadable next tells id row id_is can (inr none) = none can.1.0 can.1.1

  -- nor does one that isn't there, where the next id isn't 0
  pub none-shown : (id : RecId) (field : FieldNo) → ((kept_next_of store model ≡ 0) → id.0 ≡ 0 → ⊥) → ((row : KeptRow) → kept_row_at store model id ≡ Some row → IsUnreadable store model info id row → ⊥)
      → ShowsUnread models store (CellOf id field) → ⊥
  none-shown id field low none shows = elim (way-of id field shows) [
    | inl unread ↦ (let row = told_and (kept_row_at store model id) (IsUnreadable store model info id) unread in none row.0 row.1 row.2)
    | inr zero_next ↦ low zero_next.1 zero_next.0
  ]

  -- where the rows of a page were read up to one, and all pages before it, that one is the first above id 0 that can't be read
  module _ (named : RowsNamed store) (next : ℕ) (tells : next ≡ kept_next_of store model) (after : RecId) (before front : List KeptRow) (row : KeptRow) (rest : List KeptRow)
      (told : before ++ rows_after store model after ≡ rows_after store model (record { 0 = 0 })) (page_is : rows_after store model after ≡ front ++ row ∷ rest)
      (read : AllByRecursion (CanBeRead next info) before) (also : AllByRecursion (CanBeRead next info) front) where
    whole : rows_after store model (record { 0 = 0 }) ≡ (before ++ front) ++ row ∷ rest
    whole = sym told ∙ ap (λ (l : List KeptRow). before ++ l) page_is ∙ sym (append_assoc before front (row ∷ rest))

    behind : rows_after store model row.id ≡ rest
    behind = rows-behind store named model (record { 0 = 0 }) (before ++ front) row rest whole

    is-low : 0 < row.id.0
    is-low = rows-after-above store named model (record { 0 = 0 }) row (subst (IsOneOf row) (sym whole) (one-right row (before ++ front) (row ∷ rest) (inl refl)))

    split : (other : KeptRow) (xs ys : List KeptRow) → IsOneOf other (xs ++ ys) → IsOneOf other xs ⊎ IsOneOf other ys
    split other [] ys one = inr one
    split other (x ∷ xs) ys (inl same) = inl (inl same)
    split other (x ∷ xs) ys (inr later) = elim (split other xs ys later) [ inl here ↦ inl (inr here) | inr there ↦ inr there ]

    readable-below : (id : RecId) (other : KeptRow) → kept_row_at store model id ≡ Some other → 0 < id.0 → id.0 < row.id.0 → CanBeRead next info other
    readable-below id other there low before_row =
        let id_is : other.id ≡ id = known_if (kept_row_at store model id) other (λ k. k.id ≡ id) there (named model id) in
        elim (split other (before ++ front) (row ∷ rest) (subst (IsOneOf other) whole (row-above store named model id other there low))) [
          | inl ahead ↦ of-one (CanBeRead next info) (before ++ front) other (all-appended (CanBeRead next info) before front read also) ahead
          | inr (inl same) ↦ absurd (itself id.0 row.id.0 (ap (λ (i : RecId). i.0) (sym id_is) ∙ ap (λ (k : KeptRow). k.id.0) same) before_row)
          | inr (inr later) ↦ absurd (above id.0 other.id.0 row.id.0 (ap (λ (i : RecId). i.0) id_is) (rows-after-above store named model row.id other (subst (IsOneOf other) (sym behind) later)) before_row)
        ]
      where
        itself : (i r : ℕ) → i ≡ r → i < r → ⊥
        itself i r same low = omega arith

        above : (i o r : ℕ) → o ≡ i → r < o → i < r → ⊥
        above i o r same high low = omega arith

    pub first-above : CannotBeRead next info row → (field : FieldNo) → IsSomeAnd (field_at models model field) (λ f. is_id_from f.origin ≡ true) → IsFirstUnread models store (IsAboveNone model) (CellOf row.id field)
    first-above cannot field field_is = record {
      among = record { model_is = refl; above = is-low };
      shows = unread-shown next tells row (rows-after-there store named model (record { 0 = 0 }) row (subst (IsOneOf row) (sym whole) (one-right row (before ++ front) (row ∷ rest) (inl refl)))) cannot field field_is;
      none_before = none;
    }
      where
        no-zero : (i : ℕ) → 0 < i → i ≡ 0 → ⊥
        no-zero i low is_none = omega arith

        not-less : (m n : ℕ) → m ≡ n → m < n → ⊥
        not-less m n same less = omega arith

        none : (other : Cell) → IsAboveNone model other → ShowsUnread models store other → IsRowBefore other (CellOf row.id field) → ⊥
        none other among shows (inl less) = not-less other.model.0 model.0 (ap (λ (m : ModelNo). m.0) among.model_is) less
        none other among shows (inr less) =
            none-shown other.id other.field (λ next_is at. no-zero other.id.0 among.above at)
            (λ kept there unreadable. not-unreadable next tells other.id kept (known_if (kept_row_at store model other.id) kept (λ k. k.id ≡ other.id) there (named model other.id))
            (readable-below other.id kept there among.above less.1) unreadable)
            (subst (ShowsUnread models store) (λ i. record { model = among.model_is i; id = other.id; field = other.field }) shows)

-- where one of a page can't be read, it shows that
pub unread-stops : (models : List ModelInfo) (kept : Option Store) (rose : Type 0) (model : ModelNo) (next : ℕ) (after : RecId) (page : List KeptRow) (fault : ReadingFault) (a b : ReadRows) → HasModel models model
    → IfSome kept RowsNamed → IfSome kept (λ store. page ≡ take 256 (rows_after store model after)) → TellsNext kept model next → ReadsRows models model next (TellsUpTo kept model after) a b
    → IfSome (model_at models model) (λ info. IsUnreadAmong models next info page model fault) → StopsReading models kept rose (IsAboveNone model) fault
unread-stops models kept rose model next after page fault a b has named told tells read unread =
    let info = is_there (model_at models model) has in
    by fault kept named told tells read.told info.0 info.1 (known_if (model_at models model) info.0 (λ i. IsUnreadAmong models next i page model fault) info.1 unread) (can-read models model next info.0 info.1 read.reads read.each)
  where
    by : (fault : ReadingFault) (kept : Option Store) → IfSome kept RowsNamed → IfSome kept (λ store. page ≡ take 256 (rows_after store model after)) → TellsNext kept model next → TellsUpTo kept model after (map (λ r. r.row) read.reads)
        → (info : ModelInfo) → model_at models model ≡ Some info → IsUnreadAmong models next info page model fault → AllByRecursion (CanBeRead next info) (map (λ r. r.row) read.reads)
        → StopsReading models kept rose (IsAboveNone model) fault
    by reading_fault.Keeper kept named told tells up info is (front, row, rest, split, also, unread) can = absurd unread
    by reading_fault.NoMemory kept named told tells up info is unread can = tt
    by (reading_fault.Unreadable cell) None named told tells up info is unread can = tt
    by (reading_fault.Unreadable cell) (Some store) named told tells up info is (front, row, rest, split, also, (cannot, model_is, id_is, field)) can =
        let all = rows_after store model after in
        let page_is : all ≡ front ++ row ∷ (rest ++ drop 256 all) =
        sym (take-append-drop 256 all) ∙ ap (λ (l : List KeptRow). l ++ drop 256 all) (sym told ∙ split) ∙ append_assoc front (row ∷ rest) (drop 256 all) in
        subst (IsFirstUnread models store (IsAboveNone model)) (λ i. record { model = sym model_is i; id = sym id_is i; field = cell.field })
        (first-above models store model info is named next tells after (map (λ r. r.row) read.reads) front row (rest ++ drop 256 all) up page_is can also cannot cell.field field)

module _ (model : ModelNo) (after : RecId) (most : ℕ) (page : List KeptRow) where
  -- the rows of a page are kept
  pub page-kept : (kept : Option Store) → IfSome kept RowsNamed → IfSome kept (λ store. page ≡ take most (rows_after store model after)) → AreKept kept model page
  page-kept None named told = tt
  page-kept (Some store) named told = λ row among. rows-after-there store named model after row (among-front row most (rows_after store model after) (subst (IsOneOf row) told among))

  -- up to its last row all are read
  pub page-more : (kept : Option Store) (last : KeptRow) → IfSome kept RowsNamed → IfSome kept (λ store. page ≡ take most (rows_after store model after)) → Some last ≡ slice_get page (length page - 1)
      → (xs ys : List KeptRow) → TellsUpTo kept model after xs → ys ≡ page → TellsUpTo kept model last.id (xs ++ ys)
  page-more None last named told at xs ys before is = tt
  page-more (Some store) last named told at xs ys before is =
      let all = rows_after store model after in
      let rest = drop most all in
      let split : page ++ rest ≡ all = ap (λ (l : List KeptRow). l ++ rest) told ∙ take-append-drop most all in
      let behind : rows_after store model last.id ≡ rest =
      rows-behind store named model after (take (length page - 1) page) last rest
      (sym split ∙ ap (λ (l : List KeptRow). l ++ rest) (ends page last at) ∙ append_assoc (take (length page - 1) page) (last ∷ []) rest) in
      (λ j. (xs ++ is j) ++ behind j) ∙ append_assoc xs page rest ∙ ap (λ (l : List KeptRow). xs ++ l) split ∙ before

  -- its last row stands above the one before it
  pub page-rises : (last : KeptRow) → IsPage after most (map (λ row. row.id) page) → Some last ≡ slice_get page (length page - 1) → (after.0 < last.id.0) × Fits63 last.id.0
  page-rises last fits at =
      let low = slice_get_within page (length page - 1) last (sym at) in
      let ids = map (λ (row : KeptRow). row.id) page in
      let found : Some last.id ≡ slice_get ids (length page - 1) = ap (option_map_id) at ∙ sym (slice_get-map (λ (row : KeptRow). row.id) page (length page - 1)) in
      subst (λ (id : RecId). (after.0 < id.0) × Fits63 id.0) (get_or_from_slice_get ids (length page - 1) last.id last.id (sym found))
      (All-get_or (λ id. (after.0 < id.0) × Fits63 id.0) ids (length page - 1) last.id (slice_get_within ids (length page - 1) last.id (sym found)) fits.above)
    where
      option_map_id : Option KeptRow → Option RecId
      option_map_id None = None
      option_map_id (Some row) = Some row.id

-- so the rows that may come become fewer
pub page-falls : (a b : ℕ) → a < b → b < 2 ^ 63 → 2 ^ 63 - b < 2 ^ 63 - a
page-falls a b low fits = omega arith

-- where a page is empty, all are read
pub pages-end : (kept : Option Store) (model : ModelNo) (after : RecId) (page : List KeptRow) (xs : List KeptRow) → IfSome kept RowsNamed → IfSome kept (λ store. page ≡ take 256 (rows_after store model after)) → page ≡ []
    → TellsUpTo kept model after xs → TellsAfter kept model (record { 0 = 0 }) xs
pages-end None model after page xs named told none before = tt
pages-end (Some store) model after page xs named told none before =
    (named, sym (append-nil xs) ∙ ap (λ (l : List KeptRow). xs ++ l) (sym (empty (rows_after store model after) (sym told ∙ none))) ∙ before)
  where
    empty : (l : List KeptRow) → take 256 l ≡ [] → l ≡ []
    empty [] is = refl
    empty (x ∷ l) is = absurd cc

-- ---- a model

-- the row of id 0, where there is one, and those above it are all
pub all-told : (kept : Option Store) (model : ModelNo) (first : Option KeptRow) → IfSome kept (λ store. first ≡ kept_row_at store model (record { 0 = 0 }))
    → (xs ys : List KeptRow) → xs ≡ option_map_or (λ row. row ∷ []) first [] → TellsAfter kept model (record { 0 = 0 }) ys → TellsAll kept model (xs ++ ys)
all-told None model first told xs ys here above = tt
all-told (Some store) model first told xs ys here above =
    (above.0, (λ j. here j ++ above.1 j) ∙ ap (λ (o : Option KeptRow). option_map_or (λ row. row ∷ []) o [] ++ rows_after store model (record { 0 = 0 })) told)

-- one row is kept
pub one-kept : (kept : Option Store) (model : ModelNo) (id : RecId) (row : KeptRow) → row.id ≡ id → IfSome kept (λ store. Some row ≡ kept_row_at store model id) → AreKept kept model (row ∷ [])
one-kept None model id row same told = tt
one-kept (Some store) model id row same told = by
  where
    by : (other : KeptRow) → IsOneOf other (row ∷ []) → kept_row_at store model other.id ≡ Some other
    by other (inl is) = subst (λ (r : KeptRow). kept_row_at store model r.id ≡ Some r) (sym is) (ap (kept_row_at store model) same ∙ sym told)
    by other (inr none) = absurd none

-- where the row of id 0 shows nothing, the first above it is the first
pub model-stops : (models : List ModelInfo) (before now : Option Store) (rose risen : Type 0) (model : ModelNo) (next : ℕ) (first : Option KeptRow) (fault : ReadingFault) (a b : ReadRows)
    → HasModel models model → now ≡ before → (risen → rose)
    → TellsNext before model next → 1 ≤ next → IfSome before (λ store. first ≡ kept_row_at store model (record { 0 = 0 })) → IfSome first (λ row. row.id ≡ record { 0 = 0 })
    → ReadsRows models model next (λ read. read ≡ option_map_or (λ row. row ∷ []) first []) a b → StopsReading models now risen (IsAboveNone model) fault → StopsReading models before rose (IsOf model) fault
model-stops models before now rose risen model next first reading_fault.Keeper a b has same more tells low told id read stops = more stops
model-stops models before now rose risen model next first reading_fault.NoMemory a b has same more tells low told id read stops = tt
model-stops models before now rose risen model next first (reading_fault.Unreadable cell) a b has same more tells low told id read stops =
    by before tells told (subst (λ (o : Option Store). IfSome o (λ store. IsFirstUnread models store (IsAboveNone model) cell)) same stops)
  where
    by : (o : Option Store) → TellsNext o model next → IfSome o (λ store. first ≡ kept_row_at store model (record { 0 = 0 })) → IfSome o (λ store. IsFirstUnread models store (IsAboveNone model) cell)
        → IfSome o (λ store. IsFirstUnread models store (IsOf model) cell)
    by None tells told stops = tt
    by (Some store) tells told stops = record { among = stops.among.model_is; shows = stops.shows; none_before = none }
      where
        info : (i : ModelInfo) × (model_at models model ≡ Some i)
        info = is_there (model_at models model) has

        can : AllByRecursion (CanBeRead next info.0) (option_map_or (λ row. row ∷ []) first [])
        can = subst (AllByRecursion (CanBeRead next info.0)) read.told (can-read models model next info.0 info.1 read.reads read.each)

        zero-shown : (field : FieldNo) → ShowsUnread models store (record { model = model; id = record { 0 = 0 }; field = field }) → ⊥
        zero-shown field shows =
            none-shown models store model info.0 info.1 (record { 0 = 0 }) field (λ next_is at. past next (kept_next_of store model) tells low next_is)
            (λ row there. is-readable row (told ∙ there)) shows
          where
            past : (n k : ℕ) → n ≡ k → 1 ≤ n → k ≡ 0 → ⊥
            past n k same low next_is = omega arith

            is-readable : (row : KeptRow) → first ≡ Some row → IsUnreadable store model info.0 (record { 0 = 0 }) row → ⊥
            is-readable row is =
                not-unreadable models store model info.0 info.1 next tells (record { 0 = 0 }) row (known_if first row (λ r. r.id ≡ record { 0 = 0 }) is id)
                (subst (λ (o : Option KeptRow). AllByRecursion (CanBeRead next info.0) (option_map_or (λ r. r ∷ []) o [])) is can).0

        none : (other : Cell) → IsOf model other → ShowsUnread models store other → IsRowBefore other cell → ⊥
        none other among shows before_it = at other.id.0 refl
          where
            here : (n : ℕ) → other.id.0 ≡ n → ShowsUnread models store (record { model = model; id = record { 0 = n }; field = other.field })
            here n is = subst (ShowsUnread models store) (λ i. record { model = among i; id = record { 0 = is i }; field = other.field }) shows

            at : (n : ℕ) → other.id.0 ≡ n → ⊥
            at zero is = zero-shown other.field (here 0 is)
            at (suc n) is = stops.none_before other (record { model_is = among; above = high other.id.0 n is }) shows before_it
              where
                high : (i n : ℕ) → i ≡ suc n → 0 < i
                high i n is = omega arith

-- a row that was fetched is named as it was asked for
pub first-named : (first : Option KeptRow) → IfSome first (IsAnswerOf (record { 0 = 0 })) → IfSome first (λ row. row.id ≡ record { 0 = 0 })
first-named None fits = tt
first-named (Some row) fits = fits.same_id
