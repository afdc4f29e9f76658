-- An index of the holdings of rows follows them, and its range from one row to the next is the list of those that name it.
use Rattle.std.proofs.Common.{◌≡◌, ◌<◌, ◌==◌, inl, inr, ℕ, Bool, true, false, not, ◌&&◌, cond, List, [], ◌∷◌, map, filter, Option, Some, None, is_some, option_map, unwrap_or, IsSome, refl, sym, ap, subst, ◌∙◌, arith, eq-eqb}
use Rattle.std.specs.List.{AllByRecursion}
use Rattle.std.specs.List.Sorted.{IsStrictlySortedBy}
use Rattle.std.specs.Map.{keys_of, lookup}
use Rattle.std.specs.Option.{option_map_or}
use Rattle.std.specs.Prelude.{nat_lt}
use Rattle.std.specs.Ordering.{eq_by_cmp, is_eq, is_le, is_lt, nat_cmp, ordering_then}
use Rattle.std.specs.declared.cmp.Ordering.{Ordering}
use Rattle.std.specs.declared.cmp.Ordering.TheVariants.{Less, Equal, Greater}
use Rattle.std.specs.Cmp.{IsTotalOrder, nat_cmp_total, tied_itself}
use Rattle.std.specs.BTreeMap as tree
use Rattle.std.specs.BTreeMap.{BTreeMap, is_at}
use Rattle.std.specs.FinMap as finite
use Rattle.std.specs.FinMap.Entries.{find}
use Rattle.std.proofs.lemmas.Bool.Decides.{nat_tests}
use Rattle.std.proofs.lemmas.Cmp.{ranked}
use Rattle.std.proofs.lemmas.List.Kept.{IsStrictlySortedBy-filter}
use Rattle.std.proofs.lemmas.Map.Keys.{sorted_head, sorted_tail}
use Rattle.std.proofs.lemmas.Map.Lookups.{CmpEqualImpliesEq, exact_unsigned}
use Rattle.std.proofs.lemmas.Map.Views.{tells_apart}
use Rattle.std.proofs.lemmas.Option.{same_Some}
use Rattle.ob_base.specs.Ids.{row_key_cmp}
use Rattle.ob_base.specs.declared.id.FieldNo.{FieldNo}
use Rattle.ob_base.specs.declared.id.ModelNo.{ModelNo}
use Rattle.ob_base.specs.declared.id.RecId.{RecId}
use Rattle.ob_base.specs.declared.id.RowKey.{RowKey}
use Rattle.ob_base.specs.declared.value.Value.{Value}
use Rattle.ob_base.specs.declared.value.Value.TheVariants as value
use Rattle.ob_expr.specs.Reads.{IsAmong}
use Rattle.ob_schema.specs.Plain.{names, naming}
use Rattle.ob_schema.specs.Tables.{PlainRow, Tables, key_of, kept_in, row_at, rows_in}
use Rattle.ob_tables.specs.Holdings.{IsIndexOf, IsTurned, does_hold, holding_order, is_held, names_by, row_of, rows_alone}
use Rattle.ob_tables.specs.Rooms.{shown_row}
use Rattle.ob_tables.specs.declared.holdings.Holding.{Holding}
use Rattle.ob_tables.proofs.Held.{exact_holdings, holdings_total, nothing-named}
use Rattle.ob_tables.proofs.Listing.{naming-rises}
use Rattle.ob_tables.proofs.NamedBack.{Stands, naming-there}
use Rattle.ob_tables.proofs.Rising.{id_cmp}
use Rattle.ob_tables.proofs.Shown.{exact_rows, get-shown_row, get-shown_rows}

-- ---- edits of rows

-- a row without entries names no other
pub empty-names : (row : BTreeMap ℕ Value) (field : FieldNo) (target : RecId) → row.entries ≡ [] → names_by row field target ≡ false
empty-names row field target none = nothing-named row field target (ap (lookup (is_at (nat_cmp field.0))) none)

module _ {X : Type 0} (rows others : BTreeMap RowKey (BTreeMap ℕ Value)) (new : BTreeMap Holding X) (key : RowKey) (row : BTreeMap ℕ Value) (turned : IsTurned key row rows new) where
  -- a row was put in
  pub index-put : ((q : RowKey) → tree.get row_key_cmp others q ≡ cond (eq_by_cmp row_key_cmp key q) (Some row) (tree.get row_key_cmp rows q)) → IsIndexOf others new
  index-put set h =
      turned h ∙ by (eq_by_cmp row_key_cmp key (row_of h)) (tree.get row_key_cmp rows (row_of h)) ∙ sym (ap (λ (o : Option (BTreeMap ℕ Value)). option_map_or (λ r. names_by r h.field h.target) o false) (set (row_of h)))
    where
      by : (b : Bool) (o : Option (BTreeMap ℕ Value))
          → cond b (names_by row h.field h.target) (option_map_or (λ r. names_by r h.field h.target) o false) ≡ option_map_or (λ r. names_by r h.field h.target) (cond b (Some row) o) false
      by true o = refl
      by false o = refl

  -- a row was taken out
  pub index-taken : row.entries ≡ [] → ((q : RowKey) → tree.get row_key_cmp others q ≡ cond (eq_by_cmp row_key_cmp key q) None (tree.get row_key_cmp rows q)) → IsIndexOf others new
  index-taken empty set h =
      turned h ∙ by (eq_by_cmp row_key_cmp key (row_of h)) (tree.get row_key_cmp rows (row_of h)) ∙ sym (ap (λ (o : Option (BTreeMap ℕ Value)). option_map_or (λ r. names_by r h.field h.target) o false) (set (row_of h)))
    where
      by : (b : Bool) (o : Option (BTreeMap ℕ Value))
          → cond b (names_by row h.field h.target) (option_map_or (λ r. names_by r h.field h.target) o false) ≡ option_map_or (λ r. names_by r h.field h.target) (cond b None o) false
      by true o = empty-names row h.field h.target empty
      by false o = refl

-- ---- members of lists

contrary : {P : Type 0} → false ≡ true → P
contrary e = cc

pub stands-mapped : {X Y : Type 0} (f : X → Y) (x : X) (xs : List X) → Stands x xs → Stands (f x) (map f xs)
stands-mapped f x [] among = absurd among
stands-mapped f x (y ∷ ys) (inl is) = inl (ap f is)
stands-mapped f x (y ∷ ys) (inr later) = inr (stands-mapped f x ys later)

mapped-stands : {X Y : Type 0} (f : X → Y) (y : Y) (xs : List X) → Stands y (map f xs) → (x : X) × Stands x xs × (y ≡ f x)
mapped-stands f y [] among = absurd among
mapped-stands f y (x ∷ xs) (inl is) = (x, inl refl, is)
mapped-stands f y (x ∷ xs) (inr later) = let rest = mapped-stands f y xs later in (rest.0, inr rest.1, rest.2)

-- one that passes a test is kept, and one that is kept passes
pub stands-kept : {X : Type 0} (test : X → Bool) (x : X) (xs : List X) → test x ≡ true → Stands x xs → Stands x (filter test xs)
stands-kept test x [] passes among = absurd among
stands-kept {X = X} test x (y ∷ ys) passes among = by (test y) refl among (λ later. stands-kept test x ys passes later)
  where
    by : (b : Bool) → test y ≡ b → Stands x (y ∷ ys) → (Stands x ys → Stands x (filter test ys)) → Stands x (cond b (y ∷ filter test ys) (filter test ys))
    by true is (inl same) rest = inl same
    by true is (inr later) rest = inr (rest later)
    by false fails (inl same) rest = contrary (sym fails ∙ sym (ap test same) ∙ passes)
    by false fails (inr later) rest = rest later

kept-stands : {X : Type 0} (test : X → Bool) (x : X) (xs : List X) → Stands x (filter test xs) → Stands x xs × (test x ≡ true)
kept-stands test x [] among = absurd among
kept-stands {X = X} test x (y ∷ ys) among = by (test y) refl among (λ later. kept-stands test x ys later)
  where
    by : (b : Bool) → test y ≡ b → Stands x (cond b (y ∷ filter test ys) (filter test ys)) → (Stands x (filter test ys) → Stands x ys × (test x ≡ true)) → Stands x (y ∷ ys) × (test x ≡ true)
    by true passes (inl is) rest = (inl is, ap test is ∙ passes)
    by true passes (inr later) rest = let r = rest later in (inr r.0, r.1)
    by false fails among rest = let r = rest among in (inr r.0, r.1)

pub stands-among : (id : RecId) (ids : List RecId) → Stands id ids → IsAmong id ids
stands-among id [] among = among
stands-among id (x ∷ ids) (inl is) = inl is
stands-among id (x ∷ ids) (inr later) = inr (stands-among id ids later)

-- the key of each entry is found, and what is found is an entry's
entry-found : {K X : Type 0} {R : K → K → Ordering} → IsTotalOrder R → (e : K × X) (es : List (K × X)) → Stands e es → is_some (lookup (is_at (R e.0)) es) ≡ true
entry-found o e [] among = absurd among
entry-found {K} {X} {R} o e (x ∷ es) among = by (is_at (R e.0) x.0) refl among (λ later. entry-found o e es later)
  where
    by : (b : Bool) → is_at (R e.0) x.0 ≡ b → Stands e (x ∷ es) → (Stands e es → is_some (lookup (is_at (R e.0)) es) ≡ true) → is_some (cond b (Some x.1) (lookup (is_at (R e.0)) es)) ≡ true
    by true is among rest = refl
    by false not (inl same) rest = contrary (sym not ∙ ap (λ (y : K × X). is_at (R e.0) y.0) (sym same) ∙ ap is_eq (tied_itself o e.0))
    by false not (inr later) rest = rest later

pub found-stands : {K X : Type 0} {R : K → K → Ordering} → CmpEqualImpliesEq R → (q : K) (es : List (K × X)) → is_some (lookup (is_at (R q)) es) ≡ true → (x : X) × Stands (q, x) es
found-stands exact q [] found = contrary found
found-stands {K} {X} {R} exact q (x ∷ es) found = by (is_at (R q) x.0) refl found (λ is. found-stands exact q es is)
  where
    by : (b : Bool) → is_at (R q) x.0 ≡ b → is_some (cond b (Some x.1) (lookup (is_at (R q)) es)) ≡ true → (is_some (lookup (is_at (R q)) es) ≡ true → (y : X) × Stands (q, y) es) → (y : X) × Stands (q, y) (x ∷ es)
    by true same is rest = let key : q ≡ x.0 = tells_apart exact q x.0 same in (x.1, inl (λ i. (key i, x.1)))
    by false same is rest = let later = rest is in (later.0, inr later.1)

found-is : {X : Type 0} (q : RowKey) (es : List (RowKey × X)) (row : X) → find row_key_cmp q es ≡ Some row → Stands (q, row) es
found-is q [] row e = cc
found-is {X} q (x ∷ es) row e = by (is_eq (row_key_cmp q x.0)) refl e (λ is. found-is q es row is)
  where
    by : (b : Bool) → is_eq (row_key_cmp q x.0) ≡ b → cond b (Some x.1) (find row_key_cmp q es) ≡ Some row → (find row_key_cmp q es ≡ Some row → Stands (q, row) es) → Stands (q, row) (x ∷ es)
    by true same is again =
        let key : q ≡ x.0 = tells_apart exact_rows q x.0 same in
        let val : x.1 ≡ row = same_Some x.1 row is in
        inl (λ i. (key i, sym val i))
    by false same is again = inr (again is)

-- ---- lists that rise

above_all : (x : RecId) (xs : List RecId) → AllByRecursion (λ y. id_cmp x y ≡ Less) xs → (z : RecId) → Stands z xs → x.0 < z.0
above_all x [] above z among = absurd among
above_all x (y ∷ ys) above z (inl is) = subst (λ (w : RecId). x.0 < w.0) (sym is) (ranked x.0 y.0 Less (sym above.0))
above_all x (y ∷ ys) above z (inr later) = above_all x ys above.1 z later

-- the first is one where each list has the other's
same_first : (x y : RecId) (xs ys : List RecId) → ((z : RecId) → Stands z xs → x.0 < z.0) → ((z : RecId) → Stands z ys → y.0 < z.0) → Stands x (y ∷ ys) → Stands y (x ∷ xs) → x ≡ y
same_first x y xs ys low high (inl is) in_first = is
same_first x y xs ys low high (inr later) (inl is) = sym is
same_first x y xs ys low high (inr later) (inr again) = let a = high x later in let b = low y again in absurd (omega (arith, a, b))

-- what stands in the other list behind an equal first one stands behind its first
behind_first : (x y z : RecId) (ys : List RecId) → x ≡ y → x.0 < z.0 → Stands z (y ∷ ys) → Stands z ys
behind_first x y z ys first low (inl is) = let same : z.0 ≡ x.0 = ap (λ (i : RecId). i.0) (is ∙ sym first) in absurd (omega (arith, same, low))
behind_first x y z ys first low (inr later) = later

-- lists that rise are one where they have the same members
rise_once : (xs ys : List RecId) → IsStrictlySortedBy id_cmp xs → IsStrictlySortedBy id_cmp ys → ((z : RecId) → Stands z xs → Stands z ys) → ((z : RecId) → Stands z ys → Stands z xs) → xs ≡ ys
rise_once [] [] r s to from = refl
rise_once [] (y ∷ ys) r s to from = absurd (from y (inl refl))
rise_once (x ∷ xs) [] r s to from = absurd (to x (inl refl))
rise_once (x ∷ xs) (y ∷ ys) r s to from =
    let low = above_all x xs (sorted_head id_cmp x xs r) in
    let high = above_all y ys (sorted_head id_cmp y ys s) in
    let first : x ≡ y = same_first x y xs ys low high (to x (inl refl)) (from y (inl refl)) in
    let rest : xs ≡ ys = rise_once xs ys (sorted_tail id_cmp x xs r) (sorted_tail id_cmp y ys s)
    (λ z among. behind_first x y z ys first (low z among) (to z (inr among))) (λ z among. behind_first y x z xs (sym first) (high z among) (from z (inr among))) in
    λ i. first i ∷ rest i

-- ---- who names a row

-- a row that names another is in its list
naming-has : (tables : Tables) (model : ModelNo) (field : FieldNo) (id child : RecId) (row : PlainRow) → row_at tables model child ≡ Some row → names id (kept_in row field) ≡ true → Stands child (naming tables model field id)
naming-has tables model field id child row there named =
    let es = finite.entries tables.rows in
    let found = found-is (key_of model child) es row (sym (finite.get-entries tables.rows (key_of model child)) ∙ there) in
    let kept = stands-kept (λ (e : RowKey × PlainRow). e.0.model.0 == model.0) (key_of model child, row) es (eq-eqb model.0 model.0 refl) found in
    let shown = stands-mapped (λ (e : RowKey × PlainRow). (e.0.id, e.1)) (key_of model child, row) (filter (λ (e : RowKey × PlainRow). e.0.model.0 == model.0) es) kept in
    stands-mapped (λ (e : RecId × PlainRow). e.0) (child, row) (filter (λ (e : RecId × PlainRow). names id (kept_in e.1 field)) (rows_in tables model))
    (stands-kept (λ (e : RecId × PlainRow). names id (kept_in e.1 field)) (child, row) (rows_in tables model) named shown)

module _ (rows : BTreeMap RowKey (BTreeMap ℕ Value)) (model : ModelNo) (field : FieldNo) (target : RecId) where
  abbrev hold : RecId → Holding
  hold id = record { model = model; field = field; target = target; holder = id }

  shown-names : (row : BTreeMap ℕ Value) → names target (kept_in (shown_row row) field) ≡ names_by row field target
  shown-names row = ap (λ (o : Option Value). names target (unwrap_or o value.Nil)) (get-shown_row row field.0)

  -- what the row of a holding has is there, and shown
  named-is : (id : RecId) → does_hold rows (hold id) ≡ true → Stands id (naming (rows_alone rows) model field target)
  named-is id holds = by (tree.get row_key_cmp rows (key_of model id)) refl holds
    where
      by : (o : Option (BTreeMap ℕ Value)) → tree.get row_key_cmp rows (key_of model id) ≡ o → option_map_or (λ row. names_by row field target) o false ≡ true → Stands id (naming (rows_alone rows) model field target)
      by None none holds = contrary holds
      by (Some row) there holds = naming-has (rows_alone rows) model field target id (shown_row row) (get-shown_rows rows (key_of model id) ∙ ap (option_map shown_row) there) (shown-names row ∙ holds)

  is-named : (id : RecId) → Stands id (naming (rows_alone rows) model field target) → does_hold rows (hold id) ≡ true
  is-named id among =
      let row = naming-there (rows_alone rows) model field target id (stands-among id (naming (rows_alone rows) model field target) among) in
      by (tree.get row_key_cmp rows (key_of model id)) row.0 (sym (get-shown_rows rows (key_of model id)) ∙ row.1) row.2
    where
      by : (o : Option (BTreeMap ℕ Value)) (r : PlainRow) → option_map shown_row o ≡ Some r → names target (kept_in r field) ≡ true → option_map_or (λ row. names_by row field target) o false ≡ true
      by None r none named = cc
      by (Some row) r is named = sym (shown-names row) ∙ ap (λ (w : PlainRow). names target (kept_in w field)) (same_Some (shown_row row) r is) ∙ named

  -- holdings of one row by one field are in the order of those that name it
  order-hold : (x y : RecId) → holding_order (hold x) (hold y) ≡ nat_cmp x.0 y.0
  order-hold x y =
      ap (λ (r : Ordering). ordering_then r (ordering_then (nat_cmp field.0 field.0) (ordering_then (nat_cmp target.0 target.0) (nat_cmp x.0 y.0)))) (tied_itself nat_cmp_total model.0)
      ∙ ap (λ (r : Ordering). ordering_then r (ordering_then (nat_cmp target.0 target.0) (nat_cmp x.0 y.0))) (tied_itself nat_cmp_total field.0)
      ∙ ap (λ (r : Ordering). ordering_then r (nat_cmp x.0 y.0)) (tied_itself nat_cmp_total target.0)

  module _ (p : Ordering → Bool) (greater : p Greater ≡ false) (first end : RecId) where
    squeezed : (r s t : Ordering) → p (ordering_then r s) ≡ true → not (is_le (ordering_then r t)) ≡ true → (r ≡ Equal) × (p s ≡ true) × (not (is_le t) ≡ true)
    squeezed Equal s t a b = (refl, a, b)
    squeezed Less s t a b = contrary b
    squeezed Greater s t a b = contrary (sym greater ∙ a)

    abbrev inside : Holding → Bool
    inside q = p (holding_order (hold first) q) && not (is_le (holding_order (hold end) q))

    both : (a b : Bool) → (a && b) ≡ true → (a ≡ true) × (b ≡ true)
    both true b h = (refl, h)
    both false b h = contrary h

    -- between two holdings of the row by the field are such alone
    is-hold : (q : Holding) → inside q ≡ true → (q ≡ hold q.holder) × (p (nat_cmp first.0 q.holder.0) ≡ true)
    is-hold q within =
        let parts = both (p (holding_order (hold first) q)) (not (is_le (holding_order (hold end) q))) within in
        let one = squeezed (nat_cmp model.0 q.model.0) _ _ parts.0 parts.1 in
        let two = squeezed (nat_cmp field.0 q.field.0) _ _ one.1 one.2 in
        let three = squeezed (nat_cmp target.0 q.target.0) _ _ two.1 two.2 in
        let m : model.0 ≡ q.model.0 = exact_unsigned model.0 q.model.0 one.0 in
        let f : field.0 ≡ q.field.0 = exact_unsigned field.0 q.field.0 two.0 in
        let t : target.0 ≡ q.target.0 = exact_unsigned target.0 q.target.0 three.0 in
        (λ i. record { model = record { 0 = sym m i }; field = record { 0 = sym f i }; target = record { 0 = sym t i }; holder = q.holder }, three.1)

    not_at_most : (a b : ℕ) → b < a → is_le (nat_cmp a b) ≡ false
    not_at_most a b h = grind (arith, nat_tests)

    hold-inside : (id : RecId) → id.0 < end.0 → p (nat_cmp first.0 id.0) ≡ true → inside (hold id) ≡ true
    hold-inside id low passes =
        ap (λ (r : Ordering). p r && not (is_le (holding_order (hold end) (hold id)))) (order-hold first id)
        ∙ ap (λ (b : Bool). b && not (is_le (holding_order (hold end) (hold id)))) passes
        ∙ ap (λ (r : Ordering). not (is_le r)) (order-hold end id) ∙ ap not (not_at_most end.0 id.0 low)

    module _ {X : Type 0} where
      abbrev its_holder : Holding × X → RecId
      its_holder e = e.0.holder

      abbrev within : Holding × X → Bool
      within e = inside e.0

      above-inside : (k : Holding) (es : List (Holding × X)) → inside k ≡ true → AllByRecursion (λ y. holding_order k y ≡ Less) (keys_of es)
          → AllByRecursion (λ id. id_cmp k.holder id ≡ Less) (map its_holder (filter within es))
      above-inside k [] is above = tt
      above-inside k (e ∷ es) is above = by (inside e.0) refl (above-inside k es is above.1)
        where
          by : (b : Bool) → inside e.0 ≡ b → AllByRecursion (λ id. id_cmp k.holder id ≡ Less) (map its_holder (filter within es))
              → AllByRecursion (λ id. id_cmp k.holder id ≡ Less) (map its_holder (cond b (e ∷ filter within es) (filter within es)))
          by true too rest = (sym (order-hold k.holder e.0.holder) ∙ (λ i. holding_order (sym (is-hold k is).0 i) (sym (is-hold e.0 too).0 i)) ∙ above.0, rest)
          by false not_it rest = rest

      inside-rises : (es : List (Holding × X)) → IsStrictlySortedBy holding_order (keys_of es) → IsStrictlySortedBy id_cmp (map its_holder (filter within es))
      unfolding IsStrictlySortedBy
      inside-rises [] h = tt
      inside-rises (e ∷ es) h = by (inside e.0) refl (inside-rises es h.1)
        where
          by : (b : Bool) → inside e.0 ≡ b → IsStrictlySortedBy id_cmp (map its_holder (filter within es)) → IsStrictlySortedBy id_cmp (map its_holder (cond b (e ∷ filter within es) (filter within es)))
          by true is rest = (above-inside e.0 es is h.0, rest)
          by false not_it rest = rest

      -- the holders between them are the rows that name the row by the field
      pub holders-name : (holdings : BTreeMap Holding X) → IsIndexOf rows holdings → tree.IsOrdered holding_order holdings → (passes : RecId → Bool) → ((id : RecId) → p (nat_cmp first.0 id.0) ≡ passes id)
          → ((id : RecId) → IsSome (tree.get row_key_cmp rows (key_of model id)) → id.0 < end.0) → map its_holder (filter within holdings.entries) ≡ filter passes (naming (rows_alone rows) model field target)
      holders-name holdings index ordered passes tests low =
          let list = naming (rows_alone rows) model field target in
          rise_once (map its_holder (filter within holdings.entries)) (filter passes list) (inside-rises holdings.entries ordered)
          (IsStrictlySortedBy-filter id_cmp passes list (naming-rises (rows_alone rows) model field target)) to from
        where
          to : (z : RecId) → Stands z (map its_holder (filter within holdings.entries)) → Stands z (filter passes (naming (rows_alone rows) model field target))
          to z among =
              let entry = mapped-stands its_holder z (filter within holdings.entries) among in
              let kept = kept-stands within entry.0 holdings.entries entry.1 in
              let is = is-hold entry.0.0 kept.1 in
              let key : entry.0.0 ≡ hold z = is.0 ∙ ap hold (sym entry.2) in
              let holds : does_hold rows (hold z) ≡ true = sym (index (hold z)) ∙ ap (λ (q : Holding). is_held holdings q) (sym key) ∙ entry-found holdings_total entry.0 holdings.entries kept.0 in
              stands-kept passes z (naming (rows_alone rows) model field target) (sym (tests z) ∙ ap (λ (i : RecId). p (nat_cmp first.0 i.0)) entry.2 ∙ is.1) (named-is z holds)

          row_is : (o : Option (BTreeMap ℕ Value)) → option_map_or (λ row. names_by row field target) o false ≡ true → IsSome o
          row_is (Some row) h = refl
          row_is None h = contrary h

          from : (z : RecId) → Stands z (filter passes (naming (rows_alone rows) model field target)) → Stands z (map its_holder (filter within holdings.entries))
          from z among =
              let kept = kept-stands passes z (naming (rows_alone rows) model field target) among in
              let holds = is-named z kept.0 in
              let entry = found-stands exact_holdings (hold z) holdings.entries (index (hold z) ∙ holds) in
              let passed = hold-inside z (low z (row_is (tree.get row_key_cmp rows (key_of model z)) holds)) (tests z ∙ kept.1) in
              stands-mapped its_holder (hold z, entry.0) (filter within holdings.entries) (stands-kept within (hold z, entry.0) holdings.entries passed entry.1)

-- ---- tests of ids

pub from-none : (n : ℕ) → is_le (nat_cmp 0 n) ≡ true
from-none n = grind (arith, nat_tests)

pub above-test : (a b : ℕ) → is_lt (nat_cmp a b) ≡ nat_lt a b
above-test a b = grind (arith, nat_tests)

pub all-pass : {X : Type 0} (xs : List X) → filter (λ _. true) xs ≡ xs
all-pass [] = refl
all-pass (x ∷ xs) = ap (λ ys. x ∷ ys) (all-pass xs)
