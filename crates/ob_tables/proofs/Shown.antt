-- What the maps of the program show at a key, and what they show once they are changed there.
use Rattle.std.proofs.Common.{◌≡◌, ◌<◌, ◌+◌, ℕ, zero, suc, Bool, true, false, cond, List, [], ◌∷◌, map, Option, Some, None, option_and_then, option_map, unwrap_or, IsSome, is_some, refl, sym, ap, subst, ◌∙◌, arith}
use Rattle.std.specs.declared.cmp.Ordering.{Ordering}
use Rattle.std.specs.List.{enumerate_from, slice_get}
use Rattle.std.specs.Ordering.{nat_cmp, is_eq, eq_by_cmp}
use Rattle.std.specs.Cmp.{IsTotalOrder, nat_cmp_total, eq_by_cmp_equiv, tied_itself}
use Rattle.std.proofs.lemmas.Cmp.{on_total, then_total}
use Rattle.std.proofs.lemmas.Map.Lookups.{CmpEqualImpliesEq, exact_pairs, exact_unsigned}
use Rattle.std.proofs.lemmas.Map.Views.{tells_apart}
use Rattle.std.specs.Map.{keys_of, lookup}
use Rattle.std.specs.BTreeMap as tree
use Rattle.std.specs.BTreeMap.{BTreeMap, is_at}
use Rattle.std.specs.FinMap as finite
use Rattle.ob_base.specs.declared.id.ModelNo.{ModelNo}
use Rattle.ob_base.specs.declared.value.Value.{Value}
use Rattle.ob_base.specs.declared.id.RowKey.{RowKey}
use Rattle.ob_base.specs.Ids.{row_key_cmp}
use Rattle.ob_schema.specs.Built.{numbered}
use Rattle.ob_schema.specs.Models.{HasModel}
use Rattle.ob_schema.specs.declared.info.ModelInfo.{ModelInfo}
use Rattle.ob_tables.specs.Rooms.{shown_next_ids, shown_row, shown_rows}

-- row keys that compare alike are one
pub exact_rows : CmpEqualImpliesEq row_key_cmp
exact_rows a b h = ap (λ (p : ℕ × ℕ). record { model = record { 0 = p.0 }; id = record { 0 = p.1 } }) (exact_pairs nat_cmp nat_cmp exact_unsigned exact_unsigned (a.model.0, a.id.0) (b.model.0, b.id.0) h)

pub rows_total : IsTotalOrder row_key_cmp
rows_total = then_total (on_total (λ k. k.model.0) nat_cmp_total) (on_total (λ k. k.id.0) nat_cmp_total)

-- both searches find the same
pub find-lookup : {K X : Type 0} (R : K → K → Ordering) (q : K) (es : List (K × X)) → finite.find R q es ≡ lookup (is_at (R q)) es
find-lookup R q [] = refl
find-lookup R q (e ∷ es) = ap (cond (is_at (R q) e.0) (Some e.1)) (find-lookup R q es)

module _ {X Y : Type 0} (f : X → Y) where
  changed-first : (b : Bool) (x : X) (l : Option X) (m : Option Y) → m ≡ option_map f l → cond b (Some (f x)) m ≡ option_map f (cond b (Some x) l)
  changed-first true x l m h = refl
  changed-first false x l m h = h

  -- a search among entries with other values
  pub lookup-changed : {K : Type 0} (test : K → Bool) (es : List (K × X)) → lookup test (map (λ e. (e.0, f e.1)) es) ≡ option_map f (lookup test es)
  lookup-changed test [] = refl
  lookup-changed test (e ∷ es) = changed-first (test e.0) e.1 (lookup test es) _ (lookup-changed test es)

  -- the keys stay
  pub keys-changed : {K : Type 0} (es : List (K × X)) → keys_of (map (λ e. (e.0, f e.1)) es) ≡ keys_of es
  keys-changed [] = refl
  keys-changed (e ∷ es) = ap (λ ks. e.0 ∷ ks) (keys-changed es)

  -- one value of a map, changed
  pub changed-one : (b : Bool) (w l : Option X) → option_map f (cond b w l) ≡ cond b (option_map f w) (option_map f l)
  changed-one true w l = refl
  changed-one false w l = refl

module _ {K X : Type 0} {R : K → K → Ordering} (o : IsTotalOrder R) (exact : CmpEqualImpliesEq R) (m n : finite.FinMap R X) (k : K) where
  -- a map that answers as another with a value at a key is that one with it inserted
  pub is-insert : (v : X) → ((q : K) → finite.get n q ≡ cond (eq_by_cmp R k q) (Some v) (finite.get m q)) → n ≡ finite.insert m k v
  is-insert v h = finite.same_map o exact n (finite.insert m k v) (λ q.
      h q ∙ ap (λ b. cond b (Some v) (finite.get m q)) ((eq_by_cmp_equiv o).symm k q) ∙ sym (finite.get-insert o m k v q))

  -- a map that answers as another but nothing at a key is that one with it removed
  pub is-remove : ((q : K) → finite.get n q ≡ cond (eq_by_cmp R k q) None (finite.get m q)) → n ≡ finite.remove m k
  is-remove h = finite.same_map o exact n (finite.remove m k) (λ q.
      h q ∙ ap (λ b. cond b None (finite.get m q)) ((eq_by_cmp_equiv o).symm k q) ∙ sym (finite.get-remove o m k q))

-- a row shows what its map has
pub get-shown_row : (row : BTreeMap ℕ Value) (q : ℕ) → finite.get (shown_row row) q ≡ tree.get nat_cmp row q
get-shown_row row q = finite.get-from_entries nat_cmp_total row.entries q ∙ find-lookup nat_cmp q row.entries

-- rows that their maps have
pub get-shown_rows : (rows : BTreeMap RowKey (BTreeMap ℕ Value)) (k : RowKey) → finite.get (shown_rows rows) k ≡ option_map shown_row (tree.get row_key_cmp rows k)
get-shown_rows rows k =
    finite.get-from_entries rows_total (map (λ e. (e.0, shown_row e.1)) rows.entries) k ∙ find-lookup row_key_cmp k (map (λ e. (e.0, shown_row e.1)) rows.entries)
    ∙ lookup-changed shown_row (is_at (row_key_cmp k)) rows.entries

-- a value at a field
pub shown_row-set : (row n : BTreeMap ℕ Value) (k : ℕ) (v : Value) → ((q : ℕ) → tree.get nat_cmp n q ≡ cond (eq_by_cmp nat_cmp k q) (Some v) (tree.get nat_cmp row q)) → shown_row n ≡ finite.insert (shown_row row) k v
shown_row-set row n k v h = is-insert nat_cmp_total exact_unsigned (shown_row row) (shown_row n) k v (λ q.
    get-shown_row n q ∙ h q ∙ sym (ap (cond (eq_by_cmp nat_cmp k q) (Some v)) (get-shown_row row q)))

module _ (rows n : BTreeMap RowKey (BTreeMap ℕ Value)) (k : RowKey) where
  -- what rows are shown once one is set
  pub get-shown_rows-set : (row : BTreeMap ℕ Value) → ((q : RowKey) → tree.get row_key_cmp n q ≡ cond (eq_by_cmp row_key_cmp k q) (Some row) (tree.get row_key_cmp rows q))
      → (q : RowKey) → finite.get (shown_rows n) q ≡ cond (eq_by_cmp row_key_cmp k q) (Some (shown_row row)) (finite.get (shown_rows rows) q)
  get-shown_rows-set row h q =
      get-shown_rows n q ∙ ap (option_map shown_row) (h q) ∙ changed-one shown_row (eq_by_cmp row_key_cmp k q) (Some row) (tree.get row_key_cmp rows q)
      ∙ sym (ap (cond (eq_by_cmp row_key_cmp k q) (Some (shown_row row))) (get-shown_rows rows q))

  -- a row at a key
  pub shown_rows-set : (row : BTreeMap ℕ Value) → ((q : RowKey) → tree.get row_key_cmp n q ≡ cond (eq_by_cmp row_key_cmp k q) (Some row) (tree.get row_key_cmp rows q))
      → shown_rows n ≡ finite.insert (shown_rows rows) k (shown_row row)
  shown_rows-set row h = is-insert rows_total exact_rows (shown_rows rows) (shown_rows n) k (shown_row row) (get-shown_rows-set row h)

  -- no row at a key
  pub shown_rows-gone : ((q : RowKey) → tree.get row_key_cmp n q ≡ cond (eq_by_cmp row_key_cmp k q) None (tree.get row_key_cmp rows q)) → shown_rows n ≡ finite.remove (shown_rows rows) k
  shown_rows-gone h = is-remove rows_total exact_rows (shown_rows rows) (shown_rows n) k (λ q.
      get-shown_rows n q ∙ ap (option_map shown_row) (h q) ∙ changed-one shown_row (eq_by_cmp row_key_cmp k q) None (tree.get row_key_cmp rows q)
      ∙ sym (ap (cond (eq_by_cmp row_key_cmp k q) None) (get-shown_rows rows q)))

-- tests of numbers by their order
pub apart : (a b : ℕ) → (a ≡ b → ⊥) → eq_by_cmp nat_cmp a b ≡ false
apart a b h = by_case (eq_by_cmp nat_cmp a b) refl
  where
    by_case : (t : Bool) → eq_by_cmp nat_cmp a b ≡ t → t ≡ false
    by_case true e = absurd (h (tells_apart exact_unsigned a b e))
    by_case false e = refl

pub itself : (a b : ℕ) → a ≡ b → eq_by_cmp nat_cmp a b ≡ true
itself a b h = ap (λ c. eq_by_cmp nat_cmp a c) (sym h) ∙ ap is_eq (tied_itself nat_cmp_total a)

-- places of a list, each with a value of its number
abbrev placed : {A X : Type 0} → (ℕ → X) → ℕ → List A → List (ℕ × X)
placed g from items = map (λ place. (place.0, g place.0)) (enumerate_from from items)

module _ {A X : Type 0} (g : ℕ → X) where
  -- no place is below the first
  find-before : (k from : ℕ) (items : List A) → k < from → finite.find nat_cmp k (placed g from items) ≡ None
  find-before k from [] h = refl
  find-before k from (a ∷ items) h =
      ap (λ b. cond b (Some (g from)) (finite.find nat_cmp k (placed g (from + 1) items))) (apart k from (λ is. absurd (omega arith))) ∙ find-before k (from + 1) items (omega arith)

  -- the place of each item
  find-placed : (from i : ℕ) (items : List A) → finite.find nat_cmp (from + i) (placed g from items) ≡ option_map (λ _. g (from + i)) (slice_get items i)
  find-placed from i [] = refl
  find-placed from zero (a ∷ items) =
      ap (λ b. cond b (Some (g from)) (finite.find nat_cmp (from + zero) (placed g (from + 1) items))) (itself (from + zero) from (omega arith))
      ∙ ap (λ k. Some (g k)) (same from)
    where
      same : (n : ℕ) → n ≡ n + zero
      same n = omega arith
  find-placed from (suc i) (a ∷ items) =
      ap (λ b. cond b (Some (g from)) (finite.find nat_cmp (from + suc i) (placed g (from + 1) items))) (apart (from + suc i) from (λ is. absurd (omega arith)))
      ∙ ap (λ k. finite.find nat_cmp k (placed g (from + 1) items)) next
      ∙ find-placed (from + 1) i items
      ∙ ap (λ k. option_map (λ _. g k) (slice_get items i)) (sym next)
    where
      next : from + suc i ≡ (from + 1) + i
      next = omega arith

  -- numbers from 1
  pub find-numbered : (k : ℕ) (items : List A) → finite.find nat_cmp k (placed g 1 items) ≡ option_map (λ _. g k) (numbered items k)
  find-numbered zero items = find-before zero 1 items (omega arith)
  find-numbered (suc n) items = ap (λ k. finite.find nat_cmp k (placed g 1 items)) next ∙ find-placed 1 n items ∙ ap (λ k. option_map (λ _. g k) (slice_get items n)) (sym next)
    where
      next : suc n ≡ 1 + n
      next = omega arith

-- the next id that the map has, or 1
abbrev pub next_or_one : BTreeMap ℕ ℕ → ℕ → ℕ
next_or_one next_ids k = unwrap_or (tree.get nat_cmp next_ids k) 1

module _ (models : List ModelInfo) where
  -- a next id for each model and no other
  pub get-shown_next_ids : (next_ids : BTreeMap ℕ ℕ) (k : ℕ) → finite.get (shown_next_ids models next_ids) k ≡ option_map (λ _. next_or_one next_ids k) (numbered models k)
  get-shown_next_ids next_ids k = finite.get-from_entries nat_cmp_total (placed (next_or_one next_ids) 1 models) k ∙ find-numbered (next_or_one next_ids) k models

  there : (model : ModelNo) → HasModel models model → (n : ℕ) → option_map (λ _. n) (numbered models model.0) ≡ Some n
  there model h n = by_case (numbered models model.0) h
    where
      by_case : (found : Option ModelInfo) → IsSome found → option_map (λ _. n) found ≡ Some n
      by_case (Some info) h = refl
      by_case None h = cc

  -- that of a model that is there
  pub shown_next-there : (next_ids : BTreeMap ℕ ℕ) (model : ModelNo) → HasModel models model → finite.get (shown_next_ids models next_ids) model.0 ≡ Some (next_or_one next_ids model.0)
  shown_next-there next_ids model h = get-shown_next_ids next_ids model.0 ∙ there model h (next_or_one next_ids model.0)

  absurd_none : {P : Type 0} → IsSome {T = ModelInfo} None → P
  absurd_none h = cc

  one-next : (b : Bool) (k q v : ℕ) (w : Option ℕ) (found : Option ModelInfo) → (b ≡ true → IsSome found) → option_map (λ _. unwrap_or (cond b (Some v) w) 1) found ≡ cond b (Some v) (option_map (λ _. unwrap_or w 1) found)
  one-next true k q v w (Some info) h = refl
  one-next true k q v w None h = absurd_none (h refl)
  one-next false k q v w found h = refl

  -- a next id of a model that is there
  pub shown_next-set : (next_ids n : BTreeMap ℕ ℕ) (model : ModelNo) (v : ℕ) → HasModel models model
      → ((q : ℕ) → tree.get nat_cmp n q ≡ cond (eq_by_cmp nat_cmp model.0 q) (Some v) (tree.get nat_cmp next_ids q)) → shown_next_ids models n ≡ finite.insert (shown_next_ids models next_ids) model.0 v
  shown_next-set next_ids n model v has h = is-insert nat_cmp_total exact_unsigned (shown_next_ids models next_ids) (shown_next_ids models n) model.0 v (λ q.
      get-shown_next_ids n q ∙ ap (λ w. option_map (λ _. unwrap_or w 1) (numbered models q)) (h q)
      ∙ one-next (eq_by_cmp nat_cmp model.0 q) model.0 q v (tree.get nat_cmp next_ids q) (numbered models q) (λ tie. subst (λ k. IsSome (numbered models k)) (tells_apart exact_unsigned model.0 q tie) has)
      ∙ sym (ap (cond (eq_by_cmp nat_cmp model.0 q) (Some v)) (get-shown_next_ids next_ids q)))

module _ (rows : BTreeMap RowKey (BTreeMap ℕ Value)) (k : RowKey) where
  same_some : (o : Option (BTreeMap ℕ Value)) → is_some (option_map shown_row o) ≡ is_some o
  same_some None = refl
  same_some (Some row) = refl

  -- a row is shown where there is one
  pub has-shown_rows : is_some (finite.get (shown_rows rows) k) ≡ is_some (tree.get row_key_cmp rows k)
  has-shown_rows = ap is_some (get-shown_rows rows k) ∙ same_some (tree.get row_key_cmp rows k)

  within : (f : ℕ) (o : Option (BTreeMap ℕ Value)) → option_and_then (λ row. finite.get row f) (option_map shown_row o) ≡ option_and_then (λ row. tree.get nat_cmp row f) o
  within f None = refl
  within f (Some row) = get-shown_row row f

  -- what a row that is shown has for a field
  pub kept-shown_rows : (f : ℕ) → option_and_then (λ row. finite.get row f) (finite.get (shown_rows rows) k) ≡ option_and_then (λ row. tree.get nat_cmp row f) (tree.get row_key_cmp rows k)
  kept-shown_rows f = ap (option_and_then (λ row. finite.get row f)) (get-shown_rows rows k) ∙ within f (tree.get row_key_cmp rows k)
