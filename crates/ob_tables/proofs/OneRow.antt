-- What one edit changes: of the rows its own alone, and of the ids that pass a test whether that row's is among them.
use Rattle.std.proofs.Common.{◌≡◌, ◌≢◌, ◌==◌, Bool, true, false, cond, ◌&&◌, T, List, [], ◌∷◌, ◌++◌, map, filter, Option, Some, None, option_map, is_some, refl, sym, ap, subst, ◌∙◌, eqb-true, eq-eqb}
use Rattle.std.specs.Prelude.{nat_lt}
use Rattle.std.specs.Option.{option_map_or}
use Rattle.std.specs.declared.cmp.Ordering.{Ordering}
use Rattle.std.specs.declared.cmp.Ordering.TheVariants.{Less, Equal, Greater}
use Rattle.std.specs.Ordering.{nat_cmp, is_eq, is_lt, eq_by_cmp, ordering_reverse, ordering_then}
use Rattle.std.specs.Cmp.{IsTotalOrder, nat_cmp_total, tied_itself}
use Rattle.std.specs.FinMap as finite
use Rattle.std.specs.FinMap.Entries.{below_all, find, find-where_key, is_sorted, is_sorted-where_key, same_entries, where_key}
use Rattle.std.proofs.lemmas.List.{map-append}
use Rattle.std.proofs.lemmas.List.Elements.{filter-append}
use Rattle.std.proofs.lemmas.Map.Lookups.{CmpEqualImpliesEq}
use Rattle.std.proofs.lemmas.Map.Views.{tells_apart}
use Rattle.ob_base.specs.declared.id.Cell.{Cell}
use Rattle.ob_base.specs.declared.id.FieldNo.{FieldNo}
use Rattle.ob_base.specs.declared.id.ModelNo.{ModelNo}
use Rattle.ob_base.specs.declared.id.RecId.{RecId}
use Rattle.ob_base.specs.declared.id.RowKey.{RowKey}
use Rattle.ob_base.specs.declared.value.Value.{Value}
use Rattle.ob_base.specs.Ids.{row_key_cmp}
use Rattle.ob_schema.specs.declared.info.ModelInfo.{ModelInfo}
use Rattle.ob_schema.specs.Models.{model_at}
use Rattle.ob_schema.specs.Plain.{names, naming}
use Rattle.ob_schema.specs.Tables.{PlainRow, Tables, ids_in, kept_in, key_of, row_at, rows_in}
use Rattle.ob_tables.specs.After.{edited, row_of, with_row}
use Rattle.ob_tables.specs.Changes.{edited_row, has_row, row_names, with_id_if}
use Rattle.ob_tables.specs.declared.edit.Edit.{Edit}
use Rattle.ob_tables.specs.declared.edit.Edit.TheVariants as edit
use Rattle.ob_tables.proofs.Shown.{exact_rows, rows_total}

-- ---- entries in order, around a key

first : (a b : Bool) → T (a && b) → T a
first true b both = tt
first false b both = both

second : (a b : Bool) → T (a && b) → T b
second true b both = both
second false b both = absurd both

both_hold : (a b : Bool) → T a → T b → T (a && b)
both_hold true b p q = q
both_hold false b p q = p

less : (r : Ordering) → T (is_lt r) → r ≡ Less
less Less h = refl
less Equal h = absurd h
less Greater h = absurd h

-- three parts of which the outer ones are known
parts : {X : Type 0} (xs ys zs us vs ws : List X) → xs ≡ us → ys ≡ vs → zs ≡ ws → us ++ vs ++ ws ≡ xs ++ ys ++ zs
parts xs ys zs us vs ws a b c = λ i. sym a i ++ sym b i ++ sym c i

turned : {K : Type 0} {R : K → K → Ordering} → IsTotalOrder R → (k q : K) → T (is_lt (R k q)) → R q k ≡ Greater
turned {R = R} o k q h = o.antisymm q k ∙ ap ordering_reverse (less (R k q) h)

module _ {K X : Type 0} {R : K → K → Ordering} (o : IsTotalOrder R) (exact : CmpEqualImpliesEq R) where
  -- the entries below a key, the one at it, and those above
  abbrev below : K → List (K × X) → List (K × X)
  below k es = where_key R (λ q. is_lt (R q k)) es

  abbrev entry_at : K → Option X → List (K × X)
  entry_at k None = []
  entry_at k (Some x) = (k, x) ∷ []

  abbrev above : K → List (K × X) → List (K × X)
  above k es = where_key R (λ q. is_lt (R k q)) es

  -- of entries that are all above it
  none-below : (k : K) (es : List (K × X)) → T (below_all R k es) → below k es ≡ []
  none-below k [] h = refl
  none-below k (e ∷ es) h =
      ap (λ r. cond (is_lt r) (e ∷ below k es) (below k es)) (turned o k e.0 (first (is_lt (R k e.0)) (below_all R k es) h)) ∙ none-below k es (second (is_lt (R k e.0)) (below_all R k es) h)

  none-at : (k : K) (es : List (K × X)) → T (below_all R k es) → find R k es ≡ None
  none-at k [] h = refl
  none-at k (e ∷ es) h =
      ap (λ r. cond (is_eq r) (Some e.1) (find R k es)) (less (R k e.0) (first (is_lt (R k e.0)) (below_all R k es) h)) ∙ none-at k es (second (is_lt (R k e.0)) (below_all R k es) h)

  all-above : (k : K) (es : List (K × X)) → T (below_all R k es) → above k es ≡ es
  all-above k [] h = refl
  all-above k (e ∷ es) h =
      ap (λ r. cond (is_lt r) (e ∷ above k es) (above k es)) (less (R k e.0) (first (is_lt (R k e.0)) (below_all R k es) h)) ∙ ap (λ xs. e ∷ xs) (all-above k es (second (is_lt (R k e.0)) (below_all R k es) h))

  -- a key below one that is below all is below all
  lower : (k q : K) (es : List (K × X)) → R k q ≡ Less → T (below_all R q es) → T (below_all R k es)
  lower k q [] p h = tt
  lower k q (e ∷ es) p h =
      both_hold (is_lt (R k e.0)) (below_all R k es) (subst (λ r. T (is_lt r)) (sym (o.trans k q e.0 p (less (R q e.0) (first (is_lt (R q e.0)) (below_all R q es) h)))) tt)
      (lower k q es p (second (is_lt (R q e.0)) (below_all R q es) h))

  -- entries in order are those below a key, the one at it and those above
  around : (k : K) (es : List (K × X)) → T (is_sorted R es) → es ≡ below k es ++ entry_at k (find R k es) ++ above k es
  around k [] h = refl
  around k (e ∷ es) h = by (R e.0 k) refl (around k es (second (below_all R e.0 es) (is_sorted R es) h))
    where
      rest : T (below_all R e.0 es)
      rest = first (below_all R e.0 es) (is_sorted R es) h

      shape : Ordering → Ordering → List (K × X)
      shape r s = cond (is_lt r) (e ∷ below k es) (below k es) ++ entry_at k (cond (is_eq s) (Some e.1) (find R k es)) ++ cond (is_lt s) (e ∷ above k es) (above k es)

      so : (r : Ordering) → R e.0 k ≡ r → shape r (ordering_reverse r) ≡ shape (R e.0 k) (R k e.0)
      so r is = λ i. shape (sym is i) (sym (o.antisymm k e.0 ∙ ap ordering_reverse is) i)

      by : (r : Ordering) → R e.0 k ≡ r → es ≡ below k es ++ entry_at k (find R k es) ++ above k es → e ∷ es ≡ shape (R e.0 k) (R k e.0)
      by Less is again = ap (λ xs. e ∷ xs) again ∙ so Less is
      by Equal is again =
          let tied : e.0 ≡ k = exact e.0 k is in
          let all : T (below_all R k es) = subst (λ q. T (below_all R q es)) tied rest in
          (λ i. (tied i, e.1) ∷ es) ∙ parts (below k es) ((k, e.1) ∷ []) (above k es) [] ((k, e.1) ∷ []) es (none-below k es all) refl (all-above k es all) ∙ so Equal is
      by Greater is again =
          let all : T (below_all R k es) = lower k e.0 es (o.antisymm k e.0 ∙ ap ordering_reverse is) rest in
          parts (below k es) (entry_at k (find R k es)) (e ∷ above k es) [] [] (e ∷ es) (none-below k es all) (ap (entry_at k) (none-at k es all)) (ap (λ xs. e ∷ xs) (all-above k es all)) ∙ so Greater is

  -- maps that answer alike but at a key have the same entries where a test fails at it
  module _ (m n : finite.FinMap R X) (k : K) (alike : (q : K) → q ≢ k → finite.get n q ≡ finite.get m q) where
    same-where : (test : K → Bool) → test k ≡ false → where_key R test (finite.entries n) ≡ where_key R test (finite.entries m)
    same-where test fails =
        same_entries R o exact (where_key R test (finite.entries n)) (where_key R test (finite.entries m)) (is_sorted-where_key R test (finite.entries n) (finite.entries_sorted n))
        (is_sorted-where_key R test (finite.entries m) (finite.entries_sorted m))
        (λ q. find-where_key R test q (tied q) (finite.entries n) ∙ by q (test q) refl ∙ sym (find-where_key R test q (tied q) (finite.entries m)))
      where
        tied : (q x : K) → R q x ≡ Equal → test x ≡ test q
        tied q x is = ap test (sym (exact q x is))

        by : (q : K) (b : Bool) → test q ≡ b → cond (test q) (find R q (finite.entries n)) None ≡ cond (test q) (find R q (finite.entries m)) None
        by q true is = ap (λ r. cond (test q) r None) (sym (finite.get-entries n q) ∙ alike q (λ same. let both : true ≡ false = sym is ∙ ap test same ∙ fails in cc) ∙ finite.get-entries m q)
        by q false is = ap (λ b. cond b (find R q (finite.entries n)) None) is ∙ sym (ap (λ b. cond b (find R q (finite.entries m)) None) is)

-- ---- the ids of a model's rows that pass a test

agree : {X : Type 0} (t k s : Bool) → (k ≡ true → t ≡ s) → (x : X) (xs : List X) → cond (t && k) (x ∷ xs) xs ≡ cond (k && s) (x ∷ xs) xs
agree true true s same x xs = ap (λ b. cond b (x ∷ xs) xs) (same refl)
agree true false s same x xs = refl
agree false true s same x xs = ap (λ b. cond b (x ∷ xs) xs) (same refl)
agree false false s same x xs = refl

-- an answer of the order in one model is that of the ids
same-model : (a b : RowKey) → a.model.0 ≡ b.model.0 → is_lt (row_key_cmp a b) ≡ nat_lt a.id.0 b.id.0
same-model a b same =
    ap (λ r. is_lt (ordering_then r (nat_cmp a.id.0 b.id.0))) (ap (λ n. nat_cmp n b.model.0) same ∙ tied_itself nat_cmp_total b.model.0) ∙ by (nat_lt a.id.0 b.id.0) (a.id.0 == b.id.0)
  where
    by : (l e : Bool) → is_lt (cond l Less (cond e Equal Greater)) ≡ l
    by true e = refl
    by false true = refl
    by false false = refl

module _ (model : ModelNo) (p : RecId × PlainRow → Bool) where
  abbrev of_model : RowKey × PlainRow → Bool
  of_model e = e.0.model.0 == model.0

  abbrev with_id : RowKey × PlainRow → RecId × PlainRow
  with_id e = (e.0.id, e.1)

  abbrev its_id : RecId × PlainRow → RecId
  its_id e = e.0

  abbrev chosen : List (RowKey × PlainRow) → List RecId
  chosen es = map its_id (filter p (map with_id (filter of_model es)))

  chosen-append : (xs ys : List (RowKey × PlainRow)) → chosen (xs ++ ys) ≡ chosen xs ++ chosen ys
  chosen-append xs ys =
      ap (λ es. map its_id (filter p (map with_id es))) (filter-append of_model xs ys)
      ∙ ap (λ es. map its_id (filter p es)) (map-append with_id (filter of_model xs) (filter of_model ys))
      ∙ ap (map its_id) (filter-append p (map with_id (filter of_model xs)) (map with_id (filter of_model ys)))
      ∙ map-append its_id (filter p (map with_id (filter of_model xs))) (filter p (map with_id (filter of_model ys)))

  chosen-first : (e : RowKey × PlainRow) (es : List (RowKey × PlainRow)) → chosen (e ∷ es) ≡ cond (of_model e && p (with_id e)) (e.0.id ∷ chosen es) (chosen es)
  chosen-first e es = outer (of_model e)
    where
      inner : (b : Bool) → map its_id (cond b (with_id e ∷ filter p (map with_id (filter of_model es))) (filter p (map with_id (filter of_model es)))) ≡ cond b (e.0.id ∷ chosen es) (chosen es)
      inner true = refl
      inner false = refl

      outer : (b : Bool) → map its_id (filter p (map with_id (cond b (e ∷ filter of_model es) (filter of_model es)))) ≡ cond (b && p (with_id e)) (e.0.id ∷ chosen es) (chosen es)
      outer true = inner (p (with_id e))
      outer false = refl

  -- a test of keys that is one of ids in the model
  chosen-where : (test : RowKey → Bool) (part : RecId → Bool) → ((q : RowKey) → q.model.0 ≡ model.0 → test q ≡ part q.id) → (es : List (RowKey × PlainRow))
      → chosen (where_key row_key_cmp test es) ≡ filter part (chosen es)
  chosen-where test part same [] = refl
  chosen-where test part same (e ∷ es) = by (chosen-where test part same es)
    where
      kept : Bool
      kept = of_model e && p (with_id e)

      left : (b : Bool) → chosen (cond b (e ∷ where_key row_key_cmp test es) (where_key row_key_cmp test es)) ≡ cond (b && kept) (e.0.id ∷ chosen (where_key row_key_cmp test es)) (chosen (where_key row_key_cmp test es))
      left true = chosen-first e (where_key row_key_cmp test es)
      left false = refl

      right : (b : Bool) → filter part (cond b (e.0.id ∷ chosen es) (chosen es)) ≡ cond (b && part e.0.id) (e.0.id ∷ filter part (chosen es)) (filter part (chosen es))
      right true = refl
      right false = refl

      its_model : (b : Bool) → of_model e ≡ b → (b && p (with_id e)) ≡ true → test e.0 ≡ part e.0.id
      its_model true of holds = same e.0 (eqb-true e.0.model.0 model.0 of)
      its_model false of holds = cc

      by : chosen (where_key row_key_cmp test es) ≡ filter part (chosen es) → chosen (where_key row_key_cmp test (e ∷ es)) ≡ filter part (chosen (e ∷ es))
      by again =
          left (test e.0) ∙ agree (test e.0) kept (part e.0.id) (its_model (of_model e) refl) e.0.id (chosen (where_key row_key_cmp test es))
          ∙ ap (λ xs. cond (kept && part e.0.id) (e.0.id ∷ xs) xs) again ∙ sym (right kept) ∙ sym (ap (filter part) (chosen-first e es))

  chosen-at : (id : RecId) (r : Option PlainRow) → chosen (entry_at rows_total exact_rows (key_of model id) r) ≡ cond (option_map_or (λ row. p (id, row)) r false) (id ∷ []) []
  chosen-at id None = refl
  chosen-at id (Some row) = chosen-first (key_of model id, row) [] ∙ ap (λ b. cond (b && p (id, row)) (id ∷ []) []) (eq-eqb model.0 model.0 refl)

  -- where rows answer alike but at a key, the id of that key alone is told anew
  one-changes : (m n : finite.FinMap row_key_cmp PlainRow) (id : RecId) → ((q : RowKey) → q ≢ key_of model id → finite.get n q ≡ finite.get m q)
      → chosen (finite.entries n) ≡ with_id_if (option_map_or (λ row. p (id, row)) (finite.get n (key_of model id)) false) id (chosen (finite.entries m))
  one-changes m n id alike =
      ap chosen (around rows_total exact_rows key es (finite.entries_sorted n)) ∙ chosen-append (lows ++ here) highs ∙ ap (λ xs. xs ++ chosen highs) (chosen-append lows here)
      ∙ parts (filter (λ other. nat_lt other.0 id.0) old) (cond is_in (id ∷ []) []) (filter (λ other. nat_lt id.0 other.0) old) (chosen lows) (chosen here) (chosen highs) (sym low) (sym middle) (sym high)
    where
      key : RowKey
      key = key_of model id

      es : List (RowKey × PlainRow)
      es = finite.entries n

      lows : List (RowKey × PlainRow)
      lows = below rows_total exact_rows key es

      here : List (RowKey × PlainRow)
      here = entry_at rows_total exact_rows key (find row_key_cmp key es)

      highs : List (RowKey × PlainRow)
      highs = above rows_total exact_rows key es

      old : List RecId
      old = chosen (finite.entries m)

      is_in : Bool
      is_in = option_map_or (λ row. p (id, row)) (finite.get n key) false

      itself : is_lt (row_key_cmp key key) ≡ false
      itself = ap is_lt (tied_itself rows_total key)

      low : chosen lows ≡ filter (λ other. nat_lt other.0 id.0) old
      low = ap chosen (same-where rows_total exact_rows m n key alike (λ q. is_lt (row_key_cmp q key)) itself)
          ∙ chosen-where (λ q. is_lt (row_key_cmp q key)) (λ other. nat_lt other.0 id.0) (λ q same. same-model q key same) (finite.entries m)

      middle : chosen here ≡ cond is_in (id ∷ []) []
      middle = chosen-at id (find row_key_cmp key es) ∙ ap (λ r. cond (option_map_or (λ row. p (id, row)) r false) (id ∷ []) []) (sym (finite.get-entries n key))

      high : chosen highs ≡ filter (λ other. nat_lt id.0 other.0) old
      high = ap chosen (same-where rows_total exact_rows m n key alike (λ q. is_lt (row_key_cmp key q)) itself)
          ∙ chosen-where (λ q. is_lt (row_key_cmp key q)) (λ other. nat_lt id.0 other.0) (λ q same. same-model key q (sym same)) (finite.entries m)

-- ---- edits

-- keys that differ are told apart
other-key : (q key : RowKey) → q ≢ key → eq_by_cmp row_key_cmp q key ≡ false
other-key q key not = by (eq_by_cmp row_key_cmp q key) refl
  where
    by : (b : Bool) → eq_by_cmp row_key_cmp q key ≡ b → b ≡ false
    by true same = absurd (not (tells_apart exact_rows q key same))
    by false same = refl

module _ (rows : finite.FinMap row_key_cmp PlainRow) (key : RowKey) where
  insert-other : (row : PlainRow) (q : RowKey) → q ≢ key → finite.get (finite.insert rows key row) q ≡ finite.get rows q
  insert-other row q not = finite.get-insert rows_total rows key row q ∙ ap (λ b. cond b (Some row) (finite.get rows q)) (other-key q key not)

  insert-same : (row : PlainRow) → finite.get (finite.insert rows key row) key ≡ Some row
  insert-same row = finite.get-insert rows_total rows key row key ∙ ap (λ r. cond (is_eq r) (Some row) (finite.get rows key)) (tied_itself rows_total key)

  remove-other : (q : RowKey) → q ≢ key → finite.get (finite.remove rows key) q ≡ finite.get rows q
  remove-other q not = finite.get-remove rows_total rows key q ∙ ap (λ b. cond b None (finite.get rows q)) (other-key q key not)

  remove-same : finite.get (finite.remove rows key) key ≡ None
  remove-same = finite.get-remove rows_total rows key key ∙ ap (λ r. cond (is_eq r) None (finite.get rows key)) (tied_itself rows_total key)

-- each is kept
all-kept : {X : Type 0} (xs : List X) → filter (λ _. true) xs ≡ xs
all-kept [] = refl
all-kept (x ∷ xs) = ap (λ ys. x ∷ ys) (all-kept xs)

there-or-not : {X : Type 0} (r : Option X) → option_map_or (λ _. true) r false ≡ is_some r
there-or-not None = refl
there-or-not (Some x) = refl

module _ (models : List ModelInfo) (tables : Tables) where
  -- of an edit the rows of other keys
  pub other-rows : (one : Edit) (q : RowKey) → q ≢ edited_row one → finite.get (edited models tables one).rows q ≡ finite.get tables.rows q
  other-rows (edit.Make model id values) q not = by (model_at models model)
    where
      by : (info : Option ModelInfo) → finite.get (option_map_or (λ info. with_row models model id (row_of info values) tables) info tables).rows q ≡ finite.get tables.rows q
      by None = refl
      by (Some info) = insert-other tables.rows (key_of model id) (row_of info values) q not
  other-rows (edit.Set cell v) q not = by (row_at tables cell.model cell.id)
    where
      key : RowKey
      key = key_of cell.model cell.id

      by : (row : Option PlainRow) → finite.get (option_map_or (λ row. record tables { rows = finite.insert tables.rows key (finite.insert row cell.field.0 v) }) row tables).rows q ≡ finite.get tables.rows q
      by None = refl
      by (Some row) = insert-other tables.rows key (finite.insert row cell.field.0 v) q not
  other-rows (edit.Gone model id) q not = remove-other tables.rows (key_of model id) q not

  -- a row that is made
  pub row-made : (model : ModelNo) (id : RecId) (values : List (FieldNo × Value)) (info : ModelInfo) → model_at models model ≡ Some info
      → row_at (edited models tables (edit.Make model id values)) model id ≡ Some (row_of info values)
  row-made model id values info at =
      ap (λ found. row_at (option_map_or (λ info. with_row models model id (row_of info values) tables) found tables) model id) at ∙ insert-same tables.rows (key_of model id) (row_of info values)

  -- a row of which a cell is set
  pub row-set : (cell : Cell) (v : Value) → row_at (edited models tables (edit.Set cell v)) cell.model cell.id ≡ option_map (λ row. finite.insert row cell.field.0 v) (row_at tables cell.model cell.id)
  row-set cell v = by (row_at tables cell.model cell.id) refl
    where
      key : RowKey
      key = key_of cell.model cell.id

      new : PlainRow → PlainRow
      new row = finite.insert row cell.field.0 v

      by : (r : Option PlainRow) → row_at tables cell.model cell.id ≡ r
          → row_at (option_map_or (λ row. record tables { rows = finite.insert tables.rows key (new row) }) (row_at tables cell.model cell.id) tables) cell.model cell.id ≡ option_map new (row_at tables cell.model cell.id)
      by None none =
          ap (λ r. row_at (option_map_or (λ row. record tables { rows = finite.insert tables.rows key (new row) }) r tables) cell.model cell.id) none ∙ none ∙ sym (ap (option_map new) none)
      by (Some row) there =
          ap (λ r. row_at (option_map_or (λ row. record tables { rows = finite.insert tables.rows key (new row) }) r tables) cell.model cell.id) there
          ∙ insert-same tables.rows key (new row) ∙ sym (ap (option_map new) there)

  -- a row that goes
  pub row-gone : (model : ModelNo) (id : RecId) → row_at (edited models tables (edit.Gone model id)) model id ≡ None
  row-gone model id = remove-same tables.rows (key_of model id)

  -- the ids of the edit's model
  pub ids-after : (one : Edit) → ids_in (edited models tables one) (edited_row one).model ≡ with_id_if (has_row (edited models tables one) (edited_row one)) (edited_row one).id (ids_in tables (edited_row one).model)
  ids-after one =
      let key = edited_row one in
      let new = edited models tables one in
      ap (map its) (sym (all-kept (rows_in new key.model))) ∙ one-changes key.model (λ _. true) tables.rows new.rows key.id (other-rows one)
      ∙ (λ i. with_id_if (there-or-not (row_at new key.model key.id) i) key.id (map its (all-kept (rows_in tables key.model) i)))
    where
      its : RecId × PlainRow → RecId
      its entry = entry.0

  -- and of those whose field names a row
  pub naming-after : (one : Edit) (field : FieldNo) (id : RecId)
      → naming (edited models tables one) (edited_row one).model field id ≡ with_id_if (row_names (edited models tables one) (edited_row one) field id) (edited_row one).id (naming tables (edited_row one).model field id)
  naming-after one field id = one-changes (edited_row one).model (λ entry. names id (kept_in entry.1 field)) tables.rows (edited models tables one).rows (edited_row one).id (other-rows one)

  -- the rows of other models
  pub other-models : (one : Edit) (model : ModelNo) → model ≢ (edited_row one).model → rows_in (edited models tables one) model ≡ rows_in tables model
  other-models one model not =
      ap (map (λ entry. (entry.0.id, entry.1))) (same-where rows_total exact_rows tables.rows (edited models tables one).rows (edited_row one) (other-rows one) (λ q. q.model.0 == model.0) (by ((edited_row one).model.0 == model.0) refl))
    where
      by : (b : Bool) → ((edited_row one).model.0 == model.0) ≡ b → b ≡ false
      by true same = absurd (not (ap (λ n. record { 0 = n }) (sym (eqb-true (edited_row one).model.0 model.0 same))))
      by false same = refl
