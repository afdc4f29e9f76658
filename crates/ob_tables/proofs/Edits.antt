-- What the maps of tables show once one of them is changed, and that the tables stay fit.
use Rattle.std.proofs.Common.{◌≡◌, ◌<◌, ◌≤◌, ◌+◌, ◌++◌, ℕ, cond, List, [], ◌∷◌, map, max, Some, None, option_map, unwrap_or, is_some, IsSome, refl, sym, ap, subst, ◌∙◌, arith}
use Rattle.std.specs.Option.{IfSome, option_map_or}
use Rattle.std.specs.List.{All}
use Rattle.std.specs.Ordering.{nat_cmp, eq_by_cmp}
use Rattle.std.proofs.lemmas.Grind.{common_steps}
use Rattle.std.specs.FinMap as finite
use Rattle.std.specs.BTreeMap as tree
use Rattle.std.specs.BTreeMap.{BTreeMap}
use Rattle.ob_base.specs.declared.id.Cell.{Cell}
use Rattle.ob_base.specs.declared.id.FieldNo.{FieldNo}
use Rattle.ob_base.specs.declared.id.ModelNo.{ModelNo}
use Rattle.ob_base.specs.declared.id.RecId.{RecId}
use Rattle.ob_base.specs.declared.value.Value.{Value}
use Rattle.ob_base.specs.declared.id.RowKey.{RowKey}
use Rattle.ob_base.specs.Ids.{row_key_cmp}
use Rattle.ob_schema.specs.Models.{HasModel, IsCondition, model_at}
use Rattle.ob_schema.specs.declared.info.ModelInfo.{ModelInfo}
use Rattle.ob_tables.specs.After.{after, edited, row_of, with_row}
use Rattle.ob_tables.specs.Fitting.{AreFitValues, IsFitValueAt}
use Rattle.ob_tables.specs.Rooms.{shown_next_ids, shown_row, shown_rows, shown_tables}
use Rattle.ob_schema.specs.Tables.{Fits, Tables, key_of, next_of, row_at}
use Rattle.ob_tables.specs.declared.edit.Edit.{Edit}
use Rattle.ob_tables.specs.declared.edit.Edit.TheVariants as edit
use Rattle.ob_tables.proofs.Shown.{get-shown_rows, itself, shown_next-set, shown_next-there, shown_row-set, shown_rows-gone, shown_rows-set}
use Rattle.ob_tables.proofs.FitTables.{IsFitRow, fits-insert, fits-next, fits-remove, made-fit, rows-fit, set-fit, with_rows}

module _ (models : List ModelInfo) (rows : BTreeMap RowKey (BTreeMap ℕ Value)) (next_ids : BTreeMap ℕ ℕ) where
  abbrev tables : Tables
  tables = shown_tables models rows next_ids

  -- another next id of a model
  pub shows-next : (others : BTreeMap ℕ ℕ) (model : ModelNo) (n : ℕ) → HasModel models model → ((q : ℕ) → tree.get nat_cmp others q ≡ cond (eq_by_cmp nat_cmp model.0 q) (Some n) (tree.get nat_cmp next_ids q))
      → shown_tables models rows others ≡ record { rows = tables.rows; next_ids = finite.insert tables.next_ids model.0 n }
  shows-next others model n has h = ap (λ ids. record { rows = shown_rows rows; next_ids = ids }) (shown_next-set models next_ids others model n has h)

  pub fits-raised : Fits models tables → (others : BTreeMap ℕ ℕ) (model : ModelNo) (n : ℕ) → HasModel models model
      → ((q : ℕ) → tree.get nat_cmp others q ≡ cond (eq_by_cmp nat_cmp model.0 q) (Some n) (tree.get nat_cmp next_ids q))
      → 1 ≤ n → ((id : RecId) → IsSome (row_at tables model id) → id.0 < n) → Fits models (shown_tables models rows others)
  fits-raised fits others model n has h low above = subst (Fits models) (sym (shows-next others model n has h)) (fits-next models tables fits model n has low above)

  -- the same entries
  pub shows-same : (others : BTreeMap RowKey (BTreeMap ℕ Value)) → others.entries ≡ rows.entries → shown_tables models others next_ids ≡ tables
  shows-same others same = ap (λ es. record { rows = finite.from_entries {R = row_key_cmp} (map (λ entry. (entry.0, shown_row entry.1)) es); next_ids = shown_next_ids models next_ids }) same

  -- another row at a key
  pub shows-row : (others : BTreeMap RowKey (BTreeMap ℕ Value)) (key : RowKey) (row : BTreeMap ℕ Value)
      → ((q : RowKey) → tree.get row_key_cmp others q ≡ cond (eq_by_cmp row_key_cmp key q) (Some row) (tree.get row_key_cmp rows q))
      → shown_tables models others next_ids ≡ with_rows tables (finite.insert tables.rows key (shown_row row))
  shows-row others key row h = ap (λ r. record { rows = r; next_ids = shown_next_ids models next_ids }) (shown_rows-set rows others key row h)

  pub fits-with : Fits models tables → (others : BTreeMap RowKey (BTreeMap ℕ Value)) (key : RowKey) (row : BTreeMap ℕ Value)
      → ((q : RowKey) → tree.get row_key_cmp others q ≡ cond (eq_by_cmp row_key_cmp key q) (Some row) (tree.get row_key_cmp rows q)) → IsFitRow models tables key (shown_row row)
      → Fits models (shown_tables models others next_ids)
  fits-with fits others key row h fit = subst (Fits models) (sym (shows-row others key row h)) (fits-insert models tables fits key (shown_row row) fit)

  -- no row at a key
  pub shows-gone : (others : BTreeMap RowKey (BTreeMap ℕ Value)) (key : RowKey) → ((q : RowKey) → tree.get row_key_cmp others q ≡ cond (eq_by_cmp row_key_cmp key q) None (tree.get row_key_cmp rows q))
      → shown_tables models others next_ids ≡ with_rows tables (finite.remove tables.rows key)
  shows-gone others key h = ap (λ r. record { rows = r; next_ids = shown_next_ids models next_ids }) (shown_rows-gone rows others key h)

  pub fits-gone : Fits models tables → (others : BTreeMap RowKey (BTreeMap ℕ Value)) (key : RowKey) → ((q : RowKey) → tree.get row_key_cmp others q ≡ cond (eq_by_cmp row_key_cmp key q) None (tree.get row_key_cmp rows q))
      → Fits models (shown_tables models others next_ids)
  fits-gone fits others key h = subst (Fits models) (sym (shows-gone others key h)) (fits-remove models tables fits key)

  -- a row that is there is shown, and may stand there
  pub shown-there : (key : RowKey) (row : BTreeMap ℕ Value) → tree.get row_key_cmp rows key ≡ Some row → finite.get tables.rows key ≡ Some (shown_row row)
  shown-there key row is = get-shown_rows rows key ∙ ap (option_map shown_row) is

  pub fit-there : Fits models tables → (key : RowKey) (row : BTreeMap ℕ Value) → tree.get row_key_cmp rows key ≡ Some row → IsFitRow models tables key (shown_row row)
  fit-there fits key row is = subst (λ w. IfSome w (IsFitRow models tables key)) (shown-there key row is) (rows-fit models tables fits key)

  -- the next id of a model that is there
  pub next-there : (model : ModelNo) (n : ℕ) → HasModel models model → tree.get nat_cmp next_ids model.0 ≡ Some n → next_of tables model ≡ n
  next-there model n has is = ap (λ w. unwrap_or w 1) (shown_next-there models next_ids model has) ∙ ap (λ w. unwrap_or w 1) is

  -- the next id is raised above an id
  pub raises : Fits models tables → (ids : BTreeMap ℕ ℕ) (model : ModelNo) (id : RecId) (n : ℕ) (info : ModelInfo) → model_at models model ≡ Some info → n ≡ max (next_of tables model) (id.0 + 1)
      → ((q : ℕ) → tree.get nat_cmp ids q ≡ cond (eq_by_cmp nat_cmp model.0 q) (Some n) (tree.get nat_cmp next_ids q)) → Fits models (shown_tables models rows ids)
  raises fits ids model id n info at is set = fits-raised fits ids model n (ap is_some at) set (low (next_of tables model) (id.0 + 1) n is (fits.low model))
      (λ i there. high (next_of tables model) (id.0 + 1) n i.0 is (fits.above model i there))
    where
      low : (a b n : ℕ) → n ≡ max a b → 1 ≤ a → 1 ≤ n
      low a b n is h = grind (arith, common_steps)

      high : (a b n i : ℕ) → n ≡ max a b → i < a → i < n
      high a b n i is h = grind (arith, common_steps)

-- a row is made, after the next id is raised
pub makes : (models : List ModelInfo) (rows others : BTreeMap RowKey (BTreeMap ℕ Value)) (next_ids ids : BTreeMap ℕ ℕ) (model : ModelNo) (id : RecId) (n : ℕ)
    (info : ModelInfo) (values : List (FieldNo × Value)) (row : BTreeMap ℕ Value)
    → Fits models (shown_tables models rows next_ids) → model_at models model ≡ Some info → AreFitValues info values → n ≡ max (next_of (shown_tables models rows next_ids) model) (id.0 + 1)
    → shown_row row ≡ row_of info values
    → ((q : ℕ) → tree.get nat_cmp ids q ≡ cond (eq_by_cmp nat_cmp model.0 q) (Some n) (tree.get nat_cmp next_ids q))
    → ((q : RowKey) → tree.get row_key_cmp others q ≡ cond (eq_by_cmp row_key_cmp (key_of model id) q) (Some row) (tree.get row_key_cmp rows q))
    → (shown_tables models others ids ≡ edited models (shown_tables models rows next_ids) (edit.Make model id values)) × Fits models (shown_tables models others ids)
makes models rows others next_ids ids model id n info values row fits at fit is shape set_id set_row =
    let before = shown_tables models rows next_ids in
    let raised = shown_tables models rows ids in
    let key = key_of model id in
    let fits_raised : Fits models raised = raises models rows next_ids fits ids model id n info at is set_id in (
      shows-row models rows ids others key row set_row
          ∙ ap (λ r. with_rows raised (finite.insert before.rows key r)) shape
          ∙ ap (λ (t : Tables). with_rows t (finite.insert before.rows key (row_of info values))) (shows-next models rows next_ids ids model n (ap is_some at) set_id)
          ∙ ap (λ k. record { rows = finite.insert before.rows key (row_of info values); next_ids = finite.insert before.next_ids model.0 k }) is
          ∙ sym (ap (λ found. option_map_or (λ i. with_row models model id (row_of i values) before) found before) at),
      fits-with models rows ids fits_raised others key row set_row (subst (IsFitRow models raised key) (sym shape) (made-fit models raised key info values at fit
          (below (next_of before model) id.0 n (next_of raised model) is
          (next-there models rows ids model n (ap is_some at) (set_id model.0 ∙ ap (λ b. cond b (Some n) (tree.get nat_cmp next_ids model.0)) (itself model.0 model.0 refl)))))),
    )
  where
    below : (a b n m : ℕ) → n ≡ max a (b + 1) → m ≡ n → b < m
    below a b n m is same = grind (arith, common_steps)

-- a value is set in a row that is there
pub sets : (models : List ModelInfo) (rows others : BTreeMap RowKey (BTreeMap ℕ Value)) (next_ids : BTreeMap ℕ ℕ) (cell : Cell) (row new : BTreeMap ℕ Value) (v : Value) (info : ModelInfo)
    → Fits models (shown_tables models rows next_ids) → model_at models cell.model ≡ Some info → All IsCondition info.hidden → IsFitValueAt models cell v → tree.get row_key_cmp rows (key_of cell.model cell.id) ≡ Some row
    → ((q : ℕ) → tree.get nat_cmp new q ≡ cond (eq_by_cmp nat_cmp cell.field.0 q) (Some v) (tree.get nat_cmp row q))
    → ((q : RowKey) → tree.get row_key_cmp others q ≡ cond (eq_by_cmp row_key_cmp (key_of cell.model cell.id) q) (Some new) (tree.get row_key_cmp rows q))
    → (shown_tables models others next_ids ≡ edited models (shown_tables models rows next_ids) (edit.Set cell v)) × Fits models (shown_tables models others next_ids)
sets models rows others next_ids cell row new v info fits at conditions fit there set set_row =
    let before = shown_tables models rows next_ids in
    let key = key_of cell.model cell.id in
    let shape = shown_row-set row new cell.field.0 v set in (
      shows-row models rows next_ids others key new set_row
          ∙ ap (λ r. with_rows before (finite.insert before.rows key r)) shape
          ∙ sym (ap (λ found. option_map_or (λ r. with_rows before (finite.insert before.rows key (finite.insert r cell.field.0 v))) found before) (shown-there models rows next_ids key row there)),
      fits-with models rows next_ids fits others key new set_row (subst (IsFitRow models before key) (sym shape)
          (set-fit models before key info cell.field (shown_row row) v at conditions (fit-there models rows next_ids fits key row there) fit)),
    )

-- a row that is written back as it was
pub writes-same : (models : List ModelInfo) (rows others : BTreeMap RowKey (BTreeMap ℕ Value)) (next_ids : BTreeMap ℕ ℕ) (key : RowKey) (row new : BTreeMap ℕ Value)
    → Fits models (shown_tables models rows next_ids) → tree.get row_key_cmp rows key ≡ Some row → new.entries ≡ row.entries
    → ((q : RowKey) → tree.get row_key_cmp others q ≡ cond (eq_by_cmp row_key_cmp key q) (Some new) (tree.get row_key_cmp rows q)) → Fits models (shown_tables models others next_ids)
writes-same models rows others next_ids key row new fits there same set_row =
    fits-with models rows next_ids fits others key new set_row (subst (λ es. IsFitRow models (shown_tables models rows next_ids) key (finite.from_entries {R = nat_cmp} es)) (sym same) (fit-there models rows next_ids fits key row there))

-- nothing is set where no row is
pub none-there : (models : List ModelInfo) (rows others : BTreeMap RowKey (BTreeMap ℕ Value)) (next_ids : BTreeMap ℕ ℕ) (cell : Cell) (v : Value) → others ≡ rows → tree.get row_key_cmp rows (key_of cell.model cell.id) ≡ None
    → shown_tables models others next_ids ≡ edited models (shown_tables models rows next_ids) (edit.Set cell v)
none-there models rows others next_ids cell v same none =
    let before = shown_tables models rows next_ids in
    let key = key_of cell.model cell.id in
    ap (λ r. shown_tables models r next_ids) same
    ∙ sym (ap (λ found. option_map_or (λ r. with_rows before (finite.insert before.rows key (finite.insert r cell.field.0 v))) found before) (get-shown_rows rows key ∙ ap (option_map shown_row) none))

-- the last of edits is carried out after the others
pub after-last : (models : List ModelInfo) (t : Tables) (edits : List Edit) (one : Edit) → after models t (edits ++ one ∷ []) ≡ edited models (after models t edits) one
after-last models t [] one = refl
after-last models t (first ∷ edits) one = after-last models (edited models t first) edits one
