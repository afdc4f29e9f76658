-- What the edits of a deletion make of tables: those in which the rows are gone.
use Rattle.std.proofs.Common.{◌≡◌, ◌⊎◌, ◌==◌, ◌&&◌, inl, inr, Bool, true, false, cond, not, List, [], ◌∷◌, map, filter, Option, Some, None, option_map, refl, sym, ap, subst, ◌∙◌, eq-eqb}
use Rattle.std.specs.Prelude.{◌||◌, Contains, IsSome, IsSomeAnd, is_some, option_and_then, unwrap_or}
use Rattle.std.specs.List.{list_any}
use Rattle.std.specs.Option.{option_map_or}
use Rattle.std.specs.Ordering.{eq_by_cmp, is_eq, nat_cmp}
use Rattle.std.specs.Cmp.{nat_cmp_total, tied_itself}
use Rattle.std.specs.BTreeSet as sorted
use Rattle.std.specs.FinMap as finite
use Rattle.std.proofs.lemmas.Map.Lookups.{exact_unsigned}
use Rattle.std.proofs.lemmas.Map.Views.{tells_apart}
use Rattle.ob_base.proofs.CallerLemmas.{cell_order_total}
use Rattle.ob_base.specs.BrokenOrder.{cell_order}
use Rattle.ob_base.specs.declared.id.Cell.{Cell}
use Rattle.ob_base.specs.declared.id.ModelNo.{ModelNo}
use Rattle.ob_base.specs.declared.id.RecId.{RecId}
use Rattle.ob_base.specs.declared.id.RowKey.{RowKey}
use Rattle.ob_base.specs.declared.value.Value.{Value}
use Rattle.ob_base.specs.declared.value.Value.TheVariants as value
use Rattle.ob_unlink.specs.Deletion.{AreLeft, NamesRow, is_unset, leads_to_gone, left_at, left_of, row_of_cell}
use Rattle.ob_unlink.specs.DeletionSteps.{Covers, deletion_edits, gone_edits, has_cell, left_edit, staying}
use Rattle.ob_rows.specs.RowSets.{has_key}
use Rattle.ob_rows.proofs.CallerLemmas.{after-then, both_ways, contains-filter, contains-kept, either_way, fails, row-among, row-apart, row-itself, row-of-kept, same_row, set-next, set-other, set-own, set-there}
use Rattle.ob_unlink.proofs.TakenRows.{cell-among, cells_exact}
use Rattle.ob_schema.proofs.CallerLemmas.{contains-cases, contains-first, contains-later, contains-none}
use Rattle.ob_schema.specs.Built.{numbered}
use Rattle.ob_schema.specs.Fields.{is_plain_kept}
use Rattle.ob_schema.specs.Models.{IsRegistry, field_at, fields_of, model_at}
use Rattle.ob_schema.specs.Plain.{names}
use Rattle.ob_schema.specs.Tables.{Fits, IsRowOf, PlainRow, Tables, key_of, kept_at, row_at}
use Rattle.ob_schema.specs.declared.info.FieldInfo.{FieldInfo}
use Rattle.ob_schema.specs.declared.info.ModelInfo.{ModelInfo}
use Rattle.ob_tables.specs.After.{after, edited}
use Rattle.ob_tables.specs.Changes.{has_row}
use Rattle.ob_tables.specs.declared.edit.Edit.{Edit}
use Rattle.ob_tables.specs.declared.edit.Edit.TheVariants as edit
use Rattle.ob_tables.proofs.CallerLemmas.{is_there, keeps, keeps-fields, known_if, row-has, rows_total, tell_and, told_and}

-- ---- one edit

-- cells are one or two
same_cell : (a b : Cell) → (a ≡ b) ⊎ (a ≡ b → ⊥)
same_cell a b = by (eq_by_cmp cell_order a b) refl
  where
    by : (t : Bool) → eq_by_cmp cell_order a b ≡ t → (a ≡ b) ⊎ (a ≡ b → ⊥)
    by true e = inl (tells_apart cells_exact a b e)
    by false e = inr (λ same. both_ways (eq_by_cmp cell_order a b) (ap (λ (c : Cell). eq_by_cmp cell_order a c) (sym same) ∙ ap is_eq (tied_itself cell_order_total a)) e)

module _ (models : List ModelInfo) (tables : Tables) where
  module _ (cell : Cell) (v : Value) where
    abbrev key : RowKey
    key = row_of_cell cell

    abbrev new_row : PlainRow → PlainRow
    new_row row = finite.insert row cell.field.0 v

    abbrev set : Tables
    set = edited models tables (edit.Set cell v)

    -- the cell has the value
    pub set-value : IsSome (row_at tables cell.model cell.id) → kept_at set cell ≡ Some v
    set-value there =
        let row = is_there (row_at tables cell.model cell.id) there in
        ap (option_and_then (λ (r : PlainRow). finite.get r cell.field.0)) (set-own models tables cell v ∙ ap (option_map new_row) row.1)
        ∙ finite.get-insert nat_cmp_total row.0 cell.field.0 v cell.field.0 ∙ ap (λ (b : Bool). cond b (Some v) (finite.get row.0 cell.field.0)) (ap is_eq (tied_itself nat_cmp_total cell.field.0))

    -- another cell has what it had
    pub set-elsewhere : (c : Cell) → (c ≡ cell → ⊥) → kept_at set c ≡ kept_at tables c
    set-elsewhere c not = elim (same_row (row_of_cell c) key) [
      | inr apart ↦ ap (option_and_then (λ (r : PlainRow). finite.get r c.field.0)) (set-other models tables cell v (row_of_cell c) apart)
      | inl same ↦ (let at : finite.get set.rows (row_of_cell c) ≡ option_map new_row (finite.get tables.rows (row_of_cell c)) =
          ap (λ (r : RowKey). finite.get set.rows r) same ∙ set-own models tables cell v ∙ ap (λ (r : RowKey). option_map new_row (finite.get tables.rows r)) (sym same) in
          ap (option_and_then (λ (r : PlainRow). finite.get r c.field.0)) at ∙ mapped same (finite.get tables.rows (row_of_cell c)))
    ]
      where
        field_apart : row_of_cell c ≡ key → eq_by_cmp nat_cmp c.field.0 cell.field.0 ≡ false
        field_apart same = fails (eq_by_cmp nat_cmp c.field.0 cell.field.0) (λ e.
            let field = tells_apart exact_unsigned c.field.0 cell.field.0 e in
            not (λ i. record { model = (same i).model; id = (same i).id; field = record { 0 = field i } }))

        mapped : row_of_cell c ≡ key → (o : Option PlainRow) → option_and_then (λ r. finite.get r c.field.0) (option_map new_row o) ≡ option_and_then (λ r. finite.get r c.field.0) o
        mapped same None = refl
        mapped same (Some row) = finite.get-insert nat_cmp_total row cell.field.0 v c.field.0 ∙ ap (λ (b : Bool). cond b (Some v) (finite.get row c.field.0)) (field_apart same)

  module _ (row : RowKey) where
    abbrev without : Tables
    without = edited models tables (edit.Gone row.model row.id)

    -- a row goes
    pub gone-own : finite.get without.rows row ≡ None
    gone-own = finite.get-remove rows_total tables.rows row row ∙ ap (λ (b : Bool). cond b None (finite.get tables.rows row)) (row-itself row)

    -- another stays
    pub gone-other : (q : RowKey) → (q ≡ row → ⊥) → finite.get without.rows q ≡ finite.get tables.rows q
    gone-other q not = finite.get-remove rows_total tables.rows row q ∙ ap (λ (b : Bool). cond b None (finite.get tables.rows q)) (row-apart q row not)

-- ---- edits one after another

module _ (models : List ModelInfo) where
  module _ (f : Cell → Value) where
    abbrev pub sets : List Cell → List Edit
    sets cells = map (λ cell. edit.Set cell (f cell)) cells

    sets-there : (cells : List Cell) (tables : Tables) (q : RowKey) → has_row (after models tables (sets cells)) q ≡ has_row tables q
    sets-there [] tables q = refl
    sets-there (x ∷ xs) tables q = sets-there xs (edited models tables (edit.Set x (f x))) q ∙ set-there models tables x (f x) q

    sets-next : (cells : List Cell) (tables : Tables) → (after models tables (sets cells)).next_ids ≡ tables.next_ids
    sets-next [] tables = refl
    sets-next (x ∷ xs) tables = sets-next xs (edited models tables (edit.Set x (f x))) ∙ set-next models tables x (f x)

    -- a cell that isn't set has what it had
    sets-other : (cells : List Cell) (tables : Tables) (c : Cell) → (Contains cells c → ⊥) → kept_at (after models tables (sets cells)) c ≡ kept_at tables c
    sets-other [] tables c not = refl
    sets-other (x ∷ xs) tables c not =
        sets-other xs (edited models tables (edit.Set x (f x))) c (λ among. not (contains-later x xs c among))
        ∙ set-elsewhere models tables x (f x) c (λ same. not (subst (λ (z : Cell). Contains (x ∷ xs) z) (sym same) (contains-first x xs)))

    -- one that has its value keeps it
    sets-kept : (cells : List Cell) (tables : Tables) (c : Cell) → IsSome (row_at tables c.model c.id) → kept_at tables c ≡ Some (f c) → kept_at (after models tables (sets cells)) c ≡ Some (f c)
    sets-kept [] tables c there is = is
    sets-kept (x ∷ xs) tables c there is =
        sets-kept xs (edited models tables (edit.Set x (f x))) c (set-there models tables x (f x) (row_of_cell c) ∙ there) (elim (same_cell c x) [
          | inl same ↦ subst (λ (z : Cell). kept_at (edited models tables (edit.Set z (f z))) c ≡ Some (f c)) same (set-value models tables c (f c) there)
          | inr apart ↦ set-elsewhere models tables x (f x) c apart ∙ is
        ])

    -- one that is set has it
    sets-value : (cells : List Cell) (tables : Tables) (c : Cell) → IsSome (row_at tables c.model c.id) → Contains cells c → kept_at (after models tables (sets cells)) c ≡ Some (f c)
    sets-value [] tables c there among = absurd (contains-none c among)
    sets-value (x ∷ xs) tables c there among = elim (contains-cases x xs c among) [
      | inl same ↦ sets-kept xs (edited models tables (edit.Set x (f x))) c (set-there models tables x (f x) (row_of_cell c) ∙ there)
          (subst (λ (z : Cell). kept_at (edited models tables (edit.Set z (f z))) c ≡ Some (f c)) (sym same) (set-value models tables c (f c) there))
      | inr later ↦ sets-value xs (edited models tables (edit.Set x (f x))) c (set-there models tables x (f x) (row_of_cell c) ∙ there) later
    ]

  gone-next : (rows : List RowKey) (tables : Tables) → (after models tables (gone_edits rows)).next_ids ≡ tables.next_ids
  gone-next [] tables = refl
  gone-next (x ∷ xs) tables = gone-next xs (edited models tables (edit.Gone x.model x.id))

  -- a row that doesn't go stays
  gone-stays : (rows : List RowKey) (tables : Tables) (q : RowKey) → (Contains rows q → ⊥) → finite.get (after models tables (gone_edits rows)).rows q ≡ finite.get tables.rows q
  gone-stays [] tables q not = refl
  gone-stays (x ∷ xs) tables q not =
      gone-stays xs (edited models tables (edit.Gone x.model x.id)) q (λ among. not (contains-later x xs q among))
      ∙ gone-other models tables x q (λ same. not (subst (λ (z : RowKey). Contains (x ∷ xs) z) (sym same) (contains-first x xs)))

  -- none comes
  gone-none : (rows : List RowKey) (tables : Tables) (q : RowKey) → finite.get tables.rows q ≡ None → finite.get (after models tables (gone_edits rows)).rows q ≡ None
  gone-none [] tables q none = none
  gone-none (x ∷ xs) tables q none = gone-none xs (edited models tables (edit.Gone x.model x.id)) q (elim (same_row q x) [
    | inl same ↦ subst (λ (z : RowKey). finite.get (edited models tables (edit.Gone x.model x.id)).rows z ≡ None) (sym same) (gone-own models tables x)
    | inr apart ↦ gone-other models tables x q apart ∙ none
  ])

  -- one that goes isn't there
  gone-goes : (rows : List RowKey) (tables : Tables) (q : RowKey) → Contains rows q → finite.get (after models tables (gone_edits rows)).rows q ≡ None
  gone-goes [] tables q among = absurd (contains-none q among)
  gone-goes (x ∷ xs) tables q among = elim (contains-cases x xs q among) [
    | inl same ↦ gone-none xs (edited models tables (edit.Gone x.model x.id)) q
        (subst (λ (z : RowKey). finite.get (edited models tables (edit.Gone x.model x.id)).rows z ≡ None) same (gone-own models tables x))
    | inr later ↦ gone-goes xs (edited models tables (edit.Gone x.model x.id)) q later
  ]

-- ---- what is left of values

-- a test that keeps each keeps all
all-kept : (p : RecId → Bool) (ids : List RecId) → ((id : RecId) → Contains ids id → p id ≡ true) → filter p ids ≡ ids
all-kept p [] each = refl
all-kept p (x ∷ ids) each =
    ap (λ (b : Bool). cond b (x ∷ filter p ids) (filter p ids)) (each x (contains-first x ids)) ∙ ap (λ (l : List RecId). x ∷ l) (all-kept p ids (λ id among. each id (contains-later x ids id among)))

-- an id among ids is found
any-of : (id : RecId) (ids : List RecId) → Contains ids id → list_any (λ other. other.0 == id.0) ids ≡ true
any-of id [] c = absurd (contains-none id c)
any-of id (x ∷ ids) c = elim (contains-cases x ids id c) [
  | inl is ↦ either (x.0 == id.0) (list_any (λ other. other.0 == id.0) ids) (inl (eq-eqb x.0 id.0 (ap (λ (i : RecId). i.0) is)))
  | inr later ↦ either (x.0 == id.0) (list_any (λ other. other.0 == id.0) ids) (inr (any-of id ids later))
]
  where
    either : (a b : Bool) → (a ≡ true) ⊎ (b ≡ true) → (a || b) ≡ true
    either true b h = refl
    either false b (inl h) = both_ways false h refl
    either false b (inr h) = h

module _ (models : List ModelInfo) (tables : Tables) (registry : IsRegistry models) (fits : Fits models tables) where
  -- the field of a value that is kept is plain and kept
  kept-plain : (cell : Cell) (v : Value) (info : FieldInfo) → kept_at tables cell ≡ Some v → field_at models cell.model cell.field ≡ Some info → is_plain_kept info ≡ true
  kept-plain cell v info kept at = by (row_at tables cell.model cell.id) refl kept
    where
      here : (row : PlainRow) → row_at tables cell.model cell.id ≡ Some row → finite.get row cell.field.0 ≡ Some v → is_plain_kept info ≡ true
      here row there has =
          let m = told_and (model_at models cell.model) (λ (i : ModelInfo). IsRowOf i row)
          (known_if (row_at tables cell.model cell.id) row (λ r. IsSomeAnd (model_at models cell.model) (λ i. IsRowOf i r)) there (fits.rows cell.model cell.id)) in
          let listed : numbered (fields_of m.0) cell.field.0 ≡ Some info = sym (ap (option_and_then (λ (i : ModelInfo). numbered (fields_of i) cell.field.0)) m.1) ∙ at in
          sym (ap keeps listed) ∙ keeps-fields m.0 (registry.each cell.model m.0 m.1).conditions cell.field.0 ∙ sym (row-has m.0 row m.2 cell.field.0) ∙ ap is_some has

      by : (o : Option PlainRow) → row_at tables cell.model cell.id ≡ o → option_and_then (λ row. finite.get row cell.field.0) o ≡ Some v → is_plain_kept info ≡ true
      by None there is = absurd cc
      by (Some row) there is = here row there is

  -- a value that names no row that goes is left as it is
  module _ (gone : RowKey → Bool) (cell : Cell) (v : Value) (kept : kept_at tables cell ≡ Some v) (none : (row : RowKey) → gone row ≡ true → NamesRow models tables cell row → ⊥) where
    module _ (info : FieldInfo) (at : field_at models cell.model cell.field ≡ Some info) where
      -- a row that the value names stays
      stays : (id : RecId) → names id v ≡ true → leads_to_gone gone info id ≡ false
      stays id named = by info.relation refl
        where
          by : (o : Option ModelNo) → info.relation ≡ o → option_map_or (λ model. gone (key_of model id)) o false ≡ false
          by None leads = refl
          by (Some model) leads = fails (gone (key_of model id)) (λ goes. none (key_of model id) goes (record {
            leads = tell_and (field_at models cell.model cell.field) info (λ f. (is_plain_kept f ≡ true) × (f.relation ≡ Some model)) at (kept-plain cell v info kept at, leads);
            named = tell_and (kept_at tables cell) v (λ w. names id w ≡ true) kept named;
          }))

    left-value : (info : FieldInfo) → field_at models cell.model cell.field ≡ Some info → (w : Value) → w ≡ v → left_of (leads_to_gone gone info) info.ondelete w ≡ w
    left-value info at (value.Ref id) is =
        let named : names id v ≡ true = sym (ap (names id) is) ∙ eq-eqb id.0 id.0 refl in
        ap (λ (b : Bool). cond (b && is_unset info.ondelete) value.Nil (value.Ref id)) (stays info at id named)
    left-value info at (value.Refs ids) is =
        ap (λ (l : List RecId). value.Refs l) (all-kept (λ id. not (leads_to_gone gone info id)) ids (λ id among. ap not (stays info at id (sym (ap (names id) is) ∙ any-of id ids among))))
    left-value info at value.Nil is = refl
    left-value info at (value.Bool b) is = refl
    left-value info at (value.Int n) is = refl
    left-value info at (value.Word text) is = refl
    left-value info at (value.Day n) is = refl
    left-value info at (value.Moment n) is = refl

    pub left-same : left_at models gone cell v ≡ v
    left-same = by (field_at models cell.model cell.field) refl
      where
        by : (o : Option FieldInfo) → field_at models cell.model cell.field ≡ o → option_map_or (λ field. left_of (leads_to_gone gone field) field.ondelete v) o v ≡ v
        by None at = refl
        by (Some info) at = left-value info at v refl

-- ---- the whole

and_false : (b : Bool) → (b && false) ≡ false
and_false true = refl
and_false false = refl

and_true : (b : Bool) → (b && true) ≡ b
and_true true = refl
and_true false = refl

module _ (models : List ModelInfo) (tables : Tables) (registry : IsRegistry models) (fits : Fits models tables) (rows : sorted.BTreeSet RowKey) (cells : sorted.BTreeSet Cell) (covers : Covers models tables rows cells) where
  abbrev gone : RowKey → Bool
  gone row = has_key rows row

  -- what a cell has once the rows are gone, where it has anything
  abbrev value_after : Cell → Value
  value_after cell = unwrap_or (option_map (left_at models gone cell) (kept_at tables cell)) value.Nil

  abbrev left_cells : List Cell
  left_cells = staying gone cells.keys

  abbrev middle : Tables
  middle = after models tables (map (left_edit models gone tables) left_cells)

  abbrev last : Tables
  last = after models middle (gone_edits rows.keys)

  split : after models tables (deletion_edits models tables rows cells) ≡ last
  split = after-then models tables (map (left_edit models gone tables) left_cells) (gone_edits rows.keys)

  there : (row : RowKey) → has_row last row ≡ (has_row tables row && not (gone row))
  there row = elim (either_way (gone row)) [
    | inl goes ↦ ap is_some (gone-goes models rows.keys middle row ((row-among rows row).0 goes)) ∙ sym (ap (λ (b : Bool). has_row tables row && not b) goes ∙ and_false (has_row tables row))
    | inr stays ↦ ap is_some (gone-stays models rows.keys middle row (λ among. both_ways (gone row) ((row-among rows row).1 among) stays))
        ∙ sets-there models value_after left_cells tables row ∙ sym (ap (λ (b : Bool). has_row tables row && not b) stays ∙ and_true (has_row tables row))
  ]

  -- a cell of a row that stays
  module _ (cell : Cell) (stays : gone (row_of_cell cell) ≡ false) where
    -- it isn't lost with the rows
    in_middle : kept_at last cell ≡ kept_at middle cell
    in_middle = ap (option_and_then (λ (row : PlainRow). finite.get row cell.field.0))
        (gone-stays models rows.keys middle (row_of_cell cell) (λ among. both_ways (gone (row_of_cell cell)) ((row-among rows (row_of_cell cell)).1 among) stays))

    -- one that names a row that goes
    set_one : has_cell cells cell ≡ true → kept_at middle cell ≡ option_map (left_at models gone cell) (kept_at tables cell)
    set_one has =
        let one = (covers.name cell).0 has in
        let kept = told_and (kept_at tables cell) (λ v. names one.0.id v ≡ true) one.2.named in
        let listed = contains-kept (λ c. not (gone (row_of_cell c))) cells.keys cell ((cell-among cells cell).0 has) (ap not stays) in
        sets-value models value_after left_cells tables cell (row-of-kept tables cell kept.0 kept.1) listed
        ∙ ap (λ (o : Option Value). Some (unwrap_or (option_map (left_at models gone cell) o) value.Nil)) kept.1 ∙ sym (ap (option_map (left_at models gone cell)) kept.1)

    -- one that names none
    kept_one : has_cell cells cell ≡ false → kept_at middle cell ≡ option_map (left_at models gone cell) (kept_at tables cell)
    kept_one has_not =
        sets-other models value_after left_cells tables cell
        (λ among. both_ways (has_cell cells cell) ((cell-among cells cell).1 (contains-filter (λ c. not (gone (row_of_cell c))) cells.keys cell among).0) has_not) ∙ by (kept_at tables cell) refl
      where
        by : (o : Option Value) → kept_at tables cell ≡ o → o ≡ option_map (left_at models gone cell) o
        by None is = refl
        by (Some v) is = ap (λ (w : Value). Some w) (sym (left-same models tables registry fits gone cell v is (λ row goes named. both_ways (has_cell cells cell) ((covers.name cell).1 (row, goes, named)) has_not)))

    values : kept_at last cell ≡ option_map (left_at models gone cell) (kept_at tables cell)
    values = in_middle ∙ elim (either_way (has_cell cells cell)) [ inl has ↦ set_one has | inr has_not ↦ kept_one has_not ]

  -- the rows are gone
  pub emptied : AreLeft models gone tables (after models tables (deletion_edits models tables rows cells))
  emptied = subst (AreLeft models gone tables) (sym split) (record {
    rows = there;
    values = values;
    next_ids = gone-next models rows.keys middle ∙ sets-next models value_after left_cells tables;
  })
