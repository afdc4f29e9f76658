-- Rows that modules bring, placed one behind another: how many edits each has, and what the edits make of tables that have no rows.
use Rattle.std.proofs.Common.{◌≡◌, ◌<◌, ◌≤◌, ◌+◌, ◌++◌, ◌∷◌, [], ℕ, suc, min, List, length, map, get_or, slice_index, take, sym, ap, ◌∙◌, inl, inr, length-append, arith}
use Rattle.std.proofs.lemmas.Bool.{cases_lt}
use Rattle.std.proofs.lemmas.List.{get_or_append_left, get_or_push, length_push, map_push, take-append-le, take_all, take_more}
use Rattle.std.proofs.lemmas.List.Sums.{fold_push}
use Rattle.ob_base.specs.declared.id.RecId.{RecId}
use Rattle.ob_install.proofs.BroughtIds.{numbers}
use Rattle.ob_orm.proofs.CallerLemmas.{so_far-more}
use Rattle.ob_install.specs.Install.{RowsSoFar, course_by, given_by, installed_by, with_row}
use Rattle.ob_install.specs.InstallSteps.{AreCounted, IsPlacedBehind, course_of, edits_of, made_by}
use Rattle.ob_orm.specs.NewRows.{Values, made_row}
use Rattle.ob_orm.specs.NewRowSteps.{HoldsNextIds, so_far}
use Rattle.ob_rows.specs.declared.author.Author.{Author}
use Rattle.ob_install.specs.declared.installing.placing.Placed.{Placed}
use Rattle.ob_schema.specs.Tables.{empty_tables}
use Rattle.ob_schema.specs.declared.info.ModelInfo.{ModelInfo}
use Rattle.ob_schema.specs.declared.preset.PresetRow.{PresetRow}
use Rattle.ob_tables.specs.After.{after}

-- how many rows are placed
abbrev pub count_of : Placed → ℕ
count_of placed = length placed.ids.items

-- no more than so many are the lesser
pub min-low : (n m : ℕ) → n ≤ m → min n m ≡ n
min-low n m le = omega arith

-- ---- one row more

module _ (old new : Placed) (behind : IsPlacedBehind old new) (counted : AreCounted old) where
  longer : count_of new ≡ suc (count_of old)
  longer = let e = ap length behind.ids in let p = length_push old.ids.items behind.id in omega (arith, e, p)

  -- the counts of the rows before it stay
  old-at : (n : ℕ) → n ≤ count_of old → slice_index new.counts.items n ≡ slice_index old.counts.items n
  old-at n low =
      ap (λ (l : List ℕ). slice_index l n) behind.counts ∙ get_or_append_left old.counts.items (length new.making.edits.items ∷ []) 0 n (omega (arith, counted.each))

  -- and its own is that of all edits
  last-at : slice_index new.counts.items (suc (count_of old)) ≡ length new.making.edits.items
  last-at = ap (λ (l : List ℕ). slice_index l (suc (count_of old))) behind.counts ∙ get_or_push old.counts.items (length new.making.edits.items) 0 (suc (count_of old)) counted.each

  more-edits : length old.making.edits.items ≤ length new.making.edits.items
  more-edits = let e = ap length behind.edits in let p = length-append old.making.edits.items behind.more in omega (arith, e, p)

  pub counted-behind : AreCounted new
  counted-behind = record {
    each = let e = ap length behind.counts in let p = length_push old.counts.items (length new.making.edits.items) in let l = longer in let o = counted.each in omega (arith, e, p, l, o);
    none = old-at 0 (omega arith) ∙ counted.none;
    rising = rising-to;
    all = ap (slice_index new.counts.items) longer ∙ last-at;
  } where
    below-all : (a : ℕ) → a ≤ count_of old → slice_index old.counts.items a ≤ length new.making.edits.items
    below-all a low = let up = counted.rising a (count_of old) low (omega arith) in let o = counted.all in let m = more-edits in omega (arith, up, o, m)

    rising-to : (a b : ℕ) → a ≤ b → b ≤ count_of new → slice_index new.counts.items a ≤ slice_index new.counts.items b
    rising-to a b le within = let l = longer in
        elim (cases_lt b (suc (count_of old))) [
          | inl low ↦
              let ea = old-at a (omega arith) in
              let eb = old-at b (omega arith) in
              let up = counted.rising a b le (omega arith) in
              omega (arith, ea, eb, up)
          | inr high ↦
              let is : b ≡ suc (count_of old) = omega arith in
              let eb = ap (slice_index new.counts.items) is ∙ last-at in
              elim (cases_lt a (suc (count_of old))) [
                | inl low ↦ let ea = old-at a (omega arith) in let up = below-all a (omega arith) in omega (arith, ea, eb, up)
                | inr same ↦ let ea = ap (slice_index new.counts.items) (let e : a ≡ suc (count_of old) = omega arith in e) ∙ last-at in omega (arith, ea, eb)
              ]
        ]

  -- the edits of the rows before it stay
  edits-before : (n : ℕ) → n ≤ count_of old → edits_of new n ≡ edits_of old n
  edits-before n low =
      let l = longer in
      let up = counted.rising n (count_of old) low (omega arith) in
      let o = counted.all in
      ap (λ (m : ℕ). take (slice_index new.counts.items m) new.making.edits.items) (min-low n (count_of new) (omega arith))
      ∙ ap (λ (m : ℕ). take m new.making.edits.items) (old-at n low)
      ∙ ap (take (slice_index old.counts.items n)) behind.edits
      ∙ take-append-le (slice_index old.counts.items n) old.making.edits.items behind.more (omega (arith, up, o))
      ∙ sym (ap (λ (m : ℕ). take (slice_index old.counts.items m) old.making.edits.items) (min-low n (count_of old) low))

-- all edits are those of all rows
pub edits-all : (placed : Placed) → AreCounted placed → edits_of placed (count_of placed) ≡ placed.making.edits.items
edits-all placed counted =
    ap (λ (m : ℕ). take (slice_index placed.counts.items m) placed.making.edits.items) (min-low (count_of placed) (count_of placed) (omega arith))
    ∙ ap (λ (m : ℕ). take m placed.making.edits.items) counted.all
    ∙ take_all (length placed.making.edits.items) placed.making.edits.items (omega arith)

-- ---- what they make

module _ (models : List ModelInfo) (by : Author) (old new : Placed) (row : PresetRow) (given : Values) (id : RecId) (are : given ≡ given_by (numbers old.ids.items) row.values) where
  -- a row is made of what it brings
  pub row-placed : new.making.edits.items ≡ old.making.edits.items ++ (made_row models by (so_far models (empty_tables models) old.making) row.model given).edits
      → id.0 ≡ (made_row models by (so_far models (empty_tables models) old.making) row.model given).id → new.ids.items ≡ old.ids.items ++ id ∷ []
      → made_by models new ≡ with_row models by (made_by models old) row
  row-placed edits own ids = λ i. record { tables = tables_are i; ids = ids_are i } where
    tables_are : so_far models (empty_tables models) new.making
        ≡ after models (so_far models (empty_tables models) old.making) (made_row models by (so_far models (empty_tables models) old.making) row.model (given_by (numbers old.ids.items) row.values)).edits
    tables_are =
        so_far-more models (empty_tables models) old.making new.making (made_row models by (so_far models (empty_tables models) old.making) row.model given).edits edits
        ∙ ap (λ (vs : Values). after models (so_far models (empty_tables models) old.making) (made_row models by (so_far models (empty_tables models) old.making) row.model vs).edits) are

    ids_are : numbers new.ids.items ≡ numbers old.ids.items ++ (made_row models by (so_far models (empty_tables models) old.making) row.model (given_by (numbers old.ids.items) row.values)).id ∷ []
    ids_are =
        ap numbers ids ∙ map_push (λ (i : RecId). i.0) old.ids.items id
        ∙ ap (λ (n : ℕ). numbers old.ids.items ++ n ∷ []) (own ∙ ap (λ (vs : Values). (made_row models by (so_far models (empty_tables models) old.making) row.model vs).id) are)

module _ (models : List ModelInfo) (by : Author) (rows : List PresetRow) where
  -- so many rows are made so
  pub record MadeSo (placed : Placed) : Type 0 where
    pub next : HoldsNextIds models (empty_tables models) placed.making
    pub all : made_by models placed ≡ installed_by models by (take (count_of placed) rows)
    pub tables : (n : ℕ) → n ≤ count_of placed → after models (empty_tables models) (edits_of placed n) ≡ (installed_by models by (take n rows)).tables

  -- one more
  pub made-more : (old new : Placed) (row : PresetRow) → IsPlacedBehind old new → AreCounted old → count_of old < length rows → get_or rows (count_of old) row ≡ row
      → (made_by models new ≡ with_row models by (made_by models old) row) × HoldsNextIds models (empty_tables models) new.making → MadeSo old → MadeSo new
  made-more old new row behind counted within is made so = record {
    next = made.1;
    all = made.0 ∙ ap (λ (at : RowsSoFar). with_row models by at row) so.all ∙ sym step;
    tables = tables-to;
  } where
    step : installed_by models by (take (count_of new) rows) ≡ with_row models by (installed_by models by (take (count_of old) rows)) row
    step =
        let l = longer old new behind counted in
        let more : count_of new ≡ count_of old + 1 = omega arith in
        ap (λ (n : ℕ). installed_by models by (take n rows)) more
        ∙ ap (installed_by models by) (take_more rows (count_of old) row within ∙ ap (λ (r : PresetRow). take (count_of old) rows ++ r ∷ []) is)
        ∙ fold_push (with_row models by) (record { tables = empty_tables models; ids = [] }) (take (count_of old) rows) row

    tables-to : (n : ℕ) → n ≤ count_of new → after models (empty_tables models) (edits_of new n) ≡ (installed_by models by (take n rows)).tables
    tables-to n low = let l = longer old new behind counted in
        elim (cases_lt n (suc (count_of old))) [
          | inl few ↦ ap (after models (empty_tables models)) (edits-before old new behind counted n (omega arith)) ∙ so.tables n (omega arith)
          | inr all ↦
              let last : n ≡ count_of new = omega arith in
              ap (λ (m : ℕ). after models (empty_tables models) (edits_of new m)) last
              ∙ ap (after models (empty_tables models)) (edits-all new (counted-behind old new behind counted))
              ∙ ap (λ (at : RowsSoFar). at.tables) (made.0 ∙ ap (λ (at : RowsSoFar). with_row models by at row) so.all ∙ sym step)
              ∙ sym (ap (λ (m : ℕ). (installed_by models by (take m rows)).tables) last)
        ]

  -- all rows
  pub whole-course : (placed : Placed) → placed.rows.now ≡ rows → count_of placed ≡ length rows → MadeSo placed → course_of models placed ≡ course_by models by rows
  whole-course placed same each so = λ i. record { rows = same i; ids = ids_are i; tables = λ n. tables_are n i } where
    ids_are : map (λ (id : RecId). id.0) placed.ids.items ≡ (installed_by models by rows).ids
    ids_are = ap (λ (at : RowsSoFar). at.ids) so.all ∙ ap (λ (rs : List PresetRow). (installed_by models by rs).ids) (take_all (count_of placed) rows (omega (arith, each)))

    tables_are : (n : ℕ) → after models (empty_tables models) (edits_of placed n) ≡ (installed_by models by (take n rows)).tables
    tables_are n = elim (cases_lt n (suc (count_of placed))) [
      | inl few ↦ so.tables n (omega arith)
      | inr many ↦
          let top : min n (count_of placed) ≡ min (count_of placed) (count_of placed) = omega arith in
          ap (λ (m : ℕ). after models (empty_tables models) (take (slice_index placed.counts.items m) placed.making.edits.items)) top
          ∙ so.tables (count_of placed) (omega arith)
          ∙ ap (λ (rs : List PresetRow). (installed_by models by rs).tables) (take_all (count_of placed) rows (omega (arith, each)) ∙ sym (take_all n rows (omega (arith, each, many))))
    ]
