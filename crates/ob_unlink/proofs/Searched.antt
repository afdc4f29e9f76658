-- A search for all rows that go with some ends with them, and with all cells that name any.
use Rattle.std.proofs.Common.{◌≡◌, ◌⊎◌, inl, inr, true, false, List, [], ◌∷◌, ◌++◌, refl, sym, subst}
use Rattle.std.specs.Prelude.{Contains}
use Rattle.std.specs.BTreeSet as sorted
use Rattle.std.proofs.lemmas.List.Elements.{Contains-push, Contains-append_left, Contains-push_cases}
use Rattle.ob_base.specs.declared.id.Cell.{Cell}
use Rattle.ob_base.specs.declared.id.RowKey.{RowKey}
use Rattle.ob_definition.specs.declared.field_type.OnDelete.TheVariants as ondelete
use Rattle.ob_unlink.specs.Deletion.{HasAction, IsDeleted, NamesRow, is_cascaded, is_named, row_of_cell}
use Rattle.ob_unlink.specs.DeletionSteps.{AddsCells, IsDeletion, TakesMore, has_cell}
use Rattle.ob_rows.specs.RowSets.{has_key}
use Rattle.ob_rows.proofs.CallerLemmas.{either_way, no_row}
use Rattle.ob_unlink.proofs.TakenRows.{no_cell}
use Rattle.ob_schema.proofs.CallerLemmas.{contains-none}
use Rattle.ob_schema.specs.Tables.{Tables}
use Rattle.ob_schema.specs.declared.info.ModelInfo.{ModelInfo}

-- the row of a cell that names a row goes with it
abbrev pub GoesWith : List ModelInfo → Tables → RowKey → RowKey → Type 0
GoesWith models tables row other = (cell : Cell) × NamesRow models tables cell row × HasAction models ondelete.Cascade cell × (row_of_cell cell ≡ other)

module _ (models : List ModelInfo) (tables : Tables) (some : List RowKey) where
  -- the search so far: of each row that was taken and doesn't wait all is known
  pub record IsSearch (rows : sorted.BTreeSet RowKey) (cells : sorted.BTreeSet Cell) (waiting : List RowKey) : Type 0 where
    pub right : (row : RowKey) → has_key rows row ≡ true → IsDeleted models tables some row
    pub named : (row : RowKey) → Contains some row → has_key rows row ≡ true
    pub waits : (row : RowKey) → Contains waiting row → has_key rows row ≡ true
    pub known : (row : RowKey) → has_key rows row ≡ true → Contains waiting row ⊎ ((cell : Cell) → NamesRow models tables cell row → has_cell cells cell ≡ true)
    pub name : (cell : Cell) → has_cell cells cell ≡ true → (row : RowKey) × (has_key rows row ≡ true) × NamesRow models tables cell row
    pub cascaded : (cell : Cell) → has_cell cells cell ≡ true → HasAction models ondelete.Cascade cell → has_key rows (row_of_cell cell) ≡ true

  -- the rows that are named wait
  pub begun : (none rows : sorted.BTreeSet RowKey) (cells : sorted.BTreeSet Cell) (waiting : List RowKey) → none.keys ≡ [] → cells.keys ≡ [] → TakesMore none rows [] waiting (Contains some) → IsSearch rows cells waiting
  begun none rows cells waiting no_rows no_cells takes = record {
    right = λ row has. is_named row (among row ((takes.taken row).0 has));
    named = λ row c. (takes.taken row).1 (inr c);
    waits = λ row c. waiting_has row ((takes.waiting row).0 c);
    known = λ row has. inl ((takes.waiting row).1 (inr (has, fresh row)));
    name = λ cell has. absurd (no_cell cells cell no_cells has);
    cascaded = λ cell has. absurd (no_cell cells cell no_cells has);
  }
    where
      among : (row : RowKey) → (has_key none row ≡ true) ⊎ Contains some row → Contains some row
      among row (inl had) = absurd (no_row none row no_rows had)
      among row (inr c) = c

      waiting_has : (row : RowKey) → Contains [] row ⊎ ((has_key rows row ≡ true) × (has_key none row ≡ false)) → has_key rows row ≡ true
      waiting_has row (inl c) = absurd (contains-none row c)
      waiting_has row (inr new) = new.0

      fresh : (row : RowKey) → has_key none row ≡ false
      fresh row = elim (either_way (has_key none row)) [ inl had ↦ absurd (no_row none row no_rows had) | inr not ↦ not ]

  -- one row more, of which all is known then
  pub searched : (rows next : sorted.BTreeSet RowKey) (cells more : sorted.BTreeSet Cell) (waiting left now : List RowKey) (row : RowKey) → IsSearch rows cells waiting → waiting ≡ left ++ row ∷ []
      → TakesMore rows next left now (GoesWith models tables row) → AddsCells cells more (λ cell. NamesRow models tables cell row) → IsSearch next more now
  searched rows next cells more waiting left now row so_far popped takes adds = record {
    right = λ other has. right other ((takes.taken other).0 has);
    named = λ other c. kept other (so_far.named other c);
    waits = λ other c. waits other ((takes.waiting other).0 c);
    known = λ other has. known other has (either_way (has_key rows other));
    name = λ cell has. name cell ((adds cell).0 has);
    cascaded = λ cell has action. cascaded cell action ((adds cell).0 has);
  }
    where
      here : Contains waiting row
      here = subst (λ (l : List RowKey). Contains l row) (sym popped) (Contains-push left row)

      was : (other : RowKey) → Contains left other → Contains waiting other
      was other c = subst (λ (l : List RowKey). Contains l other) (sym popped) (Contains-append_left left (row ∷ []) other c)

      kept : (other : RowKey) → has_key rows other ≡ true → has_key next other ≡ true
      kept other had = (takes.taken other).1 (inl had)

      right : (other : RowKey) → (has_key rows other ≡ true) ⊎ GoesWith models tables row other → IsDeleted models tables some other
      right other (inl had) = so_far.right other had
      right other (inr (cell, names, action, is)) = subst (IsDeleted models tables some) is (is_cascaded cell row (so_far.right row (so_far.waits row here)) names action)

      waits : (other : RowKey) → Contains left other ⊎ ((has_key next other ≡ true) × (has_key rows other ≡ false)) → has_key next other ≡ true
      waits other (inl c) = kept other (so_far.waits other (was other c))
      waits other (inr new) = new.0

      all_known : (other : RowKey) → Contains waiting other ⊎ ((cell : Cell) → NamesRow models tables cell other → has_cell cells cell ≡ true)
          → Contains now other ⊎ ((cell : Cell) → NamesRow models tables cell other → has_cell more cell ≡ true)
      all_known other (inr told) = inr (λ cell names. (adds cell).1 (inl (told cell names)))
      all_known other (inl c) = elim (Contains-push_cases left row other (subst (λ (l : List RowKey). Contains l other) popped c)) [
        | inl still ↦ inl ((takes.waiting other).1 (inl still))
        | inr is ↦ inr (λ cell names. (adds cell).1 (inr (subst (NamesRow models tables cell) (sym is) names)))
      ]

      known : (other : RowKey) → has_key next other ≡ true → (has_key rows other ≡ true) ⊎ (has_key rows other ≡ false)
          → Contains now other ⊎ ((cell : Cell) → NamesRow models tables cell other → has_cell more cell ≡ true)
      known other has (inl had) = all_known other (so_far.known other had)
      known other has (inr not) = inl ((takes.waiting other).1 (inr (has, not)))

      name : (cell : Cell) → (has_cell cells cell ≡ true) ⊎ NamesRow models tables cell row → (other : RowKey) × (has_key next other ≡ true) × NamesRow models tables cell other
      name cell (inl had) = let one = so_far.name cell had in (one.0, kept one.0 one.1, one.2)
      name cell (inr names) = (row, kept row (so_far.waits row here), names)

      cascaded : (cell : Cell) → HasAction models ondelete.Cascade cell → (has_cell cells cell ≡ true) ⊎ NamesRow models tables cell row → has_key next (row_of_cell cell) ≡ true
      cascaded cell action (inl had) = kept (row_of_cell cell) (so_far.cascaded cell had action)
      cascaded cell action (inr names) = (takes.taken (row_of_cell cell)).1 (inr (cell, names, action, refl))

  -- none waits
  module _ (rows : sorted.BTreeSet RowKey) (cells : sorted.BTreeSet Cell) (waiting : List RowKey) (all : IsSearch rows cells waiting) (none : waiting ≡ []) where
    closed : (row : RowKey) (cell : Cell) → has_key rows row ≡ true → NamesRow models tables cell row → has_cell cells cell ≡ true
    closed row cell has names = elim (all.known row has) [
      | inl c ↦ absurd (contains-none row (subst (λ (l : List RowKey). Contains l row) none c))
      | inr told ↦ told cell names
    ]

    least : (row : RowKey) → IsDeleted models tables some row → has_key rows row ≡ true
    least _ (is_named row c) = all.named row c
    least _ (is_cascaded cell row goes names action) = all.cascaded cell (closed row cell (least row goes) names) action

    pub ended : IsDeletion models tables some rows cells
    ended = record {
      goes = λ row. (all.right row, least row);
      name = λ cell. (all.name cell, λ one. closed one.0 cell one.1 one.2);
    }
