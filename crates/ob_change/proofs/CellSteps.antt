-- What the cells of a row add up to, and what one of them edits: each step of the search for edited cells.
use Rattle.std.proofs.Common.{◌≡◌, ◌⊎◌, ◌<◌, ◌≤◌, ◌+◌, ◌-◌, inl, inr, ℕ, List, Option, Some, sym, ap, subst, arith}
use Rattle.std.specs.Prelude.{Contains}
use Rattle.std.specs.Option.{option_or}
use Rattle.ob_base.specs.declared.id.Cell.{Cell}
use Rattle.ob_base.specs.declared.id.FieldNo.{FieldNo}
use Rattle.ob_base.specs.declared.id.ModelNo.{ModelNo}
use Rattle.ob_base.specs.declared.id.RecId.{RecId}
use Rattle.ob_base.specs.declared.id.RowKey.{RowKey}
use Rattle.ob_schema.specs.Links.{Sides}
use Rattle.ob_schema.specs.Models.{FieldHas, field_at}
use Rattle.ob_schema.specs.Tables.{key_of}
use Rattle.ob_schema.specs.declared.info.FieldInfo.{FieldInfo}
use Rattle.ob_schema.specs.declared.info.ModelInfo.{ModelInfo}
use Rattle.ob_tables.proofs.CallerLemmas.{known_at, tell_and, told_and}
use Rattle.ob_change.proofs.BackFields.{plain_given}
use Rattle.ob_change.proofs.Gaining.{Below, BySome, gains_as, gains_both}
use Rattle.ob_change.specs.EditedSteps.{CellEdits, EditsBy, EditsKept, Gains, IsCellOf, IsGiven, IsListBy, IsThere, ListsBackIn, NamesOnce, RowEdits, cell_in}

-- the fields that may be given have numbers up to this one
abbrev pub AreGivenUpTo : List ModelInfo → ModelNo → ℕ → Type 0
AreGivenUpTo models model count = (field : FieldNo) → FieldHas models IsGiven model field → (1 ≤ field.0) × (field.0 ≤ count)

-- the number of the field at a place
abbrev pub field_of : ℕ → FieldNo
field_of k = record { 0 = k + 1 }

-- a number from 1 up to a count is that at a place below it
placed : (n count : ℕ) → 1 ≤ n → n ≤ count → (k : ℕ) × (k < count) × (n ≡ k + 1)
placed n count low high = (n - 1, omega (arith, low, high), omega (arith, low))

module _ (sides : Sides) (model : ModelNo) (field : FieldNo) where
  -- the cell of a row that is there
  abbrev pub CellAt : RecId → Cell → Type 0
  CellAt id cell = (cell ≡ cell_in (key_of model id) field) × IsThere sides model id

  -- those of the rows in turn are those of the rows
  pub cells-of : (ids : List RecId) (old new : List Cell) → Gains (BySome CellAt ids) old new → Gains (IsCellOf sides model field ids) old new
  cells-of ids old new = gains_as (BySome CellAt ids) (IsCellOf sides model field ids) old new to back
    where
      to : (cell : Cell) → BySome CellAt ids cell → IsCellOf sides model field ids cell
      to cell (id, among, (is, there)) = (
        ap (λ (c : Cell). c.model) is,
        ap (λ (c : Cell). c.field) is,
        subst (λ (i : RecId). Contains ids i) (sym (ap (λ (c : Cell). c.id) is)) among,
        subst (λ (c : Cell). IsThere sides c.model c.id) (sym is) there,
      )

      back : (cell : Cell) → IsCellOf sides model field ids cell → BySome CellAt ids cell
      back cell (is, at, among, there) = (
        cell.id,
        among,
        (λ i. record { model = is i; id = cell.id; field = at i }, subst (λ (m : ModelNo). IsThere sides m cell.id) is there),
      )

module _ (models : List ModelInfo) (sides : Sides) where
  -- ---- a row

  abbrev pub EditsAt : RowKey → ℕ → Cell → Type 0
  EditsAt key k cell = CellEdits models sides (cell_in key (field_of k)) cell

  -- its cells with numbers up to the last given one edit what it edits
  pub row-edited : (key : RowKey) (count : ℕ) → AreGivenUpTo models key.model count → (old new : List Cell) → Gains (Below (EditsAt key) count) old new → Gains (RowEdits models sides key) old new
  row-edited key count limit old new = gains_as (Below (EditsAt key) count) (RowEdits models sides key) old new to back
    where
      to : (cell : Cell) → Below (EditsAt key) count cell → RowEdits models sides key cell
      to cell (k, less, edits) = (field_of k, edits)

      back : (cell : Cell) → RowEdits models sides key cell → Below (EditsAt key) count cell
      back cell (field, edits) =
          let own = cell_in key field in
          let f = told_and (field_at models key.model field) (λ info. IsGiven info × EditsBy models sides (option_or info.inverse info.mirror) info.relation own cell) edits in
          let low = limit field (tell_and (field_at models key.model field) f.0 IsGiven f.1 f.2.0) in
          let at = placed field.0 count low.0 low.1 in
          (at.0, at.1, subst (λ (n : ℕ). CellEdits models sides (cell_in key (record { 0 = n })) cell) at.2 edits)

  -- ---- lists of rows

  module _ (own : Cell) where
    abbrev pub ListsAt : ModelNo → List RecId → ℕ → Cell → Type 0
    ListsAt target ids k cell = FieldHas models (IsListBy own.model own.field) target (field_of k) × IsCellOf sides target (field_of k) ids cell

    -- the lists by the fields with numbers up to the last given one are all
    pub rows-listed : (target : ModelNo) (ids : List RecId) (count : ℕ) → AreGivenUpTo models target count → (old new : List Cell) → Gains (Below (ListsAt target ids) count) old new
        → Gains (ListsBackIn models sides own target ids) old new
    rows-listed target ids count limit old new = gains_as (Below (ListsAt target ids) count) (ListsBackIn models sides own target ids) old new to back
      where
        to : (cell : Cell) → Below (ListsAt target ids) count cell → ListsBackIn models sides own target ids cell
        to cell (k, less, (has, (is, at, among, there))) =
            let here = subst (λ (f : FieldNo). FieldHas models (IsListBy own.model own.field) target f) (sym at) has in
            (is, among, (there, subst (λ (m : ModelNo). FieldHas models (IsListBy own.model own.field) m cell.field) (sym is) here))

        back : (cell : Cell) → ListsBackIn models sides own target ids cell → Below (ListsAt target ids) count cell
        back cell (is, among, (there, has)) =
            let here = subst (λ (m : ModelNo). FieldHas models (IsListBy own.model own.field) m cell.field) is has in
            let f = told_and (field_at models target cell.field) (IsListBy own.model own.field) here in
            let low = limit cell.field (tell_and (field_at models target cell.field) f.0 IsGiven f.1 (plain_given f.0.origin f.2.0)) in
            let at = placed cell.field.0 count low.0 low.1 in
            let same : cell.field ≡ field_of at.0 = λ i. record { 0 = at.2 i } in
            (at.0, at.1, (subst (λ (f : FieldNo). FieldHas models (IsListBy own.model own.field) target f) same here, (is, same, among, there)))

    -- ---- a cell whose value stands in its row

    -- a relation edits itself and the lists of the rows that it names on one side alone
    pub relation-edited : (target : ModelNo) (ids : List RecId) → NamesOnce models sides own ids → (old middle new : List Cell) → Gains (λ cell. cell ≡ own) old middle → Gains (ListsBackIn models sides own target ids) middle new
        → Gains (EditsKept models sides (Some target) own) old new
    relation-edited target ids (edited, once) old middle new first second =
        gains_as (λ cell. (cell ≡ own) ⊎ ListsBackIn models sides own target ids cell) (EditsKept models sides (Some target) own) old new to back
        (gains_both (λ cell. cell ≡ own) (ListsBackIn models sides own target ids) old middle new first second)
      where
        to : (cell : Cell) → (cell ≡ own) ⊎ ListsBackIn models sides own target ids cell → EditsKept models sides (Some target) own cell
        to cell (inl is) = inl (is, edited)
        to cell (inr (is, among, lists)) = inr (ap Some (sym is), (once cell.id).0 among, lists)

        some_same : (a b : ModelNo) → Some a ≡ Some b → a ≡ b
        some_same a b e = cc

        back : (cell : Cell) → EditsKept models sides (Some target) own cell → (cell ≡ own) ⊎ ListsBackIn models sides own target ids cell
        back cell (inl (is, edited)) = inl is
        back cell (inr (leads, stands, lists)) = inr (sym (some_same target cell.model leads), (once cell.id).1 stands, lists)

    -- ---- a cell by its field

    module _ (info : FieldInfo) (at : field_at models own.model own.field ≡ Some info) where
      abbrev pub EditsAs : Cell → Type 0
      EditsAs cell = IsGiven info × EditsBy models sides (option_or info.inverse info.mirror) info.relation own cell

      to_cell : (cell : Cell) → EditsAs cell → CellEdits models sides own cell
      to_cell cell edits = tell_and (field_at models own.model own.field) info (λ info. IsGiven info × EditsBy models sides (option_or info.inverse info.mirror) info.relation own cell) at edits

      of_cell : (cell : Cell) → CellEdits models sides own cell → EditsAs cell
      of_cell cell edits = known_at (field_at models own.model own.field) info (λ info. IsGiven info × EditsBy models sides (option_or info.inverse info.mirror) info.relation own cell) at edits

      -- a given one edits by its field back
      pub given-edits : IsGiven info → (back : Option FieldNo) → option_or info.inverse info.mirror ≡ back → (old new : List Cell) → Gains (EditsBy models sides back info.relation own) old new
          → Gains (CellEdits models sides own) old new
      given-edits given back is old new = gains_as (EditsBy models sides back info.relation own) (CellEdits models sides own) old new
          (λ cell edits. to_cell cell (given, subst (λ (b : Option FieldNo). EditsBy models sides b info.relation own cell) (sym is) edits))
          (λ cell edits. subst (λ (b : Option FieldNo). EditsBy models sides b info.relation own cell) is (of_cell cell edits).1)
