-- The edits that leave in cells what is left of their values, one after another.
use Rattle.std.proofs.Common.{◌≡◌, ◌+◌, ◌<◌, ◌&&◌, ℕ, Bool, true, false, cond, not, List, [], ◌∷◌, ◌++◌, map, filter, take, get_or, length, Option, Some, None, option_map, refl, sym, ap, subst, ◌∙◌}
use Rattle.std.specs.Prelude.{All, IfSome, IsSome, unwrap_or}
use Rattle.std.specs.Option.{option_map_or}
use Rattle.std.proofs.lemmas.List.{map-append, take_more}
use Rattle.std.proofs.lemmas.List.Elements.{All-cons, All-nil, All-append, filter-append}
use Rattle.std.proofs.lemmas.List.Kept.{IsStrictlyIncreasing-filter}
use Rattle.std.specs.List.Sorted.{IsStrictlyIncreasing}
use Rattle.ob_base.specs.Rising.{IsRising}
use Rattle.ob_base.specs.declared.id.Cell.{Cell}
use Rattle.ob_base.specs.declared.id.RecId.{RecId}
use Rattle.ob_base.specs.declared.id.RowKey.{RowKey}
use Rattle.ob_base.specs.declared.value.Value.{Value}
use Rattle.ob_base.specs.declared.value.Value.TheVariants as value
use Rattle.ob_cache.specs.Stages.{IsKeptRelation}
use Rattle.ob_definition.specs.Types.{is_relation}
use Rattle.ob_definition.specs.Values.{HasType}
use Rattle.ob_definition.specs.declared.field_type.Choice.{Choice}
use Rattle.ob_definition.specs.declared.field_type.FieldType.{FieldType}
use Rattle.ob_definition.specs.declared.field_type.FieldType.TheVariants as type
use Rattle.ob_definition.specs.declared.field_type.OnDelete.{OnDelete}
use Rattle.ob_unlink.specs.Deletion.{is_unset, leads_to_gone, left_at, left_of, row_of_cell}
use Rattle.ob_unlink.specs.DeletionSteps.{IsFitCell, IsMakingNone, gone_edits, left_edit, staying}
use Rattle.ob_rows.specs.LockSteps.{IsSettledAt}
use Rattle.ob_rows.proofs.CallerLemmas.{settled-kept, settled-there}
use Rattle.ob_schema.specs.Fields.{HasFieldType, IsGivable}
use Rattle.ob_schema.specs.Models.{IsRegistry, field_at}
use Rattle.ob_schema.specs.Tables.{Tables, kept_at}
use Rattle.ob_schema.specs.declared.info.FieldInfo.{FieldInfo}
use Rattle.ob_schema.specs.declared.info.ModelInfo.{ModelInfo}
use Rattle.ob_tables.proofs.CallerLemmas.{known_if, tell_and, told_and}
use Rattle.ob_tables.specs.Fitting.{IsFitIn}
use Rattle.ob_tables.specs.declared.edit.Edit.{Edit}
use Rattle.ob_tables.specs.declared.edit.Edit.TheVariants as edit

module _ (models : List ModelInfo) (gone : RowKey → Bool) (tables : Tables) where
  abbrev pub edits_for : List Cell → List Edit
  edits_for cells = map (left_edit models gone tables) (staying gone cells)

  -- one of a cell whose row stays
  pub stays-one : (cell : Cell) (v : Value) → gone (row_of_cell cell) ≡ false → kept_at tables cell ≡ Some v → edits_for (cell ∷ []) ≡ edit.Set cell (left_at models gone cell v) ∷ []
  stays-one cell v stays kept =
      ap (λ (b : Bool). map (left_edit models gone tables) (cond (not b) (cell ∷ []) [])) stays ∙ ap (λ (o : Option Value). edit.Set cell (unwrap_or (option_map (left_at models gone cell) o) value.Nil) ∷ []) kept

  -- one cell more
  pub edits-more : (cells : List Cell) (i : ℕ) (d : Cell) → i < length cells → edits_for (take (i + 1) cells) ≡ edits_for (take i cells) ++ edits_for (get_or cells i d ∷ [])
  edits-more cells i d within =
      ap edits_for (take_more cells i d within)
      ∙ ap (map (left_edit models gone tables)) (filter-append (λ cell. not (gone (row_of_cell cell))) (take i cells) (get_or cells i d ∷ []))
      ∙ map-append (left_edit models gone tables) (staying gone (take i cells)) (staying gone (get_or cells i d ∷ []))

-- ---- values of their types

abbrev named : RecId → ℕ
named id = id.0

by-number : (p : RecId → Bool) (ids : List RecId) → map named (filter p ids) ≡ filter (λ (n : ℕ). p (record { 0 = n })) (map named ids)
by-number p [] = refl
by-number p (x ∷ ids) = by (p x) (by-number p ids)
  where
    by : (b : Bool) → map named (filter p ids) ≡ filter (λ (n : ℕ). p (record { 0 = n })) (map named ids)
        → map named (cond b (x ∷ filter p ids) (filter p ids)) ≡ cond b (x.0 ∷ filter (λ (n : ℕ). p (record { 0 = n })) (map named ids)) (filter (λ (n : ℕ). p (record { 0 = n })) (map named ids))
    by true rest = ap (λ (l : List ℕ). x.0 ∷ l) rest
    by false rest = rest

rising-left : (p : RecId → Bool) (ids : List RecId) → IsRising ids → IsRising (filter p ids)
rising-left p ids rising = subst IsStrictlyIncreasing (sym (by-number p ids)) (IsStrictlyIncreasing-filter (λ (n : ℕ). p (record { 0 = n })) (map named ids) rising)

module _ (goes : RecId → Bool) (action : OnDelete) (choices : List Choice) where
  one-typed : (v : Value) → HasType type.Many2one choices v → HasType type.Many2one choices (left_of goes action v)
  one-typed (value.Ref id) h = by (goes id && is_unset action)
    where
      by : (b : Bool) → HasType type.Many2one choices (cond b value.Nil (value.Ref id))
      by true = tt
      by false = tt
  one-typed value.Nil h = h
  one-typed _ h = absurd h

  list-typed : (v : Value) → HasType type.Many2many choices v → HasType type.Many2many choices (left_of goes action v)
  list-typed (value.Refs ids) h = rising-left (λ id. not (goes id)) ids h
  list-typed _ h = absurd h

  back-typed : (v : Value) → HasType type.One2many choices v → HasType type.One2many choices (left_of goes action v)
  back-typed (value.Refs ids) h = rising-left (λ id. not (goes id)) ids h
  back-typed _ h = absurd h

  left-typed : (t : FieldType) (v : Value) → is_relation t ≡ true → HasType t choices v → HasType t choices (left_of goes action v)
  left-typed type.Many2one v is h = one-typed v h
  left-typed type.Many2many v is h = list-typed v h
  left-typed type.One2many v is h = back-typed v h
  left-typed type.Boolean v is h = absurd cc
  left-typed type.Integer v is h = absurd cc
  left-typed type.Char v is h = absurd cc
  left-typed type.Text v is h = absurd cc
  left-typed type.Date v is h = absurd cc
  left-typed type.Datetime v is h = absurd cc
  left-typed type.Selection v is h = absurd cc

module _ (models : List ModelInfo) (gone : RowKey → Bool) (cell : Cell) (fit : IsFitCell models cell) (v : Value) (typed : HasFieldType (field_at models cell.model cell.field) v) where
  -- the edit may be asked for
  pub left-fit : IsMakingNone models (edit.Set cell (left_at models gone cell v))
  left-fit =
      let t = told_and (field_at models cell.model cell.field) IsKeptRelation fit.0 in
      let info = t.0 in
      let givable = known_if (field_at models cell.model cell.field) info (λ i. IsGivable i v) t.1 typed in
      let own = left-typed (leads_to_gone gone info) info.ondelete info.selection info.field_type v t.2.1 givable in
      let is : left_at models gone cell v ≡ left_of (leads_to_gone gone info) info.ondelete v = ap (λ (o : Option FieldInfo). option_map_or (λ f. left_of (leads_to_gone gone f) f.ondelete v) o v) t.1 in
      ((fit.1, tell_and (field_at models cell.model cell.field) info (λ f. IsFitIn f (left_at models gone cell v)) t.1 (t.2.0, subst (IsGivable info) (sym is) own)), λ model. tt)

  -- behind others that may
  pub left-behind : (edits : List Edit) → All (IsMakingNone models) edits → All (IsMakingNone models) (edits ++ edit.Set cell (left_at models gone cell v) ∷ [])
  left-behind edits all = All-append (IsMakingNone models) edits (edit.Set cell (left_at models gone cell v) ∷ []) all (All-cons (IsMakingNone models) (edit.Set cell (left_at models gone cell v)) [] left-fit (All-nil (IsMakingNone models)))

module _ (models : List ModelInfo) (tables : Tables) (registry : IsRegistry models) (gone : RowKey → Bool) (cell : Cell) (fit : IsFitCell models cell) (stays : gone (row_of_cell cell) ≡ false) where
  -- the edit of a cell whose row stays is put behind others
  pub pushed : (schema : List ModelInfo) → schema ≡ models → (old new : List Edit) (read : Option Value) (v : Value) → new ≡ old ++ edit.Set cell (left_at schema gone cell v) ∷ [] → IsSettledAt models tables cell read → read ≡ Some v
      → IsSome (kept_at tables cell) → new ≡ old ++ edits_for models gone tables (cell ∷ [])
  pushed schema same old new read v is told read_is there =
      let t = told_and (field_at models cell.model cell.field) IsKeptRelation fit.0 in
      let kept = settled-kept models tables registry cell t.0 t.1 t.2.0 there v (subst (IsSettledAt models tables cell) read_is told) in
      is ∙ ap (λ (ms : List ModelInfo). old ++ edit.Set cell (left_at ms gone cell v) ∷ []) same ∙ ap (λ (es : List Edit). old ++ es) (sym (stays-one models gone tables cell v stays kept))

  -- there is a value
  pub never : (read : Option Value) → IsSettledAt models tables cell read → read ≡ None → IsSome (kept_at tables cell) → ⊥
  never read told read_is there =
      let t = told_and (field_at models cell.model cell.field) IsKeptRelation fit.0 in settled-there models tables registry cell t.0 t.1 t.2.0 there (subst (IsSettledAt models tables cell) read_is told)

-- all edits behind it may be asked for
pub pushed-fit : (models : List ModelInfo) (gone : RowKey → Bool) (cell : Cell) (fit : IsFitCell models cell) (schema : List ModelInfo) → schema ≡ models → (old new : List Edit) (read : Option Value) (v : Value)
    → new ≡ old ++ edit.Set cell (left_at schema gone cell v) ∷ [] → IfSome read (HasFieldType (field_at models cell.model cell.field)) → read ≡ Some v → All (IsMakingNone models) old → All (IsMakingNone models) new
pushed-fit models gone cell fit schema same old new read v is typed read_is all =
    let own : HasFieldType (field_at models cell.model cell.field) v = known_if read v (HasFieldType (field_at models cell.model cell.field)) read_is typed in
    subst (All (IsMakingNone models)) (sym (is ∙ ap (λ (ms : List ModelInfo). old ++ edit.Set cell (left_at ms gone cell v) ∷ []) same)) (left-behind models gone cell fit v own old all)

-- one row more is taken out
pub gone-more : (rows : List RowKey) (i : ℕ) (d : RowKey) → i < length rows → gone_edits (take (i + 1) rows) ≡ gone_edits (take i rows) ++ edit.Gone (get_or rows i d).model (get_or rows i d).id ∷ []
gone-more rows i d within =
    ap gone_edits (take_more rows i d within) ∙ map-append (λ (row : RowKey). edit.Gone row.model row.id) (take i rows) (get_or rows i d ∷ [])
