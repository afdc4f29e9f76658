-- A row that is made: the next id of its model behind it, and what is noted of it.
use Rattle.std.proofs.Common.{◌≡◌, ◌≤◌, ◌<◌, ◌+◌, ◌-◌, ◌++◌, ◌∷◌, [], ℕ, Bool, cond, List, Result, Ok, Err, Option, Some, None, length, max, length-append, unwrap_or, refl, sym, ap, subst, ◌∙◌, arith}
use Rattle.std.specs.Prelude.{All, IsSomeAnd, OnOk}
use Rattle.std.specs.Cmp.{nat_cmp_total, tied_itself}
use Rattle.std.specs.FinMap as finite
use Rattle.std.specs.Option.{option_map_or}
use Rattle.std.specs.Ordering.{is_eq}
use Rattle.std.proofs.lemmas.List.Elements.{All-cons, All-head, All-nil, All-tail}
use Rattle.ob_base.specs.Limits.{max_id}
use Rattle.ob_base.specs.declared.id.FieldNo.{FieldNo}
use Rattle.ob_base.specs.declared.id.ModelNo.{ModelNo}
use Rattle.ob_base.specs.declared.id.RecId.{RecId}
use Rattle.ob_base.specs.declared.id.RowKey.{RowKey}
use Rattle.ob_base.specs.declared.value.Value.{Value}
use Rattle.ob_cache.specs.Stages.{with_edits}
use Rattle.ob_cache.specs.Standing.{NextIdsUpTo, OfStages, Stands, max_next_id}
use Rattle.ob_cache.specs.declared.engine.Engine.{Engine}
use Rattle.ob_effect.specs.Effect.{Asks, Edits, IsNoted, MakesRow, Takes}
use Rattle.ob_effect.specs.declared.notes.Notes.{Notes}
use Rattle.ob_io.specs.declared.keeper.Keeper.{Ghosts}
use Rattle.ob_schema.specs.Models.{model_at}
use Rattle.ob_schema.specs.Tables.{Tables, next_of}
use Rattle.ob_schema.specs.declared.info.ModelInfo.{ModelInfo}
use Rattle.ob_tables.specs.After.{after, edited, row_of, with_row}
use Rattle.ob_tables.specs.Changes.{MakesBelow}
use Rattle.ob_tables.specs.Fitting.{AreFitIn, AreFitValues}
use Rattle.ob_tables.specs.declared.edit.Edit.{Edit}
use Rattle.ob_tables.specs.declared.edit.Edit.TheVariants as edit

-- values by the numbers of their fields
abbrev pub Values : Type 0
Values = List (FieldNo × Value)

-- the edit that makes a row
abbrev pub making : RowKey → Values → List Edit
making row values = edit.Make row.model row.id values ∷ []

-- it alone
pub one_made : (row : RowKey) (values : Values) (none pushed shown : List Edit) → none ≡ [] → pushed ≡ none ++ making row values → shown ≡ pushed → shown ≡ making row values
one_made row values none pushed shown empty more same = same ∙ more ∙ ap (λ (es : List Edit). es ++ making row values) empty

-- ---- next ids

module _ (models : List ModelInfo) (tables : Tables) (model : ModelNo) (id : RecId) (values : Values) where
  -- the next id of a model once a row of it is made
  next-is : (info : ModelInfo) → model_at models model ≡ Some info → next_of (edited models tables (edit.Make model id values)) model ≡ max (next_of tables model) (id.0 + 1)
  next-is info at =
      ap (λ (o : Option ModelInfo). next_of (option_map_or (λ i. with_row models model id (row_of i values) tables) o tables) model) at
      ∙ ap (λ (o : Option ℕ). unwrap_or o 1) (finite.get-insert nat_cmp_total tables.next_ids model.0 (max (next_of tables model) (id.0 + 1)) model.0)
      ∙ ap (λ (b : Bool). unwrap_or (cond b (Some (max (next_of tables model) (id.0 + 1))) (finite.get tables.next_ids model.0)) 1) (ap is_eq (tied_itself nat_cmp_total model.0))

  -- is above it
  pub below_next : AreFitIn models model values → id.0 < next_of (edited models tables (edit.Make model id values)) model
  below_next fit = by (model_at models model) refl fit where
    by : (o : Option ModelInfo) → model_at models model ≡ o → IsSomeAnd o (λ info. AreFitValues info values) → id.0 < next_of (edited models tables (edit.Make model id values)) model
    by None at h = absurd h
    by (Some info) at h = let is = next-is info at in omega (arith, is)

-- the edit makes no row from a bound above its id on
made_below : (row : RowKey) (values : Values) (bound : ℕ) → row.id.0 < bound → (model : ModelNo) → All (MakesBelow model bound) (making row values)
made_below row values bound low model = All-cons (MakesBelow model bound) (edit.Make row.model row.id values) [] (λ same. low) (All-nil (MakesBelow model bound))

-- ---- the row is made

module _ {K : Type 0} (g : Ghosts K) where
  -- so it is by what was staged
  pub row_made : (a b : Engine K) (row : RowKey) (values : Values) (edits : List Edit) → edits ≡ making row values → AreFitIn a.held.models row.model values → Edits g a b
      → OfStages (g.kept a.keeper.now) a.held (λ at. Stands (g.kept b.keeper.now) b.held (with_edits at edits))
      → ((bound : ℕ) → max_next_id ≤ bound → ((model : ModelNo) → All (MakesBelow model bound) edits) → NextIdsUpTo bound a.held → NextIdsUpTo bound b.held)
      → ((models : List ModelInfo) (tables : Tables) (es : List Edit) (model : ModelNo) → next_of tables model ≤ next_of (after models tables es) model)
      → MakesRow g row a b
  row_made a b row values edits is fit edited_so staged next_ids rises = record {
    edits = edited_so;
    risen = λ at stands. (
      with_edits at edits,
      staged at stands,
      refl,
      refl,
      λ model. rises at.models at.staged edits model,
      let fits = subst (λ (ms : List ModelInfo). AreFitIn ms row.model values) (sym stands.models_are) fit in
          subst (λ (es : List Edit). row.id.0 < next_of (after at.models at.staged es) row.model) (sym is) (below_next at.models at.staged row.model row.id values fits),
    );
    next_ids = λ bound low below up. next_ids bound low (λ model. subst (All (MakesBelow model bound)) (sym is) (made_below row values bound below model)) up;
  }

  -- under the next id of its model it took that
  pub row_taken : (a b c : Engine K) (row : RowKey) (model : ModelNo) (id : RecId) → row ≡ record { model = model; id = id } → Asks g a b
      → OfStages (g.kept a.keeper.now) a.held (λ at. id.0 ≡ next_of at.staged model) → MakesRow g row b c → Takes g model id a c
  row_taken a b c row model id is asked next made = λ at stands.
      let (now, then, flushed, settled, rises, below) = made.risen at (asked.same.stands at stands) in
      let own = next at stands in
      let low : next_of at.staged model ≤ id.0 = omega (arith, own) in
      let high : id.0 < next_of now.staged model = subst (λ (r : RowKey). r.id.0 < next_of now.staged r.model) is below in
      (now, then, flushed, settled, rises, (low, high))

  -- ---- and noted

  last_of : (rows : List RowKey) (row : RowKey) → All (λ r. r.id.0 ≤ max_id) (rows ++ row ∷ []) → row.id.0 ≤ max_id
  last_of [] row all = All-head (λ (r : RowKey). r.id.0 ≤ max_id) row [] all
  last_of (r ∷ rows) row all = last_of rows row (All-tail (λ (q : RowKey). q.id.0 ≤ max_id) r (rows ++ row ∷ []) all)

  pub noted_made : (models : List ModelInfo) (n : Notes) (before : List RowKey) (b c : Engine K) (row : RowKey) → n.made.items ≡ before ++ row ∷ [] → row.id.0 ≤ max_next_id + length before
      → MakesRow g row b c → IsNoted models n b.held → IsNoted models n c.held
  noted_made models n before b c row is low made noted =
      let more : length n.made.items ≡ length before + length (row ∷ []) = ap length is ∙ length-append before (row ∷ []) in
      let under : row.id.0 < max_next_id + length n.made.items = omega (arith, low, more) in
      let from : max_next_id ≤ max_next_id + length n.made.items = omega arith in
      record {
        touched = noted.touched;
        made = noted.made;
        gone = noted.gone;
        cells = noted.cells;
        targets = noted.targets;
        broken = noted.broken;
        next_ids = made.next_ids (max_next_id + length n.made.items) from under noted.next_ids;
        low = λ within.
            let own = last_of before row (subst (All (λ (r : RowKey). r.id.0 ≤ max_id)) is within) in
            let far : row.id.0 < max_next_id = omega (arith, own) in
            let none : max_next_id ≤ max_next_id = omega arith in
            made.next_ids max_next_id none far (noted.low within);
      }

-- three facts of an Ok
pub ok_three : {A E X Y Z W : Type 0} (r : Result A E) → (X → Y → Z → W) → OnOk r X → OnOk r Y → OnOk r Z → OnOk r W
ok_three (Ok x) by a b c = by a b c
ok_three (Err e) by a b c = tt
