-- Rows that edits make are there behind them, and edits within the limit of ids may be asked of an engine.
use Rattle.std.proofs.Common.{◌≡◌, ◌<◌, ◌∷◌, [], ℕ, Bool, true, false, cond, List, Option, Some, None, is_some, refl, sym, ap, subst, ◌∙◌, ◌⊎◌, inl, inr}
use Rattle.std.specs.Prelude.{All, Any, IsSome, IsSomeAnd}
use Rattle.std.specs.FinMap as finite
use Rattle.std.specs.Option.{option_map_or}
use Rattle.std.specs.Ordering.{eq_by_cmp}
use Rattle.std.proofs.lemmas.List.Elements.{All-head, All-nil, All-cons, All-tail}
use Rattle.ob_base.specs.Ids.{row_key_cmp}
use Rattle.ob_base.specs.Limits.{max_id}
use Rattle.ob_base.specs.declared.id.FieldNo.{FieldNo}
use Rattle.ob_base.specs.declared.id.RowKey.{RowKey}
use Rattle.ob_base.specs.declared.refusal.BrokenKind.TheVariants as broken
use Rattle.ob_base.specs.declared.refusal.Refusal.{Refusal}
use Rattle.ob_base.specs.declared.refusal.Refusal.TheVariants as refusal
use Rattle.ob_cache.specs.Calls.{Refuses}
use Rattle.ob_rows.proofs.CallerLemmas.{set-there}
use Rattle.ob_rows.specs.Settling.{BreaksField, IsBrokenBy}
use Rattle.ob_orm.specs.NewRowSteps.{MakesRow, MakesWithin, MayFit}
use Rattle.ob_schema.proofs.CallerLemmas.{Any-cases, Any-none}
use Rattle.ob_schema.specs.Models.{field_at, is_id_from, model_at}
use Rattle.ob_schema.specs.Tables.{Tables, key_of, row_at}
use Rattle.ob_schema.specs.declared.info.FieldInfo.{FieldInfo}
use Rattle.ob_schema.specs.declared.info.ModelInfo.{ModelInfo}
use Rattle.ob_tables.proofs.CallerLemmas.{row-made, rows_total}
use Rattle.ob_tables.specs.After.{after, edited, row_of, with_row}
use Rattle.ob_tables.specs.Fitting.{AreFitValues, IsFitEdit}
use Rattle.ob_tables.specs.declared.edit.Edit.{Edit}
use Rattle.ob_tables.specs.declared.edit.Edit.TheVariants as edit

-- the refusal of a row whose id is past the limit
abbrev pub IsPast : List ModelInfo → RowKey → Refusal → Type 0
IsPast models row why = (field : FieldNo) × IsSomeAnd (field_at models row.model field) (λ info. is_id_from info.origin ≡ true)
    × (why ≡ refusal.Constraint (record { kind = broken.Limit; cell = record { model = row.model; id = row.id; field = field } }))

-- an id past its limit is one
tell_past : {id : ℕ} (o : Option FieldInfo) → IsSomeAnd o (λ info. is_id_from info.origin ≡ true) → max_id < id → IsSomeAnd o (λ info. (is_id_from info.origin ≡ true) × ((id ≡ 0) ⊎ (max_id < id)))
tell_past None is past = absurd is
tell_past (Some info) is past = (is, inr past)

picked : {X : Type 0} (b : Bool) (x : X) (o : Option X) → IsSome o → IsSome (cond b (Some x) o)
picked true x o there = refl
picked false x o there = there

module _ (models : List ModelInfo) where
  -- a row that is there stays, where no row goes
  stays : (tables : Tables) (one : Edit) → MayFit models one → (row : RowKey) → IsSome (row_at tables row.model row.id) → IsSome (row_at (edited models tables one) row.model row.id)
  stays tables (edit.Make m id values) fit row there = by (model_at models m) where
    by : (o : Option ModelInfo) → IsSome (row_at (option_map_or (λ info. with_row models m id (row_of info values) tables) o tables) row.model row.id)
    by None = there
    by (Some info) =
        ap is_some (finite.get-insert rows_total tables.rows (key_of m id) (row_of info values) row) ∙ picked (eq_by_cmp row_key_cmp row (key_of m id)) (row_of info values) (row_at tables row.model row.id) there
  stays tables (edit.Set cell v) fit row there = set-there models tables cell v row ∙ there
  stays tables (edit.Gone m id) fit row there = absurd fit

  stays-all : (tables : Tables) (edits : List Edit) → All (MayFit models) edits → (row : RowKey) → IsSome (row_at tables row.model row.id) → IsSome (row_at (after models tables edits) row.model row.id)
  stays-all tables [] fit row there = there
  stays-all tables (one ∷ edits) fit row there =
      stays-all (edited models tables one) edits (All-tail (MayFit models) one edits fit) row (stays tables one (All-head (MayFit models) one edits fit) row there)

  -- a model of which a row is made is there
  its_model : (o : Option ModelInfo) (P : ModelInfo → Type 0) → IsSomeAnd o P → IsSome o
  its_model None P h = absurd h
  its_model (Some info) P h = refl

  there_of : (o : Option ModelInfo) → IsSome o → (info : ModelInfo) × (o ≡ Some info)
  there_of None h = absurd cc
  there_of (Some info) h = (info, refl)

  makes-row : (tables : Tables) (one : Edit) (row : RowKey) → MayFit models one → MakesRow row one → IsSome (row_at (edited models tables one) row.model row.id)
  makes-row tables (edit.Make m id values) row fit is =
      let (info, at) = there_of (model_at models m) (its_model (model_at models m) (λ info. AreFitValues info values) fit.1) in
      subst (λ (r : RowKey). IsSome (row_at (edited models tables (edit.Make m id values)) r.model r.id)) (sym is) (ap is_some (row-made models tables m id values info at))
  makes-row tables (edit.Set cell v) row fit is = absurd is
  makes-row tables (edit.Gone m id) row fit is = absurd is

  -- each row that they make is there behind them
  pub made-there : (tables : Tables) (edits : List Edit) (row : RowKey) → All (MayFit models) edits → Any (MakesRow row) edits → IsSome (row_at (after models tables edits) row.model row.id)
  made-there tables [] row fit among = absurd (Any-none (MakesRow row) among)
  made-there tables (one ∷ edits) row fit among = elim (Any-cases (MakesRow row) one edits among) [
    | inl is ↦ stays-all (edited models tables one) edits (All-tail (MayFit models) one edits fit) row (makes-row tables one row (All-head (MayFit models) one edits fit) is)
    | inr later ↦ made-there (edited models tables one) edits row (All-tail (MayFit models) one edits fit) later
  ]

  -- ---- within the limit

  within-fit : (one : Edit) → MayFit models one → MakesWithin one → IsFitEdit models one
  within-fit (edit.Make m id values) fit low = fit
  within-fit (edit.Set cell v) fit low = fit
  within-fit (edit.Gone m id) fit low = absurd fit

  pub all-fit : (edits : List Edit) → All (MayFit models) edits → All MakesWithin edits → All (IsFitEdit models) edits
  all-fit [] fit low = All-nil (IsFitEdit models)
  all-fit (one ∷ edits) fit low =
      All-cons (IsFitEdit models) one edits (within-fit one (All-head (MayFit models) one edits fit) (All-head MakesWithin one edits low))
      (all-fit edits (All-tail (MayFit models) one edits fit) (All-tail MakesWithin one edits low))

  -- ---- a row past the limit

  module _ (edits : List Edit) (fit : All (MayFit models) edits) (row : RowKey) (among : Any (MakesRow row) edits) (past : max_id < row.id.0) (why : Refusal) (told : IsPast models row why) (rose : Type 0) where
    -- breaks the tables with the edits
    pub past-broken : (tables : Tables) → Refuses rose (IsBrokenBy models (after models tables edits)) why
    past-broken tables =
        let (field, is_id, is) = told in
        subst (Refuses rose (IsBrokenBy models (after models tables edits))) (sym is) (inl (made-there tables edits row fit among, tell_past (field_at models row.model field) is_id past))

    -- at a cell of the models
    pub past-cause : Refuses rose (BreaksField models) why
    past-cause = let (field, is_id, is) = told in subst (Refuses rose (BreaksField models)) (sym is) (known_field (field_at models row.model field) is_id) where
      known_field : (o : Option FieldInfo) → IsSomeAnd o (λ info. is_id_from info.origin ≡ true) → IsSome o
      known_field None h = absurd h
      known_field (Some info) h = refl
