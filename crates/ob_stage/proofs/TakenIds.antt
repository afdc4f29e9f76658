-- The next id of a model behind one edit more, and bounds of the ids that edits take.
use Rattle.std.proofs.Common.{◌≡◌, ◌<◌, ◌≤◌, ◌+◌, ◌-◌, ◌^◌, ◌∷◌, [], ◌++◌, ℕ, suc, Bool, true, false, cond, List, max, Option, Some, None, unwrap_or, refl, sym, ap, ◌∙◌, arith}
use Rattle.std.specs.Prelude.{All, IsSome, ⊤}
use Rattle.std.specs.Cmp.{nat_cmp_total, tied_itself}
use Rattle.std.specs.FinMap as finite
use Rattle.std.specs.List.{flat_map}
use Rattle.std.specs.Option.{option_map_or}
use Rattle.std.specs.Ordering.{eq_by_cmp, is_eq, nat_cmp}
use Rattle.std.proofs.lemmas.Bool.{false≢true}
use Rattle.std.proofs.lemmas.List.Elements.{All-append, All-map, All-nil, All-push, All-weaker}
use Rattle.std.proofs.lemmas.Map.Lookups.{exact_unsigned}
use Rattle.std.proofs.lemmas.Map.Views.{tells_apart}
use Rattle.ob_base.specs.declared.id.FieldNo.{FieldNo}
use Rattle.ob_base.specs.declared.id.ModelNo.{ModelNo}
use Rattle.ob_base.specs.declared.id.RecId.{RecId}
use Rattle.ob_base.specs.declared.value.Value.{Value}
use Rattle.ob_cache.specs.Standing.{Holding, NextIdsUpTo}
use Rattle.ob_rows.proofs.CallerLemmas.{set-next}
use Rattle.ob_orm.specs.NewRows.{Values, behind, changed_values, linked, parent_change, row_edits}
use Rattle.ob_orm.specs.NewRowSteps.{MayFit}
use Rattle.ob_rows.specs.declared.author.Author.{Author}
use Rattle.ob_schema.specs.Models.{HasModel, model_at}
use Rattle.ob_schema.specs.Tables.{Tables, next_of}
use Rattle.ob_schema.specs.declared.info.ModelInfo.{ModelInfo}
use Rattle.ob_schema.specs.declared.info.ParentInfo.{ParentInfo}
use Rattle.ob_stage.proofs.FewParents.{field_numbers}
use Rattle.ob_stage.specs.StageSteps.{LeaveRoom, MakesFit, MakesUpTo}
use Rattle.ob_tables.specs.After.{edited, row_of, with_row}
use Rattle.ob_tables.specs.Changes.{MakesBelow}
use Rattle.ob_tables.specs.Fitting.{IsFitEdit}
use Rattle.ob_tables.specs.declared.edit.Edit.{Edit}
use Rattle.ob_tables.specs.declared.edit.Edit.TheVariants as edit

-- ---- the next id behind one edit

-- an edit makes no row of a model
abbrev pub MakesNone : ModelNo → Edit → Type 0
MakesNone model (edit.Make other id values) = other ≡ model → ⊥
MakesNone model _ = ⊤

there_of : (o : Option ModelInfo) → IsSome o → (info : ModelInfo) × (o ≡ Some info)
there_of None h = absurd (false≢true h)
there_of (Some info) h = (info, refl)

same_model : (a b : ModelNo) → eq_by_cmp nat_cmp a.0 b.0 ≡ true → a ≡ b
same_model a b same = ap (λ (n : ℕ). record { 0 = n }) (tells_apart exact_unsigned a.0 b.0 same)

one_of : (b : Bool) (n : ℕ) (old : Option ℕ) → unwrap_or (cond b (Some n) old) 1 ≡ cond b n (unwrap_or old 1)
one_of true n old = refl
one_of false n old = refl

module _ (models : List ModelInfo) (tables : Tables) (model : ModelNo) where
  -- a row of the model is made
  pub next-own : HasModel models model → (id : RecId) (values : Values) → next_of (edited models tables (edit.Make model id values)) model ≡ max (next_of tables model) (id.0 + 1)
  next-own there id values =
      let at = there_of (model_at models model) there in
      ap (λ (o : Option ModelInfo). next_of (option_map_or (λ i. with_row models model id (row_of i values) tables) o tables) model) at.1
      ∙ ap (λ (o : Option ℕ). unwrap_or o 1) (finite.get-insert nat_cmp_total tables.next_ids model.0 (max (next_of tables model) (id.0 + 1)) model.0)
      ∙ one_of (eq_by_cmp nat_cmp model.0 model.0) (max (next_of tables model) (id.0 + 1)) (finite.get tables.next_ids model.0)
      ∙ ap (λ (b : Bool). cond b (max (next_of tables model) (id.0 + 1)) (next_of tables model)) (ap is_eq (tied_itself nat_cmp_total model.0))

  apart : (other : ModelNo) (n : ℕ) → (other ≡ model → ⊥) → (b : Bool) → eq_by_cmp nat_cmp model.0 other.0 ≡ b → cond b n (next_of tables model) ≡ next_of tables model
  apart other n not true same = absurd (not (sym (same_model model other same)))
  apart other n not false same = refl

  -- none is
  pub next-none : (one : Edit) → MakesNone model one → next_of (edited models tables one) model ≡ next_of tables model
  next-none (edit.Make other id values) not = by (model_at models other) where
    by : (o : Option ModelInfo) → next_of (option_map_or (λ i. with_row models other id (row_of i values) tables) o tables) model ≡ next_of tables model
    by None = refl
    by (Some info) =
        let n = max (next_of tables other) (id.0 + 1) in
        ap (λ (o : Option ℕ). unwrap_or o 1) (finite.get-insert nat_cmp_total tables.next_ids other.0 n model.0) ∙ one_of (eq_by_cmp nat_cmp model.0 other.0) n (finite.get tables.next_ids model.0)
        ∙ apart other n not (eq_by_cmp nat_cmp model.0 other.0) refl
  next-none (edit.Set cell v) not = ap (λ (ids : finite.FinMap nat_cmp ℕ). unwrap_or (finite.get ids model.0) 1) (set-next models tables cell v)
  next-none (edit.Gone other id) not = refl

-- an edit that may be asked for makes no row past the last but one
pub makes-fit : (models : List ModelInfo) (one : Edit) → MayFit models one → MakesFit one
makes-fit models (edit.Make model id values) fit = fit.0
makes-fit models (edit.Set cell v) fit = tt
makes-fit models (edit.Gone model id) fit = tt

-- edits that may be asked for
may-fit : (models : List ModelInfo) (one : Edit) → MayFit models one → IsFitEdit models one
may-fit models (edit.Make model id values) fit = fit
may-fit models (edit.Set cell v) fit = fit
may-fit models (edit.Gone model id) fit = absurd fit

pub all-fit : (models : List ModelInfo) (edits : List Edit) → All (MayFit models) edits → All (IsFitEdit models) edits
all-fit models edits fit = All-weaker (MayFit models) (IsFitEdit models) (may-fit models) edits fit

-- ---- bounds

below-more : (model : ModelNo) (low high : ℕ) → low ≤ high → (one : Edit) → MakesBelow model low one → MakesBelow model high one
below-more model low high up (edit.Make other id values) below = λ same. let lt : id.0 < low = below same in omega arith
below-more model low high up (edit.Set cell v) below = tt
below-more model low high up (edit.Gone other id) below = tt

-- none so far
pub up_to-none : (bound : ℕ) → MakesUpTo bound []
up_to-none bound model = All-nil (MakesBelow model bound)

-- a higher bound
pub up_to-more : (low high : ℕ) → low ≤ high → (edits : List Edit) → MakesUpTo low edits → MakesUpTo high edits
up_to-more low high up edits below model = All-weaker (MakesBelow model low) (MakesBelow model high) (below-more model low high up) edits (below model)

-- one row more
pub up_to-made : (bound : ℕ) (edits : List Edit) (model : ModelNo) (id : RecId) (values : Values) → id.0 < bound → MakesUpTo bound edits → MakesUpTo bound (edits ++ edit.Make model id values ∷ [])
up_to-made bound edits model id values low below other = All-push (MakesBelow other bound) edits (edit.Make model id values) (below other) (λ same. low)

-- edits behind others
pub up_to-then : (bound : ℕ) (first second : List Edit) → MakesUpTo bound first → MakesUpTo bound second → MakesUpTo bound (first ++ second)
up_to-then bound first second before behind model = All-append (MakesBelow model bound) first second (before model) (behind model)

-- edits that set values make no row
sets-up_to : (bound : ℕ) (model : ModelNo) (values : Values) (id : ℕ) → MakesUpTo bound (row_edits model values id)
sets-up_to bound model values id other =
    All-map (MakesBelow other bound) (λ (given : FieldNo × Value). edit.Set (record { model = model; id = record { 0 = id }; field = given.0 }) given.1) values (λ k d lt. tt)

module _ (models : List ModelInfo) (by : Author) (model : ModelNo) (given : Values) (bound : ℕ) where
  change-up_to : (parent : ParentInfo) → MakesUpTo bound (parent_change models by model given parent)
  change-up_to parent = each (linked given parent.link) where
    each : (o : Option RecId) → MakesUpTo bound (option_map_or (λ id. row_edits parent.model (changed_values models by parent.model (behind models model parent.link given)) id.0) o [])
    each None = up_to-none bound
    each (Some id) = sets-up_to bound parent.model (changed_values models by parent.model (behind models model parent.link given)) id.0

  -- nor do those of parents that are changed
  pub changes-up_to : (parents : List ParentInfo) → MakesUpTo bound (flat_map (parent_change models by model given) parents)
  changes-up_to [] = up_to-none bound
  changes-up_to (parent ∷ parents) = up_to-then bound (parent_change models by model given parent) (flat_map (parent_change models by model given) parents) (change-up_to parent) (changes-up_to parents)

-- a higher bound of next ids
pub next_ids-more : (low high : ℕ) → low ≤ high → (held : Holding) → NextIdsUpTo low held → NextIdsUpTo high held
next_ids-more low high up held within model there = let one : next_of held.staged model ≤ low = within model there in omega arith

-- room for a row and one for each parent
pub room-none : (n : ℕ) → n ≤ field_numbers → (held : Holding) → NextIdsUpTo (2 ^ 64 - 1 - suc n) held → LeaveRoom (suc n) held []
room-none n few held within = record {
  bound = 2 ^ 64 - 1 - suc n;
  low = omega (arith, few);
  high = omega (arith, few);
  next_ids = within;
  made = up_to-none (2 ^ 64 - 1 - suc n);
}
