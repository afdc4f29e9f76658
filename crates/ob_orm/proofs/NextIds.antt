-- The next ids of models, as they are held one model after another.
use Rattle.std.proofs.Common.{◌≡◌, ◌≢◌, ◌≤◌, ◌+◌, ◌⊎◌, inl, inr, ℕ, zero, suc, List, [], length, Option, Some, None, refl, sym, ap, subst, ◌∙◌, arith}
use Rattle.std.specs.Prelude.{All, IsSome, IsSomeAnd, slice_get}
use Rattle.std.specs.BTreeMap as tree
use Rattle.std.specs.BTreeMap.{BTreeMap}
use Rattle.std.specs.Ordering.{nat_cmp}
use Rattle.std.proofs.lemmas.Bool.{cases_eq, false≢true}
use Rattle.std.proofs.lemmas.List.Elements.{All-nil}
use Rattle.std.proofs.lemmas.Option.{slice_get_within}
use Rattle.ob_base.specs.declared.id.ModelNo.{ModelNo}
use Rattle.ob_cache.specs.Standing.{max_next_id}
use Rattle.ob_orm.specs.NewRowSteps.{HoldsNextIds, IsReady, MayFit, held_next}
use Rattle.ob_orm.specs.declared.making.next_ids.Making.{Making}
use Rattle.ob_schema.specs.Models.{HasModel}
use Rattle.ob_schema.specs.Tables.{Tables, next_of}
use Rattle.ob_schema.specs.Built.{numbered}
use Rattle.ob_schema.specs.declared.info.ModelInfo.{ModelInfo}
use Rattle.ob_tables.specs.After.{after}
use Rattle.ob_tables.specs.declared.edit.Edit.{Edit}

-- the next id of each model up to a number is held
abbrev pub AreHeld : List ModelInfo → BTreeMap ℕ ℕ → ℕ → Type 0
AreHeld models ids n = (model : ModelNo) → HasModel models model → model.0 ≤ n → IsSomeAnd (tree.get nat_cmp ids model.0) (λ next. next ≤ max_next_id)

-- and is that of tables
abbrev pub AreTheirs : List ModelInfo → Tables → BTreeMap ℕ ℕ → ℕ → Type 0
AreTheirs models tables ids n = (model : ModelNo) → HasModel models model → model.0 ≤ n → tree.get nat_cmp ids model.0 ≡ Some (next_of tables model)

-- numbers count from 1
no_first : (models : List ModelInfo) (model : ModelNo) → HasModel models model → model.0 ≤ 0 → ⊥
no_first models model there low = by model.0 there low where
  by : (n : ℕ) → IsSome (numbered models n) → n ≤ 0 → ⊥
  by zero there low = false≢true there
  by (suc n) there low = absurd (omega arith)

-- no model is past the last
within : (models : List ModelInfo) (n : ℕ) → IsSome (numbered models n) → n ≤ length models
within models zero there = omega arith
within models (suc n) there = by (slice_get models n) refl there where
  by : (o : Option ModelInfo) → slice_get models n ≡ o → IsSome o → suc n ≤ length models
  by None at there = absurd (false≢true there)
  by (Some info) at there = let lt = slice_get_within models n info at in omega arith

pub model-within : (models : List ModelInfo) (model : ModelNo) → HasModel models model → model.0 ≤ length models
model-within models model there = within models model.0 there

module _ (models : List ModelInfo) where
  -- at first none is asked for
  pub held-none : (ids : BTreeMap ℕ ℕ) → AreHeld models ids 0
  held-none ids model there low = absurd (no_first models model there low)

  module _ (n : ℕ) (before now : BTreeMap ℕ ℕ) (others : (number : ℕ) → number ≢ n + 1 → tree.get nat_cmp now number ≡ tree.get nat_cmp before number) where
    -- a model up to the next number is that one or before it
    last : (model : ModelNo) → model.0 ≤ n + 1 → (model ≡ record { 0 = n + 1 }) ⊎ ((model.0 ≤ n) × (model.0 ≢ n + 1))
    last model low = elim (cases_eq model.0 (n + 1)) [
      | inl same ↦ inl (ap (λ (k : ℕ). record { 0 = k }) same)
      | inr apart ↦ inr (omega arith, apart)
    ]

    -- one more is held
    pub held-more : (HasModel models (record { 0 = n + 1 }) → IsSomeAnd (tree.get nat_cmp now (n + 1)) (λ next. next ≤ max_next_id)) → AreHeld models before n → AreHeld models now (n + 1)
    held-more own far model there low = elim (last model low) [
      | inl same ↦ (let here = own (subst (HasModel models) same there) in subst (λ (m : ModelNo). IsSomeAnd (tree.get nat_cmp now m.0) (λ next. next ≤ max_next_id)) (sym same) here)
      | inr less ↦ subst (λ (o : Option ℕ). IsSomeAnd o (λ next. next ≤ max_next_id)) (sym (others model.0 less.1)) (far model there less.0)
    ]

-- ---- all of them

-- an id that is held is no further up than there are edits
raise : (m : ℕ) (o : Option ℕ) → IsSomeAnd o (λ next. next ≤ max_next_id) → IsSomeAnd o (λ next. next ≤ max_next_id + m)
raise m None h = absurd h
raise m (Some n) h = omega arith

module _ (models : List ModelInfo) (making : Making) (n : ℕ) (all : length models ≤ n) (none : making.edits.items ≡ []) where
  low : (model : ModelNo) → HasModel models model → model.0 ≤ n
  low model there = let within = model-within models model there in omega arith

  pub ready-all : AreHeld models making.next_ids n → IsReady models making
  ready-all far = record {
    held = λ model there. raise (length making.edits.items) (held_next making model) (far model there (low model there));
    fit = subst (All (MayFit models)) (sym none) (All-nil (MayFit models));
  }

  pub holds-all : (tables : Tables) → AreTheirs models tables making.next_ids n → HoldsNextIds models tables making
  holds-all tables far model there = far model there (low model there) ∙ sym (ap (λ (es : List Edit). Some (next_of (after models tables es) model)) none)
