-- What rows break, model by model.
use Rattle.std.proofs.Common.{◌≡◌, ◌<◌, ◌⊎◌, ◌||◌, ℕ, zero, suc, Bool, true, false, List, Option, Some, None, is_some, IsSome, length, refl, sym, ap, subst, ◌∙◌, inl, inr, ⊎_elim, arith}
use Rattle.std.specs.Prelude.{slice_get}
use Rattle.std.specs.Option.{IfSome, IsSomeAnd}
use Rattle.std.proofs.lemmas.Option.{slice_get_within}
use Rattle.ob_base.specs.Limits.{max_models}
use Rattle.ob_base.specs.declared.id.Cell.{Cell}
use Rattle.ob_base.specs.declared.id.ModelNo.{ModelNo}
use Rattle.ob_base.specs.declared.refusal.Broken.{Broken}
use Rattle.ob_base.specs.declared.refusal.BrokenKind.{BrokenKind}
use Rattle.ob_base.specs.declared.refusal.BrokenKind.TheVariants as kind
use Rattle.ob_schema.specs.Built.{numbered}
use Rattle.ob_schema.specs.Models.{HasModel, IsRegistry, model_at}
use Rattle.ob_schema.specs.declared.info.ModelInfo.{ModelInfo}
use Rattle.ob_schema.specs.Broken.{BreaksAs, IsBroken}
use Rattle.ob_tables.specs.Finding.{Anywhere, BreaksIn, Finds, IsUpTo, is_of_formulas, is_of_plain, is_of_rows, is_of_sets, is_of_trees, unties}
use Rattle.ob_tables.specs.Applying.{IsFirstOrSound}
use Rattle.ob_tables.specs.declared.findings.Findings.{Findings}
use Rattle.ob_schema.specs.Tables.{Fits, IsRowOf, PlainRow, Tables, row_at}
use Rattle.ob_schema.specs.Tied.{IsTied}

contrary : {P : Type 0} → false ≡ true → P
contrary e = cc

or_left : (a b c : Bool) → a ≡ true → (a || b || c) ≡ true
or_left true b c h = refl
or_left false b c h = contrary h

or_middle : (a b c : Bool) → b ≡ true → (a || b || c) ≡ true
or_middle true b c h = refl
or_middle false true c h = refl
or_middle false false c h = contrary h

or_right : (a b c : Bool) → c ≡ true → (a || b || c) ≡ true
or_right true b c h = refl
or_right false true c h = refl
or_right false false c h = h

or_cases : (a b c : Bool) → (a || b || c) ≡ true → ((a ≡ true) ⊎ (b ≡ true)) ⊎ (c ≡ true)
or_cases true b c h = inl (inl refl)
or_cases false true c h = inl (inr refl)
or_cases false false c h = inr h

module _ (models : List ModelInfo) (t : Tables) where
  -- the three ways together
  abbrev pub Three : (Cell → Type 0) → Broken → Type 0
  Three Where b = (BreaksIn models t is_of_plain Where b ⊎ BreaksIn models t is_of_sets Where b) ⊎ BreaksIn models t is_of_trees Where b

  pub three-to : (Where : Cell → Type 0) (b : Broken) → Three Where b → BreaksIn models t is_of_rows Where b
  three-to Where b h = ⊎_elim (λ g. ⊎_elim (λ p. (or_left (is_of_plain b.kind) (is_of_sets b.kind) (is_of_trees b.kind) p.0, p.1, p.2)) (λ p. (or_middle (is_of_plain b.kind) (is_of_sets b.kind) (is_of_trees b.kind) p.0, p.1, p.2)) g)
      (λ p. (or_right (is_of_plain b.kind) (is_of_sets b.kind) (is_of_trees b.kind) p.0, p.1, p.2)) h

  pub three-back : (Where : Cell → Type 0) (b : Broken) → BreaksIn models t is_of_rows Where b → Three Where b
  three-back Where b h = ⊎_elim (λ g. ⊎_elim (λ p. inl (inl (p, h.1, h.2))) (λ p. inl (inr (p, h.1, h.2))) g) (λ p. inr (p, h.1, h.2)) (or_cases (is_of_plain b.kind) (is_of_sets b.kind) (is_of_trees b.kind) h.0)

  -- what rows break is in a row that is there
  pub row-of-any : (k : BrokenKind) (cell : Cell) → is_of_rows k ≡ true → BreaksAs models t k cell → IsSome (row_at t cell.model cell.id)
  row-of-any kind.Required cell such h = h.0
  row-of-any kind.MissingRef cell such h = h.0
  row-of-any kind.Limit cell such h = ⊎_elim (λ past. past.0) (λ full. full.0) h
  row-of-any kind.Unique cell such h = h.0
  row-of-any kind.Tree cell such h = h.1
  row-of-any kind.Depth cell such h = h.1
  row-of-any _ cell such h = contrary such

  some_row : (o : Option PlainRow) (m : Option ModelInfo) → IsSome o → IfSome o (λ row. IsSomeAnd m (λ info. IsRowOf info row)) → IsSome m
  some_row None m there h = contrary there
  some_row (Some row) None there h = absurd h
  some_row (Some row) (Some m) there h = refl

  -- and its model is there
  pub model-of-any : Fits models t → (k : BrokenKind) (cell : Cell) → is_of_rows k ≡ true → BreaksAs models t k cell → HasModel models cell.model
  model-of-any fits k cell such h = some_row (row_at t cell.model cell.id) (model_at models cell.model) (row-of-any k cell such h) (fits.rows cell.model cell.id)

  numbered_low : (n : ℕ) → IsSome (numbered models n) → (k : ℕ) × (n ≡ suc k) × (k < length models)
  numbered_low zero h = contrary h
  numbered_low (suc k) h = (k, refl, low (slice_get models k) refl h)
    where
      low : (o : Option ModelInfo) → slice_get models k ≡ o → IsSome o → k < length models
      low None e h = contrary h
      low (Some m) e h = slice_get_within models k m e

  -- the place of a model that is there
  pub model-place : IsRegistry models → (model : ModelNo) → HasModel models model → (k : ℕ) × (model.0 ≡ suc k) × (k < max_models)
  model-place registry model h = let n = numbered_low model.0 h in let low = n.2 in let few = registry.few in (n.0, n.1, omega arith)

  -- a model that isn't there breaks nothing
  pub none-breaks : Fits models t → (model : ModelNo) → model_at models model ≡ None → (b : Broken) → BreaksIn models t is_of_rows (λ cell. cell.model ≡ model) b → ⊥
  none-breaks fits model none b h = contrary (sym (ap is_some (ap (model_at models) h.1 ∙ none)) ∙ model-of-any fits b.kind b.cell h.0 h.2)

  -- without a parent there is no tree
  pub no-tree : (model : ModelNo) (m : ModelInfo) → model_at models model ≡ Some m → m.parent ≡ None → (b : Broken) → BreaksIn models t is_of_trees (λ cell. cell.model ≡ model) b → ⊥
  no-tree model m at none b h = by b.kind h.0 h.2
    where
      parented : IsSomeAnd (model_at models b.cell.model) (λ info. info.parent ≡ Some b.cell.field) → ⊥
      parented p =
          let q : m.parent ≡ Some b.cell.field = subst (λ o. IsSomeAnd o (λ info. info.parent ≡ Some b.cell.field)) (ap (model_at models) h.1 ∙ at) p in
          contrary (ap is_some (sym none ∙ q))

      by : (k : BrokenKind) → is_of_trees k ≡ true → BreaksAs models t k b.cell → ⊥
      by kind.Tree such q = parented q.0
      by kind.Depth such q = parented q.0
      by _ such q = contrary such

  -- rows can be followed, if that was found
  pub tied-so : ((b : Broken) → BreaksIn models t is_of_rows Anywhere b → unties b.kind ≡ false) → IsTied models t
  tied-so h = (
    λ cell d. contrary (sym (h (record { kind = kind.MissingRef; cell = cell }) (refl, tt, d))),
    λ cell d. contrary (sym (h (record { kind = kind.Tree; cell = cell }) (refl, tt, d))),
    λ cell d. contrary (sym (h (record { kind = kind.Depth; cell = cell }) (refl, tt, d))),
  )

  -- and where they can be, it is
  pub so-tied : IsTied models t → (b : Broken) → BreaksIn models t is_of_rows Anywhere b → unties b.kind ≡ false
  so-tied tied b h = by b.kind h.2
    where
      by : (k : BrokenKind) → BreaksAs models t k b.cell → unties k ≡ false
      by kind.MissingRef q = absurd (tied.0 b.cell q)
      by kind.Tree q = absurd (tied.1 b.cell q)
      by kind.Depth q = absurd (tied.2 b.cell q)
      by _ q = refl

  -- all that is broken is found among rows or formulas
  pub all-kinds : (b : Broken) → IsBroken models t b → BreaksIn models t is_of_rows Anywhere b ⊎ BreaksIn models t is_of_formulas Anywhere b
  all-kinds b h = by b.kind h
    where
      by : (k : BrokenKind) → BreaksAs models t k b.cell → ((is_of_rows k ≡ true) × Unit {0} × BreaksAs models t k b.cell) ⊎ ((is_of_formulas k ≡ true) × Unit {0} × BreaksAs models t k b.cell)
      by kind.Required q = inl (refl, tt, q)
      by kind.MissingRef q = inl (refl, tt, q)
      by kind.Unique q = inl (refl, tt, q)
      by kind.Tree q = inl (refl, tt, q)
      by kind.Depth q = inl (refl, tt, q)
      by kind.Limit q = inl (refl, tt, q)
      by kind.Overflow q = inr (refl, tt, q)
      by kind.TooLong q = inr (refl, tt, q)
      by kind.ZeroDivisor q = inr (refl, tt, q)
      by kind.Check q = inr (refl, tt, q)
      by _ q = absurd q

  -- formulas break nothing where rows can't be followed
  pub formulas-tied : (b : Broken) → BreaksIn models t is_of_formulas Anywhere b → IsTied models t
  formulas-tied b h = by b.kind h.0 h.2
    where
      by : (k : BrokenKind) → is_of_formulas k ≡ true → BreaksAs models t k b.cell → IsTied models t
      by kind.Overflow such q = q.0
      by kind.TooLong such q = q.0
      by kind.ZeroDivisor such q = q.0
      by kind.Check such q = q.0
      by _ such q = contrary such

  first_by : (P : Broken → Type 0) (old o : Option Broken) → old ≡ None → IfSome o (λ b. (old ≡ Some b) ⊎ P b) → ((b : Broken) → (old ≡ Some b) ⊎ P b → IsSomeAnd o (λ first. IsUpTo first b))
      → ((b : Broken) → P b → IsBroken models t b) → ((b : Broken) → IsBroken models t b → P b) → IsFirstOrSound models t o
  first_by P old None none among least to back = λ b broken. least b (inr (back b broken))
  first_by P old (Some first) none among least to back = record {
    there = ⊎_elim (λ e. contrary (ap is_some (sym none ∙ e))) (λ p. to first p) among;
    none_before = λ other broken. least other (inr (back other broken));
  }

  -- the first of all that is broken was found
  pub first-or-sound : (P : Broken → Type 0) (old new : Findings) → old.first ≡ None → Finds P old new → ((b : Broken) → P b → IsBroken models t b) → ((b : Broken) → IsBroken models t b → P b)
      → IsFirstOrSound models t new.first
  first-or-sound P old new none found to back = first_by P old.first new.first none found.among found.least to back
