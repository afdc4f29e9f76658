-- Values from scratch as what stands in itself, and how many cells are read in turn at most.
use Rattle.std.proofs.Common.{◌≡◌, ℕ, zero, suc, ◌+◌, ◌-◌, ◌≤◌, true, List, Option, Some, None, Result, Err, refl, sym, ap, subst, ◌∙◌, arith}
use Rattle.std.specs.Prelude.{IsSome}
use Rattle.ob_base.specs.Limits.{max_stratum}
use Rattle.ob_base.specs.declared.id.Cell.{Cell}
use Rattle.ob_base.specs.declared.value.Value.{Value}
use Rattle.ob_expr.specs.Computing.{Lack, unread}
use Rattle.ob_expr.specs.Meaning.{row_of}
use Rattle.ob_expr.specs.Reads.{IsAlong}
use Rattle.ob_expr.specs.TypedTree.{typed_tree_of}
use Rattle.ob_schema.specs.declared.info.FieldInfo.{FieldInfo}
use Rattle.ob_schema.specs.declared.info.Formula.{Formula}
use Rattle.ob_schema.specs.declared.info.ModelInfo.{ModelInfo}
use Rattle.ob_schema.specs.declared.info.Origin.{Origin}
use Rattle.ob_schema.specs.declared.info.Origin.TheVariants as origin
use Rattle.ob_schema.specs.Models.{IsRegistry, field_at, is_given_from}
use Rattle.ob_schema.specs.Tied.{IsTied}
use Rattle.ob_tables.specs.Settling.{IsWithin, had_in, values_of}
use Rattle.ob_schema.specs.Tables.{Fits, Tables, row_at}
use Rattle.ob_schema.specs.Val.{IsVal, enough, val}
use Rattle.ob_tables.proofs.Expressions.{AreLaws}
use Rattle.ob_tables.proofs.FromScratch.{is_val, low_strata, whole}
use Rattle.ob_tables.proofs.Settled.{all_good}
use Rattle.ob_tables.proofs.Stable.{Rules, law-deep}

-- the same values
pub values_are : (models : List ModelInfo) (tables : Tables) → values_of models tables ≡ val models tables
unfolding values_of
values_are models tables = refl

-- nothing is not there
pub not_there : {X : Type 0} (o : Option X) → o ≡ None → IsSome o → ⊥
not_there None is there = cc
not_there (Some x) is there = cc

-- a field that the row is given has no formula
pub given-not_computed : (o : Origin) (formula : Formula) → is_given_from o ≡ true → o ≡ origin.Computed formula → ⊥
given-not_computed origin.Id formula given is = cc
given-not_computed origin.Plain formula given is = cc
given-not_computed (origin.Delegated at) formula given is = cc
given-not_computed (origin.Computed other) formula given is = cc

module _ (models : List ModelInfo) (tables : Tables) where
  -- no cell is within none
  pub within-none : (cell : Cell) → IsWithin models tables 0 cell → ⊥
  unfolding IsWithin
  within-none cell within = within

  -- a cell is within one at least
  pub within-some : (n : ℕ) (cell : Cell) → IsWithin models tables n cell → 1 ≤ n
  unfolding IsWithin
  within-some zero cell within = absurd within
  within-some (suc n) cell within = omega arith

  -- and what it reads within one fewer
  pub within-fewer : (n : ℕ) (cell : Cell) (info : FieldInfo) (formula : Formula) → IsWithin models tables n cell → IsSome (row_at tables cell.model cell.id)
      → field_at models cell.model cell.field ≡ Some info → info.origin ≡ origin.Computed formula
      → (other : Cell) → IsAlong (had_in models tables) (row_of cell) (typed_tree_of formula.typed) other → IsWithin models tables (n - 1) other
  unfolding IsWithin
  within-fewer zero cell info formula within row at from other along = absurd within
  within-fewer (suc n) cell info formula within row at from other along =
      let less : n ≡ suc n - 1 = omega arith in subst (λ (m : ℕ). IsWithin models tables m other) less (within row info formula at from other along)

  -- of a cell that no formula computes
  within-others : (n : ℕ) (cell : Cell)
      → (IsSome (row_at tables cell.model cell.id) → (info : FieldInfo) (formula : Formula) → field_at models cell.model cell.field ≡ Some info → info.origin ≡ origin.Computed formula → ⊥)
      → IsWithin models tables (suc n) cell
  unfolding IsWithin
  within-others n cell not = λ row info formula at from other along. absurd (not row info formula at from)

  -- of one that a formula computes
  within-computed : (n : ℕ) (cell : Cell) (info : FieldInfo) (formula : Formula) → field_at models cell.model cell.field ≡ Some info → info.origin ≡ origin.Computed formula
      → ((other : Cell) → IsAlong (had_in models tables) (row_of cell) (typed_tree_of formula.typed) other → IsWithin models tables n other) → IsWithin models tables (suc n) cell
  unfolding IsWithin
  within-computed n cell info formula at from along = λ row info2 formula2 at2 from2 other is.
      let same : info ≡ info2 = (let both : Some info ≡ Some info2 = sym at ∙ at2 in cc) in
      let theirs : origin.Computed formula ≡ origin.Computed formula2 = sym from ∙ ap (λ (i : FieldInfo). i.origin) same ∙ from2 in
      let one : formula2 ≡ formula = cc in
      along other (subst (λ (f : Formula). IsAlong (had_in models tables) (row_of cell) (typed_tree_of f.typed) other) one is)

  -- and within more
  within-later : (n m : ℕ) (cell : Cell) → n ≤ m → IsWithin models tables n cell → IsWithin models tables m cell
  unfolding IsWithin
  within-later zero m cell le within = absurd within
  within-later (suc n) zero cell le within = absurd (omega arith)
  within-later (suc n) (suc m) cell le within = λ row info formula at from other along. within-later n m other (omega arith) (within row info formula at from other along)

-- what is known of the tables over which cells are evaluated
pub record AreSound (models : List ModelInfo) (tables : Tables) : Type 0 where
  pub laws : AreLaws
  pub registry : IsRegistry models
  pub fits : Fits models tables
  pub tied : IsTied models tables

module _ (models : List ModelInfo) (tables : Tables) (known : AreSound models tables) where
  -- values are one step of their definition over themselves
  pub values-law : IsVal models tables (values_of models tables)
  values-law = subst (IsVal models tables) (sym (values_are models tables)) (is_val known.laws models tables known.registry known.fits known.tied)

  -- no cell of a row that is there reads one that is none
  pub none_unread : (cell other : Cell) → IsSome (row_at tables cell.model cell.id) → IsSome (field_at models cell.model cell.field) → values_of models tables cell ≡ Err (unread other) → ⊥
  none_unread cell other row field is =
      whole known.laws models tables known.registry known.fits known.tied cell other row field (ap (λ (f : Cell → Result Value Lack). f cell) (sym (values_are models tables)) ∙ is)

  -- so it is with all
  within-rules : Rules models tables (IsWithin models tables)
  within-rules = record {
    later = within-later models tables;
    absent = λ n c none. within-others models tables n c (λ row info formula at from. not_there (row_at tables c.model c.id) none row);
    unknown = λ n c none. within-others models tables n c (λ row info formula at from. let both : Some info ≡ None = sym at ∙ none in cc);
    given = λ n c info at given. within-others models tables n c (λ row info2 formula at2 from.
        let same : info ≡ info2 = (let both : Some info ≡ Some info2 = sym at ∙ at2 in cc) in
        given-not_computed info.origin formula given (ap (λ (i : FieldInfo). i.origin) same ∙ from));
    delegated = λ n c info to some at is link target. within-others models tables n c (λ row info2 formula at2 from.
        let same : info ≡ info2 = (let both : Some info ≡ Some info2 = sym at ∙ at2 in cc) in
        let two : origin.Delegated to ≡ origin.Computed formula = sym is ∙ ap (λ (i : FieldInfo). i.origin) same ∙ from in cc);
    computed = λ n c info formula some at from along. within-computed models tables n c info formula at from (along (values_of models tables) (law-deep models tables n (values_of models tables) values-law));
  }

  -- each cell is within enough
  pub within-enough : (cell : Cell) → IsWithin models tables (enough models tables) cell
  within-enough cell =
      all_good models tables (IsWithin models tables) within-rules known.registry known.fits known.tied (max_stratum + 1) (low_strata models known.registry) (enough models tables) (omega arith) cell
