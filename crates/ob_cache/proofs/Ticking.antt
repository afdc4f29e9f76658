-- Ticks, and the cells that they count.
use Rattle.std.proofs.Common.{◌≡◌, ◌+◌, inl, inr, ℕ, zero, suc, List, [], ◌∷◌, Result, Ok, Err, length, take, refl, sym, ap, subst, ◌∙◌, add-one, arith}
use Rattle.std.specs.Prelude.{Contains, IsErrAnd, IsOk}
use Rattle.std.specs.List.{AllByRecursion}
use Rattle.std.specs.List.Sorted.{IsStrictlySortedBy}
use Rattle.std.proofs.lemmas.Bool.{false≢true}
use Rattle.std.proofs.lemmas.List.{length-take-le, take_all}
use Rattle.std.proofs.lemmas.List.Elements.{All-nil, All-take}
use Rattle.ob_base.specs.Tally.{Tally, ticked, ticked_times}
use Rattle.ob_base.specs.declared.id.Cell.{Cell}
use Rattle.ob_cache.specs.Behind.{AreMarked, TicksEach, TicksUpTo}
use Rattle.ob_schema.specs.Links.{Sides}
use Rattle.ob_schema.specs.Tables.{Tables, row_at}
use Rattle.ob_schema.specs.declared.info.ModelInfo.{ModelInfo}
use Rattle.ob_tables.proofs.CallerLemmas.{not_there}
use Rattle.ob_trigger.specs.Affected.{Affected, Changed}
use Rattle.ob_trigger.specs.CellSets.{CellsRise}

module _ {L : Type 0} (noted : L → L) where
  last-tick : (n : ℕ) (t : Tally L) → ticked noted (ticked_times n noted t) ≡ ticked_times (suc n) noted t
  last-tick zero t = refl
  last-tick (suc n) t = last-tick n (ticked noted t)

  -- one tick behind so many
  pub ticked-more : (n : ℕ) (old now new : Tally L) → now ≡ ticked_times n noted old → new ≡ ticked noted now → new ≡ ticked_times (n + 1) noted old
  ticked-more n old now new before one = one ∙ ap (ticked noted) before ∙ last-tick n old ∙ ap (λ (k : ℕ). ticked_times k noted old) (sym (add-one n))

  -- how many there were
  times_count : (n : ℕ) (t : Tally L) → (ticked_times n noted t).count ≡ t.count + n
  times_count zero t = omega arith
  times_count (suc n) t = let rest = times_count n (ticked noted t) in omega (arith, rest)

  pub ticked-count : (n : ℕ) (old new : Tally L) → new ≡ ticked_times n noted old → new.count ≡ old.count + n
  ticked-count n old new is = ap (λ (t : Tally L). t.count) is ∙ times_count n old

-- no tick, where nothing is done
pub no-ticks : {L : Type 0} (noted : L → L) (most : ℕ) (is_done : Type 0) (tally : Tally L) → (is_done → ⊥) → TicksUpTo noted most is_done tally tally
no-ticks noted most is_done tally not = (0, omega arith, refl, λ is. absurd (not is))

-- the first of a list hold what all of it do
first_all : {X : Type 0} (P : X → Type 0) (n : ℕ) (xs : List X) → AllByRecursion P xs → AllByRecursion P (take n xs)
first_all P zero [] all = tt
first_all P (suc n) [] all = tt
first_all P zero (x ∷ xs) all = tt
first_all P (suc n) (x ∷ xs) all = (all.0, first_all P n xs all.1)

first_rise : (n : ℕ) (cells : List Cell) → CellsRise cells → CellsRise (take n cells)
unfolding IsStrictlySortedBy
first_rise zero [] rise = tt
first_rise (suc n) [] rise = tt
first_rise zero (cell ∷ cells) rise = tt
first_rise (suc n) (cell ∷ cells) rise = (first_all _ n cells rise.0, first_rise n cells rise.1)

none_rise : CellsRise []
unfolding IsStrictlySortedBy
none_rise = tt

-- what leaves a function early is no value
pub not-done : {T E : Type 0} (Q : E → Type 0) (r : Result T E) → IsErrAnd r Q → IsOk r → ⊥
not-done Q (Ok x) left is = left
not-done Q (Err e) left is = false≢true is

module _ {L : Type 0} (noted : L → L) (models : List ModelInfo) (sides : Sides) where
  -- nothing was evaluated, and nothing is settled or changed
  pub none-evaluated : (are_settled : Type 0) (tally : Tally L) → (are_settled → (cell : Cell) → Changed models sides cell → ⊥) → TicksEach noted models sides are_settled tally tally
  none-evaluated are_settled tally none = record {
    cells = [];
    ticks = refl;
    evaluated = record { once = none_rise; affected = All-nil (Affected models sides); changed = λ is cell changed. absurd (none is cell changed) };
  }

  -- the marked cells were evaluated, or some of them until one failed
  pub marked-evaluated : (marked : List Cell) → AreMarked models sides marked → (is_done are_settled : Type 0) → (are_settled → is_done) → (old new : Tally L) → TicksUpTo noted (length marked) is_done old new
      → TicksEach noted models sides are_settled old new
  marked-evaluated marked are is_done are_settled done old new (n, few, ticks, all) = record {
    cells = take n marked;
    ticks = ticks ∙ ap (λ (k : ℕ). ticked_times k noted old) (sym (length-take-le n marked few));
    evaluated = record {
      once = first_rise n marked are.rising;
      affected = All-take (Affected models sides) n marked are.affected;
      changed = λ is cell changed. subst (λ (l : List Cell). Contains l cell) (sym (take_all n marked (let same : n ≡ length marked = all (done is) in omega (arith, same)))) (are.changed cell changed);
    };
  }

  -- what is settled otherwise
  pub settled-as : (is_done are_settled : Type 0) → (are_settled → is_done) → (old new : Tally L) → TicksEach noted models sides is_done old new → TicksEach noted models sides are_settled old new
  settled-as is_done are_settled done old new each = record {
    cells = each.cells;
    ticks = each.ticks;
    evaluated = record { once = each.evaluated.once; affected = each.evaluated.affected; changed = λ is. each.evaluated.changed (done is) };
  }

  pub same-ticks : (are_settled : Type 0) (old now new : Tally L) → new ≡ now → TicksEach noted models sides are_settled old now → TicksEach noted models sides are_settled old new
  same-ticks are_settled old now new is each = record { cells = each.cells; ticks = is ∙ each.ticks; evaluated = each.evaluated }

-- between tables that are the same nothing changes
pub same-unchanged : (models : List ModelInfo) (tables : Tables) (cell : Cell) → Changed models (record { before = tables; behind = tables }) cell → ⊥
same-unchanged models tables cell ((there, field), how) = elim how [
  | inl none ↦ not_there (row_at tables cell.model cell.id) none there
  | inr differs ↦ differs refl
]
