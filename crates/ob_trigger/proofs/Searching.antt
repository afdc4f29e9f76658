-- The search for all that leads to an edited cell: what is marked does, and what isn't found yet reads a cell that waits.
use Rattle.std.proofs.Common.{◌≡◌, ◌⊎◌, inl, inr, zero, suc, List, [], ◌∷◌, ◌++◌, sym, subst}
use Rattle.std.specs.Prelude.{Contains}
use Rattle.std.specs.BTreeSet as sorted
use Rattle.std.proofs.lemmas.List.Elements.{Contains-append_left, Contains-push, Contains-push_cases}
use Rattle.ob_base.specs.declared.id.Cell.{Cell}
use Rattle.ob_schema.specs.Chains.{Reaches}
use Rattle.ob_schema.specs.Links.{Sides}
use Rattle.ob_schema.specs.declared.info.ModelInfo.{ModelInfo}
use Rattle.ob_schema.proofs.CallerLemmas.{contains-none}
use Rattle.ob_trigger.specs.Affected.{HasComputedField, ReadsIn}
use Rattle.ob_trigger.specs.Marks.{IsClosure, HasMark, MarksComputed, MarksMore}
use Rattle.ob_trigger.proofs.Marking.{marked_or_not, none_marked}

module _ (models : List ModelInfo) (sides : Sides) (edited : List Cell) where
  abbrev reads : Cell → Cell → Type 0
  reads = ReadsIn models sides.before

  -- it leads to an edited cell
  abbrev pub IsLeading : Cell → Type 0
  IsLeading cell = (other : Cell) × Reaches reads cell other × Contains edited other

  -- a search with what waits
  pub record IsSearch (marked : sorted.BTreeSet Cell) (waiting : List Cell) : Type 0 where
    pub right : (cell : Cell) → HasMark marked cell → IsLeading cell
    pub waits : (cell : Cell) → Contains waiting cell → Contains edited cell ⊎ IsLeading cell
    pub covered : (cell : Cell) → Contains edited cell ⊎ HasMark marked cell → Contains waiting cell ⊎ ((reader : Cell) → reads reader cell → HasMark marked reader)

  pub begun : (marked : sorted.BTreeSet Cell) (waiting : List Cell) → marked.keys ≡ [] → waiting ≡ edited → IsSearch marked waiting
  begun marked waiting empty is = record {
    right = λ cell marks. absurd (none_marked marked cell empty marks);
    waits = λ cell among. inl (subst (λ (l : List Cell). Contains l cell) is among);
    covered = λ cell either. by cell either;
  }
    where
      by : (cell : Cell) → Contains edited cell ⊎ HasMark marked cell → Contains waiting cell ⊎ ((reader : Cell) → reads reader cell → HasMark marked reader)
      by cell (inl among) = inl (subst (λ (l : List Cell). Contains l cell) (sym is) among)
      by cell (inr marks) = absurd (none_marked marked cell empty marks)

  module _ (old new : sorted.BTreeSet Cell) (waited before now : List Cell) (taken : Cell) (was : IsSearch old waited) (is : waited ≡ before ++ taken ∷ []) (more : MarksMore old new before now (λ reader. reads reader taken)) where
    -- what reads the cell that was taken leads on as that one does
    through : (cell : Cell) → reads cell taken → IsLeading cell
    through cell read = elim (was.waits taken (subst (λ (l : List Cell). Contains l taken) (sym is) (Contains-push before taken))) [
      | inl among ↦ (taken, (zero, read), among)
      | inr on ↦ (on.0, (suc on.1.0, (taken, read, on.1.1)), on.2)
    ]

    right : (cell : Cell) → HasMark new cell → IsLeading cell
    right cell marks = elim ((more.marked cell).0 marks) [ inl had ↦ was.right cell had | inr read ↦ through cell read ]

    -- what was done stays done
    still : (cell : Cell) → ((reader : Cell) → reads reader cell → HasMark old reader) → (reader : Cell) → reads reader cell → HasMark new reader
    still cell done reader read = (more.marked reader).1 (inl (done reader read))

    -- what waited or was done waits or is done
    after : (cell : Cell) → Contains waited cell ⊎ ((reader : Cell) → reads reader cell → HasMark old reader) → Contains now cell ⊎ ((reader : Cell) → reads reader cell → HasMark new reader)
    after cell (inr done) = inr (still cell done)
    after cell (inl waits) = elim (Contains-push_cases before taken cell (subst (λ (l : List Cell). Contains l cell) is waits)) [
      | inl stays ↦ inl ((more.waiting cell).1 (inl stays))
      | inr equal ↦ inr (λ reader read. (more.marked reader).1 (inr (subst (λ (c : Cell). reads reader c) (sym equal) read)))
    ]

    covered : (cell : Cell) → Contains edited cell ⊎ HasMark new cell → Contains now cell ⊎ ((reader : Cell) → reads reader cell → HasMark new reader)
    covered cell (inl among) = after cell (was.covered cell (inl among))
    covered cell (inr marks) = elim (marked_or_not old cell) [
      | inl had ↦ after cell (was.covered cell (inr had))
      | inr not ↦ inl ((more.waiting cell).1 (inr (marks, not)))
    ]

    waits : (cell : Cell) → Contains now cell → Contains edited cell ⊎ IsLeading cell
    waits cell among = elim ((more.waiting cell).0 among) [
      | inl stays ↦ was.waits cell (subst (λ (l : List Cell). Contains l cell) (sym is) (Contains-append_left before (taken ∷ []) cell stays))
      | inr (marks, not) ↦ inr (right cell marks)
    ]

    pub searched : IsSearch new now
    searched = record { right = right; waits = waits; covered = covered }

  -- where none waits all is found
  pub ended : (marked : sorted.BTreeSet Cell) (waiting : List Cell) → IsSearch marked waiting → waiting ≡ [] → IsClosure models sides edited marked
  ended marked waiting search none = record {
    right = search.right;
    closed = λ cell other read either. by cell other read (search.covered other either);
  }
    where
      by : (cell other : Cell) → reads cell other → Contains waiting other ⊎ ((reader : Cell) → reads reader other → HasMark marked reader) → HasMark marked cell
      by cell other read (inl among) = absurd (contains-none other (subst (λ (l : List Cell). Contains l other) none among))
      by cell other read (inr done) = done cell read

-- marks of computed fields alone
pub marked_only : (models : List ModelInfo) (old new : sorted.BTreeSet Cell) → ((cell : Cell) → HasMark old cell → HasComputedField models cell) → MarksComputed models old new
    → (cell : Cell) → HasMark new cell → HasComputedField models cell
marked_only models old new before more cell marks = elim (more cell marks) [ inl was ↦ before cell was | inr has ↦ has ]
