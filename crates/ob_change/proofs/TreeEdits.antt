-- Where each row whose parent is edited stands in its tree as it must, edits break no tree.
use Rattle.std.proofs.Common.{◌<◌, ◌+◌, inl, inr, ℕ, zero, suc, [], ◌∷◌, ◌++◌, List, Option, Some, None, Result, Ok, Err, get_or, take, length, sym, subst}
use Rattle.std.specs.Prelude.{Contains, IfOk}
use Rattle.std.proofs.lemmas.List.{take_more}
use Rattle.std.proofs.lemmas.List.Elements.{Contains-push_cases}
use Rattle.ob_base.specs.declared.id.Cell.{Cell}
use Rattle.ob_schema.proofs.CallerLemmas.{contains-none}
use Rattle.ob_base.specs.declared.refusal.Broken.{Broken}
use Rattle.ob_schema.specs.Broken.{Sound}
use Rattle.ob_schema.specs.Links.{Sides}
use Rattle.ob_schema.specs.Tables.{Tables}
use Rattle.ob_tables.specs.Applying.{IsFirstOrSound}
use Rattle.ob_schema.specs.declared.info.ModelInfo.{ModelInfo}
use Rattle.ob_sound.specs.EditsBreak.{CirclesEdited, IsAtOrBelow, IsInTree, SinksEdited}
use Rattle.ob_trigger.specs.Affected.{Edited}
use Rattle.ob_change.specs.Changing.{TellsBroken}
use Rattle.ob_change.specs.TreeRows.{IsUp, StandsWell}
use Rattle.ob_change.proofs.TreeSteps.{reached-steps, steps-there}

-- what is known of an answer tells more of it
pub ok_on : {A E : Type 0} (r : Result A E) (P Q : A → Type 0) → ((a : A) → P a → Q a) → IfOk r P → IfOk r Q
ok_on (Ok a) P Q on known = on a known
ok_on (Err e) P Q on known = known

-- where tables aren't sound the first that they break is told
pub first-told : (models : List ModelInfo) (tables : Tables) (P : Type 0) → (Sound models tables → ⊥) → (o : Option Broken) → IsFirstOrSound models tables o → TellsBroken models tables P o
first-told models tables P not (Some broken) first = first.there
first-told models tables P not None sound = absurd (not sound)

module _ (models : List ModelInfo) (sides : Sides) where
  -- each of these, if it is the parent field of a row, has one that stands as it must
  abbrev pub StandAll : List Cell → Type 0
  StandAll cells = (cell : Cell) → Contains cells cell → IsInTree models sides cell → StandsWell models sides.behind cell

  pub stand-none : StandAll []
  stand-none cell among = absurd (contains-none cell among)

  pub stand-more : (cells : List Cell) (i : ℕ) (d : Cell) → i < length cells → StandAll (take i cells) → (IsInTree models sides (get_or cells i d) → StandsWell models sides.behind (get_or cells i d))
      → StandAll (take (i + 1) cells)
  stand-more cells i d within before here = subst StandAll (sym (take_more cells i d within)) both
    where
      both : StandAll (take i cells ++ get_or cells i d ∷ [])
      both cell among = elim (Contains-push_cases (take i cells) (get_or cells i d) cell among) [
        | inl old ↦ before cell old
        | inr same ↦ subst (λ (c : Cell). IsInTree models sides c → StandsWell models sides.behind c) same here
      ]

  module _ (stands : (cell : Cell) → Edited models sides cell → IsInTree models sides cell → StandsWell models sides.behind cell) where
    pub none-circled : (cell : Cell) → CirclesEdited models sides cell → ⊥
    none-circled cell (tree, edited, circled) = (stands cell edited tree).circled circled

    pub none-sunk : (cell : Cell) → SinksEdited models sides cell → ⊥
    none-sunk cell (tree, deep, (top, edited, at)) =
        let on = steps at in
        let there = steps-there models sides.behind cell.model cell.field on.0 cell.id top tree.1 on.1 in
        (stands (record cell { id = top }) edited (tree.0, there)).none_sinks on.0 cell.id on.1 deep
      where
        steps : IsAtOrBelow models sides cell.model cell.field top cell.id → (n : ℕ) × IsUp models sides.behind cell.model cell.field n cell.id top
        steps (inl same) = (zero, same)
        steps (inr on) = (suc on.0, reached-steps models sides.behind cell.model cell.field on.0 cell.id top on.1)
