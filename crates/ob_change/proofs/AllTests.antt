-- What all tests tell of a change.
use Rattle.std.proofs.Common.{◌↔◌, inl, inr, List, Option, Some, None}
use Rattle.std.specs.Prelude.{All, Contains}
use Rattle.std.proofs.lemmas.List.Elements.{All-contains}
use Rattle.ob_base.specs.declared.id.Cell.{Cell}
use Rattle.ob_base.specs.declared.refusal.Broken.{Broken}
use Rattle.ob_base.specs.declared.refusal.BrokenKind.{BrokenKind}
use Rattle.ob_base.specs.declared.refusal.BrokenKind.TheVariants as kind
use Rattle.ob_schema.specs.Links.{Sides}
use Rattle.ob_schema.specs.Tables.{Tables}
use Rattle.ob_schema.specs.declared.info.ModelInfo.{ModelInfo}
use Rattle.ob_sound.specs.EditsBreak.{EditsBreak, NamesGone, SharesEdited}
use Rattle.ob_trigger.specs.Affected.{Edited}
use Rattle.ob_change.specs.Changing.{TellsBroken}
use Rattle.ob_change.specs.Testing.{BreaksNone}
use Rattle.ob_change.specs.TreeRows.{TreesPass}

module _ (models : List ModelInfo) (sides : Sides) (cells : List Cell) (are_edited : (cell : Cell) → Contains cells cell ↔ Edited models sides cell) (pass : All (BreaksNone models sides.behind) cells)
    (none_gone : (cell : Cell) → NamesGone models sides cell → ⊥) (none_shares : (cell : Cell) → SharesEdited models sides cell → ⊥)
    (trees : TreesPass models sides) where
  of_edited : (cell : Cell) → Edited models sides cell → BreaksNone models sides.behind cell
  of_edited cell edited = All-contains (BreaksNone models sides.behind) cells cell pass ((are_edited cell).1 edited)

  -- where each of them passes all do
  pub all-pass : (broken : BrokenKind) (cell : Cell) → EditsBreak models sides broken cell → ⊥
  all-pass kind.Required cell (edited, is) = (of_edited cell edited).value is
  all-pass kind.MissingRef cell (inl (edited, is)) = (of_edited cell edited).reference is
  all-pass kind.MissingRef cell (inr is) = none_gone cell is
  all-pass kind.Unique cell is = none_shares cell is
  all-pass kind.Tree cell is = trees.circles cell is
  all-pass kind.Depth cell is = trees.depths cell is
  all-pass kind.Limit cell (edited, inl is) = (of_edited cell edited).id is
  all-pass kind.Limit cell (edited, inr is) = (of_edited cell edited).targets is
  all-pass _ cell is = absurd is

-- what the last test tells, all of them tell
pub last-told : (models : List ModelInfo) (tables : Tables) (P Q : Type 0) → (P → Q) → (o : Option Broken) → TellsBroken models tables P o → TellsBroken models tables Q o
last-told models tables P Q follows (Some broken) told = told
last-told models tables P Q follows None told = follows told
