-- Behind a change of sound tables nothing is broken, if the tests of what it edits pass, and those of the cells to which it gives another outcome.
use Rattle.std.proofs.Common.{◌≡◌, ◌⊎◌, ◌<◌, inl, inr, length, true, List, Some, refl}
use Rattle.std.specs.Prelude.{Contains}
use Rattle.ob_base.specs.Limits.{max_id, max_targets}
use Rattle.ob_base.specs.declared.id.Cell.{Cell}
use Rattle.ob_base.specs.declared.id.RecId.{RecId}
use Rattle.ob_base.specs.declared.refusal.BrokenKind.{BrokenKind}
use Rattle.ob_base.specs.declared.refusal.BrokenKind.TheVariants as kind
use Rattle.ob_base.specs.declared.value.Value.TheVariants as value
use Rattle.ob_definition.specs.declared.field_type.FieldType.TheVariants as type
use Rattle.ob_schema.specs.Broken.{AreSound, BreaksAs, IsPastIds, IsTooFull, IsWanting}
use Rattle.ob_schema.specs.Fields.{is_plain_kept}
use Rattle.ob_schema.specs.Links.{Sides}
use Rattle.ob_schema.specs.Models.{field_at, is_id_from}
use Rattle.ob_schema.specs.Plain.{id_value, plain_at}
use Rattle.ob_schema.specs.Tables.{Fits, row_at}
use Rattle.ob_schema.specs.Tied.{IsTied}
use Rattle.ob_schema.specs.declared.info.ModelInfo.{ModelInfo}
use Rattle.ob_schema.specs.declared.info.Origin.{Origin}
use Rattle.ob_schema.specs.declared.info.Origin.TheVariants as origin
use Rattle.ob_sound.specs.EditsBreak.{EditsPass, EditsTie}
use Rattle.ob_sound.specs.FormulasBreak.{FormulasBreak, FormulasPass}
use Rattle.ob_tables.proofs.CallerLemmas.{is_there, tell_and, told_and}
use Rattle.ob_trigger.specs.Affected.{Changed, Edited}
use Rattle.ob_sound.proofs.Sets.{shared_before}
use Rattle.ob_sound.proofs.Unedited.{plain_there, row_before, value_before}

-- the one origin of fields that are their row's id
id_is : (o : Origin) → is_id_from o ≡ true → o ≡ origin.Id
id_is origin.Id is = refl
id_is origin.Plain is = absurd cc
id_is (origin.Delegated at) is = absurd cc
id_is (origin.Computed formula) is = absurd cc

-- the tests of links are some of all
pub pass_tie : (models : List ModelInfo) (sides : Sides) → EditsPass models sides → EditsTie models sides
pass_tie models sides pass = record { named = pass kind.MissingRef; trees = pass kind.Tree; depths = pass kind.Depth }

module _ (models : List ModelInfo) (sides : Sides) (sound : AreSound models sides.before) (pass : EditsPass models sides) where
  -- no cell that must have a value has none
  none_wanting : (cell : Cell) → IsWanting models sides.behind cell → ⊥
  none_wanting cell (there, wants) =
      let free : Edited models sides cell → ⊥ = λ edited. pass kind.Required cell (edited, (there, wants)) in
      let f = told_and (field_at models cell.model cell.field) (λ info. (is_plain_kept info ≡ true) × (info.required ≡ true) × (plain_at sides.behind models cell ≡ Some value.Nil)) wants in
      sound.sound (record { kind = kind.Required; cell = cell }) (
        row_before models sides cell value.Nil free f.2.2,
        tell_and (field_at models cell.model cell.field) f.0 (λ info. (is_plain_kept info ≡ true) × (info.required ≡ true) × (plain_at sides.before models cell ≡ Some value.Nil)) f.1
            (f.2.0, f.2.1, value_before models sides cell value.Nil free f.2.2),
      )

  -- no id is past those that there are
  none_past : (cell : Cell) → IsPastIds models sides.behind cell → ⊥
  none_past cell (there, past) =
      let free : Edited models sides cell → ⊥ = λ edited. pass kind.Limit cell (edited, inl (there, past)) in
      let row = is_there (row_at sides.behind cell.model cell.id) there in
      let f = told_and (field_at models cell.model cell.field) (λ info. (is_id_from info.origin ≡ true) × ((cell.id.0 ≡ 0) ⊎ (max_id < cell.id.0))) past in
      let is : plain_at sides.behind models cell ≡ Some (id_value cell.id) = plain_there models sides.behind cell row.0 f.0 origin.Id row.1 f.1 (id_is f.0.origin f.2.0) in
      sound.sound (record { kind = kind.Limit; cell = cell }) (inl (row_before models sides cell (id_value cell.id) free is, past))

  -- no list has more targets than it may have
  none_full : (cell : Cell) → IsTooFull models sides.behind cell → ⊥
  none_full cell (there, full) =
      let free : Edited models sides cell → ⊥ = λ edited. pass kind.Limit cell (edited, inr (there, full)) in
      let f = told_and (field_at models cell.model cell.field) (λ info. (info.field_type ≡ type.Many2many) × ((ids : List RecId) × (plain_at sides.behind models cell ≡ Some (value.Refs ids)) × (max_targets < length ids))) full in
      let list : (ids : List RecId) × (plain_at sides.behind models cell ≡ Some (value.Refs ids)) × (max_targets < length ids) = f.2.1 in
      sound.sound (record { kind = kind.Limit; cell = cell }) (inr (
        row_before models sides cell (value.Refs list.0) free list.1,
        tell_and (field_at models cell.model cell.field) f.0 (λ info. (info.field_type ≡ type.Many2many) × ((ids : List RecId) × (plain_at sides.before models cell ≡ Some (value.Refs ids)) × (max_targets < length ids))) f.1
            (f.2.0, (list.0, value_before models sides cell (value.Refs list.0) free list.1, list.2)),
      ))

  module _ (cells : List Cell) (tied : IsTied models sides.behind) (changed : (broken : BrokenKind) (cell : Cell) → FormulasBreak models sides.behind broken cell → Changed models sides cell)
      (holds : (cell : Cell) → Changed models sides cell → Contains cells cell) (formulas : FormulasPass models sides.behind cells) where
    -- no formula breaks a cell
    none_fails : (broken : BrokenKind) (cell : Cell) → FormulasBreak models sides.behind broken cell → ⊥
    none_fails broken cell fails = formulas broken cell (holds cell (changed broken cell fails)) fails

    nothing : (broken : BrokenKind) (cell : Cell) → BreaksAs models sides.behind broken cell → ⊥
    nothing kind.Required cell is = none_wanting cell is
    nothing kind.MissingRef cell is = tied.0 cell is
    nothing kind.Unique cell is = sound.sound (record { kind = kind.Unique; cell = cell }) (shared_before models sides cell (pass kind.Unique) is)
    nothing kind.Tree cell is = tied.1 cell is
    nothing kind.Depth cell is = tied.2 cell is
    nothing kind.Limit cell (inl past) = none_past cell past
    nothing kind.Limit cell (inr full) = none_full cell full
    nothing kind.Overflow cell is = none_fails kind.Overflow cell is.1
    nothing kind.TooLong cell is = none_fails kind.TooLong cell is.1
    nothing kind.ZeroDivisor cell is = none_fails kind.ZeroDivisor cell is.1
    nothing kind.Check cell is = none_fails kind.Check cell is.1
    nothing _ cell is = absurd is

    pub all_sound : Fits models sides.behind → AreSound models sides.behind
    all_sound fits = record { fits = fits; sound = λ broken is. nothing broken.kind broken.cell is }
