-- What edits break, as tests of the edited cells tell it and of what hangs on them: so much is tested behind a change, whatever else there is.
use Rattle.std.specs.Prelude.{◌≡◌, ◌⊎◌, List, Any, true, None, IsSome, IsSomeAnd, Some}
use Rattle.ob_base.specs.declared.id.Cell.{Cell}
use Rattle.ob_base.specs.declared.id.FieldNo.{FieldNo}
use Rattle.ob_base.specs.declared.id.ModelNo.{ModelNo}
use Rattle.ob_base.specs.declared.id.RecId.{RecId}
use Rattle.ob_base.specs.declared.refusal.BrokenKind.{BrokenKind}
use Rattle.ob_base.specs.declared.refusal.BrokenKind.TheVariants as kind
use Rattle.ob_schema.specs.Broken.{IsPastIds, IsSharedSet, IsTooFull, IsWanting}
use Rattle.ob_schema.specs.Chains.{Reaches}
use Rattle.ob_schema.specs.Fields.{is_plain_kept}
use Rattle.ob_schema.specs.Links.{Sides}
use Rattle.ob_schema.specs.Models.{model_at}
use Rattle.ob_schema.specs.Plain.{names, plain_at}
use Rattle.ob_schema.specs.Tables.{row_at}
use Rattle.ob_schema.specs.Tied.{AtCell, Dangles, IsCircled, IsParentIn, IsTooDeep}
use Rattle.ob_schema.specs.declared.info.ModelInfo.{ModelInfo}
use Rattle.ob_trigger.specs.Affected.{Edited}

module _ (models : List ModelInfo) (sides : Sides) where
  -- the change takes a row away
  abbrev pub IsGone : ModelNo → RecId → Type 0
  IsGone model id = IsSome (row_at sides.before model id) × (row_at sides.behind model id ≡ None)

  -- a cell of a row that is there still names one that the change takes away
  abbrev pub NamesGone : Cell → Type 0
  NamesGone cell = AtCell models sides.behind cell
      (λ info. (is_plain_kept info ≡ true) × IsSomeAnd (plain_at sides.behind models cell) (λ v. (id : RecId) × (names id v ≡ true) × IsSomeAnd info.relation (λ target. IsGone target id)))

  -- the change edits a cell of a row in one of these fields
  abbrev pub EditsSome : ModelNo → RecId → List FieldNo → Type 0
  EditsSome model id fields = Any (λ field. Edited models sides (record { model = model; id = id; field = field })) fields

  -- the first field of a set that no two rows may share, in a row that shares it and of which the change edits a cell of the set
  abbrev pub SharesEdited : Cell → Type 0
  SharesEdited cell = IsSome (row_at sides.behind cell.model cell.id)
      × IsSomeAnd (model_at models cell.model) (λ info. Any (λ set. EditsSome cell.model cell.id set × IsSharedSet models sides.behind cell set) info.unique)

  -- the parent field of a row that is there
  abbrev pub IsInTree : Cell → Type 0
  IsInTree cell = IsSomeAnd (model_at models cell.model) (λ info. info.parent ≡ Some cell.field) × IsSome (row_at sides.behind cell.model cell.id)

  -- the change edits the parent of a row, which now is its own parent, or that of one of its parents
  abbrev pub CirclesEdited : Cell → Type 0
  CirclesEdited cell = IsInTree cell × Edited models sides cell × IsCircled models sides.behind cell.model cell.field cell.id

  -- a row, or one that stands below it
  abbrev pub IsAtOrBelow : ModelNo → FieldNo → RecId → RecId → Type 0
  IsAtOrBelow model field top id = (id ≡ top) ⊎ Reaches (IsParentIn models sides.behind model field) id top

  -- a row of which the change edits the parent stands deeper than a tree may be, or one below it does
  abbrev pub SinksEdited : Cell → Type 0
  SinksEdited cell = IsInTree cell × IsTooDeep models sides.behind cell.model cell.field cell.id × ((top : RecId) × Edited models sides (record cell { id = top }) × IsAtOrBelow cell.model cell.field top cell.id)

  -- a test of what was edited fails at a cell: it is broken in this way, whatever formulas give
  abbrev pub EditsBreak : BrokenKind → Cell → Type 0
  EditsBreak kind.Required cell = Edited models sides cell × IsWanting models sides.behind cell
  EditsBreak kind.MissingRef cell = (Edited models sides cell × Dangles models sides.behind cell) ⊎ NamesGone cell
  EditsBreak kind.Unique cell = SharesEdited cell
  EditsBreak kind.Tree cell = CirclesEdited cell
  EditsBreak kind.Depth cell = SinksEdited cell
  EditsBreak kind.Limit cell = Edited models sides cell × (IsPastIds models sides.behind cell ⊎ IsTooFull models sides.behind cell)
  EditsBreak _ cell = ⊥

  -- the tests by which rows can be followed pass: edited references and trees lead to rows that are there, and no row that is gone is still named
  pub record EditsTie : Type 0 where
    pub named : (cell : Cell) → EditsBreak kind.MissingRef cell → ⊥
    pub trees : (cell : Cell) → EditsBreak kind.Tree cell → ⊥
    pub depths : (cell : Cell) → EditsBreak kind.Depth cell → ⊥

  -- all of them pass
  abbrev pub EditsPass : Type 0
  EditsPass = (broken : BrokenKind) (cell : Cell) → EditsBreak broken cell → ⊥
