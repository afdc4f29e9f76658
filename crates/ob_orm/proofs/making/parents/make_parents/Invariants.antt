use Rattle.std.proofs.Common.{◌≡◌, ◌++◌, take}
use Rattle.std.specs.Prelude.{All}
use Rattle.ob_orm.specs.NewRows.{with_parents}
use Rattle.ob_orm.specs.NewRowSteps.{AddsEdits, HoldsNextIds, IsReady, IsTyped, so_far}
use Rattle.ob_orm.proofs.making.parents.make_parents.Given as goal
use Rattle.ob_schema.specs.Tables.{Tables}

-- the parents so far are made
abbrev pub invariant-loop-parent : goal.invariant-loop-parent
invariant-loop-parent l = record {
  adds : AddsEdits l.fn.making l.making;
  ready : IsReady l.maker.schema.now l.making;
  typed : All (IsTyped l.maker.schema.now l.model) l.given.items;
  made : (old : Tables) → HoldsNextIds l.maker.schema.now old l.fn.making
      → (l.making.edits.items ≡ l.fn.making.edits.items ++ (with_parents l.maker.schema.now l.maker.author (so_far l.maker.schema.now old l.fn.making) l.model l.fn.given.items (take l.parent-index l.parents)).edits)
      × (l.given.items ≡ (with_parents l.maker.schema.now l.maker.author (so_far l.maker.schema.now old l.fn.making) l.model l.fn.given.items (take l.parent-index l.parents)).given)
      × HoldsNextIds l.maker.schema.now old l.making;
}
