use Rattle.std.proofs.Common.{◌≡◌, take}
use Rattle.std.specs.List.{flat_map}
use Rattle.std.specs.Prelude.{All}
use Rattle.ob_orm.specs.NewRows.{parent_change}
use Rattle.ob_orm.specs.NewRowSteps.{MayFit}
use Rattle.ob_orm.proofs.making.parents.parent_changes.Given as goal

-- the changes of the parents so far
abbrev pub invariant-loop-parent : goal.invariant-loop-parent
invariant-loop-parent l = record {
  edits : l.edits.items ≡ flat_map (parent_change l.maker.schema.now l.maker.author l.model l.given) (take l.parent-index l.parents);
  fit : All (MayFit l.maker.schema.now) l.edits.items;
}
