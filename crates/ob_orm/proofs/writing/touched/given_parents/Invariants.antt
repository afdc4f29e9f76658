use Rattle.std.proofs.Common.{◌≡◌, take}
use Rattle.std.specs.Prelude.{All, filter}
use Rattle.ob_orm.proofs.TouchedRows.{gives}
use Rattle.ob_orm.proofs.writing.touched.given_parents.Given as goal
use Rattle.ob_schema.specs.Models.{IsParentIn}

-- those of the parents so far
abbrev pub invariant-loop-parent : goal.invariant-loop-parent
invariant-loop-parent l = record {
  parents : l.parents.items ≡ filter (gives l.maker.schema.now l.model l.given) (take l.parent-index l.all);
  within : All (IsParentIn l.maker.schema.now l.model) l.parents.items;
}
