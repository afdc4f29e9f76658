use Rattle.std.proofs.Common.{◌≡◌, take}
use Rattle.std.specs.Prelude.{All}
use Rattle.ob_orm.specs.NewRows.{behind}
use Rattle.ob_orm.specs.NewRowSteps.{IsTyped}
use Rattle.ob_orm.proofs.making.parents.behind.Given as goal

-- what is given to the parent so far
abbrev pub invariant-loop-one : goal.invariant-loop-one
invariant-loop-one l = record {
  values : l.values.items ≡ behind l.maker.schema.now l.model l.parent.link (take l.one-index l.given);
  typed : All (IsTyped l.maker.schema.now l.parent.model) l.values.items;
}
