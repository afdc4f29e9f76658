use Rattle.std.specs.Prelude.{All}
use Rattle.ob_effect.proofs.CallSteps.{Goes}
use Rattle.ob_effect.specs.Rows.{IsLink}
use Rattle.ob_effect.proofs.effect.parents.make_parents.Given as goal

-- the parents so far are made and linked
abbrev pub invariant-loop-parent : goal.invariant-loop-parent
invariant-loop-parent g l = record {
  far : Goes g.K.Keeper l.fn.engine l.engine l.notes;
  links : All (IsLink l.fn.engine.held.models l.model) l.links.items;
}
