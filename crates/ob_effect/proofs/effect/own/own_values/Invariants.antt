use Rattle.std.specs.Prelude.{All}
use Rattle.ob_effect.specs.Objects.{IsTypedValue}
use Rattle.ob_effect.proofs.effect.own.own_values.Given as goal

-- the values so far are typed
abbrev pub invariant-loop-one : goal.invariant-loop-one
invariant-loop-one l = All (IsTypedValue l.schema l.model) l.values.items
