use Rattle.std.proofs.Common.{◌≡◌, map, take}
use Rattle.ob_base.specs.declared.place.PathStep.TheVariants.{Key}
use Rattle.ob_rpc.proofs.read.place_of.Given as goal

abbrev pub invariant-loop-key : goal.invariant-loop-key
invariant-loop-key l = l.place ≡ map (λ key. Key key.now) (take l.key-index l.keys)
