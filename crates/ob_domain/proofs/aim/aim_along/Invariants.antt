-- A name's steps are found as the links so far, and then what is left of them.
use Rattle.std.proofs.Common.{◌≡◌, ◌∷◌, [], ◌++◌, drop, map}
use Rattle.ob_domain.proofs.Aims.{IsFoundTo}
use Rattle.ob_domain.specs.Over.{AreLinks, end_of}
use Rattle.ob_schema.specs.Models.{HasModel}
use Rattle.ob_domain.proofs.aim.aim_along.Given as goal

abbrev pub invariant-loop-name : goal.invariant-loop-name
invariant-loop-name l = record {
  found : IsFoundTo l.schema l.fn.model (map (λ step. step.now) l.steps) (map (λ step. step.now) (drop l.name-index l.before) ++ l.last.now ∷ []) l.links l.model;
  there : HasModel l.schema l.model;
  leads : AreLinks l.schema l.fn.model l.links;
  ends : end_of l.fn.model l.links ≡ l.model;
}
