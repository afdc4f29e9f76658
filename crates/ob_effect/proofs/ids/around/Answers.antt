-- What is at an id or above it is above it but for the id itself, which comes first there.
use Rattle.std.proofs.Common.{rules, arith, ◌≡◌, ◌≢◌, ◌≤◌, ◌<◌, ◌++◌, ◌∷◌, subst}
use Rattle.std.specs.Prelude.{All}
use Rattle.ob_base.specs.declared.id.RecId.{RecId}
use Rattle.ob_effect.proofs.RisingParts.{over, over-all}
use Rattle.ob_effect.proofs.ids.around.Goals.{in_default-via-in-Some+else-eq, in_default-via-in_default}
use Rattle.ob_effect.proofs.ids.around.Goals as goal

pub returns-in-Some-clause-above : goal.returns-in-Some-clause-above
returns-in-Some-clause-above c =
    let same : c.in-Some.first.now ≡ c.args.id = search rules in
    let parts : c.args.ids.now ≡ c.split_at.result.0.now ++ c.in-Some.first.now ∷ c.in-Some.above.now = search rules in
    subst (λ (id : RecId). All (λ other. id.0 < other.0) c.in-Some.above.now) same (over c.args.ids.now c.split_at.result.0.now c.in-Some.above.now c.in-Some.first.now c.requires parts)

pub returns-in_default-clause-above : goal.returns-in_default-clause-above
returns-in_default-clause-above c = elim c.in_default.branch [
  | in_default-via-in-Some+else-eq w ↦
      let other : w.in-Some.first.now.0 ≢ c.args.id.0 = search rules in
      let begins : c.split_at.result.1.now ≡ w.in-Some.first.now ∷ w.in-Some.above.now = search rules in
      let none : All (λ (other : RecId). c.args.id.0 ≤ other.0) c.split_at.result.1.now = search rules in
      over-all c.args.ids.now c.split_at.result.0.now c.split_at.result.1.now w.in-Some.above.now w.in-Some.first.now c.args.id c.requires c.split_at.ensures.by_index.0 begins none other
  | in_default-via-in_default w ↦ λ k d h. absurd (search (rules, arith))
]
