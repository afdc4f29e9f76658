-- The id is at the end, or between what is below it and what is above it.
use Rattle.std.proofs.Common.{rules, ◌≡◌, ◌⊎◌, ◌++◌, ◌∷◌, ◌↔◌, [], List, sym, subst, ◌∙◌}
use Rattle.std.specs.Prelude.{Contains}
use Rattle.ob_base.specs.declared.id.RecId.{RecId}
use Rattle.ob_base.specs.Rising.{IsRising}
use Rattle.ob_effect.proofs.RisingParts.{IsAround, has-at_end, has-with, joined, rises-below, rises-with}
use Rattle.ob_effect.proofs.ids.with_id.Goals as goal

pub returns-then-is_past-clause-members : goal.returns-then-is_past-clause-members
returns-then-is_past-clause-members c =
    let is : c.push.new.self ≡ c.args.ids ++ c.args.id ∷ [] = search rules in
    subst (λ (list : List RecId). (other : RecId) → Contains list other ↔ (Contains c.args.ids other ⊎ (other ≡ c.args.id))) (sym is) (has-at_end c.args.ids c.args.id)

pub push_each-requires : goal.push_each-requires
push_each-requires c =
    let parts : IsAround c.as_slice-2.result.now c.around.result.0.now c.around.result.1.now c.args.id
    = record { rises = c.as_slice-2.ensures.rising; low = c.around.ensures.below; high = c.around.ensures.above; all = c.around.ensures.all } in
    let is : c.new-list.result ++ c.around.result.0.now ≡ c.around.result.0.now = search rules in
    subst IsRising (sym is) (rises-below c.as_slice-2.result.now c.around.result.0.now c.around.result.1.now c.args.id parts)

pub push_each-requires-2 : goal.push_each-requires-2
push_each-requires-2 c =
    let parts : IsAround c.as_slice-2.result.now c.around.result.0.now c.around.result.1.now c.args.id
    = record { rises = c.as_slice-2.ensures.rising; low = c.around.ensures.below; high = c.around.ensures.above; all = c.around.ensures.all } in
    let upto : c.push-2.new.self ≡ c.around.result.0.now ++ c.args.id ∷ [] = search rules in
    let is : c.push-2.new.self ++ c.around.result.1.now ≡ c.around.result.0.now ++ c.args.id ∷ c.around.result.1.now = joined c.around.result.0.now c.around.result.1.now c.push-2.new.self c.args.id upto in
    subst IsRising (sym is) (rises-with c.as_slice-2.result.now c.around.result.0.now c.around.result.1.now c.args.id parts)

pub returns-clause-members : goal.returns-clause-members
returns-clause-members c =
    let parts : IsAround c.as_slice-2.result.now c.around.result.0.now c.around.result.1.now c.args.id
    = record { rises = c.as_slice-2.ensures.rising; low = c.around.ensures.below; high = c.around.ensures.above; all = c.around.ensures.all } in
    let upto : c.push-2.new.self ≡ c.around.result.0.now ++ c.args.id ∷ [] = search rules in
    let all : c.push_each-2.new.list ≡ c.push-2.new.self ++ c.around.result.1.now = search rules in
    let is : c.push_each-2.new.list ≡ c.around.result.0.now ++ c.args.id ∷ c.around.result.1.now = all ∙ joined c.around.result.0.now c.around.result.1.now c.push-2.new.self c.args.id upto in
    let same : c.as_slice-2.result.now ≡ c.args.ids = search rules in
    subst (λ (ids : List RecId). (other : RecId) → Contains c.push_each-2.new.list other ↔ (Contains ids other ⊎ (other ≡ c.args.id))) same
    (subst (λ (list : List RecId). (other : RecId) → Contains list other ↔ (Contains c.as_slice-2.result.now other ⊎ (other ≡ c.args.id))) (sym is)
    (has-with c.as_slice-2.result.now c.around.result.0.now c.around.result.1.now c.args.id parts))
