-- What is below the id, and what is above it, rise as the list does.
use Rattle.std.proofs.Common.{rules, ◌≡◌, ◌≢◌, ◌++◌, ◌↔◌, List, sym, subst}
use Rattle.std.specs.Prelude.{Contains}
use Rattle.ob_base.specs.declared.id.RecId.{RecId}
use Rattle.ob_base.specs.Rising.{IsRising}
use Rattle.ob_effect.proofs.RisingParts.{IsAround, has-without, rises-below, rises-without}
use Rattle.ob_effect.proofs.ids.without.Goals as goal

pub push_each-requires : goal.push_each-requires
push_each-requires c =
    let parts : IsAround c.args.ids.now c.around.result.0.now c.around.result.1.now c.args.id
    = record { rises = c.requires; low = c.around.ensures.below; high = c.around.ensures.above; all = c.around.ensures.all } in
    let is : c.new-left.result ++ c.around.result.0.now ≡ c.around.result.0.now = search rules in
    subst IsRising (sym is) (rises-below c.args.ids.now c.around.result.0.now c.around.result.1.now c.args.id parts)

pub push_each-requires-2 : goal.push_each-requires-2
push_each-requires-2 c =
    let parts : IsAround c.args.ids.now c.around.result.0.now c.around.result.1.now c.args.id
    = record { rises = c.requires; low = c.around.ensures.below; high = c.around.ensures.above; all = c.around.ensures.all } in
    let is : c.push_each.new.list ++ c.around.result.1.now ≡ c.around.result.0.now ++ c.around.result.1.now = search rules in
    subst IsRising (sym is) (rises-without c.args.ids.now c.around.result.0.now c.around.result.1.now c.args.id parts)

pub returns-clause-members : goal.returns-clause-members
returns-clause-members c =
    let parts : IsAround c.args.ids.now c.around.result.0.now c.around.result.1.now c.args.id
    = record { rises = c.requires; low = c.around.ensures.below; high = c.around.ensures.above; all = c.around.ensures.all } in
    let is : c.push_each-2.new.list ≡ c.around.result.0.now ++ c.around.result.1.now = search rules in
    subst (λ (list : List RecId). (other : RecId) → Contains list other ↔ (Contains c.args.ids.now other × (other ≢ c.args.id))) (sym is)
    (has-without c.args.ids.now c.around.result.0.now c.around.result.1.now c.args.id parts)
