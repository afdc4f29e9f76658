-- The first place of the name, counted from 1.
use Rattle.std.proofs.Common.{ℕ, suc, Some, rules, tests, ap, sym, ◌∙◌, add-one}
use Rattle.std.proofs.lemmas.Iterator.{YieldsList-from_slice}
use Rattle.std.proofs.lemmas.Iterator.Search.{position_from_yields_List}
use Rattle.std.specs.Prelude.{bytes_eq, option_map}
use Rattle.ob_base.specs.declared.id.RecId.{RecId}
use Rattle.ob_access.specs.declared.policy.Group.{Group}
use Rattle.ob_access.proofs.policy.group_named.Goals as goal

abbrev numbered_id : ℕ → RecId
numbered_id i = record { 0 = suc i }

pub returns-in_err-place : goal.returns-in_err-place
returns-in_err-place c =
    let groups = c.args.groups.now in
    let found = position_from_yields_List (λ (group : Group). bytes_eq group.name c.args.name.now) _ _ c.position.result c.position.ensures.ran (YieldsList-from_slice groups cc) (λ x b q k. search (rules, tests)) in
    c.from_residual.ensures ∙ ap (option_map numbered_id) (sym c.in_err-place.was ∙ found)

pub returns : goal.returns
returns c =
    let groups = c.args.groups.now in
    let found = position_from_yields_List (λ (group : Group). bytes_eq group.name c.args.name.now) _ _ c.position.result c.position.ensures.ran (YieldsList-from_slice groups cc) (λ x b q k. search (rules, tests)) in
    ap (λ (n : ℕ). let id : RecId = record { 0 = n } in Some id) (add-one c.in_ok-place.place) ∙ ap (option_map numbered_id) (sym c.in_ok-place.was ∙ found)
