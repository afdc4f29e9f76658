use Rattle.std.proofs.Common.{◌++◌, map, take, codes, List, ℕ, refl, ap, ◌∙◌, arith}
use Rattle.toml.specs.Data.{table}
use Rattle.toml.specs.View.{table_view, view}
use Rattle.ob_load.specs.Access.{name_of}
use Rattle.ob_module.specs.Meaning.{items_at}
use Rattle.ob_module.proofs.CallerLemmas.{map-whole}
use Rattle.ob_load.proofs.policy.add_group_names.Goals as goal

pub returns : goal.returns
returns c =
    let items = c.listed_at-entry-items.result.now in
    let seen = items_at (codes "group") (table (table_view c.args.document.now)) in
    let made = map (λ entry. name_of c.args.owner.now (view entry)) (take c.loop-entry.entry-index items) in
    c.loop-entry.invariant ∙ ap (λ (added : List (List ℕ)). c.args.names.now ++ added) (map-whole (name_of c.args.owner.now) view items seen c.loop-entry.entry-index made refl (omega arith) c.listed_at-entry-items.ensures)
