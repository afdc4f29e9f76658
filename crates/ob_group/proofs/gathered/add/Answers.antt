use Rattle.std.proofs.Common.{◌≡◌, ◌∷◌, ◌++◌, [], Some, List, map, ap, ◌∙◌, arith}
use Rattle.std.proofs.lemmas.Grind.{common_steps}
use Rattle.std.proofs.lemmas.List.{map-append}
use Rattle.ob_group.proofs.GatheredRows.{added-found, added-rows, group_updates}
use Rattle.ob_group.specs.GroupParts.{rows_in, rows_items}
use Rattle.ob_group.proofs.gathered.add.Goals as goal

pub returns-clause-rows : goal.returns-clause-rows
returns-clause-rows c = λ at.
    let keys = c.args.keys.items in
    let rows = c.push.new.self in
    let pushed : rows.items ≡ c.taken_rows-rows.result.items ++ c.args.row ∷ [] = grind (arith, common_steps) in
    let shown : rows_in rows ≡ rows_in c.taken_rows-rows.result ++ c.args.row.items ∷ [] = ap rows_items pushed ∙ map-append _ c.taken_rows-rows.result.items (c.args.row ∷ []) in
    added-rows keys at c.args.groups.now c.taken_rows-rows.new.groups c.insert.new.self c.taken_rows-rows.result rows c.args.row.items (c.taken_rows-rows.ensures.groups at)
    (group_updates keys c.taken_rows-rows.new.groups c.insert.new.self (Some rows) c.in_ok-insert.ensures.updates at) shown c.taken_rows-rows.ensures.rows

pub returns-clause-groups : goal.returns-clause-groups
returns-clause-groups c = λ at.
    let keys = c.args.keys.items in
    let rows = c.push.new.self in
    added-found keys at c.args.groups.now c.taken_rows-rows.new.groups c.insert.new.self rows (c.taken_rows-rows.ensures.groups at)
    (group_updates keys c.taken_rows-rows.new.groups c.insert.new.self (Some rows) c.in_ok-insert.ensures.updates at)
