-- Number by number.
use Rattle.std.proofs.Common.{◌≡◌, ◌<◌, [], ℕ, List, ap, sym, ◌∙◌, fold, get_or, length, map, slice_index, take}
use Rattle.std.specs.BTreeSet.{insert_key}
use Rattle.std.specs.Ordering.{nat_cmp}
use Rattle.std.proofs.lemmas.List.{get_or-map, map_more}
use Rattle.std.proofs.lemmas.List.Elements.{All-get_or}
use Rattle.std.proofs.lemmas.List.Sums.{fold_push}
use Rattle.ob_base.specs.declared.id.RecId.{RecId}
use Rattle.ob_install.proofs.BroughtIds.{numbers}
use Rattle.ob_install.proofs.installing.bringing.ids_among.Goals as goal

pub loop-number-preserved : goal.loop-number-preserved
loop-number-preserved c =
    let ids = c.args.ids.now in
    let ns = c.args.numbers.now in
    let i = c.loop-number.number-index in
    let at = slice_index (numbers ids) in
    let none : RecId = record { 0 = 0 } in
    let lt : i < length ns = c.loop-number-test.true in
    let own : at (get_or ns i 0) ≡ (get_or ids (get_or ns i 0) none).0 = get_or-map (λ (id : RecId). id.0) ids (get_or ns i 0) none 0 (All-get_or (λ n. n < length ids) ns i 0 lt c.requires) in
    c.in_ok-insert.ensures.keys ∙ ap (insert_key nat_cmp c.loop-number.found.keys) (sym own) ∙ ap (λ (ks : List ℕ). insert_key nat_cmp ks (at (get_or ns i 0))) c.loop-number.invariant
    ∙ sym (ap (fold (insert_key nat_cmp) []) (map_more at ns i 0 lt) ∙ fold_push (insert_key nat_cmp) [] (map at (take i ns)) (at (get_or ns i 0)))
