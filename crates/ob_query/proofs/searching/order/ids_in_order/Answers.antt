use Rattle.std.proofs.Common.{ap, ◌∙◌, map}
use Rattle.std.proofs.lemmas.Result.{IfOk-weaker}
use Rattle.ob_query.proofs.RankedRows.{sorted-ordered}
use Rattle.ob_query.specs.SearchOrder.{window}
use Rattle.ob_query.specs.declared.searching.order.Ranked.{Ranked}
use Rattle.ob_query.proofs.searching.order.ids_in_order.Goals as goal

pub returns : goal.returns
returns c =
    let cut = c.window_of.ensures ∙ ap (window c.args.offset c.args.limit) c.as_slice.ensures.value in
    IfOk-weaker c.ids_of.result _ _
    (λ ids are held terms keyed. sorted-ordered held terms c.args.offset c.args.limit c.args.rows.items c.sort.new.self.items ids.items keyed c.in_ok-sort.ensures.permutation c.in_ok-sort.ensures.sorted
    (are ∙ ap (map (λ (row : Ranked). row.id)) cut))
    c.ids_of.ensures
