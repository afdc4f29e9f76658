use Rattle.std.proofs.Common.{length, map, sym, ◌∙◌}
use Rattle.std.proofs.lemmas.List.{length-map}
use Rattle.std.proofs.lemmas.Bool.{eqb-true}
use Rattle.probe_stock.proofs.Distinct.{distinct}
use Rattle.probe_stock.proofs.askable.ids_differ.Goals as goal

pub returns : goal.returns
returns c same =
    let count = sym c.len.ensures.len ∙ eqb-true c.len.result (length c.args.quants.now) same in
    distinct (map (λ q. q.id.0) c.args.quants.now) c.in_ok-ids.ids c.in_ok-ids.ensures (count ∙ sym (length-map c.args.quants.now (λ q. q.id.0)))
