use Rattle.std.proofs.Common.{ap, subst, ◌∙◌, IsPermutation}
use Rattle.ob_io.proofs.LinksInOrder.{sorted-links}
use Rattle.ob_io.proofs.row_copy.in_order.Goals as goal

pub returns : goal.returns
returns c =
    let row = c.args.row in
    let perm = subst (λ links. IsPermutation links c.sort_unstable.new.self.items) c.into_vec-links.ensures c.sort_unstable.ensures.permutation in
    ap (λ links. record { id = row.id; body = row.body; links = links }) (c.from_vec.ensures ∙ sorted-links row.links c.sort_unstable.new.self.items perm c.sort_unstable.ensures.sorted c.requires)
