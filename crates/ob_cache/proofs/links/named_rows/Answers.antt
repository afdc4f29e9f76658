use Rattle.std.proofs.Common.{◌<◌, get_or, is_some, sym, subst}
use Rattle.std.specs.Prelude.{All}
use Rattle.ob_base.specs.declared.id.RecId.{RecId}
use Rattle.ob_cache.proofs.Rises.{kept-below}
use Rattle.ob_schema.specs.Tables.{row_at}
use Rattle.ob_cache.proofs.links.named_rows.Goals as goal

pub push-requires : goal.push-requires
push-requires c =
    let ids = c.as_slice-id-items.result.now in
    let i = c.loop-id.id-index in
    let d : RecId = record { 0 = 0 } in
    subst (All (λ (before : RecId). before.0 < (get_or ids i d).0)) (sym c.loop-id.invariant)
    (kept-below (λ id. is_some (row_at c.args.tables.now.tables c.args.model id)) ids i d c.as_slice-id-items.ensures.rising c.loop-id-test.true)
