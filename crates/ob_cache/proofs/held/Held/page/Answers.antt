use Rattle.std.proofs.Common.{subst}
use Rattle.ob_base.specs.Rising.{IsRising}
use Rattle.ob_cache.proofs.Pages.{ids-fit, page-fits}
use Rattle.ob_schema.specs.Tables.{ids_in}
use Rattle.ob_cache.proofs.held.Held.page.Goals as goal

pub returns-clause-fits : goal.returns-clause-fits
returns-clause-fits c =
    let tables = c.staged-staged.result.now.tables in
    page-fits c.args.after c.args.most (ids_in tables c.args.model) c.in_ok-ids.ids c.in_ok-ids.ensures (ids-fit tables c.args.model c.next-next.result c.next-next.type_inv c.next-next.ensures.above)
    (subst IsRising c.as_slice.ensures.same c.as_slice.ensures.rising)
