use Rattle.std.proofs.Common.{subst}
use Rattle.ob_base.specs.Rising.{IsRising}
use Rattle.ob_cache.proofs.Pages.{naming-fit, page-fits}
use Rattle.ob_schema.specs.Plain.{naming}
use Rattle.ob_cache.proofs.held.Held.holders.Goals as goal

pub returns-clause-fits : goal.returns-clause-fits
returns-clause-fits c =
    let tables = c.staged-staged.result.now.tables in
    page-fits c.args.after c.args.most (naming tables c.args.model c.args.field c.args.target) c.in_ok-ids.ids c.in_ok-ids.ensures
    (naming-fit tables c.args.model c.next-next.result c.next-next.type_inv c.next-next.ensures.above c.args.field c.args.target) (subst IsRising c.as_slice.ensures.same c.as_slice.ensures.rising)
