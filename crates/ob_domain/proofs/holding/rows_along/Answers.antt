-- Behind one link more.
use Rattle.std.proofs.Common.{◌∙◌, rules}
use Rattle.std.proofs.lemmas.Result.{err_from_is_err_and}
use Rattle.ob_schema.specs.Facts.{asked-then}
use Rattle.ob_domain.proofs.Along.{along_more, ends_behind, fields_behind, links_behind, target_behind}
use Rattle.ob_domain.proofs.Asking.{asked_none, fault_behind}
use Rattle.ob_domain.proofs.holding.rows_along.Goals as goal

pub rows_behind-requires-clause-field : goal.rows_behind-requires-clause-field
rows_behind-requires-clause-field g c =
    fields_behind (g.F.Facts.registry c.args.facts.now) (g.F.Facts.registry c.loop-link.facts) c.args.links.now c.loop-link.link-index _ c.loop-link.rows.items c.as_slice.result.now
    c.as_slice.ensures.value c.loop-link.invariant.same c.loop-link-test.true c.loop-link.invariant.links

pub rows_behind-requires-clause-target : goal.rows_behind-requires-clause-target
rows_behind-requires-clause-target g c =
    target_behind (g.F.Facts.registry c.args.facts.now) (g.F.Facts.registry c.loop-link.facts) c.args.row.model c.args.links.now c.loop-link.link-index _
    c.loop-link.invariant.same c.loop-link-test.true c.requires.links

pub loop-link-preserved : goal.loop-link-preserved
loop-link-preserved g c =
    let i = c.loop-link.link-index in let found = c.in_ok-rows.rows.items in record {
      told = λ told tells meets. along_more told meets c.args.links.now i _ c.loop-link.rows.items c.as_slice.result.now found _ c.as_slice.ensures.value
          c.loop-link-test.true (c.in_ok-rows.ensures.told told (c.loop-link.invariant.kept told tells)) (c.loop-link.invariant.told told tells meets);
      known = λ told tells. c.in_ok-rows.ensures.known told (c.loop-link.invariant.kept told tells);
      links = links_behind (g.F.Facts.registry c.args.facts.now) c.args.row.model c.args.links.now i _ found c.loop-link-test.true c.requires.links c.in_ok-rows.ensures.end;
      end = ends_behind c.args.row.model c.args.links.now i _ found c.loop-link-test.true c.in_ok-rows.ensures.end;
      asked = asked-then _ _ _ c.loop-link.invariant.asked c.rows_behind.ensures.asked;
      same = c.rows_behind.ensures.same ∙ c.loop-link.invariant.same;
      kept = λ told tells. c.rows_behind.ensures.kept told (c.loop-link.invariant.kept told tells);
      only = λ told tells. c.loop-link.invariant.only told (c.rows_behind.ensures.only told tells);
    }

pub returns-in_err-push-clause-asked : goal.returns-in_err-push-clause-asked
returns-in_err-push-clause-asked g c = asked_none _

pub loop-link-init : goal.loop-link-init
loop-link-init g c = search (rules, asked_none)

pub returns-in_err-rows-clause-fault : goal.returns-in_err-rows-clause-fault
returns-in_err-rows-clause-fault g c =
    let p = err_from_is_err_and c.from_residual-in_err-rows.result c.from_residual-in_err-rows.ensures.1 in
    rw (p.1, p.2) (fault_behind g.F.Facts.has_failed _ _ c.rows_behind.new.facts c.in_err-rows.field-0.0 c.loop-link.invariant.asked c.in_err-rows.ensures.fault)

pub returns-in_err-rows-clause-asked : goal.returns-in_err-rows-clause-asked
returns-in_err-rows-clause-asked g c = asked-then _ _ _ c.loop-link.invariant.asked c.rows_behind.ensures.asked
