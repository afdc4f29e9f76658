-- One row more names its targets too.
use Rattle.std.proofs.Common.{refl, ◌∙◌, rules}
use Rattle.std.proofs.lemmas.List.{take_all}
use Rattle.std.proofs.lemmas.Result.{err_from_is_err_and}
use Rattle.ob_expr.specs.Meaning.{row_at}
use Rattle.ob_schema.specs.Facts.{asked-then}
use Rattle.ob_domain.proofs.Along.{ends_at, known_of, met_of, row_more}
use Rattle.ob_domain.proofs.Asking.{asked_none, fault_behind}
use Rattle.ob_domain.proofs.holding.rows_behind.Goals as goal

pub loop-row-preserved : goal.loop-row-preserved
loop-row-preserved g c = record {
  told = λ told tells test. row_more told c.args.link test c.args.rows.now c.loop-row.row-index _ _ _
      c.loop-row-test.true (c.in_ok-add_targets.ensures.told told (c.loop-row.invariant.kept told tells) test) (c.loop-row.invariant.told told tells test);
  known = λ told tells. c.in_ok-add_targets.ensures.known told (c.loop-row.invariant.kept told tells) (c.loop-row.invariant.known told tells);
  asked = asked-then _ _ _ c.loop-row.invariant.asked c.add_targets.ensures.asked;
  same = c.add_targets.ensures.same ∙ c.loop-row.invariant.same;
  kept = λ told tells. c.add_targets.ensures.kept told (c.loop-row.invariant.kept told tells);
  only = λ told tells. c.loop-row.invariant.only told (c.add_targets.ensures.only told tells);
}

pub returns-clause-told : goal.returns-clause-told
returns-clause-told g c = λ told tells meets. rw c.in_ok-rows_of.ensures (met_of c.args.link.target meets c.loop-row.named.keys
    ∙ c.loop-row.invariant.told told tells (λ id. meets (row_at c.args.link.target id)) ∙ rw (take_all c.loop-row.row-index c.args.rows.now c.loop-row-test.false) refl)

pub returns-clause-known : goal.returns-clause-known
returns-clause-known g c = λ told tells. rw c.in_ok-rows_of.ensures (known_of told c.args.link.target c.loop-row.named.keys (c.loop-row.invariant.known told tells))

pub returns-clause-end : goal.returns-clause-end
returns-clause-end g c = rw c.in_ok-rows_of.ensures (ends_at c.args.link.target c.loop-row.named.keys)

pub loop-row-init : goal.loop-row-init
loop-row-init g c = search (rules, asked_none)

pub returns-in_err-add_targets-clause-fault : goal.returns-in_err-add_targets-clause-fault
returns-in_err-add_targets-clause-fault g c =
    let p = err_from_is_err_and c.from_residual.result c.from_residual.ensures.1 in
    rw (p.1, p.2) (fault_behind g.F.Facts.has_failed _ _ c.add_targets.new.facts c.in_err-add_targets.field-0.0 c.loop-row.invariant.asked c.in_err-add_targets.ensures.fault)

pub returns-in_err-add_targets-clause-asked : goal.returns-in_err-add_targets-clause-asked
returns-in_err-add_targets-clause-asked g c = asked-then _ _ _ c.loop-row.invariant.asked c.add_targets.ensures.asked
