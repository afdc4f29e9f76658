-- Where rows stand, by the rows that are named.
use Rattle.std.proofs.lemmas.Result.{IfOk-weaker}
use Rattle.ob_expr.specs.Meaning.{cell_in, row_at}
use Rattle.ob_schema.specs.Facts.{asked-then}
use Rattle.ob_domain.proofs.Below.{held_below}
use Rattle.ob_domain.proofs.Asking.{answered_behind, asked_none}
use Rattle.ob_domain.proofs.holding.passes.Goals as goal

pub returns-in_ok-targets-in-ChildOf-clause-told : goal.returns-in_ok-targets-in-ChildOf-clause-told
returns-in_ok-targets-in-ChildOf-clause-told g c =
    IfOk-weaker c.some_below.result _ _
    (λ b below told tells. held_below told c.args.user c.in-ChildOf.paths c.in-ChildOf.operands c.as_slice-in-ChildOf.result.now
    (told.held (cell_in (row_at c.args.row.model c.args.row.id) c.args.field)) c.args.test.now c.in_ok-named-in-ChildOf.named.items c.in_ok-targets-in-ChildOf.targets.items
    c.as_slice-in-ChildOf-2.result.now c.as_slice-in-ChildOf-3.result.now b c.in-ChildOf.is c.as_slice-in-ChildOf.ensures
    c.as_slice-in-ChildOf-2.ensures.value c.in_ok-named-in-ChildOf.ensures c.as_slice-in-ChildOf-3.ensures.value (c.in_ok-targets-in-ChildOf.ensures.told told tells)
    (below told (c.targets_in.ensures.kept told tells)))
    c.some_below.ensures.told

pub returns-in_err-named-in-ChildOf-clause-asked : goal.returns-in_err-named-in-ChildOf-clause-asked
returns-in_err-named-in-ChildOf-clause-asked g c = asked_none _

pub returns-in_err-named-in-ParentOf-clause-asked : goal.returns-in_err-named-in-ParentOf-clause-asked
returns-in_err-named-in-ParentOf-clause-asked g c = asked_none _

pub returns-in-Always-clause-asked : goal.returns-in-Always-clause-asked
returns-in-Always-clause-asked g c = asked_none _

pub returns-in_ok-targets-in-ChildOf-clause-fault : goal.returns-in_ok-targets-in-ChildOf-clause-fault
returns-in_ok-targets-in-ChildOf-clause-fault g c = answered_behind g.F.Facts.has_failed _ _ c.some_below.new.facts c.some_below.result c.targets_in.ensures.asked c.some_below.ensures.fault

pub returns-in_ok-targets-in-ChildOf-clause-asked : goal.returns-in_ok-targets-in-ChildOf-clause-asked
returns-in_ok-targets-in-ChildOf-clause-asked g c = asked-then _ _ _ c.targets_in.ensures.asked c.some_below.ensures.asked

pub returns-in_ok-targets-in-ParentOf-clause-fault : goal.returns-in_ok-targets-in-ParentOf-clause-fault
returns-in_ok-targets-in-ParentOf-clause-fault g c = answered_behind g.F.Facts.has_failed _ _ c.some_below-in-ParentOf.new.facts c.some_below-in-ParentOf.result c.targets_in-in-ParentOf.ensures.asked c.some_below-in-ParentOf.ensures.fault

pub returns-in_ok-targets-in-ParentOf-clause-asked : goal.returns-in_ok-targets-in-ParentOf-clause-asked
returns-in_ok-targets-in-ParentOf-clause-asked g c = asked-then _ _ _ c.targets_in-in-ParentOf.ensures.asked c.some_below-in-ParentOf.ensures.asked
