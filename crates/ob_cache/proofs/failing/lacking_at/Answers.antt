use Rattle.std.proofs.Common.{Ok, Option, subst, ◌≡◌}
use Rattle.std.specs.Prelude.{IfSome}
use Rattle.ob_base.specs.declared.value.Value.{Value}
use Rattle.ob_change.specs.Changing.{models_of}
use Rattle.ob_expr.specs.Meaning.{row_of}
use Rattle.ob_schema.specs.Val.{val}
use Rattle.ob_cache.proofs.OwnFaults.{end-along}
use Rattle.ob_cache.proofs.failing.lacking_at.Goals as goal

pub returns-in-Some-clause-along : goal.returns-in-Some-clause-along
returns-in-Some-clause-along c =
    let models = models_of c.args.change in
    let t = c.args.change.behind.now.tables in
    let cell = c.args.cell in
    let is = subst (λ (o : Option Value). IfSome o (λ v. val models t cell ≡ Ok v)) c.in-Some.is c.in_ok-_value.ensures.value in
    λ none. end-along models t (row_of cell) cell.field c.in-Some._value is
