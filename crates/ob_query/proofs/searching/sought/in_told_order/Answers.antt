use Rattle.std.proofs.Common.{List, sym, subst}
use Rattle.std.specs.Prelude.{All}
use Rattle.std.proofs.lemmas.List.Elements.{All-filter}
use Rattle.ob_query.specs.Callers.{may_read_field}
use Rattle.ob_schema.specs.Models.{HasField}
use Rattle.ob_schema.specs.Paths.{step_at}
use Rattle.ob_schema.specs.declared.info.OrderTerm.{OrderTerm}
use Rattle.ob_query.proofs.searching.sought.in_told_order.Goals as goal

pub returns-clause-over : goal.returns-clause-over
returns-clause-over c = λ models over.
    let old = c.args.sought in
    let Has = λ (term : OrderTerm). HasField models old.model term.field in
    record {
      policy = over.policy;
      model = over.model;
      tree = over.tree;
      active = over.active;
      order = subst (All Has) (sym c.in_ok-order.ensures) (All-filter (λ (term : OrderTerm). may_read_field old.by (step_at old.model term.field)) Has old.order over.order);
    }
