use Rattle.std.proofs.Common.{◌≡◌, ◌+◌, ◌++◌, List, get_or, take, ap, sym, ◌∙◌, append-nil}
use Rattle.std.specs.List.{flat_map}
use Rattle.std.proofs.lemmas.List.{flat_map_more, take_all, take_more}
use Rattle.ob_base.specs.declared.id.Cell.{Cell}
use Rattle.ob_base.specs.declared.id.RecId.{RecId}
use Rattle.ob_expr.specs.declared.typed.Link.{Link}
use Rattle.ob_expr.specs.Meaning.{row_at}
use Rattle.ob_schema.specs.Plain.{plain_at}
use Rattle.ob_tables.specs.Settling.{ends_along, rows_led}
use Rattle.ob_tables.proofs.reading.Given.+add_ends.Goals as goal

pub loop-target-init : goal.loop-target-init
loop-target-init t c = record {
  done = sym (append-nil c.args.ends.now.items);
  items = c.targets_of-target-items.ensures.same ∙ ap rows_led (sym c.in-Some-2.is ∙ c.in_ok-value.ensures);
}

pub loop-target-preserved : goal.loop-target-preserved
loop-target-preserved t c =
    let held = plain_at c.args.self.now.tables.now.tables c.args.self.now.tables.now.models in
    let f = λ (id : RecId). ends_along held (row_at c.in-Some.link.now.target id) c.in-Some.rest.now c.args.field in
    let items = c.targets_of-target-items.result.now in
    let i = c.loop-target.target-index in
    let none : RecId = record { 0 = 0 } in
    let id = get_or items i none in
    let done : c.add_ends.new.ends.items ≡ c.args.ends.now.items ++ flat_map f (take (i + 1) items) =
    c.in_ok-add_ends.ensures ∙ ap (λ (l : List Cell). l ++ f id) c.loop-target.invariant.done ∙ flat_map_more f c.args.ends.now.items (take i items) id
    ∙ ap (λ (l : List RecId). c.args.ends.now.items ++ flat_map f l) (sym (take_more items i none c.loop-target-test.true)) in
    record { done = done; items = c.loop-target.invariant.items }

pub returns : goal.returns
returns t c =
    let held = plain_at c.args.self.now.tables.now.tables c.args.self.now.tables.now.models in
    let f = λ (id : RecId). ends_along held (row_at c.in-Some.link.now.target id) c.in-Some.rest.now c.args.field in
    c.loop-target.invariant.done
    ∙ ap (λ (l : List RecId). c.args.ends.now.items ++ flat_map f l) (take_all c.loop-target.target-index c.targets_of-target-items.result.now c.loop-target-test.false ∙ c.loop-target.invariant.items)
    ∙ sym (ap (λ (l : List Link). c.args.ends.now.items ++ ends_along held (row_at c.args.model c.args.id) l c.args.field) c.in-Some.ensures.cases.0)
