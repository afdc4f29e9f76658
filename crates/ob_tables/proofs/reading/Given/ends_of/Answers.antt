use Rattle.std.proofs.Common.{◌≡◌, ◌+◌, ◌++◌, ◌∷◌, [], List, take, ap, sym, ◌∙◌}
use Rattle.std.specs.List.{flat_map}
use Rattle.std.proofs.lemmas.List.{flat_map_more, take_more}
use Rattle.ob_base.specs.declared.id.Cell.{Cell}
use Rattle.ob_base.specs.declared.id.FieldNo.{FieldNo}
use Rattle.ob_expr.specs.declared.typed.Link.{Link}
use Rattle.ob_expr.specs.Meaning.{row_of}
use Rattle.ob_expr.specs.Route.{Route}
use Rattle.ob_schema.specs.Plain.{plain_at}
use Rattle.ob_tables.specs.Settling.{ends_along}
use Rattle.ob_tables.proofs.reading.Given.ends_of.Goals as goal

pub loop-path-preserved : goal.loop-path-preserved
loop-path-preserved c =
    let held = plain_at c.args.self.now.tables.now.tables c.args.self.now.tables.now.models in
    let row = row_of c.args.cell in
    let f = λ (route : Route). ends_along held row route.links route.field in
    let items = c.as_slice-path-items.result.now in
    let i = c.loop-path.path-index in
    let path = c.path-item.result in
    let before = c.loop-path.ends.items in
    let done : c.add_ends.new.ends.items ≡ flat_map f (take (i + 1) items) =
    c.in_ok-add_ends.ensures ∙ ap (λ (l : List Link). before ++ ends_along held row l c.field.result) c.links.ensures ∙ ap (λ (n : FieldNo). before ++ ends_along held row path.links n) c.field.ensures
    ∙ ap (λ (l : List Cell). l ++ f path) c.loop-path.invariant.done ∙ flat_map_more f [] (take i items) path
    ∙ ap (flat_map f) (ap (λ (x : Route). take i items ++ x ∷ []) c.path-item.is ∙ sym (take_more items i path c.loop-path-test.true)) in
    record { done = done; items = c.loop-path.invariant.items }
