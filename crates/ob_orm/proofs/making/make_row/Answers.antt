use Rattle.std.proofs.Common.{◌≡◌, ◌++◌, ◌∷◌, [], List, refl, sym, ap, subst, ◌∙◌}
use Rattle.std.specs.List.{flat_map}
use Rattle.std.specs.Prelude.{All}
use Rattle.ob_orm.specs.NewRows.{Values, making, parent_change, parents_of}
use Rattle.ob_orm.specs.NewRowSteps.{so_far}
use Rattle.ob_orm.specs.declared.making.next_ids.Making.{Making}
use Rattle.ob_orm.proofs.NewRows.{IsSet, holds-changed, row-made-so, sets-parents}
use Rattle.ob_orm.proofs.making.make_row.Goals as goal
use Rattle.ob_tables.specs.declared.edit.Edit.{Edit}

pub returns-clause-made : goal.returns-clause-made
returns-clause-made c = λ old holds.
    let models = c.args.maker.now.schema.now in
    let by = c.args.maker.now.author in
    let model = c.args.model in
    let given = c.args.given.items in
    let changes = c.in_ok-changes.changes.items in
    let second = c.make_parents.new.making in
    let third = c.make_one.new.making in
    let last : Making = record { next_ids = third.next_ids; edits = c.append.new.self } in
    let changes_are : changes ≡ flat_map (parent_change models by model given) (parents_of models model) =
    c.in_ok-changes.ensures.edits ∙ ap (λ (vs : Values). flat_map (parent_change models by model vs) (parents_of models model)) c.as_slice.ensures.value in
    let parents = c.in_ok-make_parents.ensures.made old holds in
    let one = c.in_ok-id.ensures.made old parents.2 in
    let made_of : third.edits.items ≡ second.edits.items ++ making models by (so_far models old second) model c.make_parents.new.given.items ∷ [] =
    one.0 ∙ ap (λ (vs : Values). second.edits.items ++ making models by (so_far models old second) model vs ∷ []) c.as_slice-2.ensures.value in
    let all = row-made-so models by model old c.args.making.now second third last given c.make_parents.new.given.items changes c.in_ok-id.id.0 changes_are parents.0 parents.1 made_of one.1 c.in_ok-append.ensures.items in
    let sets = subst (λ (es : List Edit). All IsSet es) (sym changes_are) (sets-parents models by model given (parents_of models model)) in
    (all.0, all.1, holds-changed models third last changes refl c.in_ok-append.ensures.items old sets one.2)
