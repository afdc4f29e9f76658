use Rattle.std.proofs.Common.{◌∷◌, [], ◌++◌, Global, Vec, ap, ◌∙◌}
use Rattle.ob_orm.proofs.NewRows.{one-made}
use Rattle.ob_orm.specs.declared.making.next_ids.Making.{Making}
use Rattle.ob_orm.proofs.making.make_one.Goals as goal
use Rattle.ob_tables.specs.declared.edit.Edit.{Edit}
use Rattle.ob_tables.specs.declared.edit.Edit.TheVariants as edit

pub returns-clause-made : goal.returns-clause-made
returns-clause-made c =
    let id = c.in_ok-id.id in
    let values = c.in_ok-values.values in
    let now : Making = record { next_ids = c.take_id.new.making.next_ids; edits = c.push.new.self } in
    one-made c.args.maker.now.schema.now c.args.model c.args.making.now now id.0 values c.in_ok-id.ensures.raised c.in_ok-id.ensures.next
    (c.in_ok-push.ensures.items ∙ ap (λ (es : Vec Edit Global). es.items ++ edit.Make c.args.model id values ∷ []) c.take_id.ensures.edits)
    c.args.maker.now.author c.args.given.now c.in_ok-values.ensures.value c.requires.model
