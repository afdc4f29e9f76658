use Rattle.std.proofs.Common.{false, sym, subst, ◌∙◌}
use Rattle.std.proofs.lemmas.List.Elements.{All-push}
use Rattle.ob_base.specs.declared.id.Cell.{Cell}
use Rattle.ob_effect.proofs.GivenValues.{fit_at, set_fits, typed_at}
use Rattle.ob_rows.proofs.CallerLemmas.{stamp_typed}
use Rattle.ob_effect.specs.Effect.{IsFitChange}
use Rattle.ob_effect.proofs.rows.push_stamp.Goals as goal
use Rattle.ob_schema.specs.Models.{field_at}
use Rattle.ob_tables.specs.declared.edit.Edit.TheVariants as edit

pub returns-in_ok-push : goal.returns-in_ok-push
returns-in_ok-push c =
    let models = c.args.writer.now.schema.now in
    let row = c.args.row in
    let f = c.info-field.result.now in
    let v = c.stamp.result in
    let typed = stamp_typed (field_at models row.model c.args.number) f false c.args.writer.now.author c.as_str-name.result.now v
    c.info-field.ensures c.as_str-name.ensures c.requires.makeable c.requires.moment (sym c.is_stamp.ensures ∙ c.if-is_stamp.true) c.stamp.ensures in
    let fits = fit_at models row.model c.args.number f c.info-field.ensures (sym c.is_plain_kept.ensures ∙ c.if-is_plain_kept.true) v (typed_at models row.model c.args.number f c.info-field.ensures v typed) in
    λ all. rw c.in_ok-push.ensures.items (All-push (IsFitChange models) c.args.edits.now.items (edit.Set c.cell_of.result v) all
    (subst (λ (cell : Cell). IsFitChange models (edit.Set cell v)) (sym c.cell_of.ensures) (set_fits models row c.args.number v c.requires.id fits)))
