use Rattle.std.proofs.Common.{refl, sym, subst, ◌∙◌}
use Rattle.std.proofs.lemmas.List.Elements.{All-push}
use Rattle.ob_base.specs.declared.id.Cell.{Cell}
use Rattle.ob_base.specs.declared.value.Value.{Value}
use Rattle.ob_schema.specs.Fields.{IsGivable}
use Rattle.ob_effect.proofs.GivenValues.{field_there, fit_at, item_of, set_fits}
use Rattle.ob_effect.specs.Cells.{cell_at}
use Rattle.ob_effect.specs.Effect.{IsFitChange}
use Rattle.ob_effect.specs.Objects.{IsTypedValue}
use Rattle.ob_effect.proofs.rows.push_values.Goals as goal
use Rattle.ob_effect.proofs.rows.push_values.Goals.{then-is_plain_kept+in_ok-value+in_ok-push, else-is_plain_kept}
use Rattle.ob_tables.specs.declared.edit.Edit.TheVariants as edit

pub info-requires : goal.info-requires
info-requires c =
    let models = c.args.writer.now.schema.now in
    let one = c.one-item.result in
    let given = c.args.given.now in
    let own = item_of (IsTypedValue models c.args.row.model) given given refl c.requires.given c.loop-one.one-index one c.loop-one-test.true c.one-item.is in
    field_there models c.args.row.model one.0 (λ info. IsGivable info one.1) own

pub loop-one-preserved : goal.loop-one-preserved
loop-one-preserved c =
    let models = c.args.writer.now.schema.now in
    let row = c.args.row in
    let one = c.one-item.result in
    let given = c.args.given.now in
    let own = item_of (IsTypedValue models row.model) given given refl c.requires.given c.loop-one.one-index one c.loop-one-test.true c.one-item.is in
    λ all. elim c.if-is_plain_kept.branch [
      | then-is_plain_kept+in_ok-value+in_ok-push w ↦ rw (w.edits-is, w.in_ok-push.ensures.items) (All-push (IsFitChange models) c.loop-one.edits.items (edit.Set w.cell_of.result w.in_ok-value.value) (c.loop-one.invariant all)
          (subst (λ (cell : Cell). IsFitChange models (edit.Set cell w.in_ok-value.value)) (sym w.cell_of.ensures)
          (subst (λ (v : Value). IsFitChange models (edit.Set (cell_at row one.0) v)) (sym w.in_ok-value.ensures)
          (set_fits models row one.0 one.1 c.requires.id (fit_at models row.model one.0 c.info.result.now c.info.ensures (sym c.is_plain_kept.ensures ∙ w.if-is_plain_kept.true) one.1 own)))))
      | else-is_plain_kept w ↦ rw w.edits-is (c.loop-one.invariant all)
    ]
