-- One row more.
use Rattle.std.proofs.Common.{◌++◌, ◌∷◌, [], List, ap, append-nil, append_assoc, get_or, sym, take, ◌∙◌}
use Rattle.std.proofs.lemmas.List.{take_all}
use Rattle.ob_base.specs.declared.id.RowKey.{RowKey}
use Rattle.ob_unlink.proofs.LeftEdits.{gone-more}
use Rattle.ob_unlink.specs.DeletionSteps.{gone_edits}
use Rattle.ob_unlink.proofs.unlinking.leaving.push_gone.Goals as goal
use Rattle.ob_tables.specs.declared.edit.Edit.{Edit}
use Rattle.ob_tables.specs.declared.edit.Edit.TheVariants as edit

abbrev none : RowKey
none = record { model = record { 0 = 0 }; id = record { 0 = 0 } }

pub loop-row-init : goal.loop-row-init
loop-row-init c = sym (append-nil c.args.edits.now.items)

pub loop-row-preserved : goal.loop-row-preserved
loop-row-preserved c =
    let i = c.loop-row.row-index in let rows = c.args.rows.now in let row = get_or rows i none in
    let one = edit.Gone row.model row.id ∷ [] in
    c.in_ok-push.ensures.items ∙ ap (λ (es : List Edit). es ++ one) c.loop-row.invariant ∙ append_assoc c.args.edits.now.items (gone_edits (take i rows)) one
    ∙ sym (ap (λ (es : List Edit). c.args.edits.now.items ++ es) (gone-more rows i none c.loop-row-test.true))

pub returns : goal.returns
returns c = c.loop-row.invariant ∙ ap (λ (l : List RowKey). c.args.edits.now.items ++ gone_edits l) (take_all c.loop-row.row-index c.args.rows.now c.loop-row-test.false)
