use Rattle.std.proofs.Common.{◌≡◌, ◌++◌, ◌∷◌, [], List, ap, get_or, rules, sym, ◌∙◌}
use Rattle.ob_base.specs.declared.id.FieldNo.{FieldNo}
use Rattle.ob_rows.proofs.CallerLemmas.{kept-more, passed-over}
use Rattle.ob_fields.specs.FieldsGetSteps.{may_read}
use Rattle.ob_fields.proofs.fields.readable.Goals as goal
use Rattle.ob_fields.proofs.fields.readable.Goals.{then-may_read+in_ok-push, else-may_read}

abbrev none : FieldNo
none = record { 0 = 0 }

pub loop-field-preserved : goal.loop-field-preserved
loop-field-preserved c =
    let test = λ (field : FieldNo). may_read c.args.by.now c.args.model field in
    let fields = c.args.fields.now in let i = c.loop-field.field-index in let field = get_or fields i none in
    elim c.if-may_read.branch [
      | then-may_read+in_ok-push w ↦ (
          let is : c.if-may_read.told.items ≡ c.loop-field.told.items ++ field ∷ [] = search rules in
          is ∙ ap (λ (told : List FieldNo). told ++ field ∷ []) c.loop-field.invariant ∙ sym (kept-more test fields i none c.loop-field-test.true (sym c.may_read.ensures ∙ w.if-may_read.true)))
      | else-may_read w ↦ (
          let is : c.if-may_read.told.items ≡ c.loop-field.told.items = search rules in
          is ∙ c.loop-field.invariant ∙ sym (passed-over test fields i none c.loop-field-test.true (sym c.may_read.ensures ∙ w.if-may_read.false)))
    ]
