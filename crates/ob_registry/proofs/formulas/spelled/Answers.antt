use Rattle.std.proofs.Common.{◌≡◌, inr, not, is_some, sym, ap, ◌∙◌, false}
use Rattle.ob_base.specs.declared.expr_fault.ExprFault.TheVariants as text_fault
use Rattle.ob_base.specs.Syntax.{tree_of}
use Rattle.ob_schema.specs.Formulas.{RelatedByPath, Spelled}
use Rattle.ob_registry.specs.ModelFields.{member_of}
use Rattle.ob_registry.proofs.Reading.{no_path, path_told, path_untold, related_not, spelled_by}
use Rattle.ob_registry.proofs.formulas.spelled.Goals as goal
use Rattle.ob_registry.proofs.formulas.spelled.Goals.{else-is_some-via-then-is_some+else-is_none, else-is_some-via-else-is_some}

pub returns-then-is_none : goal.returns-then-is_none
returns-then-is_none c =
    let tree = tree_of c.in-Ok.expr in
    let spelled : Spelled c.args.member.now.def.now tree = spelled_by (member_of c.args.member.now) c.expression_text-text.result.now tree c.requires c.expression_text-text.ensures
    c.if-text-gt-MAX_EXPRESSION_BYTES.false c.in-Ok.ensures.spelled c.in-Ok.ensures.shallow in
    let none : is_some c.as_path.result ≡ false = c.is_none.ensures ∙ ap not c.if-is_none.true in (
      c.requires,
      inr (
        tree,
        spelled,
        (λ related. no_path tree (path_untold tree c.as_path.result none c.as_path.ensures) (related (sym c.is_some.ensures ∙ c.if-is_some.true))),
        ap text_fault.At c.first.ensures,
      ),
    )

pub returns : goal.returns
returns c =
    let tree = tree_of c.in-Ok.expr in
    let f = c.args.member.now.def.now in
    let spelled : Spelled f tree = spelled_by (member_of c.args.member.now) c.expression_text-text.result.now tree c.requires c.expression_text-text.ensures
    c.if-text-gt-MAX_EXPRESSION_BYTES.false c.in-Ok.ensures.spelled c.in-Ok.ensures.shallow in
    let related : RelatedByPath f tree = elim c.else-is_some.branch as (λ _. RelatedByPath f tree) [
      | else-is_some-via-then-is_some+else-is_none w ↦ (λ _. path_told tree w.as_path.result (w.is_none.ensures ∙ ap not w.if-is_none.false) w.as_path.ensures)
      | else-is_some-via-else-is_some w ↦ related_not f tree (sym c.is_some.ensures ∙ w.if-is_some.false)
    ] in
    record { spelled = spelled; related = related }
