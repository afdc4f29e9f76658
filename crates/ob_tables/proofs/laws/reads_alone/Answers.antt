use Rattle.std.proofs.Common.{◌≡◌, Result, ap, ◌∙◌}
use Rattle.std.specs.Result.{result_ok}
use Rattle.ob_base.specs.declared.id.Cell.{Cell}
use Rattle.ob_base.specs.declared.value.Value.{Value}
use Rattle.ob_expr.specs.Computing.{Lack}
use Rattle.ob_expr.specs.Meaning.{meaning, row_of}
use Rattle.ob_expr.specs.TypedTree.{typed_tree_of}
use Rattle.ob_schema.specs.declared.info.FieldInfo.{FieldInfo}
use Rattle.ob_schema.specs.declared.info.Formula.{Formula}
use Rattle.ob_schema.specs.Limited.{limited}
use Rattle.ob_schema.specs.Val.{formula_value, or_inherited}
use Rattle.ob_tables.specs.Agreeing.{AgreeAlong}
use Rattle.ob_tables.proofs.Expressions.{AreLaws}
use Rattle.ob_tables.proofs.Stable.{held_by, inherit_same, limited_unread}
use Rattle.ob_tables.proofs.laws.reads_alone.Goals as goal

same_formula : AreLaws → (values others : Cell → Result Value Lack) (formula : Formula) (info : FieldInfo) (cell : Cell) → AgreeAlong values others formula cell
    → formula_value others formula info cell ≡ formula_value values formula info cell
same_formula laws values others formula info cell agree =
    ap (limited info.field_type) (laws.along (typed_tree_of formula.typed) (held_by values) (held_by others) (row_of cell) (λ d is. ap (λ (m : Result Value Lack). result_ok m) (agree d is)))

same_cell : AreLaws → (values others : Cell → Result Value Lack) (formula : Formula) (info : FieldInfo) (cell : Cell) → AgreeAlong values others formula cell
    → or_inherited others (formula_value others formula info cell) ≡ or_inherited values (formula_value values formula info cell)
same_cell laws values others formula info cell agree =
    let tree = typed_tree_of formula.typed in
    ap (or_inherited others) (same_formula laws values others formula info cell agree)
    ∙ inherit_same others values (formula_value values formula info cell)
    (λ d lacks. agree d (laws.lacks tree (held_by values) (row_of cell) d (limited_unread info.field_type (meaning (held_by values) (row_of cell) tree) d lacks)).0)

pub returns-clause-formula : goal.returns-clause-formula
returns-clause-formula c =
    λ values others formula info cell agree. same_formula (record { along = c.reads_along_paths.ensures.meaning; lacks = c.reads_along_paths.ensures.lacks }) values others formula info cell agree

pub returns-clause-cell : goal.returns-clause-cell
returns-clause-cell c =
    λ values others formula info cell agree. same_cell (record { along = c.reads_along_paths.ensures.meaning; lacks = c.reads_along_paths.ensures.lacks }) values others formula info cell agree
