-- Which operators and operands fit which fields, and what they ask. An operator that is added has its line here.
use Rattle.std.specs.Prelude.{List, [], ◌∷◌, Bool, true, false, not, Option, Some, option_and_then, ok_or, Result, Ok, Err, if◌then◌else◌}
use Rattle.ob_base.specs.Chain.{◌>>=◌}
use Rattle.ob_base.specs.declared.id.ModelNo.{ModelNo}
use Rattle.ob_definition.specs.Members.{path_name}
use Rattle.ob_definition.specs.Types.{is_relation}
use Rattle.ob_definition.specs.declared.field_type.FieldType.{FieldType}
use Rattle.ob_definition.specs.declared.field_type.FieldType.TheVariants as type
use Rattle.ob_domain.specs.Aims.{field_in}
use Rattle.ob_domain.specs.Operands.{list_from, nodes_from, whole_from}
use Rattle.ob_domain.specs.Patterns.{pattern_from}
use Rattle.ob_domain.specs.Trees.{Item, Tree, criterion, leaf, signed}
use Rattle.ob_domain.specs.declared.fault.Unfit.{Unfit}
use Rattle.ob_domain.specs.declared.fault.Unfit.TheVariants as unfit
use Rattle.ob_domain.specs.declared.operand.Second.{Second}
use Rattle.ob_domain.specs.declared.operand.Second.TheVariants.{First, Last}
use Rattle.ob_domain.specs.declared.operator.Comparison.{Comparison}
use Rattle.ob_domain.specs.declared.operator.Comparison.TheVariants as comparison
use Rattle.ob_domain.specs.declared.operator.Likeness.{Likeness}
use Rattle.ob_domain.specs.declared.operator.Operator.{Operator}
use Rattle.ob_domain.specs.declared.operator.Operator.TheVariants as operator
use Rattle.ob_domain.specs.declared.operator.Sense.{Sense}
use Rattle.ob_domain.specs.declared.term.Operand.{Operand}
use Rattle.ob_domain.specs.declared.term.Pattern.{Pattern}
use Rattle.ob_domain.specs.declared.term.Test.{Test}
use Rattle.ob_domain.specs.declared.term.Test.TheVariants as test
use Rattle.ob_schema.specs.Models.{field_at, is_id_from, model_at}
use Rattle.ob_schema.specs.Paths.{step_at}
use Rattle.ob_schema.specs.declared.info.FieldInfo.{FieldInfo}
use Rattle.ob_schema.specs.declared.info.ModelInfo.{ModelInfo}
use Rattle.ob_schema.specs.declared.info.Step.{Step}
use Rattle.serde_json.specs.Data.{Data, null, boolean, string}

abbrev pub is_text : FieldType → Bool
is_text type.Char = true
is_text type.Text = true
is_text type.Selection = true
is_text _ = false

-- values of the type are compared by size: they are no truths and no rows
abbrev pub is_ordered : FieldType → Bool
is_ordered type.Boolean = false
is_ordered t = not (is_relation t)

-- `false` or `null`
abbrev pub is_nothing : Data → Bool
is_nothing null = true
is_nothing (boolean b) = not b
is_nothing _ = false

-- a date alone ends its day where values after it, or up to it, are asked for
abbrev pub second_for : Comparison → Second
second_for comparison.Greater = Last
second_for comparison.LessOrEqual = Last
second_for _ = First

-- the value is the operand
abbrev pub equal_from : FieldInfo → Data → Result Test Unfit
equal_from field d = whole_from field First d >>= λ o. Ok (test.OneOf (o ∷ []))

-- values that are compared, with an operand
abbrev pub compared_from : FieldInfo → Comparison → Data → Result Operand Unfit
compared_from field how d = if is_ordered field.field_type then whole_from field (second_for how) d else Err unfit.Operator

-- a pattern is a text
abbrev pub text_pattern : Likeness → Data → Result Pattern Unfit
text_pattern how (string text) = Ok (pattern_from how text)
text_pattern how _ = Err unfit.Operand

-- texts that are matched, with a pattern
abbrev pub pattern_of : FieldInfo → Likeness → Data → Result Pattern Unfit
pattern_of field how d = if is_text field.field_type then text_pattern how d else Err unfit.Operator

module _ (models : List ModelInfo) where
  -- the model whose rows a field names: `id` those of its own
  abbrev pub named_model : Step → FieldInfo → Option ModelNo
  named_model at field = if is_id_from field.origin then Some at.model else field.relation

  -- the field with the paths of a model's tree, where it is one
  abbrev pub path_field : ModelNo → Result Step Unfit
  path_field model = do
    _ ← ok_or (option_and_then (λ info. info.parent) (model_at models model)) unfit.NoTree
    number ← ok_or (field_in models model path_name) unfit.NoTree
    Ok (step_at model number)

  -- the field with the paths of the tree in which a field names rows
  abbrev pub paths_at : Step → FieldInfo → Result Step Unfit
  paths_at at field = ok_or (named_model at field) unfit.NoTree >>= path_field

  -- what an operator with its operand asks of a field; `=?` beside nothing asks nothing
  abbrev pub test_from : Step → FieldInfo → Operator → Data → Result Test Unfit
  test_from at field operator.Equal d = equal_from field d
  test_from at field operator.EqualIfSet d = if is_nothing d then Ok test.Always else equal_from field d
  test_from at field operator.In d = list_from field d >>= λ operands. Ok (test.OneOf operands)
  test_from at field (operator.Compares how) d = compared_from field how d >>= λ o. Ok (test.Compares how o)
  test_from at field (operator.Like how) d = pattern_of field how d >>= λ pattern. Ok (test.Matches pattern)
  test_from at field operator.ChildOf d = do
    paths ← paths_at at field
    nodes ← nodes_from d
    Ok (test.ChildOf paths nodes)
  test_from at field operator.ParentOf d = do
    paths ← paths_at at field
    nodes ← nodes_from d
    Ok (test.ParentOf paths nodes)
  test_from at field _ d = Err unfit.Operator

  -- the tree of an operator, other than `any`, with its operand on a field
  unfoldable pub criterion_from : Step → Sense → Operator → Data → Result Tree Unfit
  criterion_from at sense op d = do
    field ← ok_or (field_at models at.model at.field) unfit.Field
    asked ← test_from at field op d
    Ok (signed sense (criterion at.field asked))

  -- the same as an item
  abbrev pub criterion_item : Step → Sense → Operator → Data → Result Item Unfit
  criterion_item at sense op d = criterion_from at sense op d >>= λ tree. Ok (leaf tree)
