-- Private: what the constants of a registry have by their types in the program.
use Rattle.std.specs.Prelude.{◌≡◌, ⊤, List, Some, FitsSigned, All}
use Rattle.std.specs.Int.{w64}
use Rattle.std.specs.Str.{IsUtf8}
use Rattle.ob_base.specs.declared.id.FieldNo.{FieldNo}
use Rattle.ob_base.specs.declared.id.ModelNo.{ModelNo}
use Rattle.ob_expr.specs.TypedTree.{TypedTree, TypedTrees, no_trees, one_more, integer, a_text, prefix, binary, chosen, choice, joined, digits, over, typed_tree_of}
use Rattle.ob_schema.specs.Models.{field_at}
use Rattle.ob_schema.specs.declared.info.FieldInfo.{FieldInfo}
use Rattle.ob_schema.specs.declared.info.ModelInfo.{ModelInfo}
use Rattle.ob_schema.specs.declared.info.Origin.{Origin}
use Rattle.ob_schema.specs.declared.info.Origin.TheVariants as origin

-- its integers fit 64 bits, and its texts are UTF-8
abbrev mutual
  pub HasNativeConstants : TypedTree → Type 0
  HasNativeConstants (integer n) = FitsSigned w64 n
  HasNativeConstants (a_text bytes) = IsUtf8 bytes
  HasNativeConstants (prefix word inner) = HasNativeConstants inner
  HasNativeConstants (binary op left right) = HasNativeConstants left × HasNativeConstants right
  HasNativeConstants (chosen which left right) = HasNativeConstants left × HasNativeConstants right
  HasNativeConstants (choice condition first second) = HasNativeConstants condition × HasNativeConstants first × HasNativeConstants second
  HasNativeConstants (joined all) = HaveNativeConstants all
  HasNativeConstants (digits inner) = HasNativeConstants inner
  HasNativeConstants (over aggregate route target inner) = HasNativeConstants inner
  HasNativeConstants _ = ⊤

  pub HaveNativeConstants : TypedTrees → Type 0
  HaveNativeConstants no_trees = ⊤
  HaveNativeConstants (one_more tree rest) = HasNativeConstants tree × HaveNativeConstants rest

-- so are those of a field's formula
abbrev pub HasNativeFormula : Origin → Type 0
HasNativeFormula (origin.Computed formula) = HasNativeConstants (typed_tree_of formula.typed)
HasNativeFormula _ = ⊤

-- and the keys of its selection
pub record IsNativeField (field : FieldInfo) : Type 0 where
  pub formula : HasNativeFormula field.origin
  pub keys : All (λ choice. IsUtf8 choice.key) field.selection

-- so is each field of a model
pub record IsNativeModel (info : ModelInfo) : Type 0 where
  pub fields : All IsNativeField info.fields
  pub hidden : All IsNativeField info.hidden

-- and of a registry
abbrev pub IsNativeRegistry : List ModelInfo → Type 0
IsNativeRegistry models = (model : ModelNo) (number : FieldNo) (field : FieldInfo) → field_at models model number ≡ Some field → IsNativeField field
