use Rattle.std.proofs.Common.{◌≡◌, ◌++◌, List, [], ◌∷◌, refl}
use Rattle.ob_schema.specs.declared.info.ModelInfo.{ModelInfo}
use Rattle.ob_tables.specs.After.{after, edited}
use Rattle.ob_schema.specs.Tables.{Tables}
use Rattle.ob_tables.specs.declared.edit.Edit.{Edit}
use Rattle.ob_tables.proofs.laws.after_in_turn.Goals as goal

in_turn : (models : List ModelInfo) (tables : Tables) (first second : List Edit) → after models (after models tables first) second ≡ after models tables (first ++ second)
in_turn models tables [] second = refl
in_turn models tables (one ∷ first) second = in_turn models (edited models tables one) first second

pub returns : goal.returns
returns c = in_turn
