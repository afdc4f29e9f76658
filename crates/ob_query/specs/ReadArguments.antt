-- What a read is called with, and what that asks for.
use Rattle.std.specs.Prelude.{ℕ, List, [], ◌∷◌, codes, true, false, Option, Some, None, Result, Ok}
use Rattle.ob_base.specs.Chain.{◌>>=◌}
use Rattle.ob_base.specs.declared.place.PathStep.{PathStep}
use Rattle.ob_call.specs.Arguments.{Expected, Given, arguments_of}
use Rattle.ob_call.specs.Called.{Called}
use Rattle.ob_call.specs.Columns.{asked_columns}
use Rattle.ob_call.specs.Forms.{ids_fault, names_fault}
use Rattle.ob_call.specs.Ids.{named_ids}
use Rattle.ob_schema.specs.Fields.{Column}
use Rattle.ob_schema.specs.declared.info.FieldInfo.{FieldInfo}
use Rattle.ob_schema.specs.declared.info.ModelInfo.{ModelInfo}

-- what a read is called with: ids, fields, and a way of loading that is not read
abbrev pub read_expects : List FieldInfo → List Expected
read_expects fields = record { name = codes "ids"; required = true; fault = ids_fault } ∷ record { name = codes "fields"; required = false; fault = names_fault fields } ∷ record {
  name = codes
      "load";
  required = false;
  fault = λ _. None;
} ∷ []

-- what a read asks for
pub record Asked : Type 0 where
  pub ids : List ℕ
  pub fields : List Column

-- what the arguments ask for; the ids are given
abbrev pub asked_by : ModelInfo → List (Option Given) → Asked
asked_by info (Some ids ∷ fields ∷ gs) = record { ids = named_ids ids.json; fields = asked_columns info fields }
asked_by info _ = record { ids = []; fields = [] }

-- what a read asks for, or the first place that is wrong
abbrev pub asked_of : Called → Result Asked (List PathStep)
asked_of c = arguments_of (read_expects c.info.fields) c.args c.kw >>= λ given. Ok (asked_by c.info given)
