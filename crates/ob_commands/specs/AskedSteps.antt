-- The arguments of a create and of a write as the code has them.
use Rattle.std.specs.Prelude.{◌≡◌, ⊤, List, Option, Some, Result, Ok, Err}
use Rattle.ob_base.specs.declared.place.PathStep.{PathStep}
use Rattle.ob_base.specs.declared.refusal.Refusal.{Refusal}
use Rattle.ob_base.specs.declared.refusal.Refusal.TheVariants as refusal
use Rattle.ob_call.specs.Arguments.{Given as Argument, arguments_of}
use Rattle.ob_call.specs.ArgumentsSteps.{given_of}
use Rattle.ob_call.specs.Called.{Called}
use Rattle.ob_call.specs.Forms.{fields_at, ids_fault}
use Rattle.ob_call.specs.Ids.{named_ids}
use Rattle.ob_call.specs.declared.arguments.Given.{Given}
use Rattle.ob_commands.specs.Asked.{create_expects, object_fault, objects_fault, write_expects}
use Rattle.ob_commands.specs.Changes.{first_of, second_of}
use Rattle.ob_commands.specs.declared.asked.Change.{Change}
use Rattle.ob_commands.specs.declared.asked.Expected.{Expected}
use Rattle.ob_commands.specs.declared.asked.Expected.TheVariants as expected
use Rattle.serde_json.specs.Data.{Data}

-- the place below an argument where it breaks its form
abbrev pub expected_fault : Expected → Data → Option (List PathStep)
expected_fault expected.Ids d = ids_fault d
expected_fault (expected.Object values) d = object_fault (fields_at values.schema.now values.model) d
expected_fault (expected.Objects values) d = objects_fault (fields_at values.schema.now values.model) d

-- the argument of a create, or the first place that is wrong; or memory is wanting
abbrev pub IsGivenCreate : Called → Result Given Refusal → Type 0
IsGivenCreate called (Ok vals) = (given : List (Option Argument)) × (arguments_of (create_expects called.info.fields) called.args called.kw ≡ Ok given) × (first_of given ≡ Some (given_of vals))
IsGivenCreate called (Err (refusal.Request place)) = arguments_of (create_expects called.info.fields) called.args called.kw ≡ Err place
IsGivenCreate called (Err refusal.NoMemory) = ⊤
IsGivenCreate called (Err _) = ⊥

-- the arguments of a write, or the first place that is wrong; or memory is wanting
abbrev pub IsAskedWrite : Called → Result Change Refusal → Type 0
IsAskedWrite called (Ok change) = (given : List (Option Argument)) × (arguments_of (write_expects called.info.fields) called.args called.kw ≡ Ok given)
    × (second_of given ≡ Some (given_of change.vals)) × (ids : Argument) × (first_of given ≡ Some ids) × (change.ids.items ≡ named_ids ids.json)
IsAskedWrite called (Err (refusal.Request place)) = arguments_of (write_expects called.info.fields) called.args called.kw ≡ Err place
IsAskedWrite called (Err refusal.NoMemory) = ⊤
IsAskedWrite called (Err _) = ⊥
