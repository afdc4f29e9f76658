-- What a call of a model is handed, as its meaning has it.
use Rattle.std.specs.Prelude.{ℤ, Result, Ok, Err}
use Rattle.ob_base.specs.declared.id.ModelNo.{ModelNo}
use Rattle.ob_base.specs.declared.id.RecId.{RecId}
use Rattle.ob_base.specs.declared.refusal.Refusal.{Refusal}
use Rattle.ob_call.specs.declared.call.Call.{Call}
use Rattle.ob_schema.specs.declared.info.ModelInfo.{ModelInfo}
use Rattle.serde_json.specs.Data.{Data}
use Rattle.serde_json.specs.View.{view}
use Rattle.serde_json.specs.declared.value.Value.{Value}

-- who calls and at which moment, the model by its number and as it is, and the arguments by position and by name
pub record Called : Type 0 where
  pub caller : RecId
  pub now : ℤ
  pub model : ModelNo
  pub info : ModelInfo
  pub args : Data
  pub kw : Data

-- what this call is handed, where that is its model
abbrev pub called_by : Call → ModelInfo → Called
called_by call info = record { caller = call.caller; now = call.now; model = call.model; info = info; args = view call.args.now; kw = view call.kw.now }

-- an answer, its JSON seen as its data
abbrev pub result_view : Result Value Refusal → Result Data Refusal
result_view (Ok json) = Ok (view json)
result_view (Err why) = Err why
