-- How contracts see what is told without a call.
use Rattle.std.specs.Prelude.{◌≡◌, ℕ, IsOk, Result, Ok, Err}
use Rattle.serde_json.specs.Data.{Data}
use Rattle.serde_json.specs.View.{view}
use Rattle.serde_json.specs.declared.value.Value.{Value}
use Rattle.ob_server.specs.MethodCall.{IsFaultOf}
use Rattle.ob_server.specs.declared.request.ElementFault.{ElementFault}

-- what is told is the stated value, or the fault is its; somebody has to be looked up where no element is wrong
abbrev pub LoginIs : Result Value ElementFault → Result Data ℕ → Type 0
LoginIs (Ok json) stated = stated ≡ Ok (view json)
LoginIs (Err why) stated = IsFaultOf IsOk stated why
