-- How contracts see the calls that the code reads and hands on.
use Rattle.std.specs.Prelude.{◌≡◌, ◌≢◌, ℕ, ⊤, option_map, unwrap_or, Result, Ok, Err}
use Rattle.serde_json.specs.Data.{object, no_members}
use Rattle.serde_json.specs.View.{view}
use Rattle.ob_call.specs.declared.call.Call.{Call as Handed}
use Rattle.ob_io.specs.declared.keeper.KeepFault.{KeepFault}
use Rattle.ob_server.specs.Request.{Call}
use Rattle.ob_server.specs.declared.request.ElementFault.{ElementFault}
use Rattle.ob_server.specs.declared.request.ElementFault.TheVariants as fault
use Rattle.ob_server.specs.declared.request.Layout.{Layout}
use Rattle.ob_server.specs.declared.request.Method.{Method}
use Rattle.ob_server.specs.declared.request.MethodCall.{MethodCall}

-- a call, as the machine has it; arguments by name that are absent are none
abbrev pub call_view : MethodCall → Call
call_view call = record {
  caller = call.caller;
  model = call.model;
  method = call.method;
  args = view call.args.now;
  kw = unwrap_or (option_map (λ kw. view kw.now) call.kw) (object no_members);
  layout = call.layout;
}

-- a call of this method that is handed on, as the machine has it
abbrev pub handed_view : Layout → Method → Handed → Call
handed_view layout method call = record { caller = call.caller; model = call.model; method = method; args = view call.args.now; kw = view call.kw.now; layout = layout }

-- the number of the wrong element is the stated one; where the user wasn't looked up, he had to be
abbrev pub IsFaultOf : {A : Type 0} → (Result A ℕ → Type 0) → Result A ℕ → ElementFault → Type 0
IsFaultOf LooksUp stated (fault.Wrong n) = stated ≡ Err n
IsFaultOf LooksUp stated (fault.Keeper why) = LooksUp stated

-- the user wasn't looked up for this reason
abbrev pub IsUnread : (KeepFault → Type 0) → ElementFault → Type 0
IsUnread IsReason (fault.Wrong n) = ⊤
IsUnread IsReason (fault.Keeper why) = IsReason why

-- a caller has to be looked up: it isn't the database that is wrong
abbrev pub LooksUpCaller : Result Call ℕ → Type 0
LooksUpCaller stated = stated ≢ Err 0

-- the call is the stated one, or the fault is its
abbrev pub CallIs : Result MethodCall ElementFault → Result Call ℕ → Type 0
CallIs (Ok call) stated = stated ≡ Ok (call_view call)
CallIs (Err why) stated = IsFaultOf LooksUpCaller stated why
