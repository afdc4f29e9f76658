-- How far an exchange over one connection has come.
use Rattle.std.specs.Prelude.{◌≡◌, ◌+◌, ◌≤◌, nat_lt, ℕ, Bool, true, false, List, [], length, if◌then◌else◌, Option, Some, None, IfSome, Result, Ok, Err}
use Rattle.ob_base.specs.Limits.{max_input_bytes}
use Rattle.ob_cache.specs.Calls.{models_at}
use Rattle.ob_http.specs.Connection.{ReadAhead, coming_bytes, connection_of}
use Rattle.ob_http.specs.Item.{Item}
use Rattle.ob_http.specs.Reply.{reply_bytes}
use Rattle.ob_http.specs.Written.{Wrote, WrotePart}
use Rattle.ob_server.specs.Exchange.{AreFirstItems, HasState, Situation, answers_to, bodies_in}
use Rattle.ob_server.specs.Machine.{State, Run, Step}
use Rattle.ob_server.specs.Setup.{over}
use Rattle.ob_server.specs.declared.connection.Parting.{Parting}
use Rattle.ob_server.specs.declared.connection.Parting.TheVariants as parting
use Rattle.ob_server.specs.declared.terms.Terms.{Terms}

-- So many first items of the stream were taken in and answered, and what stands behind them is still to come.
pub record HasAnswered (terms : Terms) (count : ℕ) (first : State) (stream : List ℕ) (before : Situation) (ahead : ReadAhead) (now : Situation) : Type 0 where
  pub items : List Item
  pub rest : List ℕ
  pub are_first : AreFirstItems stream items rest
  pub count_is : length items ≡ count
  pub coming : coming_bytes (connection_of ahead now.left now.written) ≡ Some rest
  pub within : IfSome now.left (λ left. ahead.taken + length left ≤ length stream)
  pub replies : List (List ℕ)
  pub state : State
  pub run : Run (over terms (models_at before.engine)) first (bodies_in items) replies state
  pub models_are : models_at now.engine ≡ models_at before.engine
  pub has_state : HasState now state
  pub wrote : Wrote before.written now.written (answers_to items replies)

-- all of these bytes were written to the current connection, or a front of them where that failed
abbrev pub WroteOrPart : {A E : Type 0} → Result A E → (before now : Option (List (List ℕ))) → List ℕ → Type 0
WroteOrPart (Ok _) before now bytes = Wrote before now bytes
WroteOrPart (Err _) before now bytes = WrotePart before now bytes

-- a body was answered by a step of the machine, whose reply was written, or a front of it where that failed
pub record AnswersBody {A E : Type 0} (terms : Terms) (body : List ℕ) (keep : Bool) (result : Result A E) (first : State) (before now : Situation) : Type 0 where
  pub reply : List ℕ
  pub state : State
  pub step : Step (over terms (models_at before.engine)) first body reply state
  pub has_state : HasState now state
  pub wrote : WroteOrPart result before.written now.written (reply_bytes 200 reply keep)

-- how the connection ends behind an answer, by whether it is kept and how many bytes it has sent
abbrev pub parting_behind : Bool → (taken : ℕ) → Option Parting
parting_behind false taken = Some parting.Served
parting_behind true taken = if nat_lt max_input_bytes taken then Some parting.TooLong else None

-- a status was told, or a front of that where writing failed
abbrev pub TellsStatus : Parting → (before now : Option (List (List ℕ))) → (status : ℕ) → Type 0
TellsStatus parting.Served before now status = Wrote before now (reply_bytes status [] false)
TellsStatus parting.Failed before now status = WrotePart before now (reply_bytes status [] false)
TellsStatus _ before now status = ⊥
