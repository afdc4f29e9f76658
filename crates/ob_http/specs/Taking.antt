-- What taking the next message does to a connection, whatever it answers.
use Rattle.std.specs.Prelude.{◌≡◌, ℕ, ◌⊎◌, List, [], Result, Ok, Err, IfOk, IfSome}
use Rattle.ob_http.specs.declared.inlet.Inlet.{Inlet}
use Rattle.ob_http.specs.declared.inlet.Inlet.TheVariants.{Bad}
use Rattle.ob_http.specs.declared.inlet.HttpFault.{HttpFault}
use Rattle.ob_http.specs.declared.inlet.HttpFault.TheVariants.{Failed, NoMemory}
use Rattle.ob_http.specs.Connection.{Connection, coming_bytes, Sent, Receives, FailsReading, FailsWriting, WritesInterim}
use Rattle.ob_http.specs.Reply.{IsFaultStatus}
use Rattle.ob_http.specs.Written.{Wrote}

-- An item came in, or why none did. What the connection sent was counted, whatever the answer. Where memory
-- was wanting, nothing was written but the interim line, and that only where it is due.
pub record TakesNext (before now : Connection) (result : Result Inlet HttpFault) : Type 0 where
  pub item : IfOk result (λ inlet. IfSome (coming_bytes before) (λ bytes. Receives before now bytes inlet))
  pub status : (status : ℕ) → result ≡ Ok (Bad status) → IsFaultStatus status
  pub part : List ℕ
  pub sent : Sent before now part
  pub failed : result ≡ Err Failed → IfSome (coming_bytes before) (λ bytes. FailsReading before now part ⊎ FailsWriting before now bytes)
  pub memory : result ≡ Err NoMemory → Wrote before.written now.written [] ⊎ WritesInterim before now
