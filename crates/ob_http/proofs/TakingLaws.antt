-- What taking the next message does, by what it answers.
use Rattle.std.proofs.Common.{◌≡◌, ℕ, ◌≤◌, true, false, List, [], ◌++◌, length, sym, subst, None, Result, Ok, Err}
use Rattle.std.specs.Prelude.{◌⊎◌, IfSome}
use Rattle.ob_base.specs.Limits.{max_head_bytes}
use Rattle.ob_http.specs.Lines.{are_empty_lines}
use Rattle.ob_http.specs.Head.{head_of}
use Rattle.ob_http.specs.Reply.{IsFaultStatus}
use Rattle.ob_http.specs.Written.{Wrote}
use Rattle.ob_http.specs.Connection.{Connection, coming_bytes, Sent, ReadsOn, Receives, FailsReading, FailsWriting, WritesInterim}
use Rattle.ob_http.specs.Taking.{TakesNext}
use Rattle.ob_http.specs.Front.{EndsBefore}
use Rattle.ob_http.specs.declared.inlet.Inlet.{Inlet}
use Rattle.ob_http.specs.declared.inlet.Inlet.TheVariants as inlet
use Rattle.ob_http.specs.declared.inlet.HttpFault.{HttpFault}
use Rattle.ob_http.specs.declared.inlet.HttpFault.TheVariants as fault
use Rattle.ob_http.proofs.ReadingOn.{sent_both}
use Rattle.ob_http.proofs.ItemLaws.{fault_431}
use Rattle.ob_http.proofs.ConnectionLaws.{receives_too_long, receives_ended, receives_part, receives_result, stops_after, wanting_after}

-- an item came in that is no fault
pub takes_item : {before now : Connection} {part : List ℕ} (told : Inlet) → ((status : ℕ) → told ≡ inlet.Bad status → IsFaultStatus status) → Sent before now part
    → IfSome (coming_bytes before) (λ bytes. Receives before now bytes told) → TakesNext before now (Ok told)
takes_item {before} {now} {part} told fault_is sent received = record {
  item = received;
  status = λ status is. fault_is status (same_told (inlet.Bad status) is);
  part = part;
  sent = sent;
  failed = λ is. absurd (cc);
  memory = λ is. absurd (cc);
}
  where
    same_told : (other : Inlet) → (let left : Result Inlet HttpFault = Ok told in left ≡ Ok other) → told ≡ other
    same_told other is = cc

-- a fault came in
pub takes_fault : {before now : Connection} {part : List ℕ} (status : ℕ) → IsFaultStatus status → Sent before now part
    → IfSome (coming_bytes before) (λ bytes. Receives before now bytes (inlet.Bad status)) → TakesNext before now (Ok (inlet.Bad status))
takes_fault status fits sent received = takes_item (inlet.Bad status) (λ other is. let same : status ≡ other = cc in subst IsFaultStatus same fits) sent received

-- nothing came in
pub takes_none : {before now : Connection} {part : List ℕ} (result : Result Inlet HttpFault) (why : HttpFault) → result ≡ Err why → Sent before now part
    → (why ≡ fault.Failed → IfSome (coming_bytes before) (λ bytes. FailsReading before now part ⊎ FailsWriting before now bytes))
    → (why ≡ fault.NoMemory → Wrote before.written now.written [] ⊎ WritesInterim before now) → TakesNext before now result
takes_none {before} {now} {part} result why is sent failed memory = subst (TakesNext before now) (sym is) (record {
  item = tt;
  status = λ status told. absurd (cc);
  part = part;
  sent = sent;
  failed = λ told. failed (same_why fault.Failed told);
  memory = λ told. memory (same_why fault.NoMemory told);
})
  where
    same_why : (other : HttpFault) → (let left : Result Inlet HttpFault = Err why in left ≡ Err other) → why ≡ other
    same_why other told = cc

-- the front was read ahead, and then the message behind it was taken
pub takes_after : {before mid : Connection} {part : List ℕ} (now : Connection) (result : Result Inlet HttpFault) → ReadsOn before mid part → mid.ahead.bytes ≡ before.ahead.bytes ++ part
    → TakesNext mid now result → TakesNext before now result
takes_after {before} {mid} {part} now result reads bytes takes = record {
  item = receives_result now result reads bytes takes.item;
  status = takes.status;
  part = part ++ takes.part;
  sent = sent_both part takes.part reads.sent takes.sent;
  failed = λ is. stops_after now takes.part reads bytes (takes.failed is);
  memory = λ is. wanting_after now reads bytes (takes.memory is);
}

-- the front is no head

pub takes_too_long : {before now : Connection} {part : List ℕ} → ReadsOn before now part → now.ahead.bytes ≡ before.ahead.bytes ++ part
    → (head_of now.ahead.bytes ≡ None) × (max_head_bytes ≤ length now.ahead.bytes) → length now.ahead.bytes ≤ max_head_bytes → TakesNext before now (Ok (inlet.Bad 431))
takes_too_long reads bytes long few = takes_fault 431 fault_431 reads.sent (receives_too_long reads bytes long.0 long.1 few)

pub takes_ended : {before now : Connection} {part : List ℕ} → ReadsOn before now part → now.ahead.bytes ≡ before.ahead.bytes ++ part
    → EndsBefore now.ahead.bytes now.left × (are_empty_lines now.ahead.bytes ≡ true) → TakesNext before now (Ok inlet.Ended)
takes_ended reads bytes ends = takes_item inlet.Ended (λ status is. absurd (cc)) reads.sent (receives_ended reads bytes ends.0 ends.1)

pub takes_cut : {before now : Connection} {part : List ℕ} → ReadsOn before now part → now.ahead.bytes ≡ before.ahead.bytes ++ part
    → EndsBefore now.ahead.bytes now.left × (are_empty_lines now.ahead.bytes ≡ false) → TakesNext before now (Ok inlet.Cut)
takes_cut reads bytes ends = takes_item inlet.Cut (λ status is. absurd (cc)) reads.sent (receives_part reads bytes ends.0 ends.1)
