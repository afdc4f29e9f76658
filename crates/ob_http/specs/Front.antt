-- What the front of a connection's bytes is.
use Rattle.std.specs.Prelude.{◌≡◌, ℕ, ◌<◌, ◌≤◌, nat_lt, Bool, true, false, List, [], ◌++◌, length, take, drop, Option, Some, None, IfSome, MatchOption, Result, Ok, Err, IfOk}
use Rattle.ob_base.specs.Limits.{max_head_bytes}
use Rattle.ob_http.specs.Lines.{are_empty_lines}
use Rattle.ob_http.specs.Head.{Head, head_of, IsHeadAt}
use Rattle.ob_http.specs.declared.lines.HeadSize.{HeadSize}
use Rattle.ob_http.specs.declared.lines.Front.{Front}
use Rattle.ob_http.specs.declared.lines.Front.TheVariants as front
use Rattle.ob_http.specs.declared.inlet.HttpFault.{HttpFault}
use Rattle.ob_http.specs.declared.inlet.HttpFault.TheVariants as fault
use Rattle.ob_http.specs.Connection.{Connection, ReadsOn}

-- the bytes begin with a head of this size
pub record BeginsWithHead (bytes : List ℕ) (size : HeadSize) : Type 0 where
  pub head : Head
  pub within : size.size ≤ length bytes
  pub head_is : head_of (take size.size bytes) ≡ Some head
  pub stands : IsHeadAt (take size.size bytes) size head

-- where no end of a head is among the bytes, and fewer than a head may have, the connection has ended
pub record EndsBefore (bytes : List ℕ) (left : Option (List ℕ)) : Type 0 where
  pub no_head : head_of bytes ≡ None
  pub few : length bytes < max_head_bytes
  pub ended : IfSome left (λ rest. rest ≡ [])

-- what the front of the bytes is that were read, by what is left of the connection
abbrev pub IsFrontRead : List ℕ → Option (List ℕ) → Front → Type 0
IsFrontRead bytes left (front.Head size) = BeginsWithHead bytes size
IsFrontRead bytes left front.TooLong = (head_of bytes ≡ None) × (max_head_bytes ≤ length bytes)
IsFrontRead bytes left front.Empty = EndsBefore bytes left × (are_empty_lines bytes ≡ true)
IsFrontRead bytes left front.Part = EndsBefore bytes left × (are_empty_lines bytes ≡ false)

-- More bytes were read ahead, or none at the connection's end. A read that fails gives none.
pub record Fills (before now : Connection) (result : Result Bool HttpFault) : Type 0 where
  pub part : List ℕ
  pub reads : ReadsOn before now part
  pub some : IfOk result (λ more. (now.ahead.bytes ≡ before.ahead.bytes ++ part) × (more ≡ nat_lt 0 (length part)))
  pub ended : result ≡ Ok false → IfSome now.left (λ rest. rest ≡ [])
  pub failed : result ≡ Err fault.Failed → part ≡ []

-- The front of the bytes was read ahead. Where a read failed, no end of a head had come, and fewer
-- bytes than a head may have.
pub record ReadsFront (before now : Connection) (result : Result Front HttpFault) : Type 0 where
  pub part : List ℕ
  pub reads : ReadsOn before now part
  pub front : IfOk result (λ front. (now.ahead.bytes ≡ before.ahead.bytes ++ part) × IsFrontRead now.ahead.bytes now.left front)
  pub failed : result ≡ Err fault.Failed → (head_of (before.ahead.bytes ++ part) ≡ None) × (length (before.ahead.bytes ++ part) < max_head_bytes)

-- A body of this length was taken from the front of the bytes: none where the connection ended before.
-- Where a read failed, too few had come.
pub record TakesBody (before now : Connection) (size : ℕ) (result : Result (Option (List ℕ)) HttpFault) : Type 0 where
  pub part : List ℕ
  pub reads : ReadsOn before now part
  pub body : IfOk result (λ found. MatchOption found
      ((length (before.ahead.bytes ++ part) < size) × IfSome now.left (λ rest. rest ≡ []))
      (λ body. (size ≤ length (before.ahead.bytes ++ part)) × (body ≡ take size (before.ahead.bytes ++ part)) × (now.ahead.bytes ≡ drop size (before.ahead.bytes ++ part))))
  pub failed : result ≡ Err fault.Failed → length (before.ahead.bytes ++ part) < size
