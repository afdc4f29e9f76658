-- the number so far is that of the digits so far
use Rattle.std.proofs.Common.{◌≡◌, ◌<◌, ◌^◌, take}
use Rattle.std.specs.Str.Parse.{digits_value}
use Rattle.ob_dates.proofs.text.number_at.Given as goal

abbrev pub invariant-loop-byte : goal.invariant-loop-byte
invariant-loop-byte l = (l.number ≡ digits_value 10 (take l.byte-index l.digits)) × (l.number < 10 ^ l.byte-index)
