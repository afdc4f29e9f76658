-- What the host's things show of themselves.
use Rattle.std.specs.Prelude.{ℕ, ◌/◌, ℤ, pos, List, Option, None, Some, Result, Ok, Err, if◌then◌else◌}
use Rattle.std.specs.declared.time.SystemTime.{SystemTime}
use Rattle.std.specs.Time.{system_time_nanos}
use Rattle.ob_base.specs.Times.{is_moment}
use Rattle.ob_io.specs.Plan.{one_more}

-- the bytes still to come, where the runtime's reader tells them, and how often the host failed
pub record HostInput : Type 0 where
  pub left : Option (List ℕ)
  pub faults : ℕ

-- how often the host gave no connection, and how often it failed to read or to write one
pub record HostConnections : Type 0 where
  pub next_faults : ℕ
  pub faults : ℕ

-- the moment that was given last, and how often the host gave none
pub record HostTime : Type 0 where
  pub last : ℤ
  pub faults : ℕ

-- the moment so many seconds after 1970-01-01, where the years to 9999 have it
abbrev pub moment_after : ℕ → Option ℤ
moment_after seconds = if is_moment (pos seconds) then Some (pos seconds) else None

-- the moment that the host tells, in whole seconds; none where it fails
abbrev pub moment_told : {E : Type 0} → Result SystemTime E → Option ℤ
moment_told (Err why) = None
moment_told (Ok time) = moment_after (system_time_nanos time / 1_000_000_000)

-- after a moment of the host, or after none, which is counted
abbrev pub after_moment : Option ℤ → HostTime → HostTime
after_moment None time = record { last = time.last; faults = one_more time.faults }
after_moment (Some moment) time = record { last = moment; faults = time.faults }
