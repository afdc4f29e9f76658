-- What contracts see of a keeper over SQLite.
use Rattle.std.specs.Prelude.{ℕ, Option, Some, None, Result, Ok, Err}
use Rattle.ob_io.specs.declared.keeper.KeepFault.{KeepFault}

-- what each call answers where there is no connection, and how often the keeper has failed
pub record Shown : Type 0 where
  pub shut : Option KeepFault
  pub faults : ℕ

-- the error, where there is one
abbrev pub shut_of : {C : Type 0} → Result C KeepFault → Option KeepFault
shut_of (Ok opened) = None
shut_of (Err fault) = Some fault
