-- What an error of the database is to a keeper.
use Rattle.sqlite.specs.declared.error.Error.{Error}
use Rattle.sqlite.specs.declared.error.Error.TheVariants.{SqliteFailure}
use Rattle.sqlite.specs.declared.error.ErrorCode.TheVariants.{OutOfMemory}
use Rattle.ob_io.specs.declared.keeper.KeepFault.{KeepFault}
use Rattle.ob_io.specs.declared.keeper.KeepFault.TheVariants.{Failed, NoMemory}

-- want of memory, or else a failure
abbrev pub fault_from : Error → KeepFault
fault_from (SqliteFailure OutOfMemory) = NoMemory
fault_from _ = Failed
