-- The names of operations and kinds, as replies spell them.
use Rattle.std.specs.Prelude.{ℕ, List, codes}
use Rattle.ob_base.specs.declared.refusal.Op.{Op}
use Rattle.ob_base.specs.declared.refusal.Op.TheVariants as op
use Rattle.ob_base.specs.declared.refusal.BrokenKind.{BrokenKind}
use Rattle.ob_base.specs.declared.refusal.BrokenKind.TheVariants as kind

-- an operation, in small letters
abbrev pub op_name : Op → List ℕ
op_name op.Read = codes "read"
op_name op.Create = codes "create"
op_name op.Write = codes "write"
op_name op.Unlink = codes "unlink"

-- a kind, as its variant is spelled
abbrev pub kind_name : BrokenKind → List ℕ
kind_name kind.Required = codes "Required"
kind_name kind.MissingRef = codes "MissingRef"
kind_name kind.Unique = codes "Unique"
kind_name kind.Tree = codes "Tree"
kind_name kind.Depth = codes "Depth"
kind_name kind.Restrict = codes "Restrict"
kind_name kind.Check = codes "Check"
kind_name kind.Overflow = codes "Overflow"
kind_name kind.TooLong = codes "TooLong"
kind_name kind.ZeroDivisor = codes "ZeroDivisor"
kind_name kind.Locked = codes "Locked"
kind_name kind.Fixed = codes "Fixed"
kind_name kind.Managed = codes "Managed"
kind_name kind.Limit = codes "Limit"
kind_name kind.Short = codes "Short"
kind_name kind.WrongState = codes "WrongState"
kind_name kind.BackorderChoice = codes "BackorderChoice"
kind_name kind.RouteDepth = codes "RouteDepth"
kind_name kind.LotNeeded = codes "LotNeeded"
kind_name kind.Outside = codes "Outside"
