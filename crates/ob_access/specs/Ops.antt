-- Sets of operations.
use Rattle.std.specs.Prelude.{Bool}
use Rattle.ob_base.specs.declared.refusal.Op.{Op}
use Rattle.ob_base.specs.declared.refusal.Op.TheVariants as op
use Rattle.ob_access.specs.declared.ops.Ops.{Ops}

-- the operation is one of them
abbrev pub has_op : Ops → Op → Bool
has_op ops op.Read = ops.read
has_op ops op.Create = ops.create
has_op ops op.Write = ops.write
has_op ops op.Unlink = ops.unlink
