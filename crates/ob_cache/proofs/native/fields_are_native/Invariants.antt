use Rattle.std.proofs.Common.{All, take}
use Rattle.ob_cache.specs.Native.{IsNativeField}
use Rattle.ob_cache.proofs.native.fields_are_native.Given as goal

-- the fields so far are native
abbrev pub invariant-loop-field : goal.invariant-loop-field
invariant-loop-field l = All IsNativeField (take l.field-index l.fields)
