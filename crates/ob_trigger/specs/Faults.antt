-- Why it isn't known what a change reaches.
use Rattle.std.specs.Prelude.{⊤}
use Rattle.ob_trigger.specs.declared.fault.CloseFault.{CloseFault}
use Rattle.ob_trigger.specs.declared.fault.CloseFault.TheVariants as fault

-- the fault is one of which this is known, of the links; or an allocation failed
abbrev pub IsCloseFault : {Fault : Type 0} → (Fault → Type 0) → CloseFault Fault → Type 0
IsCloseFault known (fault.World told) = known told
IsCloseFault known fault.NoMemory = ⊤
