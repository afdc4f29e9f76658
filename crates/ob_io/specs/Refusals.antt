-- The fault of a keeper as the refusal of a call.
use Rattle.ob_base.specs.declared.refusal.Refusal.{Refusal}
use Rattle.ob_base.specs.declared.refusal.Refusal.TheVariants as refusal
use Rattle.ob_io.specs.declared.keeper.KeepFault.{KeepFault}
use Rattle.ob_io.specs.declared.keeper.KeepFault.TheVariants as fault

-- the refusal of a call whose keeper gave no answer
abbrev pub keeper_refusal : KeepFault → Refusal
keeper_refusal fault.Failed = refusal.Keeper
keeper_refusal fault.NoMemory = refusal.NoMemory
