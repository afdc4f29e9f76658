-- How the faults of the crates below become refusals.
use Rattle.ob_base.specs.declared.refusal.Refusal.{Refusal}
use Rattle.ob_base.specs.declared.refusal.Refusal.TheVariants as refusal
use Rattle.ob_io.specs.declared.keeper.KeepFault.{KeepFault}
use Rattle.ob_io.specs.declared.keeper.KeepFault.TheVariants as keep_fault

-- a fault of the keeper, as a refusal
abbrev pub keeper_refusal : KeepFault → Refusal
keeper_refusal keep_fault.Failed = refusal.Keeper
keeper_refusal keep_fault.NoMemory = refusal.NoMemory
