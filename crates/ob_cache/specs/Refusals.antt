-- Why edits aren't settled, as the refusal of a call.
use Rattle.ob_base.specs.declared.refusal.Refusal.{Refusal}
use Rattle.ob_base.specs.declared.refusal.Refusal.TheVariants as refusal
use Rattle.ob_cache.specs.declared.fault.SettleFault.{SettleFault}
use Rattle.ob_cache.specs.declared.fault.SettleFault.TheVariants as settle_fault

-- the refusal of a call whose edits aren't settled
abbrev pub settle_refusal : SettleFault → Refusal
settle_refusal (settle_fault.Broken broken) = refusal.Constraint broken
settle_refusal settle_fault.Keeper = refusal.Keeper
settle_refusal settle_fault.NoMemory = refusal.NoMemory
