-- Questions to facts, one behind another, and the one that failed.
use Rattle.std.specs.Prelude.{IfErr, Result, Ok, Err}
use Rattle.ob_schema.specs.Facts.{Asked, FailedBehind, asked-then, nothing}
use Rattle.ob_domain.specs.Holding.{IsHoldFault}
use Rattle.ob_domain.specs.declared.fault.HoldFault.{HoldFault}
use Rattle.ob_domain.specs.declared.fault.HoldFault.TheVariants.{Fact, NoMemory}

-- no question
pub asked_none : {S : Type 0} {asks : S → S → Type 0} (one : S) → Asked asks one one
asked_none one = nothing one

-- what is known of a fault of the facts, in a weaker form
pub known_fault : {Fault : Type 0} (P Q : Fault → Type 0) (why : HoldFault Fault) → ((told : Fault) → P told → Q told) → IsHoldFault P why → IsHoldFault Q why
known_fault P Q (Fact told) weaker known = weaker told known
known_fault P Q NoMemory weaker known = tt

-- a fault behind questions stands behind those before them too
pub fault_behind : {S Fault : Type 0} {asks : S → S → Type 0} (has_failed : S → S → Fault → Type 0) (first before now : S) (why : HoldFault Fault) → Asked asks first before
    → IsHoldFault (FailedBehind asks has_failed before now) why → IsHoldFault (FailedBehind asks has_failed first now) why
fault_behind {asks} has_failed first before now why were =
    known_fault (FailedBehind asks has_failed before now) (FailedBehind asks has_failed first now) why
    (λ told failed. (failed.0, asked-then first before failed.0 were failed.1, failed.2))

-- the same of an answer that may be a fault
pub answered_behind : {T S Fault : Type 0} {asks : S → S → Type 0} (has_failed : S → S → Fault → Type 0) (first before now : S) (result : Result T (HoldFault Fault)) → Asked asks first before
    → IfErr result (IsHoldFault (FailedBehind asks has_failed before now)) → IfErr result (IsHoldFault (FailedBehind asks has_failed first now))
answered_behind has_failed first before now (Ok answer) were known = tt
answered_behind has_failed first before now (Err why) were known = fault_behind has_failed first before now why were known
