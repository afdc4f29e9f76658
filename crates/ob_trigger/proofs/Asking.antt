-- Questions to links, one behind another, and the one that failed.
use Rattle.std.proofs.Common.{◌≡◌, List, refl, ◌∙◌}
use Rattle.std.specs.Prelude.{IfErr, Result, Ok, Err}
use Rattle.ob_schema.specs.Facts.{Asked, FailedBehind, OfAllTold, asked-then, nothing, one_more}
use Rattle.ob_schema.specs.Links.{Sides}
use Rattle.ob_schema.specs.declared.info.ModelInfo.{ModelInfo}
use Rattle.ob_trigger.specs.Asking.{AskedAlone}
use Rattle.ob_trigger.specs.Faults.{IsCloseFault}
use Rattle.ob_trigger.specs.declared.fault.CloseFault.{CloseFault}
use Rattle.ob_trigger.specs.declared.fault.CloseFault.TheVariants.{World, NoMemory}

module _ {S : Type 0} {asks : S → S → Type 0} {registry : S → List ModelInfo} {tells : S → Sides → Type 0} where
  -- no question
  pub alone_none : (one : S) → AskedAlone asks registry tells one one
  alone_none one = record { asked = nothing one; same = refl; kept = λ sides told. told; only = λ sides told. told }

  -- one question
  pub alone_one : (old new : S) → asks old new → registry new ≡ registry old → OfAllTold (tells old) (tells new) → OfAllTold (tells new) (tells old) → AskedAlone asks registry tells old new
  alone_one old new step same kept only = record { asked = one_more old old new (nothing old) step; same = same; kept = kept; only = only }

  -- questions behind questions
  pub alone_then : (first before now : S) → AskedAlone asks registry tells first before → AskedAlone asks registry tells before now → AskedAlone asks registry tells first now
  alone_then first before now a b = record {
    asked = asked-then first before now a.asked b.asked;
    same = b.same ∙ a.same;
    kept = λ sides told. b.kept sides (a.kept sides told);
    only = λ sides told. a.only sides (b.only sides told);
  }

-- what is known of a fault of the links, in a weaker form
pub known_fault : {Fault : Type 0} (P Q : Fault → Type 0) (why : CloseFault Fault) → ((told : Fault) → P told → Q told) → IsCloseFault P why → IsCloseFault Q why
known_fault P Q (World told) weaker known = weaker told known
known_fault P Q NoMemory weaker known = tt

-- the only question failed
pub failed_first : {T S Fault : Type 0} (asks : S → S → Type 0) (has_failed : S → S → Fault → Type 0) (first now : S) (result : Result T (CloseFault Fault))
    → IfErr result (IsCloseFault (has_failed first now)) → IfErr result (IsCloseFault (FailedBehind asks has_failed first now))
failed_first asks has_failed first now (Ok answer) known = tt
failed_first asks has_failed first now (Err why) known =
    known_fault (has_failed first now) (FailedBehind asks has_failed first now) why (λ told failed. (first, nothing first, failed)) known

-- a fault behind questions stands behind those before them too
pub fault_behind : {S Fault : Type 0} {asks : S → S → Type 0} (has_failed : S → S → Fault → Type 0) (first before now : S) (why : CloseFault Fault) → Asked asks first before
    → IsCloseFault (FailedBehind asks has_failed before now) why → IsCloseFault (FailedBehind asks has_failed first now) why
fault_behind {asks} has_failed first before now why were =
    known_fault (FailedBehind asks has_failed before now) (FailedBehind asks has_failed first now) why
    (λ told failed. (failed.0, asked-then first before failed.0 were failed.1, failed.2))

-- the same of an answer that may be a fault
pub answered_behind : {T S Fault : Type 0} {asks : S → S → Type 0} (has_failed : S → S → Fault → Type 0) (first before now : S) (result : Result T (CloseFault Fault)) → Asked asks first before
    → IfErr result (IsCloseFault (FailedBehind asks has_failed before now)) → IfErr result (IsCloseFault (FailedBehind asks has_failed first now))
answered_behind has_failed first before now (Ok answer) were known = tt
answered_behind has_failed first before now (Err why) were known = fault_behind has_failed first before now why were known
