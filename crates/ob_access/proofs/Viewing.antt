-- Questions to what is seen are questions to the facts below it.
use Rattle.std.proofs.Common.{◌≡◌, List, refl, ◌∙◌}
use Rattle.ob_domain.specs.Holding.{IsHoldFault}
use Rattle.ob_domain.specs.declared.fault.HoldFault.{HoldFault}
use Rattle.ob_domain.specs.declared.fault.HoldFault.TheVariants.{Fact, NoMemory}
use Rattle.ob_schema.specs.Facts.{Asked, FailedBehind, Told, asked-then, nothing, one_more}
use Rattle.ob_schema.specs.declared.info.ModelInfo.{ModelInfo}
use Rattle.ob_access.specs.Views.{AsksThrough, fault_below}
use Rattle.ob_access.proofs.Asking.{fault_behind}

module _ {S : Type 0} (registry : S → List ModelInfo) (tells : S → Told → Type 0) (asks : S → S → Type 0) where
  through-none : (one : S) → AsksThrough registry tells asks one one
  through-none one = record { asked = nothing one; same = refl; kept = λ told is. is; only = λ told is. is }

  through-then : (first before now : S) → AsksThrough registry tells asks first before → AsksThrough registry tells asks before now → AsksThrough registry tells asks first now
  through-then first before now were more = record {
    asked = asked-then first before now were.asked more.asked;
    same = more.same ∙ were.same;
    kept = λ told is. more.kept told (were.kept told is);
    only = λ told is. were.only told (more.only told is);
  }

  module _ {It Name Who : Type 0} (below : It → S) (name : It → Name) (who : It → Who) where
    -- a question to what is seen: questions to the facts below, which stay where they are lent, for the same viewer
    abbrev pub Through : It → It → Type 0
    Through old new = AsksThrough registry tells asks (below old) (below new) × (name new ≡ name old) × (who new ≡ who old)

    pub through-all : (first now : It) → Asked Through first now → Through first now
    through-all first now (nothing _) = (through-none (below first), refl, refl)
    through-all first now (one_more _ before _ were last) =
        let behind = through-all first before were in (through-then (below first) (below before) (below now) behind.0 last.0, last.1 ∙ behind.1, last.2 ∙ behind.2)

module _ {S It Name Who Fault : Type 0} (registry : S → List ModelInfo) (tells : S → Told → Type 0) (asks : S → S → Type 0) (has_failed : S → S → Fault → Type 0) (below : It → S) (name : It → Name) (who : It → Who) where
  -- a question to what is seen fails as one of those to the facts below
  abbrev pub FailsBelow : It → It → HoldFault Fault → Type 0
  FailsBelow old new = IsHoldFault (FailedBehind asks has_failed (below old) (below new))

  -- what failed behind questions to what is seen failed behind questions to the facts below
  pub fails-as_one : (first now : It) (why : HoldFault Fault) → FailedBehind (Through registry tells asks below name who) FailsBelow first now why → FailsBelow first now why
  fails-as_one first now why failed = fault_behind has_failed (below first) (below failed.0) (below now) why (through-all registry tells asks below name who first failed.0 failed.1).0.asked failed.2

  pub fails-below : (first now : It) (why : HoldFault (HoldFault Fault)) → IsHoldFault (FailedBehind (Through registry tells asks below name who) FailsBelow first now) why → FailsBelow first now (fault_below why)
  fails-below first now (Fact why) failed = fails-as_one first now why failed
  fails-below first now NoMemory failed = tt
