-- The groups of a caller by what is told, and why a question about them failed.
use Rattle.std.proofs.Common.{◌≡◌, List, Option, Some, Result, Err, sym, subst}
use Rattle.std.specs.Prelude.{◌↔◌, Contains, IfErr, IsSomeAnd}
use Rattle.ob_access.specs.Policies.{PolicyData}
use Rattle.ob_access.specs.Users.{AreGroupsBy, IsInGroup, users_of}
use Rattle.ob_access.specs.declared.users.Users.{Users}
use Rattle.ob_base.specs.Rising.{IsRising}
use Rattle.ob_base.specs.declared.id.RecId.{RecId}
use Rattle.ob_cache.specs.Telling.{FailsFacts}
use Rattle.ob_cache.specs.declared.fault.ReadFault.{ReadFault}
use Rattle.ob_domain.specs.Holding.{IsHoldFault}
use Rattle.ob_domain.specs.declared.fault.HoldFault.{HoldFault}
use Rattle.ob_domain.specs.declared.fault.HoldFault.TheVariants as hold_fault
use Rattle.ob_schema.specs.Facts.{Told}
use Rattle.ob_schema.specs.declared.info.ModelInfo.{ModelInfo}

module _ (models : List ModelInfo) (policy : PolicyData) (told : Told) (user : RecId) where
  -- his groups are those that the model of users tells
  pub groups_by : (users : Users) (own : List RecId) → users_of models ≡ Some users → IsRising own → ((group : RecId) → Contains own group ↔ IsInGroup policy told users user group) → AreGroupsBy models policy told user own
  groups_by users own are rises members = record {
    rising = rises;
    members = λ group. subst (λ (o : Option Users). Contains own group ↔ IsSomeAnd o (λ users. IsInGroup policy told users user group)) (sym are) (members group);
  }

-- why a question failed, by the law of those behind one another
pub failed_as : {T : Type 0} (tells : Told → Type 0) (rose : Type 0) (Fails : ReadFault → Type 0) (law : (why : ReadFault) → Fails why → FailsFacts tells rose why)
    (r : Result T (HoldFault ReadFault)) (fault : HoldFault ReadFault) (why own : ReadFault) → r ≡ Err fault → fault ≡ hold_fault.Fact why → why ≡ own → IfErr r (IsHoldFault Fails) → FailsFacts tells rose own
failed_as {T} tells rose Fails law r fault why own is fact same h =
    let at : IsHoldFault Fails fault = subst (λ (q : Result T (HoldFault ReadFault)). IfErr q (IsHoldFault Fails)) is h in
    let there : Fails why = subst (IsHoldFault Fails) fact at in
    law own (subst Fails same there)
