-- What crates above may cite: the groups of a caller, by what the model of users has of him.
use Rattle.std.proofs.Common.{◌≡◌, List, [], ◌∷◌, Option, Some, None, refl, subst, sym, arith}
use Rattle.std.specs.Prelude.{◌↔◌, Contains, IsSomeAnd}
use Rattle.ob_access.specs.Groups.{IsMember, is_implied, is_stated}
use Rattle.ob_access.specs.Policies.{PolicyData}
use Rattle.ob_access.specs.Users.{AreGroupsOf, IsInGroup, users_of}
use Rattle.ob_access.specs.declared.policy.Group.{Group}
use Rattle.ob_access.specs.declared.users.Users.{Users}
use Rattle.ob_base.specs.Rising.{IsRising}
use Rattle.ob_base.specs.declared.id.RecId.{RecId}
use Rattle.ob_schema.specs.Facts.{told_by}
use Rattle.ob_schema.specs.Tables.{Tables}
use Rattle.ob_schema.specs.declared.info.ModelInfo.{ModelInfo}

module _ (models : List ModelInfo) (policy : PolicyData) (tables : Tables) (user : RecId) where
  -- where there is no model of users there are none
  pub groups_none : IsRising [] → ((group : RecId) → Contains [] group → ⊥) → users_of models ≡ None → AreGroupsOf models policy tables user []
  groups_none rises none are = record {
    rising = rises;
    members = λ group. (λ h. absurd (none group h), λ h. absurd (subst (λ (o : Option Users). IsSomeAnd o (λ users. IsInGroup policy (told_by models tables) users user group)) are h));
  }

  -- else those that the model tells
  pub groups_some : (users : Users) (own : List RecId) → users_of models ≡ Some users → IsRising own → ((group : RecId) → Contains own group ↔ IsInGroup policy (told_by models tables) users user group) → AreGroupsOf models policy tables user own
  groups_some users own are rises members = record {
    rising = rises;
    members = λ group. subst (λ (o : Option Users). Contains own group ↔ IsSomeAnd o (λ users. IsInGroup policy (told_by models tables) users user group)) (sym are) (members group);
  }

-- who is stated to be in no group is in none
pub none_member : (groups : List Group) (group : RecId) → IsMember groups [] group → ⊥
none_member groups _ (is_stated group is) = let few = is.1 in absurd (omega (arith, few))
none_member groups _ (is_implied by group member is) = none_member groups by member

-- so he has none
pub no_members : (xs : List RecId) → ((group : RecId) → Contains xs group → ⊥) → xs ≡ []
no_members [] none = refl
no_members (x ∷ xs) none = absurd (none x (0, omega arith, refl))

pub none_contained : (group : RecId) → Contains [] group → ⊥
none_contained group is = let few = is.1 in absurd (omega (arith, few))

pub none_rise : IsRising []
none_rise k few = absurd (omega (arith, few))
