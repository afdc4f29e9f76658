-- The groups of a user are the least set.
use Rattle.std.proofs.Common.{◌≡◌, Bool, List, true}
use Rattle.std.specs.Prelude.{Contains}
use Rattle.ob_base.specs.declared.id.RecId.{RecId}
use Rattle.ob_access.specs.Groups.{IsMember, implied_by, is_stated, is_implied}
use Rattle.ob_access.specs.declared.policy.Group.{Group}

-- each group that a user is in is stated, or implied by one that is chosen
pub least : (groups : List Group) (stated : List RecId) (chosen : RecId → Bool)
    → ((id : RecId) → Contains stated id → chosen id ≡ true)
    → ((by id : RecId) → chosen by ≡ true → Contains (implied_by groups by) id → chosen id ≡ true)
    → (id : RecId) → IsMember groups stated id → chosen id ≡ true
least groups stated chosen first next _ (is_stated id is) = first id is
least groups stated chosen first next _ (is_implied by id member is) = next by id (least groups stated chosen first next by member) is
