-- Which groups a user is in, and for whom what is marked with groups is meant.
use Rattle.std.specs.Prelude.{◌==◌, Bool, true, List, [], Contains, Option}
use Rattle.std.specs.List.{list_any}
use Rattle.std.specs.Option.{option_map_or}
use Rattle.ob_base.specs.declared.id.RecId.{RecId}
use Rattle.ob_access.specs.Policies.{group_at}
use Rattle.ob_access.specs.declared.policy.Group.{Group}

-- the groups that a group implies
abbrev pub implied_by : List Group → RecId → List RecId
implied_by groups id = option_map_or (λ group. group.implies) (group_at groups id) []

-- the groups of a user who is stated to be in some: those, and with each group the ones that it implies
pub data IsMember (groups : List Group) (stated : List RecId) : RecId → Type 0 where
  is_stated : (id : RecId) → Contains stated id → IsMember groups stated id
  is_implied : (by id : RecId) → IsMember groups stated by → Contains (implied_by groups by) id → IsMember groups stated id

-- the group is one of the caller's
abbrev pub has_group : List RecId → RecId → Bool
has_group own id = list_any (λ mine. id.0 == mine.0) own

-- one of these groups is the caller's
abbrev pub has_some : List RecId → List RecId → Bool
has_some own ids = list_any (has_group own) ids

-- there is no list of groups, or one of the caller's is in it
abbrev pub is_open_to : List RecId → Option (List RecId) → Bool
is_open_to own groups = option_map_or (has_some own) groups true

-- user 1, whom access lines and rules don't bind
abbrev pub is_superuser : RecId → Bool
is_superuser user = user.0 == 1
