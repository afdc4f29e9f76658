-- A policy as contracts see it, and which data is a policy over a registry.
use Rattle.std.specs.Prelude.{◌≡◌, ◌≢◌, ℕ, suc, List, [], All, Option, Some, None, IfSome, IsSome, map, option_map, position}
use Rattle.std.specs.List.{AllPairs, filter_map}
use Rattle.std.specs.Str.{bytes_eq}
use Rattle.ob_base.specs.declared.id.ModelNo.{ModelNo}
use Rattle.ob_base.specs.declared.id.RecId.{RecId}
use Rattle.ob_domain.specs.Over.{IsOver}
use Rattle.ob_domain.specs.Trees.{Tree, tree_of_domain}
use Rattle.ob_schema.specs.Built.{numbered}
use Rattle.ob_schema.specs.Models.{HasModel, fields_of}
use Rattle.ob_schema.specs.declared.info.FieldInfo.{FieldInfo}
use Rattle.ob_schema.specs.declared.info.ModelInfo.{ModelInfo}
use Rattle.ob_access.specs.declared.ops.Ops.{Ops}
use Rattle.ob_access.specs.declared.policy.AccessLine.{AccessLine}
use Rattle.ob_access.specs.declared.policy.FieldAccess.{FieldAccess}
use Rattle.ob_access.specs.declared.policy.Group.{Group}
use Rattle.ob_access.specs.declared.policy.Rule.{Rule}

-- a rule: its full name, the model whose rows it is about, the groups to whose users it applies (no list of them: it is global), its operations, and the tree that its domain asks of a row
pub record RuleData : Type 0 where
  pub name : List ℕ
  pub model : ModelNo
  pub groups : Option (List RecId)
  pub ops : Ops
  pub asks : Tree

-- groups, access lines and rules in load order; and of each model's fields, by number, who may use them
pub record PolicyData : Type 0 where
  pub groups : List Group
  pub accesses : List AccessLine
  pub rules : List RuleData
  pub fields : List (List FieldAccess)

-- the group of an id: the k-th has the id k
abbrev pub group_at : List Group → RecId → Option Group
group_at groups id = numbered groups id.0

-- there is such a group
abbrev pub IsGroup : List Group → RecId → Type 0
IsGroup groups id = IsSome (group_at groups id)

-- the id of the group of this name
abbrev pub group_named : List Group → List ℕ → Option RecId
group_named groups name = option_map (λ i. record { 0 = suc i }) (position (λ group. bytes_eq group.name name) groups)

-- the groups that names name; no list of groups where there is no name, and a name of no group adds none
abbrev pub groups_named : List Group → List (List ℕ) → Option (List RecId)
groups_named groups [] = None
groups_named groups names = Some (filter_map (group_named groups) names)

-- who may use a field, by its definition
abbrev pub field_access : List Group → FieldInfo → FieldAccess
field_access groups info = record { groups = groups_named groups info.groups; secret = info.secret }

-- who may use each field of each model
abbrev pub field_accesses : List Group → List ModelInfo → List (List FieldAccess)
field_accesses groups models = map (λ info. map (field_access groups) (fields_of info)) models

-- what contracts see of a rule
abbrev pub rule_data : Rule → RuleData
rule_data rule = record { name = rule.name; model = rule.model; groups = rule.groups; ops = rule.ops; asks = tree_of_domain rule.domain }

-- the policy of these groups, lines and rules over a registry
abbrev pub policy_of : List ModelInfo → List Group → List AccessLine → List Rule → PolicyData
policy_of models groups accesses rules = record { groups = groups; accesses = accesses; rules = map rule_data rules; fields = field_accesses groups models }

-- no two groups have one name
abbrev pub AreNamedApart : List Group → Type 0
AreNamedApart groups = AllPairs (λ a b. a.name ≢ b.name) groups

-- a line of a model that there is, for every user or a group that there is
abbrev pub IsLineOver : List ModelInfo → List Group → AccessLine → Type 0
IsLineOver models groups line = HasModel models line.model × IfSome line.group (IsGroup groups)

-- a rule of a model that there is, which names groups that there are and asks fields that there are
abbrev pub IsRuleOver : List ModelInfo → List Group → RuleData → Type 0
IsRuleOver models groups rule = HasModel models rule.model × IfSome rule.groups (All (IsGroup groups)) × IsOver models rule.model rule.asks

-- a policy over a registry: groups of distinct names imply groups that there are; lines and rules are of its models and name its groups; the fields are those of its models
pub record IsPolicyOver (models : List ModelInfo) (policy : PolicyData) : Type 0 where
  pub names : AreNamedApart policy.groups
  pub implied : All (λ group. All (IsGroup policy.groups) group.implies) policy.groups
  pub lines : All (IsLineOver models policy.groups) policy.accesses
  pub rules : All (IsRuleOver models policy.groups) policy.rules
  pub fields : policy.fields ≡ field_accesses policy.groups models
