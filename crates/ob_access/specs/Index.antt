-- Private: lines and rules by model and operation.
use Rattle.std.specs.Prelude.{◌≡◌, ◌<◌, ◌&&◌, ◌==◌, ℕ, List, [], ◌∷◌, Bool, Option, All, filter, if◌then◌else◌, length, map, option_map, slice_get}
use Rattle.std.specs.List.{filter_map}
use Rattle.std.specs.Option.{option_map_or}
use Rattle.std.specs.Ordering.{nat_cmp}
use Rattle.std.specs.BTreeMap as tree
use Rattle.ob_base.specs.declared.id.ModelNo.{ModelNo}
use Rattle.ob_base.specs.declared.id.RecId.{RecId}
use Rattle.ob_base.specs.declared.refusal.Op.{Op}
use Rattle.ob_base.specs.declared.refusal.Op.TheVariants as op
use Rattle.ob_access.specs.Ops.{has_op}
use Rattle.ob_access.specs.Policies.{IsGroup, RuleData, rule_data}
use Rattle.ob_access.specs.declared.index.Lists.{Lists}
use Rattle.ob_access.specs.declared.ops.Ops.{Ops}
use Rattle.ob_access.specs.declared.policy.AccessLine.{AccessLine}
use Rattle.ob_access.specs.declared.policy.Group.{Group}
use Rattle.ob_access.specs.declared.policy.Rule.{Rule}

-- the list for an operation
abbrev pub list_of : {T : Type 0} → Lists T → Op → List T
list_of lists op.Read = lists.read.items
list_of lists op.Create = lists.create.items
list_of lists op.Write = lists.write.items
list_of lists op.Unlink = lists.unlink.items

-- the list for an operation on a model; the empty one where nothing was added for the model
abbrev pub list_at : {T : Type 0} → tree.BTreeMap ℕ (Lists T) → ModelNo → Op → List T
list_at index model op = option_map_or (λ lists. list_of lists op) (tree.get nat_cmp index model.0) []

-- an item, if it belongs there
abbrev pub list_if : {T : Type 0} → Bool → T → List T
list_if b item = if b then item ∷ [] else []

-- a line or rule of a model and some operations is for what is asked: an operation on a model
abbrev pub asks_for : ModelNo → Op → ModelNo → Ops → Bool
asks_for asked op model ops = (model.0 == asked.0) && has_op ops op

-- the rules at these places
abbrev pub rules_at : List Rule → List ℕ → List RuleData
rules_at rules places = filter_map (λ place. option_map rule_data (slice_get rules place)) places

-- each list has the groups of the lines for what is asked, in load order
abbrev pub IsLineIndex : List AccessLine → tree.BTreeMap ℕ (Lists (Option RecId)) → Type 0
IsLineIndex lines index = (model : ModelNo) (op : Op) → list_at index model op ≡ map (λ line. line.group) (filter (λ line. asks_for model op line.model line.ops) lines)

-- places of rules
abbrev pub ArePlaces : List Rule → List ℕ → Type 0
ArePlaces rules places = All (λ place. place < length rules) places

-- each list has the places of the rules for what is asked, in load order
abbrev pub IsRuleIndex : List Rule → tree.BTreeMap ℕ (Lists ℕ) → Type 0
IsRuleIndex rules index = (model : ModelNo) (op : Op) → (rules_at rules (list_at index model op) ≡ filter (λ rule. asks_for model op rule.model rule.ops) (map rule_data rules)) × ArePlaces rules (list_at index model op)

-- what holds of a policy's parts: groups imply groups that there are, and lines and rules are indexed
pub record IsIndexed (all_groups : List Group) (all_lines : List AccessLine) (all_rules : List Rule) (by_line : tree.BTreeMap ℕ (Lists (Option RecId))) (by_rule : tree.BTreeMap ℕ (Lists ℕ)) : Type 0 where
  pub implied : All (λ group. All (IsGroup all_groups) group.implies) all_groups
  pub lines : IsLineIndex all_lines by_line
  pub rules : IsRuleIndex all_rules by_rule
