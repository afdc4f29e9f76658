-- Which rows rules admit, and which rule denies a row.
use Rattle.std.specs.Prelude.{◌&&◌, ◌||◌, ◌==◌, if◌then◌else◌, Bool, true, false, not, List, [], Option, None, ℕ, filter, find, is_none, option_map}
use Rattle.std.specs.List.{list_all, list_any}
use Rattle.std.specs.Option.{option_map_or, option_or}
use Rattle.ob_base.specs.declared.id.ModelNo.{ModelNo}
use Rattle.ob_base.specs.declared.id.RecId.{RecId}
use Rattle.ob_base.specs.declared.refusal.Op.{Op}
use Rattle.ob_domain.specs.Holding.{holds}
use Rattle.ob_expr.specs.declared.row.Row.{Row}
use Rattle.ob_schema.specs.Facts.{Told}
use Rattle.ob_access.specs.Groups.{has_some, is_superuser}
use Rattle.ob_access.specs.Ops.{has_op}
use Rattle.ob_access.specs.Policies.{PolicyData, RuleData}

-- the rules of a model for an operation, in load order
abbrev pub rules_for : PolicyData → ModelNo → Op → List RuleData
rules_for policy model op = filter (λ rule. (rule.model.0 == model.0) && has_op rule.ops op) policy.rules

-- a rule with no list of groups is global
abbrev pub is_global : RuleData → Bool
is_global rule = is_none rule.groups

-- a group rule applies to a caller who has one of its groups
abbrev pub applies_to : List RecId → RuleData → Bool
applies_to own rule = option_map_or (has_some own) rule.groups false

-- one of the rules is met, if there are any
abbrev pub some_met : (RuleData → Bool) → List RuleData → Bool
some_met is_met [] = true
some_met is_met rules = list_any is_met rules

-- the row meets the rule's domain, when the user calls
abbrev pub is_met : Told → RecId → Row → RuleData → Bool
is_met told user row rule = holds told user rule.asks row

-- each of the rules that is global is met, and so is some of those that apply to the caller, if any do
abbrev pub pass : (RuleData → Bool) → List RecId → List RuleData → Bool
pass is_met own rules = list_all is_met (filter is_global rules) && some_met is_met (filter (applies_to own) rules)

-- the first of the rules that is global and isn't met, else the first that applies to the caller
abbrev pub first_denying : (RuleData → Bool) → List RecId → List RuleData → Option RuleData
first_denying is_met own rules = option_or (find (λ rule. is_global rule && not (is_met rule)) rules) (find (applies_to own) rules)

-- the row is admitted to an operation of the caller: he is user 1, or it passes the model's rules for the operation
abbrev pub admits : PolicyData → Told → List RecId → RecId → Op → Row → Bool
admits policy told own user op row = is_superuser user || pass (is_met told user row) own (rules_for policy row.model op)

-- the rule that denies the row to the caller, where it isn't admitted
abbrev pub denying : PolicyData → Told → List RecId → RecId → Op → Row → Option RuleData
denying policy told own user op row = if admits policy told own user op row then None else first_denying (is_met told user row) own (rules_for policy row.model op)

-- the full name of the rule that denies the row
abbrev pub denier : PolicyData → Told → List RecId → RecId → Op → Row → Option (List ℕ)
denier policy told own user op row = option_map (λ rule. rule.name) (denying policy told own user op row)
