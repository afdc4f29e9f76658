-- Private: what the walks over rules find.
use Rattle.std.specs.Prelude.{if◌then◌else◌, Bool, List, Option, None, filter, find}
use Rattle.std.specs.List.{list_any}
use Rattle.ob_base.specs.declared.id.RecId.{RecId}
use Rattle.ob_access.specs.Admission.{applies_to}
use Rattle.ob_access.specs.Policies.{RuleData}

-- the first of the rules that applies to the caller, unless one of those that apply is met
abbrev pub first_unmet : (RuleData → Bool) → List RecId → List RuleData → Option RuleData
first_unmet is_met own rules = if list_any is_met (filter (applies_to own) rules) then None else find (applies_to own) rules
