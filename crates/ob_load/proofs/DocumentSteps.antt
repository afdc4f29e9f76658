-- A document table by table: what stands against it first, and what it adds.
use Rattle.std.proofs.Common.{◌≡◌, ℕ, List, [], ◌++◌, length, map, Option, None, Some, sym, ap, subst, ◌∙◌}
use Rattle.std.specs.Prelude.{codes}
use Rattle.std.proofs.lemmas.List.{append-nil}
use Rattle.toml.specs.Data.{Members}
use Rattle.ob_access.specs.Policies.{RuleData}
use Rattle.ob_access.specs.declared.policy.AccessLine.{AccessLine}
use Rattle.ob_access.specs.declared.policy.Group.{Group}
use Rattle.ob_definition.specs.Definitions.{first_of}
use Rattle.ob_load.specs.Access.{entries_of, group_from, line_from, name_of, rule_from}
use Rattle.ob_load.specs.AccessFaults.{document_fault, first_fault, form_fault, group_fault, line_fault, models_fit, rule_fault}
use Rattle.ob_load.specs.Rooms.{GrowsBy}
use Rattle.ob_load.specs.declared.access.Declared.{Declared}
use Rattle.ob_load.specs.declared.fault.FaultyModule.{FaultyModule}
use Rattle.ob_load.proofs.AccessSteps.{first-none, first-some}
use Rattle.ob_load.proofs.Declaring.{grows-then}
use Rattle.ob_schema.specs.declared.info.ModelInfo.{ModelInfo}

module _ (models : List ModelInfo) (groups : List (List ℕ)) (owner : List ℕ) (document : Members) (old : Declared) where
  -- what stands against the fields of its models, its groups, its access lines, and its rules where these names are taken
  abbrev pub of_fields : Option FaultyModule
  of_fields = form_fault owner (models_fit groups document)

  abbrev pub of_groups : Option FaultyModule
  of_groups = first_fault (group_fault groups owner old.names) [] (entries_of (codes "group") document)

  abbrev pub of_lines : Option FaultyModule
  of_lines = first_fault (line_fault models groups owner) [] (entries_of (codes "access") document)

  abbrev pub of_rules : List (List ℕ) → Option FaultyModule
  of_rules taken = first_fault (rule_fault models groups owner taken) [] (entries_of (codes "rule") document)

  -- the names, groups, lines and rules that it declares
  abbrev pub group_names : List (List ℕ)
  group_names = map (name_of owner) (entries_of (codes "group") document)

  abbrev pub rule_names : List (List ℕ)
  rule_names = map (name_of owner) (entries_of (codes "rule") document)

  abbrev pub own_groups : List Group
  own_groups = map (group_from groups owner) (entries_of (codes "group") document)

  abbrev pub own_lines : List AccessLine
  own_lines = map (line_from models groups) (entries_of (codes "access") document)

  abbrev pub own_rules : List RuleData
  own_rules = map (rule_from models groups owner) (entries_of (codes "rule") document)

  abbrev pub of_all : Option FaultyModule
  of_all = document_fault models groups owner old.names document

  abbrev pub behind_groups : Option FaultyModule
  behind_groups = first_of of_lines (of_rules (old.names ++ group_names))

  -- the fields of its models
  pub fields-faulty : (faulty : FaultyModule) → of_fields ≡ Some faulty → of_all ≡ Some faulty
  fields-faulty faulty is = first-some of_fields (first_of of_groups behind_groups) faulty is

  module _ (fields : models_fit groups document ≡ None) where
    past-fields : of_all ≡ first_of of_groups behind_groups
    past-fields = first-none of_fields (first_of of_groups behind_groups) (ap (form_fault owner) fields)

    -- its groups
    pub groups-faulty : (faulty : FaultyModule) → of_groups ≡ Some faulty → of_all ≡ Some faulty
    groups-faulty faulty is = past-fields ∙ first-some of_groups behind_groups faulty is

    module _ (own : of_groups ≡ None) where
      past-groups : of_all ≡ behind_groups
      past-groups = past-fields ∙ first-none of_groups behind_groups own

      -- its access lines
      pub lines-faulty : (faulty : FaultyModule) → of_lines ≡ Some faulty → of_all ≡ Some faulty
      lines-faulty faulty is = past-groups ∙ first-some of_lines (of_rules (old.names ++ group_names)) faulty is

      module _ (first second : Declared) (grown : GrowsBy models (length groups) old first group_names own_groups [] []) (lines : of_lines ≡ None)
          (lined : GrowsBy models (length groups) first second [] [] own_lines []) where
        names-then : second.names ≡ old.names ++ group_names
        names-then = lined.names_grow ∙ append-nil first.names ∙ grown.names_grow

        -- its rules
        pub document-rest : of_all ≡ of_rules second.names
        document-rest = past-groups ∙ first-none of_lines (of_rules (old.names ++ group_names)) lines ∙ ap of_rules (sym names-then)

        -- what it adds
        pub document-grows : (new : Declared) → GrowsBy models (length groups) second new rule_names [] [] own_rules → GrowsBy models (length groups) old new (group_names ++ rule_names) own_groups own_lines own_rules
        document-grows new ruled =
            subst (λ (g : List Group). GrowsBy models (length groups) old new (group_names ++ rule_names) g own_lines own_rules) (append-nil own_groups)
            (subst (λ (l : List AccessLine). GrowsBy models (length groups) old new (group_names ++ rule_names) (own_groups ++ []) l own_rules) (append-nil own_lines)
            (grows-then models (length groups) old first new group_names rule_names own_groups [] [] (own_lines ++ []) [] own_rules grown
            (grows-then models (length groups) first second new [] rule_names [] [] own_lines [] [] own_rules lined ruled)))
