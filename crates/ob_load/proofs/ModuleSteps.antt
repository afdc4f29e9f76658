-- A module: what it declares of access, then its rows.
use Rattle.std.proofs.Common.{◌≡◌, ℕ, List, [], ◌++◌, length, map, Option, None, Some, sym, ap, subst, append_assoc, ◌∙◌}
use Rattle.std.specs.Prelude.{codes}
use Rattle.std.proofs.lemmas.List.{append-nil}
use Rattle.toml.specs.Data.{Members}
use Rattle.ob_access.specs.Policies.{RuleData}
use Rattle.ob_access.specs.declared.policy.AccessLine.{AccessLine}
use Rattle.ob_access.specs.declared.policy.Group.{Group}
use Rattle.ob_load.specs.Access.{entries_of, name_of, ref_name}
use Rattle.ob_load.specs.AccessFaults.{document_fault}
use Rattle.ob_load.specs.Preset.{Ref}
use Rattle.ob_load.specs.RowFaults.{rows_fault, whole_fault}
use Rattle.ob_load.specs.Rooms.{GrowsBy}
use Rattle.ob_load.specs.declared.access.Declared.{Declared}
use Rattle.ob_load.specs.declared.fault.FaultyModule.{FaultyModule}
use Rattle.ob_load.proofs.AccessSteps.{first-none, first-some}
use Rattle.ob_load.proofs.Declaring.{grows-names, grows-then}
use Rattle.ob_schema.specs.declared.info.ModelInfo.{ModelInfo}

module _ (models : List ModelInfo) (groups : List (List ℕ)) (first : ℕ) (owner : List ℕ) (refs : List Ref) (document : Members) (old : Declared) where
  -- the full names of its groups, rules and rows
  abbrev pub group_names : List (List ℕ)
  group_names = map (name_of owner) (entries_of (codes "group") document)

  abbrev pub rule_names : List (List ℕ)
  rule_names = map (name_of owner) (entries_of (codes "rule") document)

  abbrev pub row_names : List (List ℕ)
  row_names = map (ref_name owner) (entries_of (codes "row") document)

  abbrev pub of_access : Option FaultyModule
  of_access = document_fault models groups owner old.names document

  abbrev pub of_rows : List (List ℕ) → Option FaultyModule
  of_rows taken = rows_fault models groups first owner refs taken document

  abbrev pub of_whole : Option FaultyModule
  of_whole = whole_fault models groups first owner refs old.names document

  -- what stands against its access
  pub access-faulty : (faulty : FaultyModule) → of_access ≡ Some faulty → of_whole ≡ Some faulty
  access-faulty faulty is = first-some of_access (of_rows (old.names ++ group_names ++ rule_names)) faulty is

  -- where nothing does, what stands against its rows
  pub whole-rest : (taken : List (List ℕ)) → of_access ≡ None → taken ≡ old.names ++ (group_names ++ rule_names) → of_whole ≡ of_rows taken
  whole-rest taken none is = first-none of_access (of_rows (old.names ++ group_names ++ rule_names)) none ∙ ap of_rows (append_assoc old.names group_names rule_names ∙ sym is)

  -- what it adds
  pub module-grows : (middle new : Declared) (own : List Group) (lines : List AccessLine) (rules : List RuleData) → GrowsBy models (length groups) old middle (group_names ++ rule_names) own lines rules
      → new.names ≡ middle.names ++ row_names → new.groups ≡ middle.groups → new.lines ≡ middle.lines → new.rules ≡ middle.rules
      → GrowsBy models (length groups) old new (group_names ++ rule_names ++ row_names) own lines rules
  module-grows middle new own lines rules grown n g l r =
      subst (λ (x : List Group). GrowsBy models (length groups) old new (group_names ++ rule_names ++ row_names) x lines rules) (append-nil own)
      (subst (λ (x : List AccessLine). GrowsBy models (length groups) old new (group_names ++ rule_names ++ row_names) (own ++ []) x rules) (append-nil lines)
      (subst (λ (x : List RuleData). GrowsBy models (length groups) old new (group_names ++ rule_names ++ row_names) (own ++ []) (lines ++ []) x) (append-nil rules)
      (grows-then models (length groups) old middle new (group_names ++ rule_names) row_names own [] lines [] rules [] grown (grows-names models (length groups) middle new row_names n g l r))))
