-- What modules declare of access: groups with their ids, access lines, and rules with their domains read. Of modules in which something doesn't fit this says nothing that counts.
use Rattle.std.specs.Prelude.{ℕ, suc, List, [], ◌∷◌, ◌++◌, codes, map, filter, flat_map, position, is_some, Bool, true, Option, option_map, option_and_then, unwrap_or, Result, Err}
use Rattle.std.specs.List.{enumerate_from, list_any}
use Rattle.std.specs.Option.{option_map_or}
use Rattle.std.specs.Result.{result_unwrap_or}
use Rattle.std.specs.Str.{bytes_eq}
use Rattle.serde_json.specs.Read.{read}
use Rattle.toml.specs.Data.{Data, Members, table}
use Rattle.ob_access.specs.Policies.{PolicyData, RuleData, field_accesses}
use Rattle.ob_access.specs.declared.ops.Ops.{Ops}
use Rattle.ob_access.specs.declared.policy.AccessLine.{AccessLine}
use Rattle.ob_access.specs.declared.policy.Group.{Group}
use Rattle.ob_base.specs.declared.id.ModelNo.{ModelNo}
use Rattle.ob_base.specs.declared.id.RecId.{RecId}
use Rattle.ob_domain.specs.Reading.{domain_from}
use Rattle.ob_domain.specs.Trees.{Tree, constant}
use Rattle.ob_domain.specs.declared.fault.DomainFault.{DomainFault}
use Rattle.ob_domain.specs.declared.fault.DomainFault.TheVariants as domain
use Rattle.ob_module.specs.Meaning.{is_set, items_at, text_at, texts_at, word_at}
use Rattle.ob_module.specs.Modules.{Module}
use Rattle.ob_schema.specs.Models.{model_named}
use Rattle.ob_schema.specs.declared.info.ModelInfo.{ModelInfo}

-- the entries of a table of a document
abbrev pub entries_of : List ℕ → Members → List Data
entries_of key document = items_at key (table document)

-- the full name of what a module declares
abbrev pub full_name : List ℕ → List ℕ → List ℕ
full_name owner name = owner ++ codes "." ++ name

-- the full name of an entry, and those of the entries of a table
abbrev pub name_of : List ℕ → Data → List ℕ
name_of owner d = full_name owner (word_at (codes "name") d)

abbrev pub full_names : List ℕ → Module → List (List ℕ)
full_names key m = map (name_of m.name) (entries_of key m.document)

-- the full name of a row, and those of the rows of a module
abbrev pub ref_name : List ℕ → Data → List ℕ
ref_name owner d = full_name owner (word_at (codes "ref") d)

abbrev pub ref_names : Module → List (List ℕ)
ref_names m = map (ref_name m.name) (entries_of (codes "row") m.document)

-- the full names of the groups of modules, one module after another
abbrev pub group_names : List Module → List (List ℕ)
group_names modules = flat_map (full_names (codes "group")) modules

-- the full names of their groups, rules and rows
abbrev pub declared_names : List Module → List (List ℕ)
declared_names modules = flat_map (λ m. full_names (codes "group") m ++ full_names (codes "rule") m ++ ref_names m) modules

-- one of these names
abbrev pub is_among : List (List ℕ) → List ℕ → Bool
is_among names name = list_any (λ own. bytes_eq own name) names

-- the id of the group of a name: its number among the groups of these names, from 1
abbrev pub group_id : List (List ℕ) → List ℕ → Option RecId
group_id groups name = option_map (λ i. record { 0 = suc i }) (position (λ own. bytes_eq own name) groups)

-- there is a group of the name
abbrev pub is_group : List (List ℕ) → List ℕ → Bool
is_group groups name = is_some (group_id groups name)

-- the ids of the groups of some names, rising
abbrev pub group_ids : List (List ℕ) → List (List ℕ) → List RecId
group_ids groups names = map (λ p. record { 0 = p.0 }) (filter (λ p. is_among names p.1) (enumerate_from 1 groups))

-- the operations that an access line grants: those whose flags are set
abbrev pub granted_ops : Data → Ops
granted_ops d = record { read = is_set (codes "read") d; create = is_set (codes "create") d; write = is_set (codes "write") d; unlink = is_set (codes "unlink") d }

-- the operations of these names
abbrev pub ops_named : List (List ℕ) → Ops
ops_named names = record { read = is_among names (codes "read"); create = is_among names (codes "create"); write = is_among names (codes "write"); unlink = is_among names (codes "unlink") }

-- all four operations
abbrev pub all_ops : Ops
all_ops = record { read = true; create = true; write = true; unlink = true }

-- the operations for which a rule is asked: all where it has no list of them
abbrev pub asked_ops : Data → Ops
asked_ops d = option_map_or ops_named (texts_at (codes "ops") d) all_ops

-- a group, where these are the names of the groups that it may name
abbrev pub group_from : List (List ℕ) → List ℕ → Data → Group
group_from groups owner d = record { name = name_of owner d; implies = option_map_or (group_ids groups) (texts_at (codes "implies") d) [] }

-- the groups that a module declares, behind the modules before it: it names groups of its own and of theirs
abbrev pub groups_in : List Module → Module → List Group
groups_in before m = map (group_from (group_names (before ++ m ∷ [])) m.name) (entries_of (codes "group") m.document)

module _ (models : List ModelInfo) where
  -- the model that an entry names
  abbrev pub model_in : Data → ModelNo
  model_in d = unwrap_or (model_named models (word_at (codes "model") d)) (record { 0 = 0 })

  -- the tree that a text asks of a row of a model, or why it is no domain: a text that is no JSON has the wrong shape
  abbrev pub domain_in : ModelNo → List ℕ → Result Tree DomainFault
  domain_in model text = option_map_or (domain_from models model) (read text) (Err (domain.Shape []))

  -- an access line; without a group for every user
  abbrev pub line_from : List (List ℕ) → Data → AccessLine
  line_from groups d = record { model = model_in d; group = option_and_then (group_id groups) (text_at (codes "group") d); ops = granted_ops d }

  -- a rule; without a list of groups global
  abbrev pub rule_from : List (List ℕ) → List ℕ → Data → RuleData
  rule_from groups owner d = record {
    name = name_of owner d;
    model = model_in d;
    groups = option_map (group_ids groups) (texts_at (codes "groups") d);
    ops = asked_ops d;
    asks = result_unwrap_or (domain_in (model_in d) (word_at (codes "domain") d)) (constant true);
  }

  -- the access lines and the rules that it declares
  abbrev pub lines_in : List Module → Module → List AccessLine
  lines_in before m = map (line_from (group_names (before ++ m ∷ []))) (entries_of (codes "access") m.document)

  abbrev pub rules_in : List Module → Module → List RuleData
  rules_in before m = map (rule_from (group_names (before ++ m ∷ [])) m.name) (entries_of (codes "rule") m.document)

-- what modules, or entries of a table, declare, each behind those before it
abbrev pub each_behind : {X Y : Type 0} → (List Y → Y → List X) → List Y → List Y → List X
each_behind declared before [] = []
each_behind declared before (y ∷ more) = declared before y ++ each_behind declared (before ++ y ∷ []) more

-- the policy that modules declare over a registry, in load order
abbrev pub declared_policy : List ModelInfo → List Module → PolicyData
declared_policy models modules = record {
  groups = each_behind groups_in [] modules;
  accesses = each_behind (lines_in models) [] modules;
  rules = each_behind (rules_in models) [] modules;
  fields = field_accesses (each_behind groups_in [] modules) models;
}
