-- The first name or value of the access of a module that doesn't fit: by tables, then by entries; in an entry the model first and then the other keys in byte order.
use Rattle.std.specs.Prelude.{ℕ, List, [], ◌∷◌, ◌++◌, codes, length, map, nat_le, not, is_some, Option, Some, None, option_map, Result, Ok, Err}
use Rattle.std.specs.Option.{option_map_or}
use Rattle.toml.specs.Data.{Data, Members, table}
use Rattle.ob_base.specs.Limits.{max_char_bytes}
use Rattle.ob_base.specs.declared.place.PathStep.{PathStep}
use Rattle.ob_base.specs.declared.place.PathStep.TheVariants.{Key, Item}
use Rattle.ob_definition.specs.Definitions.{first_of}
use Rattle.ob_domain.specs.Trees.{Tree}
use Rattle.ob_domain.specs.declared.fault.DomainFault.{DomainFault}
use Rattle.ob_load.specs.Access.{domain_in, entries_of, is_among, is_group, model_in, name_of}
use Rattle.ob_module.specs.Meaning.{text_at, word_at}
use Rattle.ob_module.specs.Forms.{Form, any_key, at_key, list_of, table_where, text_where, under, unless}
use Rattle.ob_load.specs.declared.fault.FaultyModule.{FaultyModule}
use Rattle.ob_load.specs.declared.fault.ModuleFault.TheVariants as fault
use Rattle.ob_schema.specs.Models.{model_named}
use Rattle.ob_schema.specs.declared.info.ModelInfo.{ModelInfo}

-- what stands at a key is a list of names of groups that there are
abbrev pub groups_at : List ℕ → List (List ℕ) → Form
groups_at key groups = at_key key (list_of (text_where (is_group groups)))

-- the fields of a model name groups that there are
abbrev pub fields_fit : List (List ℕ) → Form
fields_fit groups = at_key (codes "field") (table_where any_key (groups_at (codes "groups") groups))

-- and so do those of all models of a document
abbrev pub models_fit : List (List ℕ) → Members → Option (List PathStep)
models_fit groups document = at_key (codes "model") (list_of (fields_fit groups)) (table document)

-- no other has the full name of an entry
abbrev pub name_is_free : List (List ℕ) → List ℕ → Form
name_is_free taken owner d = under (Key (codes "name")) (unless (not (is_among taken (name_of owner d))))

-- the full name of a group is no longer than a char may be
abbrev pub name_is_short : List ℕ → Form
name_is_short owner d = under (Key (codes "name")) (unless (nat_le (length (name_of owner d)) max_char_bytes))

-- there is the model of an entry
abbrev pub model_is_there : List ModelInfo → Form
model_is_there models d = under (Key (codes "model")) (unless (is_some (model_named models (word_at (codes "model") d))))

-- there is the group of an entry, if it names one
abbrev pub group_is_there : List (List ℕ) → Form
group_is_there groups d = option_map_or (λ name. under (Key (codes "group")) (unless (is_group groups name))) (text_at (codes "group") d) None

-- the full name of a group is one that its row may have, and is free
abbrev pub name_fits : List (List ℕ) → List ℕ → Form
name_fits taken owner d = first_of (name_is_short owner d) (name_is_free taken owner d)

-- a group implies groups that there are, and its name fits
abbrev pub group_fits : List (List ℕ) → List (List ℕ) → List ℕ → Form
group_fits groups taken owner d = first_of (groups_at (codes "implies") groups d) (name_fits taken owner d)

-- there are the model and the group of an access line
abbrev pub line_fits : List ModelInfo → List (List ℕ) → Form
line_fits models groups d = first_of (model_is_there models d) (group_is_there groups d)

-- there are the groups of a rule, and its name is free
abbrev pub rule_names_fit : List (List ℕ) → List (List ℕ) → List ℕ → Form
rule_names_fit groups taken owner d = first_of (groups_at (codes "groups") groups d) (name_is_free taken owner d)

-- where an entry of a table is wrong, as it is told of its module
abbrev pub in_entry : List ℕ → ℕ → Option (List PathStep) → Option (List PathStep)
in_entry key n wrong = under (Key key) (under (Item n) wrong)

-- what is wrong in a module, as its fault
abbrev pub form_fault : List ℕ → Option (List PathStep) → Option FaultyModule
form_fault owner wrong = option_map (λ path. record { name = owner; place = path; fault = fault.Form }) wrong

-- why the domain of the rule of a number is none, as the fault of its module
abbrev pub domain_fault : List ℕ → ℕ → Result Tree DomainFault → Option FaultyModule
domain_fault owner n (Err why) = Some (record { name = owner; place = Key (codes "rule") ∷ Item n ∷ []; fault = fault.Domain why })
domain_fault owner n (Ok tree) = None

-- the first fault of things in their order, each behind those before it
abbrev pub first_fault : {X : Type 0} → (List X → X → Option FaultyModule) → List X → List X → Option FaultyModule
first_fault wrong before [] = None
first_fault wrong before (x ∷ more) = first_of (wrong before x) (first_fault wrong (before ++ x ∷ []) more)

-- what doesn't fit in a group behind the entries before it, in a module of this name that may name these groups, where these full names are taken
abbrev pub group_fault : List (List ℕ) → List ℕ → List (List ℕ) → List Data → Data → Option FaultyModule
group_fault groups owner taken before d = form_fault owner (in_entry (codes "group") (length before) (group_fits groups (taken ++ map (name_of owner) before) owner d))

-- over a registry, in a module of this name that may name these groups
module _ (models : List ModelInfo) (groups : List (List ℕ)) (owner : List ℕ) where
  -- what doesn't fit in an access line
  abbrev pub line_fault : List Data → Data → Option FaultyModule
  line_fault before d = form_fault owner (in_entry (codes "access") (length before) (line_fits models groups d))

  -- what doesn't fit in the rule of a number: its model, else its domain, else its groups or its name
  abbrev pub rule_misfit : List (List ℕ) → ℕ → Data → Option FaultyModule
  rule_misfit taken n d =
      first_of (form_fault owner (in_entry (codes "rule") n (model_is_there models d)))
      (first_of (domain_fault owner n (domain_in models (model_in models d) (word_at (codes "domain") d)))
      (form_fault owner (in_entry (codes "rule") n (rule_names_fit groups taken owner d))))

  -- what doesn't fit in a rule behind the entries before it
  abbrev pub rule_fault : List (List ℕ) → List Data → Data → Option FaultyModule
  rule_fault taken before d = rule_misfit (taken ++ map (name_of owner) before) (length before) d

  -- what doesn't fit in its document: in the fields of its models, its groups, its access lines, its rules
  abbrev pub document_fault : List (List ℕ) → Members → Option FaultyModule
  document_fault taken document =
      first_of (form_fault owner (models_fit groups document))
      (first_of (first_fault (group_fault groups owner taken) [] (entries_of (codes "group") document))
      (first_of (first_fault line_fault [] (entries_of (codes "access") document))
      (first_fault (rule_fault (taken ++ map (name_of owner) (entries_of (codes "group") document))) [] (entries_of (codes "rule") document))))
