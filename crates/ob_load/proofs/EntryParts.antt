-- The parts of an entry: that it fits where each does, what is made of them, and the first that doesn't fit.
use Rattle.std.proofs.Common.{◌≡◌, ℕ, List, [], ◌∷◌, Option, None, Some, Ok, refl, sym, ap, subst, ◌∙◌}
use Rattle.std.specs.Prelude.{true, false, Result, codes, is_some, option_and_then, option_map, unwrap_or}
use Rattle.std.specs.Option.{option_map_or}
use Rattle.std.specs.Result.{result_unwrap_or}
use Rattle.std.proofs.lemmas.Option.{same_Some}
use Rattle.toml.specs.Data.{Data}
use Rattle.ob_access.specs.Policies.{RuleData}
use Rattle.ob_access.specs.declared.ops.Ops.{Ops}
use Rattle.ob_access.specs.declared.policy.AccessLine.{AccessLine}
use Rattle.ob_access.specs.declared.policy.Group.{Group}
use Rattle.ob_base.specs.declared.id.ModelNo.{ModelNo}
use Rattle.ob_base.specs.declared.id.RecId.{RecId}
use Rattle.ob_base.specs.declared.place.PathStep.{PathStep}
use Rattle.ob_base.specs.declared.place.PathStep.TheVariants.{Key}
use Rattle.ob_definition.specs.Definitions.{first_of}
use Rattle.ob_domain.specs.Trees.{Tree, constant}
use Rattle.ob_domain.specs.declared.fault.DomainFault.{DomainFault}
use Rattle.ob_load.specs.Access.{asked_ops, domain_in, granted_ops, group_from, group_id, group_ids, is_group, line_from, model_in, name_of, rule_from}
use Rattle.ob_module.specs.Meaning.{text_at, texts_at, word_at}
use Rattle.ob_load.specs.AccessFaults.{domain_fault, form_fault, group_fits, group_is_there, groups_at, in_entry, line_fits, model_is_there, name_fits, name_is_free, rule_misfit, rule_names_fit}
use Rattle.ob_module.specs.Forms.{under, unless}
use Rattle.ob_load.specs.declared.fault.FaultyModule.{FaultyModule}
use Rattle.ob_load.proofs.AccessForms.{domain-none, entry-first, entry-none, entry-second, unless-false, unless-true}
use Rattle.ob_load.proofs.AccessSteps.{first-none, first-some}
use Rattle.ob_schema.specs.Models.{model_named}
use Rattle.ob_schema.specs.declared.info.ModelInfo.{ModelInfo}

-- ---- the group that an entry names

module _ (groups : List (List ℕ)) (d : Data) where
  abbrev pub of_text : Option (List ℕ) → Option (List PathStep)
  of_text text = option_map_or (λ name. under (Key (codes "group")) (unless (is_group groups name))) text None

  -- it names none
  pub group-none : text_at (codes "group") d ≡ None → group_is_there groups d ≡ None
  group-none none = ap of_text none

  -- it names one that there is
  pub group-some : (name : List ℕ) → text_at (codes "group") d ≡ Some name → is_group groups name ≡ true → group_is_there groups d ≡ None
  group-some name is there = ap of_text is ∙ unless-true (codes "group") (is_group groups name) there

  -- it names one that there isn't
  pub group-missing : (name : List ℕ) → text_at (codes "group") d ≡ Some name → is_group groups name ≡ false → group_is_there groups d ≡ Some (Key (codes "group") ∷ [])
  group-missing name is missing = ap of_text is ∙ unless-false (codes "group") (is_group groups name) missing

-- ---- its model

module _ (models : List ModelInfo) (d : Data) where
  pub model-there : (model : ModelNo) → model_named models (word_at (codes "model") d) ≡ Some model → model_is_there models d ≡ None
  model-there model named = unless-true (codes "model") (is_some (model_named models (word_at (codes "model") d))) (ap is_some named)

  pub model-missing : model_named models (word_at (codes "model") d) ≡ None → model_is_there models d ≡ Some (Key (codes "model") ∷ [])
  model-missing none = unless-false (codes "model") (is_some (model_named models (word_at (codes "model") d))) (ap is_some none)

  pub model-is : (model : ModelNo) → model_named models (word_at (codes "model") d) ≡ Some model → model ≡ model_in models d
  model-is model named = ap (λ (o : Option ModelNo). unwrap_or o (record { 0 = 0 })) (sym named)

-- ---- a group

module _ (groups : List (List ℕ)) where
  -- the groups that it implies: those of a list, or none
  pub listed-some : (list : Option (List (List ℕ))) (ids : List RecId) → Some ids ≡ option_map (group_ids groups) list → ids ≡ option_map_or (group_ids groups) list []
  listed-some None ids is = absurd (let e : ◌≡◌ {A = Option (List RecId)} (Some ids) None = is in cc)
  listed-some (Some names) ids is = same_Some ids (group_ids groups names) is

  pub listed-none : (list : Option (List (List ℕ))) → None ≡ option_map (group_ids groups) list → ◌≡◌ {A = List RecId} [] (option_map_or (group_ids groups) list [])
  listed-none None is = refl
  listed-none (Some names) is = absurd (let e : ◌≡◌ {A = Option (List RecId)} None (Some (group_ids groups names)) = is in cc)

  module _ (taken : List (List ℕ)) (owner : List ℕ) (d : Data) where
    pub group-fits : groups_at (codes "implies") groups d ≡ None → name_fits taken owner d ≡ None → group_fits groups taken owner d ≡ None
    group-fits implied fits = first-none (groups_at (codes "implies") groups d) (name_fits taken owner d) implied ∙ fits

  module _ (owner : List ℕ) (d : Data) where
    abbrev pub group_of : List ℕ → List RecId → Group
    group_of name implies = record { name = name; implies = implies }

    pub group-made : (name : List ℕ) (implies : List RecId) → name ≡ name_of owner d → implies ≡ option_map_or (group_ids groups) (texts_at (codes "implies") d) [] → group_of name implies ≡ group_from groups owner d
    group-made name implies named is = ap (λ (n : List ℕ). group_of n implies) named ∙ ap (λ (ids : List RecId). group_of (name_of owner d) ids) is

-- ---- an access line

module _ (models : List ModelInfo) (groups : List (List ℕ)) (d : Data) where
  pub line-fits : (model : ModelNo) → model_named models (word_at (codes "model") d) ≡ Some model → group_is_there groups d ≡ None → line_fits models groups d ≡ None
  line-fits model named there = first-none (model_is_there models d) (group_is_there groups d) (model-there models d model named) ∙ there

  abbrev pub line_of : ModelNo → Option RecId → Ops → AccessLine
  line_of model group ops = record { model = model; group = group; ops = ops }

  pub line-made : (model : ModelNo) (group : Option RecId) (ops : Ops) → model_named models (word_at (codes "model") d) ≡ Some model
      → group ≡ option_and_then (group_id groups) (text_at (codes "group") d) → ops ≡ granted_ops d → line_of model group ops ≡ line_from models groups d
  line-made model group ops named found granted =
      ap (λ (m : ModelNo). line_of m group ops) (model-is models d model named) ∙ ap (λ (g : Option RecId). line_of (model_in models d) g ops) found
      ∙ ap (λ (o : Ops). line_of (model_in models d) (option_and_then (group_id groups) (text_at (codes "group") d)) o) granted

-- ---- a rule

module _ (models : List ModelInfo) (groups : List (List ℕ)) (owner : List ℕ) (d : Data) where
  -- its domain is read over its model
  domain-here : (model : ModelNo) (read : Result Tree DomainFault) → model_named models (word_at (codes "model") d) ≡ Some model → domain_in models model (word_at (codes "domain") d) ≡ read
      → domain_in models (model_in models d) (word_at (codes "domain") d) ≡ read
  domain-here model read named is = ap (λ (m : ModelNo). domain_in models m (word_at (codes "domain") d)) (sym (model-is models d model named)) ∙ is

  abbrev pub rule_of : List ℕ → ModelNo → Option (List RecId) → Ops → Tree → RuleData
  rule_of name model listed ops asks = record { name = name; model = model; groups = listed; ops = ops; asks = asks }

  abbrev pub listed_groups : Option (List RecId)
  listed_groups = option_map (group_ids groups) (texts_at (codes "groups") d)

  pub rule-made : (name : List ℕ) (model : ModelNo) (listed : Option (List RecId)) (ops : Ops) (tree : Tree) → name ≡ name_of owner d → model_named models (word_at (codes "model") d) ≡ Some model
      → listed ≡ option_map (group_ids groups) (texts_at (codes "groups") d) → ops ≡ asked_ops d → domain_in models model (word_at (codes "domain") d) ≡ Ok tree
      → rule_of name model listed ops tree ≡ rule_from models groups owner d
  rule-made name model listed ops tree called named found asked is =
      ap (λ (n : List ℕ). rule_of n model listed ops tree) called ∙ ap (λ (m : ModelNo). rule_of (name_of owner d) m listed ops tree) (model-is models d model named)
      ∙ ap (λ (l : Option (List RecId)). rule_of (name_of owner d) (model_in models d) l ops tree) found ∙ ap (λ (o : Ops). rule_of (name_of owner d) (model_in models d) listed_groups o tree) asked
      ∙ ap (λ (read : Result Tree DomainFault). rule_of (name_of owner d) (model_in models d) listed_groups (asked_ops d) (result_unwrap_or read (constant true))) (sym (domain-here model (Ok tree) named is))

  module _ (taken : List (List ℕ)) (n : ℕ) where
    abbrev pub of_model : Option FaultyModule
    of_model = form_fault owner (in_entry (codes "rule") n (model_is_there models d))

    abbrev pub of_domain : Option FaultyModule
    of_domain = domain_fault owner n (domain_in models (model_in models d) (word_at (codes "domain") d))

    abbrev pub of_names : Option FaultyModule
    of_names = form_fault owner (in_entry (codes "rule") n (rule_names_fit groups taken owner d))

    -- its model stands against it
    pub rule-model : (table : List ℕ) (faulty : FaultyModule) → table ≡ codes "rule" → form_fault owner (in_entry table n (model_is_there models d)) ≡ Some faulty → rule_misfit models groups owner taken n d ≡ Some faulty
    rule-model table faulty called is =
        first-some of_model (first_of of_domain of_names) faulty (subst (λ (t : List ℕ). form_fault owner (in_entry t n (model_is_there models d)) ≡ Some faulty) called is)

    module _ (model : ModelNo) (named : model_named models (word_at (codes "model") d) ≡ Some model) where
      past-model : rule_misfit models groups owner taken n d ≡ first_of of_domain of_names
      past-model = first-none of_model (first_of of_domain of_names) (entry-none owner (codes "rule") n (model_is_there models d) (model-there models d model named))

      -- its domain does
      pub rule-domain : (faulty : FaultyModule) → domain_fault owner n (domain_in models model (word_at (codes "domain") d)) ≡ Some faulty → rule_misfit models groups owner taken n d ≡ Some faulty
      rule-domain faulty is =
          past-model ∙ first-some of_domain of_names faulty (ap (domain_fault owner n) (domain-here model (domain_in models model (word_at (codes "domain") d)) named refl) ∙ is)

      module _ (tree : Tree) (told : domain_in models model (word_at (codes "domain") d) ≡ Ok tree) where
        past-domain : rule_misfit models groups owner taken n d ≡ of_names
        past-domain = past-model ∙ first-none of_domain of_names (domain-none owner n (domain_in models (model_in models d) (word_at (codes "domain") d)) tree (domain-here model (Ok tree) named told))

        -- its groups do
        pub rule-groups : (table : List ℕ) (faulty : FaultyModule) → table ≡ codes "rule" → form_fault owner (in_entry table n (groups_at (codes "groups") groups d)) ≡ Some faulty
            → rule_misfit models groups owner taken n d ≡ Some faulty
        rule-groups table faulty called is =
            past-domain ∙ entry-first owner (codes "rule") n (groups_at (codes "groups") groups d) (name_is_free taken owner d) faulty
            (subst (λ (t : List ℕ). form_fault owner (in_entry t n (groups_at (codes "groups") groups d)) ≡ Some faulty) called is)

        module _ (listed : groups_at (codes "groups") groups d ≡ None) where
          -- its name does
          pub rule-name : (table : List ℕ) (faulty : FaultyModule) → table ≡ codes "rule" → form_fault owner (in_entry table n (name_is_free taken owner d)) ≡ Some faulty
              → rule_misfit models groups owner taken n d ≡ Some faulty
          rule-name table faulty called is =
              past-domain ∙ entry-second owner (codes "rule") n (groups_at (codes "groups") groups d) (name_is_free taken owner d) faulty listed
              (subst (λ (t : List ℕ). form_fault owner (in_entry t n (name_is_free taken owner d)) ≡ Some faulty) called is)

          -- nothing does
          pub rule-fits : name_is_free taken owner d ≡ None → rule_misfit models groups owner taken n d ≡ None
          rule-fits free =
              past-domain ∙ entry-none owner (codes "rule") n (rule_names_fit groups taken owner d) (first-none (groups_at (codes "groups") groups d) (name_is_free taken owner d) listed ∙ free)
