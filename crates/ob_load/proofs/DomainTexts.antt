-- The domain of a rule, from its text: as the JSON is read, where the text is some.
use Rattle.std.proofs.Common.{◌≡◌, ◌≢◌, ◌≤◌, List, ℕ, [], Option, None, Some, Result, Ok, Err, sym, ap, ◌∙◌}
use Rattle.std.specs.Prelude.{IfErr, IfOk}
use Rattle.std.specs.Option.{option_map_or}
use Rattle.serde_json.specs.Data.{Data}
use Rattle.serde_json.specs.Read.{read}
use Rattle.ob_base.specs.Limits.{max_domain_terms}
use Rattle.ob_base.specs.declared.id.ModelNo.{ModelNo}
use Rattle.ob_base.specs.declared.place.PathStep.{PathStep}
use Rattle.ob_domain.specs.Reading.{domain_from}
use Rattle.ob_domain.specs.Stands.{Stands, terms_in}
use Rattle.ob_domain.specs.Trees.{Tree, tree_of_domain}
use Rattle.ob_domain.specs.declared.domain.Domain.{Domain}
use Rattle.ob_domain.specs.declared.fault.DomainFault.{DomainFault}
use Rattle.ob_domain.specs.declared.fault.DomainFault.TheVariants as domain
use Rattle.ob_load.specs.Access.{domain_in}
use Rattle.ob_schema.specs.declared.info.ModelInfo.{ModelInfo}

module _ (models : List ModelInfo) (model : ModelNo) (text : List ℕ) where
  abbrev pub of_json : Option Data → Result Tree DomainFault
  of_json json = option_map_or (domain_from models model) json (Err (domain.Shape []))

  -- a text that is no JSON
  pub domain-unread : (place : List PathStep) → read text ≡ None → place ≡ [] → domain_in models model text ≡ Err (domain.Shape place)
  domain-unread place none whole = ap of_json none ∙ ap (λ (p : List PathStep). let bad : Result Tree DomainFault = Err (domain.Shape p) in bad) (sym whole)

  module _ (d : Data) (is : read text ≡ Some d) where
    -- what stands for a tree is read as it
    pub domain-read : (r : Result Domain DomainFault) → IfOk r (λ found. Stands models model d (tree_of_domain found)) → IfOk r (λ _. terms_in d ≤ max_domain_terms)
        → ((tree : Tree) → Stands models model d tree → terms_in d ≤ max_domain_terms → domain_from models model d ≡ Ok tree) → IfOk r (λ found. domain_in models model text ≡ Ok (tree_of_domain found))
    domain-read (Ok found) stands few taken = ap of_json is ∙ taken (tree_of_domain found) stands few
    domain-read (Err why) stands few taken = tt

    -- what is refused is refused for its first fault
    pub domain-unfit : (r : Result Domain DomainFault) → IfErr r (λ why. why ≢ domain.NoMemory → domain_from models model d ≡ Err why) → IfErr r (λ why. why ≢ domain.NoMemory → domain_in models model text ≡ Err why)
    domain-unfit (Ok found) faults = tt
    domain-unfit (Err why) faults = λ other. ap of_json is ∙ faults other
