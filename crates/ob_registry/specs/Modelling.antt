-- Private: models as the program has them, with all their fields.
use Rattle.std.specs.List.{AllZip}
use Rattle.std.specs.BTreeSet.{BTreeSet, contains_text}
use Rattle.std.specs.Prelude.{IsPermutation}
use Rattle.std.specs.Prelude.{◌≡◌, ◌≤◌, ℕ, List, length, map, filter, not, is_none, is_some, Option, option_and_then, option_map, Vec}
use Rattle.std.specs.declared.alloc.Global.{Global}
use Rattle.std.specs.declared.string.String.{String}
use Rattle.ob_base.specs.declared.id.FieldNo.{FieldNo}
use Rattle.ob_definition.specs.declared.definition.FieldDef.{FieldDef}
use Rattle.ob_definition.specs.declared.definition.Inherits.{Inherits}
use Rattle.ob_schema.specs.declared.info.Delegation.{Delegation}
use Rattle.ob_registry.specs.declared.model.Member.{Member as KeptMember}
use Rattle.ob_registry.specs.declared.model.Model.{Model}
use Rattle.ob_definition.specs.Definitions.{is_automatic}
use Rattle.ob_schema.specs.Finds.{relation_of}
use Rattle.ob_definition.specs.Gathered.{Gathered, model_of}
use Rattle.ob_definition.specs.Making.{AreHidden, AreLinks}
use Rattle.ob_definition.specs.Members.{Member, delegated_member, links_of, members_of, model_at, model_number, named, number_named}
use Rattle.ob_registry.specs.ModelFields.{hidden_in, max_numbers, members_in, named_in}

-- a model with its links, and its fields by number
pub record IsModelled (models : List Gathered) (g : Gathered) (model : Model) : Type 0 where
  pub gathered : model.gathered.now ≡ g
  pub links : AreLinks (links_of models g) model.links.now
  pub named : IsPermutation (members_of models g) (named_in model.named model.members.items)
  pub hidden : AreHidden g (hidden_in model.named model.members.items)

-- where the field of a name stands that is delegated through a link, if both are there
abbrev pub delegation_of : List Gathered → Gathered → Inherits → List ℕ → Option Delegation
delegation_of models g i name =
    option_and_then (λ p. option_and_then (λ target. option_and_then (λ link. option_map (λ field. record { link = link; model = target; field = field }) (number_named models p name))
    (number_named models g i.link)) (model_number models i.model)) (model_of models i.model)

-- the names of fields, and no other
abbrev pub AreMemberNames : BTreeSet (String Global) → List Member → Type 0
AreMemberNames names members = (name : List ℕ) → contains_text names name ≡ is_some (named members name)

-- the fields of a parent, as they are delegated through a link: those that aren't automatic and whose name none of these has
abbrev pub delegated_beside : ℕ → Inherits → List Member → List Member → List Member
delegated_beside n i parent beside = filter (λ m. is_none (named beside m.def.name)) (map (delegated_member n i) (filter (λ m. not (is_automatic m.def.name)) parent))

-- the number of the field back that a key names in the relation's model, if it is there
abbrev pub named_back : List Gathered → FieldDef → Option (List ℕ) → Option FieldNo
named_back models f key =
    option_and_then (λ name. option_and_then (λ target. option_and_then (λ g. number_named models g name) (model_at models target.0)) (relation_of models f)) key

-- the fields of models that aren't delegated
abbrev pub own_in : List (Vec KeptMember Global) → List (List Member)
own_in own = map (λ members. members_in members.items) own

-- each of the models
pub record AreModelled (models : List Gathered) (list : List Model) : Type 0 where
  pub few : length models ≤ max_numbers
  pub each : AllZip (IsModelled models) models list
