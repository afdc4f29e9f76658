-- Private: the fields that the program makes of a model's keys, and the faults that it tells of these.
use Rattle.std.specs.Prelude.{IsPermutation}
use Rattle.std.specs.Prelude.{◌≡◌, ◌⊎◌, ◌++◌, ℕ, List, [], ◌∷◌, map, Any, true, false, is_some, if◌then◌else◌, Option, Some, None}
use Rattle.ob_definition.specs.declared.definition.FieldDef.{FieldDef}
use Rattle.ob_definition.specs.declared.definition.Inherits.{Inherits}
use Rattle.ob_definition.specs.declared.fault.SchemaFault.{SchemaFault}
use Rattle.ob_definition.specs.declared.fault.SchemaFault.TheVariants as fault
use Rattle.ob_definition.specs.declared.made.Condition.{Condition}
use Rattle.ob_definition.specs.declared.made.Made.{Made}
use Rattle.ob_definition.specs.declared.made.ParentLink.{ParentLink}
use Rattle.ob_definition.specs.declared.wrong.Wrong.{Wrong}
use Rattle.ob_definition.specs.declared.wrong.Wrong.TheVariants as wrong
use Rattle.ob_definition.specs.EntryFaults.{IsLinkTaken}
use Rattle.ob_definition.specs.Gathered.{Declared, Gathered, is_declared, model_of}
use Rattle.ob_definition.specs.Members.{Member, check_members, given_members, hidden_member, link_def, links_of, locked_members, may_inherit, names_of, path_def, path_name, with_link, AreInNameOrder}
use Rattle.ob_definition.specs.Rooms.{spot_at}

-- the path of a tree, where the model is one and declares no such field
abbrev pub path_for : Gathered → Option (List ℕ) → Option FieldDef
path_for g None = None
path_for g (Some parent) = if is_declared g.fields path_name then None else Some (path_def parent)

abbrev pub path_made : Gathered → Option FieldDef
path_made g = path_for g g.parent

-- links with their fields
pub record AreLinks (links : List Inherits) (made : List ParentLink) : Type 0 where
  pub parents : map (λ l. l.parent.now) made ≡ links
  pub fields : map (λ l. l.field) made ≡ map link_def links

-- conditions as members
abbrev pub conditions_of : List Condition → List Member
conditions_of hidden = map (λ h. hidden_member h.entry h.field) hidden

-- the conditions of checks in byte order of their names, then `locked`
pub record AreHidden (g : Gathered) (members : List Member) : Type 0 where
  pub checks : List Member
  pub same : IsPermutation (check_members g) checks
  pub ordered : AreInNameOrder checks
  pub all : members ≡ checks ++ locked_members g g.locked

-- what the program makes of a model's keys
pub record IsMade (models : List Gathered) (g : Gathered) (made : Made) : Type 0 where
  pub path : made.path ≡ path_made g
  pub links : AreLinks (links_of models g) made.links.items
  pub hidden : AreHidden g (conditions_of made.hidden.items)

-- declared fields that take the name of a tree's path
abbrev pub TakesPath : List Declared → SchemaFault → Type 0
TakesPath fields why = Any (λ f. (f.def.name ≡ path_name) × (why ≡ fault.Twice (spot_at f.entry path_name))) fields

abbrev pub IsPathFault : Gathered → SchemaFault → Type 0
IsPathFault g why = (is_some g.parent ≡ true) × TakesPath g.fields why

-- why a model may not have a parent: there is none, or it is the model itself or has parents
abbrev pub wrong_parent : List Gathered → Gathered → Inherits → Option Wrong
wrong_parent models g i = if may_inherit models g i then None else Some (if is_some (model_of models i.model) then wrong.Inherits else wrong.Model)

-- the names that are taken behind several links
abbrev pub with_links : List Gathered → Gathered → List (List ℕ) → List Inherits → List (List ℕ)
with_links models g taken [] = taken
with_links models g taken (i ∷ more) = with_links models g (with_link models g taken i) more

-- links of a model that may not be, where these names are taken before them
abbrev pub AreLinkFaults : List Gathered → Gathered → List (List ℕ) → List Inherits → SchemaFault → Type 0
AreLinkFaults models g taken links why =
    (Any (λ i. model_of models i.model ≡ None) links × (why ≡ fault.Model (spot_at g.entry [])))
    ⊎ (Any (λ i. (is_some (model_of models i.model) ≡ true) × (may_inherit models g i ≡ false)) links × (why ≡ fault.Inherits (spot_at g.entry [])))
    ⊎ (IsLinkTaken models g taken links × (why ≡ fault.Twice (spot_at g.entry [])))

abbrev pub IsLinkFault : List Gathered → Gathered → SchemaFault → Type 0
IsLinkFault models g why = AreLinkFaults models g (names_of (given_members g)) g.inherits why

-- a fault of the keys of one of these models
abbrev pub AreMadeFaults : List Gathered → List Gathered → SchemaFault → Type 0
AreMadeFaults models some why = Any (λ g. IsPathFault g why ⊎ IsLinkFault models g why) some
