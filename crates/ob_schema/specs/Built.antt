-- The registry that faultless definitions make.
use Rattle.std.specs.List.{AllZip}
use Rattle.std.specs.Prelude.{zero, suc, slice_get}
use Rattle.std.specs.Prelude.{◌≡◌, ◌++◌, ◌&&◌, ℕ, List, [], length, map, Contains, codes, Option, Some, None, option_and_then, option_map, unwrap_or, true, not, IsSomeAnd}
use Rattle.std.specs.Str.{bytes_eq}
use Rattle.ob_base.specs.declared.id.FieldNo.{FieldNo}
use Rattle.ob_base.specs.declared.id.ModelNo.{ModelNo}
use Rattle.ob_base.specs.Syntax.{Tree}
use Rattle.ob_expr.specs.TypedTree.{typed_tree_of}
use Rattle.ob_definition.specs.declared.definition.FieldDef.{FieldDef}
use Rattle.ob_definition.specs.declared.definition.Inherits.{Inherits}
use Rattle.ob_definition.specs.declared.definition.ModelDef.{ModelDef}
use Rattle.ob_definition.specs.declared.field_type.OnDelete.TheVariants as ondelete
use Rattle.ob_schema.specs.declared.info.Delegation.{Delegation}
use Rattle.ob_schema.specs.declared.info.FieldInfo.{FieldInfo}
use Rattle.ob_schema.specs.declared.info.Formula.{Formula}
use Rattle.ob_schema.specs.declared.info.ModelInfo.{ModelInfo}
use Rattle.ob_schema.specs.declared.info.Origin.{Origin}
use Rattle.ob_schema.specs.declared.info.Origin.TheVariants as origin
use Rattle.ob_definition.specs.Definitions.{is_computed, is_set}
use Rattle.ob_schema.specs.Finds.{relation_of}
use Rattle.ob_schema.specs.Formulas.{HasFormula, Place, formula_paths}
use Rattle.ob_definition.specs.Gathered.{DeclaredOrder, Gathered, gathered, model_of}
use Rattle.ob_definition.specs.Members.{Member, delegated, hidden_members, hidden_number, is_own, links_of, members_of, model_at, model_number, number_of}
use Rattle.ob_definition.specs.Orders.{Term, order_terms}
use Rattle.ob_schema.specs.Paths.{has_value, step_at}
use Rattle.ob_schema.specs.Strata.{IsStratum}

-- the number of a field of the relation's model, by the key that names it
abbrev pub back_number : List Gathered → FieldDef → Option (List ℕ) → Option FieldNo
back_number models f key =
    option_and_then (λ name. option_and_then (λ target. option_map (λ g. number_of models g name) (model_at models target.0)) (relation_of models f)) key

-- where a delegated field's value stands: behind the link, as the parent's field of the same name
pub record IsDelegation (models : List Gathered) (g : Gathered) (m : Member) (at : Delegation) : Type 0 where
  pub through : Inherits
  pub role : m.role ≡ delegated through
  pub link : at.link ≡ number_of models g through.link
  pub parent : Gathered
  pub there : model_of models through.model ≡ Some parent
  pub model : model_number models through.model ≡ Some at.model
  pub field : at.field ≡ number_of models parent m.def.name

-- the formula is the field's expression, checked, with the paths on which it depends and its stratum
pub record IsFormula (place : Place) (number : FieldNo) (formula : Formula) : Type 0 where
  pub tree : Tree
  pub has : HasFormula place tree (typed_tree_of formula.typed)
  pub depends : map (λ path. path.steps) formula.depends ≡ formula_paths place tree (typed_tree_of formula.typed)
  pub stratum : IsStratum place.models (step_at place.number number) formula.stratum

-- where a field's value comes from
abbrev pub IsOrigin : Place → Gathered → FieldNo → Origin → Type 0
IsOrigin place g number origin.Id = place.member.def.name ≡ codes "id"
IsOrigin place g number origin.Plain = (is_own place.member.role && not (is_computed place.member.def) && not (bytes_eq place.member.def.name (codes "id"))) ≡ true
IsOrigin place g number (origin.Delegated at) = IsDelegation place.models g place.member at
IsOrigin place g number (origin.Computed formula) = IsFormula place number formula

-- a field with its names resolved; a delegated one has what the parent's field has
pub record IsFieldOf (place : Place) (g : Gathered) (number : FieldNo) (info : FieldInfo) : Type 0 where
  pub name : info.name ≡ place.member.def.name
  pub field_type : info.field_type ≡ place.member.def.field_type
  pub origin : IsOrigin place g number info.origin
  pub string : info.string ≡ unwrap_or place.member.def.string place.member.def.name
  pub required : info.required ≡ is_set place.member.def.required
  pub default : info.default ≡ place.member.def.default
  pub store : info.store ≡ has_value place.member.def
  pub recursive : info.recursive ≡ is_set place.member.def.recursive
  pub relation : info.relation ≡ relation_of place.models place.member.def
  pub inverse : info.inverse ≡ back_number place.models place.member.def place.member.def.inverse
  pub mirror : info.mirror ≡ back_number place.models place.member.def place.member.def.mirror
  pub ondelete : info.ondelete ≡ unwrap_or place.member.def.ondelete ondelete.SetNull
  pub selection : info.selection ≡ unwrap_or place.member.def.selection []
  pub groups : info.groups ≡ unwrap_or place.member.def.groups []
  pub managed : info.managed ≡ is_set place.member.def.managed
  pub fixed : info.fixed ≡ is_set place.member.def.fixed
  pub secret : info.secret ≡ is_set place.member.def.secret

-- the terms of a model's order; none where it isn't given
abbrev pub given_terms : Option DeclaredOrder → List Term
given_terms None = []
given_terms (Some order) = unwrap_or (order_terms order.text) []

-- what has a number, counted from 1
abbrev pub numbered : {X : Type 0} → List X → ℕ → Option X
numbered items zero = None
numbered items (suc n) = slice_get items n

-- the field of a member stands at its number
abbrev pub StandsAt : List Gathered → ModelNo → Gathered → ModelInfo → FieldNo → Member → Type 0
StandsAt models model g info number m =
    IsSomeAnd (numbered (info.fields ++ info.hidden) number.0) (IsFieldOf (record { models = models; number = model; member = m }) g number)

-- a model with its fields, named and hidden, each at its number, and no other
pub record IsModelOf (models : List Gathered) (g : Gathered) (info : ModelInfo) : Type 0 where
  pub number : ModelNo
  pub is_number : model_number models g.name ≡ Some number
  pub name : info.name ≡ g.name
  pub managed : info.managed ≡ g.managed
  pub parent : info.parent ≡ option_map (number_of models g) g.parent
  pub inherits : map (λ i. Some i.link) info.inherits ≡ map (λ i. Some (number_of models g i.link)) (links_of models g)
  pub parents : map (λ i. Some i.model) info.inherits ≡ map (λ i. model_number models i.model) (links_of models g)
  pub unique : info.unique ≡ map (λ u. map (number_of models g) u.names) g.unique
  pub order : info.order ≡ map (λ t. record { field = number_of models g t.name; descending = t.descending }) (given_terms g.order)
  pub named : (m : Member) → Contains (members_of models g) m → StandsAt models number g info (number_of models g m.def.name) m
  pub named_count : length info.fields ≡ length (members_of models g)
  pub hidden : (m : Member) → Contains (hidden_members g) m → StandsAt models number g info (hidden_number models g m.def.name) m
  pub hidden_count : length info.hidden ≡ length (hidden_members g)

-- the registry of the definitions: one model for each that they make, in their order
abbrev pub IsBuilt : List ModelDef → List ModelInfo → Type 0
IsBuilt defs models = AllZip (IsModelOf (gathered defs)) (gathered defs) models
