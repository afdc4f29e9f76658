-- Private: models whose names are all resolved, of which the registry is made.
use Rattle.std.specs.Prelude.{◌≡◌, ◌≤◌, ◌++◌, ℕ, suc, List, length, map, slice_get, All, true, false, Option, option_and_then, option_map, Some, IfSome, IsSome, IsSomeAnd, MatchOption}
use Rattle.ob_base.specs.Limits.{max_checks, max_models, max_name_bytes}
use Rattle.ob_base.specs.declared.id.FieldNo.{FieldNo}
use Rattle.ob_base.specs.declared.id.ModelNo.{ModelNo}
use Rattle.ob_base.specs.Syntax.{Tree}
use Rattle.ob_expr.specs.TypedTree.{TypedTree}
use Rattle.ob_registry.specs.declared.formulas.DraftFormula.{DraftFormula}
use Rattle.ob_schema.specs.declared.info.Formula.{Formula}
use Rattle.ob_registry.specs.declared.model.Model.{Model as KeptModel}
use Rattle.ob_schema.specs.declared.info.FieldInfo.{FieldInfo}
use Rattle.ob_schema.specs.declared.info.ModelInfo.{ModelInfo}
use Rattle.ob_schema.specs.declared.info.ParentInfo.{ParentInfo}
use Rattle.ob_schema.specs.Built.{IsFieldOf, IsFormula}
use Rattle.ob_registry.specs.ModelFields.{members_in, number_in}
use Rattle.ob_registry.specs.Faults.{HasUnknown, HasUnknownBack, names_of_terms}
use Rattle.ob_schema.specs.Formulas.{HasFormula, Place}
use Rattle.ob_definition.specs.declared.definition.Inherits.{Inherits}
use Rattle.ob_definition.specs.declared.fault.SchemaFault.{SchemaFault}
use Rattle.ob_definition.specs.Gathered.{AreWellNamed, Gathered}
use Rattle.ob_definition.specs.Making.{AreMadeFaults}
use Rattle.ob_definition.specs.Members.{Member, is_own_computed, members_of, model_at, model_number, named}
use Rattle.ob_definition.specs.Values.{IsNative}
use Rattle.ob_registry.specs.Graphs.{IsChainWrong, IsStepFault}
use Rattle.ob_registry.specs.Modelling.{IsModelled}
use Rattle.ob_definition.specs.Orders.{order_terms}
use Rattle.ob_schema.specs.Paths.{step_at}
use Rattle.ob_schema.specs.Strata.{IsMember}
use Rattle.ob_registry.specs.Telling.{AreFormulaFaults, AreKeyFaults}

-- the fields back that a field's keys name are there, and a computed field has its formula
pub record IsFieldResolved (p : Place) : Type 0 where
  pub inverse : HasUnknownBack p p.member.def.inverse → ⊥
  pub mirror : HasUnknownBack p p.member.def.mirror → ⊥
  pub formula : is_own_computed p.member ≡ true → (tree : Tree) × (typed : TypedTree) × HasFormula p tree typed

-- the formula of a draft whose expression is right
abbrev pub formula_from : Option DraftFormula → Option Formula
formula_from draft = option_and_then (λ d. option_map (λ t. record { typed = t; depends = d.depends; stratum = d.stratum }) d.typed) draft

-- a field of a model, at its number, with its formula where an expression gives its value
pub record IsPlaced (models : List Gathered) (model : KeptModel) (m : Member) (given : Option DraftFormula) (g : Gathered) (number : ModelNo) (field : FieldNo) : Type 0 where
  pub modelled : IsModelled models g model
  pub there : model_at models number.0 ≡ Some g
  pub member : IsMember models (step_at number field) g m
  pub resolved : IsFieldResolved (record { models = models; number = number; member = m })
  pub formula : MatchOption (formula_from given) (is_own_computed m ≡ false) (IsFormula (record { models = models; number = number; member = m }) field)

-- what a model's keys name is there
pub record IsResolved (models : List Gathered) (g : Gathered) : Type 0 where
  pub parent : IfSome g.parent (λ name. IsSome (named (members_of models g) name))
  pub unique : All (λ u. HasUnknown (members_of models g) u.names → ⊥) g.unique
  pub order : IfSome g.order (λ o. IsSomeAnd (order_terms o.text) (λ terms. HasUnknown (members_of models g) (names_of_terms terms) → ⊥))

-- each field of a model with its formula, by number
abbrev pub ArePlaced : List Gathered → KeptModel → List (Option DraftFormula) → Gathered → ModelNo → Type 0
ArePlaced models model formulas g number =
    (k : ℕ) (m : Member) (formula : Option DraftFormula) → slice_get (members_in model.members.items) k ≡ Some m → slice_get formulas k ≡ Some formula → IsPlaced models model m formula g number (record { 0 = suc k })

-- each field of a model as the registry has it, by number
abbrev pub AreFieldsOf : List Gathered → KeptModel → Gathered → ModelNo → List FieldInfo → Type 0
AreFieldsOf models model g number infos =
    (k : ℕ) (m : Member) → slice_get (members_in model.members.items) k ≡ Some m → IsSomeAnd (slice_get infos k) (IsFieldOf (record { models = models; number = number; member = m }) g (record { 0 = suc k }))

-- the numbers of names that are all fields
abbrev pub AreNumbers : List Member → List (List ℕ) → List FieldNo → Type 0
AreNumbers members names numbers = (HasUnknown members names → ⊥) → map Some numbers ≡ map (number_in members) names

-- a default is one of the program's values
abbrev pub HasNativeDefault : FieldInfo → Type 0
HasNativeDefault info = IfSome info.default IsNative

-- so are those of a model's fields
abbrev pub HasNativeDefaults : ModelInfo → Type 0
HasNativeDefaults info = All HasNativeDefault (info.fields ++ info.hidden)

-- the parent to which a link leads, where its field and its model are there
abbrev pub parent_at : Option FieldNo → Option ModelNo → Option ParentInfo
parent_at link model = option_and_then (λ l. option_map (λ m. record { link = l; model = m }) model) link

abbrev pub parent_found : List Gathered → List Member → Inherits → Option ParentInfo
parent_found models members link = parent_at (number_in members link.link) (model_number models link.model)

-- all models, against which nothing stands
pub record AreResolved (models : List Gathered) : Type 0 where
  pub few : length models ≤ max_models
  pub named : AreWellNamed models
  pub short_names : All (λ g. length g.name ≤ max_name_bytes) models
  pub few_checks : All (λ g. length g.checks ≤ max_checks) models
  pub keys : (why : SchemaFault) → AreKeyFaults models why → ⊥
  pub formulas : (why : SchemaFault) → AreFormulaFaults models why → ⊥
  pub made : (why : SchemaFault) → AreMadeFaults models models why → ⊥
  pub chains : (why : SchemaFault) → IsStepFault models (IsChainWrong models) why → ⊥
