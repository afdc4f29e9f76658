-- The registry as contracts see it: a list of models, each with its fields. Model number n stands at n - 1; so does field number n of a model, its conditions behind the named ones.
use Rattle.std.specs.Prelude.{Bool, ◌≡◌, ◌≢◌, ◌<◌, ◌≤◌, ◌⊎◌, ◌++◌, ℕ, suc, List, [], ◌∷◌, length, All, Any, Contains}
use Rattle.std.specs.Prelude.{map, true, false, Option, Some, None, option_map, option_and_then, IsSome, IfSome, IsSomeAnd, position, ⊤, codes, is_some}
use Rattle.std.specs.Cmp.Lexicographic.{slice_cmp}
use Rattle.std.specs.List.{AllPairs}
use Rattle.std.specs.Ordering.{nat_cmp}
use Rattle.std.specs.Option.{option_map_or}
use Rattle.std.specs.Str.{bytes_eq}
use Rattle.std.specs.declared.cmp.Ordering.TheVariants.{Less}
use Rattle.ob_base.specs.Limits.{max_checks, max_fields, max_models, max_name_bytes, max_path_steps, max_stratum}
use Rattle.ob_base.specs.declared.id.FieldNo.{FieldNo}
use Rattle.ob_base.specs.declared.id.ModelNo.{ModelNo}
use Rattle.ob_expr.specs.declared.kind.Kind.{Kind}
use Rattle.ob_expr.specs.declared.kind.Kind.TheVariants as kind
use Rattle.ob_expr.specs.declared.typed.Link.{Link}
use Rattle.ob_expr.specs.Route.{Route}
use Rattle.ob_expr.specs.TypedTree.{EachPath, IsWellKinded, TypedTree, a_text, digits, joined, kind_of, no_trees, one_more, path, paths_of, row_id, typed_tree_of}
use Rattle.ob_definition.specs.declared.field_type.FieldType.{FieldType}
use Rattle.ob_definition.specs.declared.field_type.FieldType.TheVariants as type
use Rattle.ob_definition.specs.declared.field_type.OnDelete.TheVariants as ondelete
use Rattle.ob_schema.specs.declared.info.Delegation.{Delegation}
use Rattle.ob_schema.specs.declared.info.FieldInfo.{FieldInfo}
use Rattle.ob_schema.specs.declared.info.Formula.{Formula}
use Rattle.ob_schema.specs.declared.info.ModelInfo.{ModelInfo}
use Rattle.ob_schema.specs.declared.info.Origin.{Origin}
use Rattle.ob_schema.specs.declared.info.Origin.TheVariants as origin
use Rattle.ob_schema.specs.declared.info.ParentInfo.{ParentInfo}
use Rattle.ob_schema.specs.declared.info.Step.{Step}
use Rattle.ob_schema.specs.Built.{numbered}
use Rattle.ob_schema.specs.Fields.{Holds, has_value_of, is_plain_from, is_plain_kept, kept_fields}
use Rattle.ob_schema.specs.Finds.{kind_of_type}
use Rattle.ob_definition.specs.Definitions.{is_one_of}
use Rattle.ob_definition.specs.Members.{automatic_defs, check_name, path_name, users_name}
use Rattle.ob_definition.specs.Keys.{is_many2many, is_many2one, is_selection}
use Rattle.ob_schema.specs.Paths.{BeginsWith, step_at, steps_of_route}
use Rattle.ob_definition.specs.Types.{is_list, is_relation, is_one2many}

-- the model of a number
abbrev pub model_at : List ModelInfo → ModelNo → Option ModelInfo
model_at models model = numbered models model.0

-- the fields of a model by number: the named ones, then its conditions
abbrev pub fields_of : ModelInfo → List FieldInfo
fields_of info = info.fields ++ info.hidden

-- the field of a model, each by its number
abbrev pub field_at : List ModelInfo → ModelNo → FieldNo → Option FieldInfo
field_at models model field = option_and_then (λ info. numbered (fields_of info) field.0) (model_at models model)

-- there is such a model
abbrev pub HasModel : List ModelInfo → ModelNo → Type 0
HasModel models model = IsSome (model_at models model)

-- there is such a field
abbrev pub HasField : List ModelInfo → ModelNo → FieldNo → Type 0
HasField models model field = IsSome (field_at models model field)

-- the number of the model of this name
abbrev pub model_named : List ModelInfo → List ℕ → Option ModelNo
model_named models name = option_map (λ i. record { 0 = suc i }) (position (λ model. bytes_eq model.name name) models)

-- the number of the field of this name, among the named fields of a model
abbrev pub field_named : List FieldInfo → List ℕ → Option FieldNo
field_named fields name = option_map (λ i. record { 0 = suc i }) (position (λ field. bytes_eq field.name name) fields)

-- each name is above all before it, by bytes
abbrev pub AreInOrder : List (List ℕ) → Type 0
AreInOrder names = AllPairs (λ a b. slice_cmp nat_cmp a b ≡ Less) names

-- the kind of a field's values
abbrev pub kind_of_info : FieldInfo → Option Kind
kind_of_info field = kind_of_type field.field_type field.relation

-- the stratum of a field: 0 of one that isn't computed
abbrev pub stratum_from : Origin → ℕ
stratum_from (origin.Computed formula) = formula.stratum
stratum_from _ = 0

abbrev pub stratum_of : FieldInfo → ℕ
stratum_of field = stratum_from field.origin

-- the value is the row's id
abbrev pub is_id_from : Origin → Bool
is_id_from origin.Id = true
is_id_from _ = false

-- an expression gives the value
abbrev pub is_computed_from : Origin → Bool
is_computed_from (origin.Computed formula) = true
is_computed_from _ = false

-- the row itself has the value, and no expression gives it
abbrev pub is_given_from : Origin → Bool
is_given_from origin.Id = true
is_given_from origin.Plain = true
is_given_from _ = false

-- a row of a parent has the value
abbrev pub is_delegated_from : Origin → Bool
is_delegated_from (origin.Delegated at) = true
is_delegated_from _ = false

-- the names of the moments at which a row was made and last changed
abbrev pub is_moment : List ℕ → Bool
is_moment name = is_one_of (codes "create_date" ∷ codes "write_date" ∷ []) name

-- the names of the users who made a row and last changed it
abbrev pub is_user : List ℕ → Bool
is_user name = is_one_of (codes "create_uid" ∷ codes "write_uid" ∷ []) name

-- fields of a type that name rows of a model, and are plain
pub record IsPlainTo (model : ModelNo) (field : FieldInfo) : Type 0 where
  pub plain : is_plain_from field.origin ≡ true
  pub leads : field.relation ≡ Some model

-- a field that names a user: a plain many2one to the model of the users, which is there. Rows keep it, and it is managed, not required, and unset where its user goes
pub record IsUserField (models : List ModelInfo) (field : FieldInfo) : Type 0 where
  pub many2one : field.field_type ≡ type.Many2one
  pub users : IsSomeAnd (model_named models users_name) (λ users. IsPlainTo users field)
  pub kept : is_plain_kept field ≡ true
  pub managed : field.managed ≡ true
  pub not_required : field.required ≡ false
  pub ondelete : field.ondelete ≡ ondelete.SetNull

-- a step through which a path may go on, to rows of this model: a plain relation to it
abbrev pub LeadsOn : ModelNo → FieldInfo → Type 0
LeadsOn model field = IsPlainTo model field

-- a step at which a path may end: it has a value, and isn't delegated, since a delegated field stands for the path on to its parent's
abbrev pub MayEnd : FieldInfo → Type 0
MayEnd field = (has_value_of field ≡ true) × (is_delegated_from field.origin ≡ false)

-- one through which a path goes on to one row: its values are references
pub record IsRefTo (model : ModelNo) (field : FieldInfo) : Type 0 where
  pub leads_on : LeadsOn model field
  pub one : kind_of_info field ≡ Some (kind.Ref model)

-- the field of a model has a property
abbrev pub FieldHas : List ModelInfo → (FieldInfo → Type 0) → ModelNo → FieldNo → Type 0
FieldHas models P model field = IsSomeAnd (field_at models model field) P

-- a path of an expression: each link leads to rows of its target, and the field at the end has the path's kind and a value
abbrev pub IsRouted : List ModelInfo → ModelNo → List Link → FieldNo → Kind → Type 0
IsRouted models model [] field k = FieldHas models (λ info. (kind_of_info info ≡ Some k) × (has_value_of info ≡ true)) model field
IsRouted models model (link ∷ links) field k = FieldHas models (LeadsOn link.target) model link.field × IsRouted models link.target links field k

-- the field at the end of a path isn't delegated: a delegated one stands for the path on to its parent's
abbrev pub EndsOwn : List ModelInfo → ModelNo → List Link → FieldNo → Type 0
EndsOwn models model [] field = FieldHas models (λ info. is_delegated_from info.origin ≡ false) model field
EndsOwn models model (link ∷ links) field = EndsOwn models link.target links field

-- a path that goes on by references alone: each link leads on to one row of its target, and the field at the end has the path's kind and a value
abbrev pub IsByRefs : List ModelInfo → ModelNo → List Link → FieldNo → Kind → Type 0
IsByRefs models model [] field k = FieldHas models (λ info. (kind_of_info info ≡ Some k) × (has_value_of info ≡ true)) model field
IsByRefs models model (link ∷ links) field k = FieldHas models (IsRefTo link.target) model link.field × IsByRefs models link.target links field k

-- the steps of a path: each but the last leads on to the rows of the next one's model, and at the last it may end
abbrev pub AreSteps : List ModelInfo → ModelNo → List Step → Type 0
AreSteps models model [] = ⊥
AreSteps models model (step ∷ []) = (step.model ≡ model) × FieldHas models MayEnd step.model step.field
AreSteps models model (step ∷ next ∷ steps) = (step.model ≡ model) × FieldHas models (LeadsOn next.model) step.model step.field × AreSteps models next.model (next ∷ steps)

-- a formula of a model: its paths are typed, each by many2ones alone from where it stands, none ends in a delegated field, and those on which it depends are few steps long and cover them
-- its values are of the field's kind; the field is no relation and no selection, isn't required and has no default
pub record IsFormulaIn (models : List ModelInfo) (model : ModelNo) (field : FieldInfo) (formula : Formula) : Type 0 where
  pub kinded : IsWellKinded (typed_tree_of formula.typed)
  pub routed : All (λ route. IsRouted models model route.links route.field route.kind) (paths_of (typed_tree_of formula.typed))
  pub own : All (λ route. EndsOwn models model route.links route.field) (paths_of (typed_tree_of formula.typed))
  pub by_refs : EachPath (λ from route. IsByRefs models from route.links route.field route.kind) model (typed_tree_of formula.typed)
  pub covered : All (λ route. Any (λ path. BeginsWith path.steps (steps_of_route model route)) formula.depends) (paths_of (typed_tree_of formula.typed))
  pub steps : All (λ path. AreSteps models model path.steps × (length path.steps ≤ max_path_steps)) formula.depends
  pub kind : kind_of_info field ≡ Some (kind_of (typed_tree_of formula.typed))
  pub no_relation : is_relation field.field_type ≡ false
  pub no_selection : is_selection field.field_type ≡ false
  pub not_required : field.required ≡ false
  pub no_default : field.default ≡ None
  pub low : formula.stratum ≤ max_stratum

-- a field has what another has, but for where its value comes from
pub record HasKeysOf (other field : FieldInfo) : Type 0 where
  pub name : other.name ≡ field.name
  pub field_type : other.field_type ≡ field.field_type
  pub string : other.string ≡ field.string
  pub required : other.required ≡ field.required
  pub default : other.default ≡ field.default
  pub store : other.store ≡ field.store
  pub recursive : other.recursive ≡ field.recursive
  pub relation : other.relation ≡ field.relation
  pub inverse : other.inverse ≡ field.inverse
  pub mirror : other.mirror ≡ field.mirror
  pub ondelete : other.ondelete ≡ field.ondelete
  pub selection : other.selection ≡ field.selection
  pub groups : other.groups ≡ field.groups
  pub managed : other.managed ≡ field.managed
  pub fixed : other.fixed ≡ field.fixed
  pub secret : other.secret ≡ field.secret

-- a delegated field stands behind a link of the model, and has all keys of the parent's field, which isn't delegated
pub record IsDelegatedIn (models : List ModelInfo) (info : ModelInfo) (field : FieldInfo) (at : Delegation) : Type 0 where
  pub link : Any (λ parent. (parent.link ≡ at.link) × (parent.model ≡ at.model)) info.inherits
  pub target : FieldHas models (λ other. HasKeysOf other field) at.model at.field

abbrev pub IsOriginIn : List ModelInfo → ModelNo → ModelInfo → FieldInfo → Origin → Type 0
IsOriginIn models model info field origin.Id = field.field_type ≡ type.Integer
IsOriginIn models model info field origin.Plain = ⊤
IsOriginIn models model info field (origin.Delegated at) = IsDelegatedIn models info field at
IsOriginIn models model info field (origin.Computed formula) = IsFormulaIn models model field formula

-- the field back is a plain one of the relation's model to this model
abbrev pub LeadsBack : List ModelInfo → ModelNo → FieldInfo → (FieldType → Bool) → FieldNo → Type 0
LeadsBack models model field test back = IsSomeAnd field.relation (λ target. FieldHas models (λ other. IsPlainTo model other × (test other.field_type ≡ true) × (other.mirror ≡ None)) target back)

-- relations alone are to models; a one2many alone has an inverse, a many2many alone may have a mirror, and what mirrors leads back; a default is one of the field's values
-- the field `id` alone is the row's id, the moments are plain and managed, who made and changed a row are users, and what the row itself is given has a value
pub record IsField (models : List ModelInfo) (model : ModelNo) (info : ModelInfo) (field : FieldInfo) : Type 0 where
  pub relation : is_relation field.field_type ≡ true → IsSomeAnd field.relation (HasModel models)
  pub relation_alone : is_some field.relation ≡ is_relation field.field_type
  pub inverse : is_some field.inverse ≡ is_one2many field.field_type
  pub mirror : is_some field.mirror ≡ true → is_many2many field.field_type ≡ true
  pub inverse_back : is_plain_from field.origin ≡ true → IfSome field.inverse (LeadsBack models model field is_many2one)
  pub mirror_back : is_plain_from field.origin ≡ true → IfSome field.mirror (LeadsBack models model field is_many2many)
  pub default : IfSome field.default (Holds field)
  pub origin : IsOriginIn models model info field field.origin
  pub id : is_id_from field.origin ≡ bytes_eq field.name (codes "id")
  pub moment : is_moment field.name ≡ true → (is_plain_from field.origin ≡ true) × (field.managed ≡ true)
  pub user : is_user field.name ≡ true → IsUserField models field
  pub given : is_given_from field.origin ≡ true → has_value_of field ≡ true

-- a link to a parent: a required plain many2one with which the row goes; the parent has no parents
pub record IsParentIn (models : List ModelInfo) (model : ModelNo) (parent : ParentInfo) : Type 0 where
  pub link : FieldHas models (λ field. IsPlainTo parent.model field × (field.field_type ≡ type.Many2one) × (field.required ≡ true) × (field.ondelete ≡ ondelete.Cascade)) model parent.link
  pub single : IsSomeAnd (model_at models parent.model) (λ info. info.inherits ≡ [])

-- rows can be ordered by the field: it is no list and has a value
abbrev pub Orders : FieldInfo → Type 0
Orders field = (is_list field.field_type ≡ false) × (has_value_of field ≡ true)

-- a field that this formula computes
abbrev pub IsComputedBy : List ModelInfo → Step → Formula → Type 0
IsComputedBy models at formula = FieldHas models (λ field. field.origin ≡ origin.Computed formula) at.model at.field

-- one of the paths on which a formula's value depends has the field for a step
abbrev pub DependsOn : Formula → Step → Type 0
DependsOn formula at = Any (λ path. Contains path.steps at) formula.depends

-- each of them that ends in the formula's own field leads there through such steps alone, and through one at least
abbrev pub ReachesItselfBy : (Step → Type 0) → Step → Formula → Type 0
ReachesItselfBy Through own formula = All (λ path. (front : List Step) → path.steps ≡ front ++ own ∷ [] → (front ≢ []) × All Through front) formula.depends

-- a step from the rows of a tree to their parents, through the model's parent field
abbrev pub LeadsUp : ModelNo → FieldNo → Step → Type 0
LeadsUp model parent step = step ≡ step_at model parent

-- a field that names the children of a row: a one2many to the model itself whose inverse is the parent field
abbrev pub HoldsChildren : ModelNo → FieldNo → FieldInfo → Type 0
HoldsChildren model parent field = (field.field_type ≡ type.One2many) × (field.relation ≡ Some model) × (field.inverse ≡ Some parent)

-- a step from the rows of a tree to their children, through such a field of the model
abbrev pub LeadsDown : List ModelInfo → ModelNo → FieldNo → Step → Type 0
LeadsDown models model parent step = (step.model ≡ model) × FieldHas models (HoldsChildren model parent) model step.field

-- a computed field reads other computed ones of lower strata alone, and itself only if it is recursive, always up its tree or always down
pub record IsStratified (models : List ModelInfo) (info : ModelInfo) (own : Step) (field : FieldInfo) (formula : Formula) : Type 0 where
  pub lower : (other : Step) (theirs : Formula) → DependsOn formula other → own ≢ other → IsComputedBy models other theirs → theirs.stratum < formula.stratum
  pub itself : DependsOn formula own → (field.recursive ≡ true)
      × IsSomeAnd info.parent (λ parent. ReachesItselfBy (LeadsUp own.model parent) own formula ⊎ ReachesItselfBy (LeadsDown models own.model parent) own formula)

-- a condition, by its check's name or as `locked`: a computed Boolean that isn't kept
pub record IsCondition (field : FieldInfo) : Type 0 where
  pub named : ((name : List ℕ) × (field.name ≡ check_name name)) ⊎ (field.name ≡ codes "locked")
  pub boolean : field.field_type ≡ type.Boolean
  pub computed : is_computed_from field.origin ≡ true
  pub unkept : field.store ≡ false

-- the expression of a row's path, by the parent field and the path's own: `cat(P.parent_path, text(id), "/")`
abbrev pub path_tree : ModelNo → FieldNo → FieldNo → TypedTree
path_tree model parent own =
    let parents : Route = record { links = record { field = parent; target = model } ∷ []; field = own; kind = kind.Word } in
    joined (one_more (path parents) (one_more (digits row_id) (one_more (a_text (codes "/")) no_trees)))

-- the paths on which the path of a row depends: that of its parent, through the parent field, and the row's id, as `P.parent_path` and `id` name them
abbrev pub path_depends : ModelNo → FieldNo → FieldNo → FieldNo → List (List Step)
path_depends model parent own id = (step_at model parent ∷ step_at model own ∷ []) ∷ (step_at model id ∷ []) ∷ []

-- the path of a row in its tree: a computed text that is kept, with its formula and the paths on which that depends
pub record IsTreePath (model : ModelNo) (parent own id : FieldNo) (field : FieldInfo) : Type 0 where
  pub named : field.name ≡ path_name
  pub text : field.field_type ≡ type.Char
  pub computed : is_computed_from field.origin ≡ true
  pub kept : field.store ≡ true
  pub means : (formula : Formula) → field.origin ≡ origin.Computed formula → typed_tree_of formula.typed ≡ path_tree model parent own
  pub depends : (formula : Formula) → field.origin ≡ origin.Computed formula → map (λ path. path.steps) formula.depends ≡ path_depends model parent own id

-- one of the named fields is the path of the rows of a tree with this parent field, and one is their id
pub record HasTreePath (models : List ModelInfo) (model : ModelNo) (info : ModelInfo) (parent : FieldNo) : Type 0 where
  pub own : FieldNo
  pub id : FieldNo
  pub named : own.0 ≤ length info.fields
  pub is_id : FieldHas models (λ field. is_id_from field.origin ≡ true) model id
  pub is_path : FieldHas models (IsTreePath model parent own id) model own

-- a model's name is its own; its fields are named in byte order, each name once, within the limits; what names fields in its keys names fitting ones; formulas have their strata
pub record IsModel (models : List ModelInfo) (model : ModelNo) (info : ModelInfo) : Type 0 where
  pub alone : model_named models info.name ≡ Some model
  pub short_name : length info.name ≤ max_name_bytes
  pub few : length info.fields ≤ max_fields
  pub few_hidden : length info.hidden ≤ suc max_checks
  pub short : All (λ field. length field.name ≤ max_name_bytes) info.fields
  pub ordered : AreInOrder (map (λ field. field.name) info.fields)
  pub automatic : All (λ own. Any (λ field. (field.name ≡ own.name) × (field.field_type ≡ own.field_type)) info.fields) automatic_defs
  pub fields : All (IsField models model info) (fields_of info)
  pub strata : (number : FieldNo) (field : FieldInfo) (formula : Formula) → field_at models model number ≡ Some field → field.origin ≡ origin.Computed formula
      → IsStratified models info (step_at model number) field formula
  pub conditions : All IsCondition info.hidden
  pub conditions_apart : AllPairs (λ a b. a.name ≢ b.name) info.hidden
  pub parent : IfSome info.parent (FieldHas models (λ field. IsPlainTo model field × (field.field_type ≡ type.Many2one)) model)
  pub tree : IfSome info.parent (HasTreePath models model info)
  pub parents : All (IsParentIn models model) info.inherits
  pub links_apart : AllPairs (λ a b. a.link ≢ b.link) info.inherits
  pub unique : All (All (FieldHas models (λ field. is_plain_kept field ≡ true) model)) info.unique
  pub set_given : All (λ set. set ≢ []) info.unique
  pub order : All (λ term. FieldHas models Orders model term.field) info.order

-- no more models than there may be, each right among all
pub record IsRegistry (models : List ModelInfo) : Type 0 where
  pub few : length models ≤ max_models
  pub each : (model : ModelNo) (info : ModelInfo) → model_at models model ≡ Some info → IsModel models model info

-- the fields that rows of a model of this number keep
abbrev pub kept_at : List ModelInfo → ModelNo → List FieldInfo
kept_at models model = option_map_or kept_fields (model_at models model) []
