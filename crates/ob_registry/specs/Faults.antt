-- What stands against definitions. A fault is there or not by the texts of the definitions alone.
use Rattle.std.specs.Prelude.{◌≡◌, ◌≢◌, ◌<◌, ◌≤◌, ◌⊎◌, ◌||◌, ◌&&◌, ℕ, List, [], length, map, Any, Contains, Bool, true, false, not}
use Rattle.std.specs.Prelude.{is_none, is_some, codes, Option, Some, None, IsSomeAnd, Ok, Err}
use Rattle.std.specs.List.{list_any, list_all}
use Rattle.std.specs.Option.{option_map_or}
use Rattle.std.specs.Str.{bytes_eq}
use Rattle.std.specs.declared.cmp.Ordering.TheVariants.{Less}
use Rattle.ob_base.specs.Limits.{max_expression_bytes, max_fields, max_path_steps}
use Rattle.ob_base.specs.declared.id.ModelNo.{ModelNo}
use Rattle.ob_expr.specs.declared.checker.TypeFault.TheVariants as type_fault
use Rattle.ob_base.specs.declared.expr_fault.ExprFault.{ExprFault}
use Rattle.ob_base.specs.declared.expr_fault.ExprFault.TheVariants as text_fault
use Rattle.ob_expr.specs.Checking.{typed_of}
use Rattle.ob_base.specs.Syntax.{Tree, offset_of_tree}
use Rattle.ob_syntax.specs.Grammar.{IsFirstFault, IsFirstTooDeep}
use Rattle.ob_syntax.specs.Lexemes.{lexemes}
use Rattle.ob_expr.specs.TypedTree.{TypedTree, kind_of}
use Rattle.ob_definition.specs.declared.definition.FieldDef.{FieldDef}
use Rattle.ob_definition.specs.declared.definition.ModelDef.{ModelDef}
use Rattle.ob_definition.specs.declared.fault.SchemaFault.{SchemaFault}
use Rattle.ob_definition.specs.declared.fault.SchemaFault.TheVariants as fault
use Rattle.ob_definition.specs.declared.fault.Spot.{Spot}
use Rattle.ob_definition.specs.declared.field_type.FieldType.{FieldType}
use Rattle.ob_definition.specs.declared.field_type.FieldType.TheVariants as type
use Rattle.ob_schema.specs.declared.info.Step.{Step}
use Rattle.ob_definition.specs.Definitions.{is_computed, is_set}
use Rattle.ob_schema.specs.Finds.{found_at, kind_of_field, relation_of}
use Rattle.ob_schema.specs.Formulas.{Declares, DependsAlong, HasFormula, HasTree, IsCovered, Place, RelatedByPath, Spelled, expression_text, formula_paths, read_paths}
use Rattle.ob_definition.specs.EntryFaults.{HasNoParent, HasTakenLink, IsGatheringFault, MayNotInherit}
use Rattle.ob_definition.specs.Ranking.{rank, rank_order}
use Rattle.ob_definition.specs.Gathered.{Gathered, gathered}
use Rattle.ob_definition.specs.Keys.{fits, is_many2many, is_many2one}
use Rattle.ob_definition.specs.Types.{is_one2many, is_list, is_relation}
use Rattle.ob_definition.specs.Members.{Member, hidden_members, members_of, model_at, model_number, named, own_members, path_name, is_own, is_own_computed}
use Rattle.ob_definition.specs.Names.{is_field_name}
use Rattle.ob_definition.specs.Orders.{Term, order_terms}
use Rattle.ob_schema.specs.Paths.{PathFault, no_field, no_step, path_from}
use Rattle.ob_schema.specs.Strata.{IsCircle, IsMember, IsPastStrata, IsRecursion, Reads}

-- A model as a whole.

-- the fact holds of a model and what it was given by this entry as a whole
abbrev pub AtModel : List ModelDef → Spot → (Gathered → Type 0) → Type 0
AtModel defs spot P = (g : Gathered) × Contains (gathered defs) g × (spot.field ≡ []) × P g

-- calls give the field's value, in rows of the model itself
abbrev pub is_plain : Member → Bool
is_plain m = is_own m.role && not (is_computed m.def) && not (bytes_eq m.def.name (codes "id"))

-- the rows of a mirror stand in another field: a many2many that names it
abbrev pub is_mirror : FieldDef → Bool
is_mirror f = is_many2many f.field_type && is_some f.mirror

-- and the row keeps it
abbrev pub is_plain_kept : Member → Bool
is_plain_kept m = is_plain m && not (is_one2many m.def.field_type) && not (is_mirror m.def)

-- rows can be ordered by the field: it is no list, and a computed one is kept; a delegated one goes by its parent's
abbrev pub orders_rows : FieldDef → Bool
orders_rows f = not (is_list f.field_type) && (not (is_computed f) || is_set f.store)

-- a name that is no field among these
abbrev pub is_unknown : List Member → List ℕ → Bool
is_unknown members name = is_none (named members name)

-- one of the names is no field
abbrev pub HasUnknown : List Member → List (List ℕ) → Type 0
HasUnknown members names = list_any (is_unknown members) names ≡ true

-- names that are fields, of which a test refuses one
abbrev pub HasRefused : List Member → (Member → Bool) → List (List ℕ) → Type 0
HasRefused members test names = (list_any (is_unknown members) names ≡ false) × (list_all (λ name. option_map_or test (named members name) false) names ≡ false)

-- a unique set has no names, or that of a field that isn't plain and kept
abbrev pub IsWrongSet : List Member → List (List ℕ) → Type 0
IsWrongSet members names = (names ≡ []) ⊎ HasRefused members is_plain_kept names

abbrev pub names_of_terms : List Term → List (List ℕ)
names_of_terms terms = map (λ t. t.name) terms

-- an order has a name that is no field
abbrev pub IsUnknownOrder : List Member → List ℕ → Type 0
IsUnknownOrder members text = IsSomeAnd (order_terms text) (λ terms. HasUnknown members (names_of_terms terms))

-- the text is no order, or names a field by which rows can't be ordered
abbrev pub IsWrongOrder : List Member → List ℕ → Type 0
IsWrongOrder members text = (order_terms text ≡ None) ⊎ IsSomeAnd (order_terms text) (λ terms. HasRefused members (λ m. orders_rows m.def) (names_of_terms terms))

-- a unique set, or the order, that this entry gives
abbrev pub HasSet : Gathered → ℕ → (List (List ℕ) → Type 0) → Type 0
HasSet g n P = Any (λ u. (u.entry ≡ n) × P u.names) g.unique

abbrev pub HasOrder : Gathered → ℕ → (List ℕ → Type 0) → Type 0
HasOrder g n P = IsSomeAnd g.order (λ o. (o.entry ≡ n) × P o.text)

-- this entry is the last that gives fields, of which there are too many
abbrev pub HasTooManyFields : List Member → ℕ → Type 0
HasTooManyFields members n = (max_fields < length members) × Any (λ m. m.entry ≡ n) members × ((m : Member) → Contains members m → m.entry ≤ n)

module _ (models : List Gathered) where
  -- a plain many2one to the model of a number
  abbrev pub IsParentField : Option ModelNo → Member → Type 0
  IsParentField number m = (is_plain m ≡ true) × (is_many2one m.def.field_type ≡ true) × (relation_of models m.def ≡ number)

  abbrev pub HasUnknownParent : Gathered → Type 0
  HasUnknownParent g = IsSomeAnd g.parent (λ name. is_unknown (members_of models g) name ≡ true)

  -- the parent field is another than a plain many2one to the model itself
  abbrev pub HasWrongParent : Gathered → Type 0
  HasWrongParent g = IsSomeAnd g.parent (λ name. IsSomeAnd (named (members_of models g) name) (λ m. IsParentField (model_number models g.name) m → ⊥))

-- a tree that declares its own path, at the entry that declares it
abbrev pub DeclaresPath : List ModelDef → Spot → Type 0
DeclaresPath defs spot =
    (g : Gathered) × Contains (gathered defs) g × (spot.field ≡ path_name) × (is_some g.parent ≡ true) × Any (λ f. (f.def.name ≡ path_name) × (f.entry ≡ spot.entry)) g.fields

-- A field.

-- a field of a model that isn't delegated, with its place
pub record AtField (defs : List ModelDef) (spot : Spot) (P : Place → Gathered → Type 0) : Type 0 where
  pub model : Gathered
  pub number : ModelNo
  pub member : Member
  pub there : model_at (gathered defs) number.0 ≡ Some model
  pub among : Contains (own_members (gathered defs) model) member ⊎ Contains (hidden_members model) member
  pub entry : member.entry ≡ spot.entry
  pub name : member.def.name ≡ spot.field
  pub holds : P (record { models = gathered defs; number = number; member = member }) model

-- a relation to a model that nobody declares
abbrev pub HasUnknownRelation : Place → Type 0
HasUnknownRelation p = (is_relation p.member.def.field_type ≡ true) × (is_some p.member.def.relation ≡ true) × (relation_of p.models p.member.def ≡ None)

-- the field back that a key names, in the relation's model, if there is one
abbrev pub LooksBack : Place → Option (List ℕ) → (Option Member → Type 0) → Type 0
LooksBack p key P = IsSomeAnd key (λ name. IsSomeAnd (relation_of p.models p.member.def) (λ target. IsSomeAnd (model_at p.models target.0) (λ g. P (named (members_of p.models g) name))))

-- the field back isn't there
abbrev pub HasUnknownBack : Place → Option (List ℕ) → Type 0
HasUnknownBack p key = LooksBack p key (λ back. back ≡ None)

-- a field is a plain one of this type that leads to this model and is kept itself
pub record LeadsBack (models : List Gathered) (number : ModelNo) (t : FieldType) (back : Member) : Type 0 where
  pub plain : is_plain back ≡ true
  pub of_type : back.def.field_type ≡ t
  pub leads : relation_of models back.def ≡ Some number
  pub kept : back.def.mirror ≡ None

-- the field back is another
abbrev pub HasWrongBack : Place → Option (List ℕ) → FieldType → Type 0
HasWrongBack p key t = LooksBack p key (λ back. IsSomeAnd back (λ m. LeadsBack p.models p.number t m → ⊥))

-- the name or a key of the field doesn't fit; a condition's name has no form
abbrev pub HasWrongKeys : Place → Type 0
HasWrongKeys p = ((is_own p.member.role && not (is_field_name p.member.def.name)) ≡ true) ⊎ (fits p.member.def ≡ false)

-- a declared path is none, whatever the expression is
abbrev pub HasPathFault : Place → PathFault → Type 0
HasPathFault p why = (is_own_computed p.member ≡ true) × ((names : List (List ℕ)) × Declares p.member.def names × (path_from p.models p.number names ≡ Err why))

-- a name of the expression is no field that may be used there
abbrev pub HasUnknownName : Place → Type 0
HasUnknownName p = (tree : Tree) × HasTree p.member.def tree × (is_own_computed p.member ≡ true) × (at : ℕ) × (typed_of (found_at p.models) p.number tree ≡ Err (type_fault.Name at))

-- the expression is of another kind than its parts or its field
abbrev pub HasWrongKind : Place → Type 0
HasWrongKind p =
    (tree : Tree) × HasTree p.member.def tree × (is_own_computed p.member ≡ true)
    × (((at : ℕ) × (typed_of (found_at p.models) p.number tree ≡ Err (type_fault.Kind at)))
    ⊎ ((typed : TypedTree) × (typed_of (found_at p.models) p.number tree ≡ Ok typed) × (kind_of_field p.models p.member.def ≢ Some (kind_of typed))))

-- the expression reads a path that no declared one covers
abbrev pub HasUncovered : Place → Type 0
HasUncovered p = (tree : Tree) × (typed : TypedTree) × HasFormula p tree typed × Any (λ read. IsCovered (formula_paths p tree typed) read → ⊥) (read_paths p.number typed)

-- the number of the field
abbrev pub IsFieldAt : Place → Gathered → Step → Type 0
IsFieldAt p g at = (at.model ≡ p.number) × IsMember p.models at g p.member

-- it is in a circle
abbrev pub HasCircle : Place → Gathered → Type 0
HasCircle p g = (at : Step) × IsFieldAt p g at × IsCircle p.models at

-- it reads itself along its tree and doesn't say so
abbrev pub IsUnmarked : Place → Gathered → Type 0
IsUnmarked p g = (at : Step) × IsFieldAt p g at × Reads p.models at at × IsRecursion p.models at × (is_set p.member.def.recursive ≡ false)

-- the text of the expression is past its limit
abbrev pub HasLongText : Place → Type 0
HasLongText p = (is_own_computed p.member ≡ true) × IsSomeAnd (expression_text p.member.def) (λ text. max_expression_bytes < length text)

-- a path on which the field depends has too many steps
abbrev pub HasLongPath : Place → Type 0
HasLongPath p = (steps : List Step) × DependsAlong p steps × (max_path_steps < length steps)

-- the field has a chain past the greatest stratum, and all its chains end
abbrev pub HasLongChain : Place → Gathered → Type 0
HasLongChain p g = (at : Step) × IsFieldAt p g at × IsPastStrata p.models at

-- why a text is no expression
abbrev pub IsTextFault : List ℕ → ExprFault → Type 0
IsTextFault text (text_fault.At offset) = IsFirstFault (length text) (lexemes text) offset
IsTextFault text (text_fault.TooDeep offset) = IsFirstTooDeep (lexemes text) offset
IsTextFault text _ = ⊥

-- why a field's text is none that it may have: it is no expression, or a related field's is no path, from its first token on
abbrev pub HasTextFault : Place → ExprFault → Type 0
HasTextFault p why =
    ((text : List ℕ) × (expression_text p.member.def ≡ Some text) × (length text ≤ max_expression_bytes) × IsTextFault text why)
    ⊎ ((tree : Tree) × Spelled p.member.def tree × (RelatedByPath p.member.def tree → ⊥) × (why ≡ text_fault.At (offset_of_tree tree)))

-- a model has this fault as a whole
abbrev pub IsModelFault : List ModelDef → SchemaFault → Type 0
IsModelFault defs (fault.Model spot) = AtModel defs spot (λ g. (g.entry ≡ spot.entry) × HasNoParent (gathered defs) g)
IsModelFault defs (fault.Field spot) =
    AtModel defs spot (λ g. ((g.entry ≡ spot.entry) × HasUnknownParent (gathered defs) g)
    ⊎ HasSet g spot.entry (HasUnknown (members_of (gathered defs) g)) ⊎ HasOrder g spot.entry (IsUnknownOrder (members_of (gathered defs) g)))
IsModelFault defs (fault.Kind spot) =
    AtModel defs spot (λ g. ((g.entry ≡ spot.entry) × HasWrongParent (gathered defs) g)
    ⊎ HasSet g spot.entry (IsWrongSet (members_of (gathered defs) g)) ⊎ HasOrder g spot.entry (IsWrongOrder (members_of (gathered defs) g)))
IsModelFault defs (fault.Twice spot) = AtModel defs spot (λ g. (g.entry ≡ spot.entry) × HasTakenLink (gathered defs) g) ⊎ DeclaresPath defs spot
IsModelFault defs (fault.Inherits spot) = AtModel defs spot (λ g. (g.entry ≡ spot.entry) × MayNotInherit (gathered defs) g)
IsModelFault defs (fault.Limit spot) = AtModel defs spot (λ g. HasTooManyFields (members_of (gathered defs) g) spot.entry)
IsModelFault defs _ = ⊥

-- a field has this fault
abbrev pub IsFieldFault : List ModelDef → SchemaFault → Type 0
IsFieldFault defs (fault.Model spot) = AtField defs spot (λ p g. HasUnknownRelation p)
IsFieldFault defs (fault.Field spot) = AtField defs spot (λ p g. HasUnknownBack p p.member.def.inverse ⊎ HasUnknownBack p p.member.def.mirror ⊎ HasUnknownName p ⊎ HasPathFault p no_field)
IsFieldFault defs (fault.Kind spot) = AtField defs spot (λ p g. HasWrongKeys p ⊎ HasWrongKind p)
IsFieldFault defs (fault.Cycle spot) = AtField defs spot HasCircle
IsFieldFault defs (fault.Recursion spot) = AtField defs spot IsUnmarked
IsFieldFault defs (fault.Path spot) = AtField defs spot (λ p g. HasUncovered p ⊎ HasPathFault p no_step)
IsFieldFault defs (fault.Inverse spot) = AtField defs spot (λ p g. HasWrongBack p p.member.def.inverse type.Many2one ⊎ HasWrongBack p p.member.def.mirror type.Many2many)
IsFieldFault defs (fault.Limit spot) = AtField defs spot (λ p g. HasLongText p ⊎ HasLongPath p ⊎ HasLongChain p g)
IsFieldFault defs (fault.Text spot why) = AtField defs spot (λ p g. (is_own_computed p.member ≡ true) × HasTextFault p why)
IsFieldFault defs _ = ⊥

-- the definitions have this fault: an entry in its turn, a model, or a field
abbrev pub IsFaulty : List ModelDef → SchemaFault → Type 0
IsFaulty defs why = IsGatheringFault defs why ⊎ IsModelFault defs why ⊎ IsFieldFault defs why

-- the first fault: it is there, and none comes before it
pub record IsFirst (defs : List ModelDef) (first : SchemaFault) : Type 0 where
  pub there : IsFaulty defs first
  pub none_before : (other : SchemaFault) → IsFaulty defs other → rank_order (rank other) (rank first) ≡ Less → ⊥

-- nothing stands against the definitions
abbrev pub IsFaultless : List ModelDef → Type 0
IsFaultless defs = (why : SchemaFault) → IsFaulty defs why → ⊥
