-- Private: what is wrong with a model's keys, a field's keys, a path or an expression, as the program tells it.
use Rattle.std.specs.Prelude.{◌≡◌, ◌⊎◌, ◌↔◌, ◌++◌, ℕ, List, [], map, Any, Contains, Bool, true, false, is_some, if◌then◌else◌, Option, Some, None, IsSomeAnd, MatchOption, Result, Ok, Err, Vec}
use Rattle.std.specs.Borrow.{Bor}
use Rattle.std.specs.List.{AllZip}
use Rattle.std.specs.Option.{option_map_or}
use Rattle.std.specs.declared.alloc.Global.{Global}
use Rattle.ob_base.specs.declared.id.ModelNo.{ModelNo}
use Rattle.ob_base.specs.Syntax.{Tree}
use Rattle.ob_expr.specs.declared.typed.Typed.{Typed}
use Rattle.ob_expr.specs.TypedTree.{TypedTree, typed_tree_of}
use Rattle.ob_definition.specs.declared.definition.FieldDef.{FieldDef}
use Rattle.ob_definition.specs.declared.fault.SchemaFault.{SchemaFault}
use Rattle.ob_definition.specs.declared.fault.SchemaFault.TheVariants as fault
use Rattle.ob_definition.specs.declared.fault.Spot.{Spot}
use Rattle.ob_definition.specs.declared.field_type.FieldType.{FieldType}
use Rattle.ob_definition.specs.declared.field_type.FieldType.TheVariants as type
use Rattle.ob_registry.specs.declared.formulas.DraftFormula.{DraftFormula}
use Rattle.ob_schema.specs.declared.info.Path.{Path}
use Rattle.ob_schema.specs.declared.info.Step.{Step}
use Rattle.ob_registry.specs.declared.model.Model.{Model}
use Rattle.ob_definition.specs.declared.wrong.Wrong.{Wrong}
use Rattle.ob_definition.specs.declared.wrong.Wrong.TheVariants as wrong
use Rattle.ob_registry.specs.Faults.{HasLongPath, HasLongText, HasPathFault, HasTextFault, HasUncovered, HasUnknownName, HasWrongKind}
use Rattle.ob_registry.specs.Faults.{HasRefused, HasTooManyFields, HasUnknown, HasUnknownBack, HasUnknownRelation, HasWrongBack, HasWrongKeys, IsParentField, IsUnknownOrder, IsWrongOrder, IsWrongSet}
use Rattle.ob_schema.specs.Formulas.{DependsAlong, HasFormula, HasTree, IsCovered, Place, formula_paths, good_paths, names_of_tree, read_paths, written_names}
use Rattle.ob_definition.specs.Findings.{IsFaultAt}
use Rattle.ob_definition.specs.Gathered.{DeclaredOrder, DeclaredSet, Gathered}
use Rattle.ob_definition.specs.Members.{Member, hidden_members, is_own_computed, members_of, model_at, named, own_members}
use Rattle.ob_registry.specs.ModelFields.{member_of}
use Rattle.ob_registry.specs.Modelling.{IsModelled}
use Rattle.ob_schema.specs.Paths.{PathFault, no_field, no_step, path_from}
use Rattle.ob_definition.specs.Rooms.{spot_at}

-- Keys of a model.

-- names of which one is no field, or all are fields and a test refuses one
abbrev pub AreNamesWrong : List Member → (Member → Bool) → List (List ℕ) → Wrong → Type 0
AreNamesWrong members test names wrong.Field = HasUnknown members names
AreNamesWrong members test names wrong.Kind = HasRefused members test names
AreNamesWrong members test names _ = ⊥

abbrev pub IsSetWrong : List Member → List (List ℕ) → Wrong → Type 0
IsSetWrong members names wrong.Field = HasUnknown members names
IsSetWrong members names wrong.Kind = IsWrongSet members names
IsSetWrong members names _ = ⊥

abbrev pub IsOrderWrong : List Member → List ℕ → Wrong → Type 0
IsOrderWrong members text wrong.Field = IsUnknownOrder members text
IsOrderWrong members text wrong.Kind = IsWrongOrder members text
IsOrderWrong members text _ = ⊥

-- what the parent's name finds, in the model of this number
abbrev pub IsParentWrong : List Gathered → ModelNo → Option Member → Wrong → Type 0
IsParentWrong models number found wrong.Field = found ≡ None
IsParentWrong models number found wrong.Kind = IsSomeAnd found (λ m. IsParentField models (Some number) m → ⊥)
IsParentWrong models number found _ = ⊥

-- too many fields, where the last entry gives them
abbrev pub IsCountFault : List Member → SchemaFault → Type 0
IsCountFault members why = (n : ℕ) × HasTooManyFields members n × (why ≡ fault.Limit (spot_at n []))

-- the faults of a parent field, of unique sets and of an order
abbrev pub IsParentFault : List Gathered → ModelNo → Gathered → SchemaFault → Type 0
IsParentFault models number g why = IsSomeAnd g.parent (λ name. IsFaultAt (spot_at g.entry []) (IsParentWrong models number (named (members_of models g) name)) why)

abbrev pub AreSetFaults : List Member → List DeclaredSet → SchemaFault → Type 0
AreSetFaults members sets why = Any (λ u. IsFaultAt (spot_at u.entry []) (IsSetWrong members u.names) why) sets

abbrev pub IsOrderFault : List Member → Option DeclaredOrder → SchemaFault → Type 0
IsOrderFault members order why = IsSomeAnd order (λ o. IsFaultAt (spot_at o.entry []) (IsOrderWrong members o.text) why)

-- the faults of a model's keys and of the number of its fields
abbrev pub IsKeyFault : List Gathered → ModelNo → Gathered → SchemaFault → Type 0
IsKeyFault models number g why =
    IsCountFault (members_of models g) why ⊎ IsParentFault models number g why
    ⊎ AreSetFaults (members_of models g) g.unique why ⊎ IsOrderFault (members_of models g) g.order why

-- Keys of a field.

-- the field back that a key names
abbrev pub IsBackWrong : Place → Option (List ℕ) → FieldType → Wrong → Type 0
IsBackWrong p key t wrong.Field = HasUnknownBack p key
IsBackWrong p key t wrong.Inverse = HasWrongBack p key t
IsBackWrong p key t _ = ⊥

abbrev pub AreKeysWrong : Place → Wrong → Type 0
AreKeysWrong p wrong.Model = HasUnknownRelation p
AreKeysWrong p wrong.Field = HasUnknownBack p p.member.def.inverse ⊎ HasUnknownBack p p.member.def.mirror
AreKeysWrong p wrong.Kind = HasWrongKeys p
AreKeysWrong p wrong.Inverse = HasWrongBack p p.member.def.inverse type.Many2one ⊎ HasWrongBack p p.member.def.mirror type.Many2many
AreKeysWrong p _ = ⊥

-- the spot of a field
abbrev pub spot_of : Member → Spot
spot_of m = spot_at m.entry m.def.name

-- the faults of a field's keys
abbrev pub IsFieldKeyFault : Place → SchemaFault → Type 0
IsFieldKeyFault p why = IsFaultAt (spot_of p.member) (AreKeysWrong p) why

-- the faults of the keys of a model's fields that aren't delegated
abbrev pub AreMemberFaults : List Gathered → ModelNo → Gathered → SchemaFault → Type 0
AreMemberFaults models number g why = Any (λ m. IsFieldKeyFault (record { models = models; number = number; member = m }) why) (own_members models g ++ hidden_members g)

-- the faults of the keys of all models, and of these fields
abbrev pub AreKeyFaults : List Gathered → SchemaFault → Type 0
AreKeyFaults models why =
    (number : ModelNo) × (g : Gathered) × (model_at models number.0 ≡ Some g) × (IsKeyFault models number g why ⊎ AreMemberFaults models number g why)

-- Paths and expressions.

-- how a path is told, or why it is none
abbrev pub path_wrong : PathFault → Wrong
path_wrong no_field = wrong.Field
path_wrong no_step = wrong.Path

abbrev pub told_path : Result (List Step) PathFault → Result Path Wrong
told_path (Ok steps) = Ok (record { steps = steps })
told_path (Err why) = Err (path_wrong why)

-- texts that the program borrows, as names of paths
abbrev pub texts_in : List (Bor (List ℕ)) → List (List ℕ)
texts_in texts = map (λ text. text.now) texts

abbrev pub names_in : List (Vec (Bor (List ℕ)) Global) → List (List (List ℕ))
names_in all = map (λ names. texts_in names.items) all

-- the steps of each of these paths
abbrev pub steps_in : List Path → List (List Step)
steps_in paths = map (λ path. path.steps) paths

-- a field's text spells this, or nothing
abbrev pub IsTreeOf : FieldDef → Option Tree → Type 0
IsTreeOf f tree = MatchOption tree ((other : Tree) → HasTree f other → ⊥) (HasTree f)

-- the names of the paths that a field declares, by what its text spells
abbrev pub names_by : FieldDef → Option Tree → List (List (List ℕ))
names_by f tree = if is_some f.related then option_map_or names_of_tree tree [] else written_names f

-- the paths that an expression reads, where it is right
abbrev pub reads_by : ModelNo → Option TypedTree → List (List Step)
reads_by number typed = option_map_or (read_paths number) typed []

-- what is wrong with a text, and with the expression that it spells
abbrev pub IsTextWrong : Place → Wrong → Type 0
IsTextWrong p wrong.Limit = HasLongText p
IsTextWrong p (wrong.Text why) = (is_own_computed p.member ≡ true) × HasTextFault p why
IsTextWrong p _ = ⊥

abbrev pub IsReadingWrong : Place → Wrong → Type 0
IsReadingWrong p wrong.Field = HasUnknownName p
IsReadingWrong p wrong.Kind = HasWrongKind p
IsReadingWrong p w = IsTextWrong p w

-- an expression that a text spells is right, as this typed tree, or something is wrong
abbrev pub IsChecked : Place → Option Tree → Option TypedTree → Type 0
IsChecked p tree typed = MatchOption typed ((w : Wrong) × IsReadingWrong p w) (λ t. IsSomeAnd tree (λ x. HasFormula p x t))

-- what is wrong with one declared path, and with one that is read
abbrev pub IsPathWrong : Result (List Step) PathFault → Wrong → Type 0
IsPathWrong path wrong.Field = path ≡ Err no_field
IsPathWrong path wrong.Path = path ≡ Err no_step
IsPathWrong path _ = ⊥

abbrev pub IsCoverWrong : List (List Step) → List Step → Wrong → Type 0
IsCoverWrong paths read wrong.Path = IsCovered paths read → ⊥
IsCoverWrong paths read _ = ⊥

-- the paths of the names that are some
abbrev pub paths_by_names : List Gathered → ModelNo → List (List (List ℕ)) → List (List Step)
paths_by_names models number names = good_paths (map (path_from models number) names)

-- what is wrong with an expression or its paths
abbrev pub IsFormulaWrong : Place → Wrong → Type 0
IsFormulaWrong p wrong.Field = HasUnknownName p ⊎ HasPathFault p no_field
IsFormulaWrong p wrong.Kind = HasWrongKind p
IsFormulaWrong p wrong.Path = HasUncovered p ⊎ HasPathFault p no_step
IsFormulaWrong p wrong.Limit = HasLongText p ⊎ HasLongPath p
IsFormulaWrong p (wrong.Text why) = (is_own_computed p.member ≡ true) × HasTextFault p why
IsFormulaWrong p _ = ⊥

abbrev pub IsFormulaFault : Place → SchemaFault → Type 0
IsFormulaFault p why = IsFaultAt (spot_of p.member) (IsFormulaWrong p) why

-- the faults of the expressions of fields of a model
abbrev pub AreFaultsOf : List Gathered → ModelNo → List Member → SchemaFault → Type 0
AreFaultsOf models number members why = Any (λ m. IsFormulaFault (record { models = models; number = number; member = m }) why) members

-- the faults of all expressions
abbrev pub AreFormulaFaults : List Gathered → SchemaFault → Type 0
AreFormulaFaults models why =
    (number : ModelNo) × (g : Gathered) × (model_at models number.0 ≡ Some g)
    × Any (λ m. IsFormulaFault (record { models = models; number = number; member = m }) why) (members_of models g ++ hidden_members g)

-- a right expression, with the paths on which the field then depends
abbrev pub IsRight : Place → List (List Step) → Typed → Type 0
IsRight p depends typed = (tree : Tree) × HasFormula p tree (typed_tree_of typed) × (depends ≡ formula_paths p tree (typed_tree_of typed))

-- what is known of a computed field's formula: the paths on which the field depends, and its expression where that is right
pub record IsDraftOf (p : Place) (draft : DraftFormula) : Type 0 where
  pub computed : is_own_computed p.member ≡ true
  pub depends : (path : List Step) → Contains (steps_in draft.depends) path ↔ DependsAlong p path
  pub typed : MatchOption draft.typed ((w : Wrong) × IsReadingWrong p w) (IsRight p (steps_in draft.depends))

abbrev pub IsFormulaOf : Place → Option DraftFormula → Type 0
IsFormulaOf p None = is_own_computed p.member ≡ false
IsFormulaOf p (Some draft) = IsDraftOf p draft

-- the formulas of a model's fields, in the order of their numbers
abbrev pub AreModelFormulas : List Gathered → ModelNo → Gathered → List (Option DraftFormula) → Type 0
AreModelFormulas models number g formulas =
    (model : Model) × IsModelled models g model × AllZip (λ m formula. IsFormulaOf (record { models = models; number = number; member = member_of m }) formula) model.members.items formulas
