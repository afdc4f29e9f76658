-- The expressions of computed fields, and the paths on which their values depend.
use Rattle.std.specs.Prelude.{◌≡◌, ◌≤◌, ◌⊎◌, ℕ, List, [], ◌∷◌, length, map, Any, Contains, true, false, is_some, if◌then◌else◌, Option, Some, Result, Ok, Err, unwrap_or}
use Rattle.ob_base.specs.Limits.{max_expression_bytes, max_expression_depth}
use Rattle.ob_base.specs.declared.id.ModelNo.{ModelNo}
use Rattle.ob_expr.specs.Checking.{typed_of}
use Rattle.ob_base.specs.Syntax.{Tree, depth, path}
use Rattle.ob_syntax.specs.Grammar.{IsExpression}
use Rattle.ob_syntax.specs.Lexemes.{lexemes}
use Rattle.ob_expr.specs.TypedTree.{TypedTree, kind_of, paths_of}
use Rattle.ob_definition.specs.declared.definition.FieldDef.{FieldDef}
use Rattle.ob_schema.specs.declared.info.Step.{Step}
use Rattle.ob_definition.specs.Definitions.{first_of}
use Rattle.ob_schema.specs.Finds.{found_at, kind_of_field}
use Rattle.ob_definition.specs.Gathered.{Gathered}
use Rattle.ob_definition.specs.Members.{Member, Role, hidden, is_own_computed}
use Rattle.ob_schema.specs.Paths.{BeginsWith, PathFault, path_from, split_path, steps_of_route}

-- the text of a computed field's expression: its own, or the path of a related field
abbrev pub expression_text : FieldDef → Option (List ℕ)
expression_text f = first_of f.compute f.related

-- a path by its names
pub data IsPath : List (List ℕ) → Tree → Type 0 where
  is_path : (names : List (List ℕ)) (at : ℕ) → IsPath names (path names at)

-- a text within the limit that spells a tree
pub record Spelled (f : FieldDef) (tree : Tree) : Type 0 where
  pub text : List ℕ
  pub given : expression_text f ≡ Some text
  pub short : length text ≤ max_expression_bytes
  pub is_tree : IsExpression tree (lexemes text)
  pub shallow : depth tree ≤ max_expression_depth

-- a related field's expression is a path
abbrev pub RelatedByPath : FieldDef → Tree → Type 0
RelatedByPath f tree = (is_some f.related ≡ true) → (names : List (List ℕ)) × IsPath names tree

-- the tree of a computed field's expression, of which a related field's is a path
pub record HasTree (f : FieldDef) (tree : Tree) : Type 0 where
  pub spelled : Spelled f tree
  pub related : RelatedByPath f tree

-- where a formula stands: the models, the one whose rows it is computed in, and the field
pub record Place : Type 0 where
  pub models : List Gathered
  pub number : ModelNo
  pub member : Member

-- the formula of a field: its expression, checked, of the field's own kind
pub record HasFormula (place : Place) (tree : Tree) (typed : TypedTree) : Type 0 where
  pub computed : is_own_computed place.member ≡ true
  pub has_tree : HasTree place.member.def tree
  pub checked : typed_of (found_at place.models) place.number tree ≡ Ok typed
  pub kind : kind_of_field place.models place.member.def ≡ Some (kind_of typed)

-- the paths that an expression reads, as steps
abbrev pub read_paths : ModelNo → TypedTree → List (List Step)
read_paths number typed = map (steps_of_route number) (paths_of typed)

-- the names of the paths on which a field says it depends: those in `depends`; of a related field the one path that its text spells
abbrev pub names_of_tree : Tree → List (List (List ℕ))
names_of_tree (path names at) = names ∷ []
names_of_tree _ = []

abbrev pub written_names : FieldDef → List (List (List ℕ))
written_names f = map split_path (unwrap_or f.depends [])

abbrev pub declared_names : FieldDef → Tree → List (List (List ℕ))
declared_names f tree = if is_some f.related then names_of_tree tree else written_names f

-- a field says that it depends on the path of these names, whatever its expression is
abbrev pub Declares : FieldDef → List (List ℕ) → Type 0
Declares f names =
    ((is_some f.related ≡ false) × Contains (written_names f) names) ⊎ ((is_some f.related ≡ true) × ((tree : Tree) × HasTree f tree × Contains (names_of_tree tree) names))

-- the steps of those names that are a path
abbrev pub good_paths : List (Result (List Step) PathFault) → List (List Step)
good_paths [] = []
good_paths (Ok steps ∷ more) = steps ∷ good_paths more
good_paths (Err why ∷ more) = good_paths more

-- the paths on which a formula's value depends: the declared ones; a condition's are those that it reads
abbrev pub paths_by_role : Role → List (List Step) → List (List Step) → List (List Step)
paths_by_role hidden reads declared = reads
paths_by_role _ reads declared = declared

abbrev pub formula_paths : Place → Tree → TypedTree → List (List Step)
formula_paths place tree typed =
    paths_by_role place.member.role (read_paths place.number typed) (good_paths (map (path_from place.models place.number) (declared_names place.member.def tree)))

-- a path on which a field depends: a declared one that is a path; of a condition one that it reads
abbrev pub DependsBy : Role → Place → List Step → Type 0
DependsBy hidden p steps = (tree : Tree) × (typed : TypedTree) × HasFormula p tree typed × Contains (read_paths p.number typed) steps
DependsBy _ p steps = (names : List (List ℕ)) × Declares p.member.def names × (path_from p.models p.number names ≡ Ok steps)

abbrev pub DependsAlong : Place → List Step → Type 0
DependsAlong p steps = (is_own_computed p.member ≡ true) × DependsBy p.member.role p steps

-- one of these paths begins with the steps of a path that is read
abbrev pub IsCovered : List (List Step) → List Step → Type 0
IsCovered paths read = Any (λ steps. BeginsWith steps read) paths
