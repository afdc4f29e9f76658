-- Which cells an evaluation comes to, in their turn, and which lie along the paths of an expression. A form of the tree that is added has its order here.
use Rattle.std.specs.Prelude.{◌≡◌, ⊤, ◌⊎◌, List, [], ◌∷◌, Bool, false, true, IsTrue, Option, Some, None, Ok, Err, IsOk}
use Rattle.ob_base.specs.declared.id.Cell.{Cell}
use Rattle.ob_base.specs.declared.id.FieldNo.{FieldNo}
use Rattle.ob_base.specs.declared.id.ModelNo.{ModelNo}
use Rattle.ob_base.specs.declared.id.RecId.{RecId}
use Rattle.ob_base.specs.declared.value.Value.{Value}
use Rattle.ob_base.specs.declared.value.Value.TheVariants as value
use Rattle.ob_expr.specs.declared.kind.Kind.{Kind}
use Rattle.ob_expr.specs.declared.kind.Kind.TheVariants as kind
use Rattle.ob_expr.specs.declared.row.Row.{Row}
use Rattle.ob_expr.specs.declared.typed.Link.{Link}
use Rattle.ob_expr.specs.Computing.{decides, is_true, unread}
use Rattle.ob_expr.specs.Kinds.{HasKind}
use Rattle.ob_expr.specs.Meaning.{cell_in, row_at, ids_of, meaning, path_value}
use Rattle.ob_expr.specs.Route.{Route}
use Rattle.ob_expr.specs.TypedTree.{TypedTree, TypedTrees, no_trees, one_more, path, prefix, binary, chosen, choice, joined, digits, over, paths_of, EachPath}

-- for each item in its turn, as long as those before have a value
abbrev pub EachInTurn : {A : Type 0} → (A → Type 0) → (A → Type 0) → List A → Type 0
EachInTurn HasValue May [] = ⊤
EachInTurn HasValue May (item ∷ items) = May item × (HasValue item → EachInTurn HasValue May items)

abbrev pub IsAmong : RecId → List RecId → Type 0
IsAmong target [] = ⊥
IsAmong target (id ∷ ids) = (target ≡ id) ⊎ IsAmong target ids

-- the rows that the value of a link leads to
abbrev pub LeadsTo : Option Value → RecId → Type 0
LeadsTo (Some (value.Ref id)) target = target ≡ id
LeadsTo (Some (value.Refs ids)) target = IsAmong target ids
LeadsTo _ target = ⊥

-- what each cell holds, where it has a value
module _ (held : Cell → Option Value) where
  -- in each row of the model, the field holds a value of its kind, where it has one
  abbrev pub FieldHolds : ModelNo → FieldNo → Kind → Type 0
  FieldHolds model field k = (id : RecId) (v : Value) → held (cell_in (row_at model id) field) ≡ Some v → HasKind k v

  -- so does each field along a path
  abbrev pub PathHolds : ModelNo → List Link → FieldNo → Kind → Type 0
  PathHolds model [] field k = FieldHolds model field k
  PathHolds model (link ∷ links) field k = FieldHolds model link.field (kind.Ref link.target) × PathHolds link.target links field k

  -- and each field along each path of the expression
  abbrev pub HoldsKinds : ModelNo → TypedTree → Type 0
  HoldsKinds model tree = EachPath (λ from route. PathHolds from route.links route.field route.kind) model tree

  -- the cells that a path comes to: behind a reference that is set, those of the row that it names
  abbrev pub MayReadPath : (Cell → Type 0) → Row → List Link → FieldNo → Type 0
  MayReadPath can_read row [] field = can_read (cell_in row field)
  MayReadPath can_read row (link ∷ links) field =
      can_read (cell_in row link.field) × ((id : RecId) → held (cell_in row link.field) ≡ Some (value.Ref id) → MayReadPath can_read (row_at link.target id) links field)

  -- the cells that an evaluation comes to: of an operand only once those before have a value, and where these don't decide
  abbrev mutual
    pub MayRead : (Cell → Type 0) → Row → TypedTree → Type 0
    MayRead can_read row (path route) = MayReadPath can_read row route.links route.field
    MayRead can_read row (prefix word inner) = MayRead can_read row inner
    MayRead can_read row (binary op left right) =
        MayRead can_read row left × ((a : Value) → meaning held row left ≡ Ok a → decides op a ≡ false → MayRead can_read row right)
    MayRead can_read row (chosen which left right) = MayRead can_read row left × (IsOk (meaning held row left) → MayRead can_read row right)
    MayRead can_read row (choice condition first second) =
        MayRead can_read row condition
        × ((c : Value) → meaning held row condition ≡ Ok c → is_true c ≡ true → MayRead can_read row first)
        × ((c : Value) → meaning held row condition ≡ Ok c → is_true c ≡ false → MayRead can_read row second)
    MayRead can_read row (joined all) = MayReadAll can_read row all
    MayRead can_read row (digits inner) = MayRead can_read row inner
    MayRead can_read row (over aggregate route target inner) =
        MayReadPath can_read row route.links route.field
        × ((targets : Value) → path_value held row route ≡ Ok targets
        → EachInTurn (λ id. IsOk (meaning held (row_at target id) inner)) (λ id. MayRead can_read (row_at target id) inner) (ids_of targets))
    MayRead can_read row _ = ⊤

    pub MayReadAll : (Cell → Type 0) → Row → TypedTrees → Type 0
    MayReadAll can_read row no_trees = ⊤
    MayReadAll can_read row (one_more tree rest) = MayRead can_read row tree × (IsOk (meaning held row tree) → MayReadAll can_read row rest)

  -- a cell of a step of the path, in a row that the steps before lead to
  abbrev pub IsAlongPath : Row → List Link → FieldNo → Cell → Type 0
  IsAlongPath row [] field cell = cell ≡ cell_in row field
  IsAlongPath row (link ∷ links) field cell =
      (cell ≡ cell_in row link.field) ⊎ ((id : RecId) × LeadsTo (held (cell_in row link.field)) id × IsAlongPath (row_at link.target id) links field cell)

  -- a cell along one of the paths
  abbrev pub IsAlongAny : Row → List Route → Cell → Type 0
  IsAlongAny row [] cell = ⊥
  IsAlongAny row (route ∷ routes) cell = IsAlongPath row route.links route.field cell ⊎ IsAlongAny row routes cell

  -- a cell along a path that the expression reads
  abbrev pub IsAlong : Row → TypedTree → Cell → Type 0
  IsAlong row tree cell = IsAlongAny row (paths_of tree) cell

-- the expression means the same wherever the cells along its paths hold the same
abbrev pub ReadsAlongPaths : TypedTree → Type 0
ReadsAlongPaths tree = (held other : Cell → Option Value) (row : Row) → ((cell : Cell) → IsAlong held row tree cell → other cell ≡ held cell) → meaning other row tree ≡ meaning held row tree

-- an evaluation comes to no cell but those along its paths
abbrev pub ComesToPaths : TypedTree → Type 0
ComesToPaths tree = (held : Cell → Option Value) (can_read : Cell → Bool) (row : Row) → ((cell : Cell) → IsAlong held row tree cell → IsTrue (can_read cell)) → MayRead held (λ cell. IsTrue (can_read cell)) row tree

-- an expression that lacks an unread cell comes to it along its paths, and the cell has no value
abbrev pub LacksAlongPaths : TypedTree → Type 0
LacksAlongPaths tree = (held : Cell → Option Value) (row : Row) (cell : Cell) → meaning held row tree ≡ Err (unread cell) → IsAlong held row tree cell × (held cell ≡ None)

-- a value that operators make: unset, a truth, an integer, a text, or the empty list
abbrev pub IsMade : Value → Type 0
IsMade value.Nil = ⊤
IsMade (value.Bool b) = ⊤
IsMade (value.Int n) = ⊤
IsMade (value.Word text) = ⊤
IsMade (value.Refs ids) = ids ≡ []
IsMade _ = ⊥

-- what the expression means is such a value, or what a cell holds
abbrev pub GivesCellsValues : TypedTree → Type 0
GivesCellsValues tree = (held : Cell → Option Value) (row : Row) (v : Value) → meaning held row tree ≡ Ok v → IsMade v ⊎ ((cell : Cell) × (held cell ≡ Some v))
