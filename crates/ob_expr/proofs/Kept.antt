-- Where more cells may be read, what could be evaluated before can be evaluated still.
use Rattle.std.proofs.Common.{◌≡◌, List, [], ◌∷◌, Option, IsOk}
use Rattle.ob_base.specs.declared.id.Cell.{Cell}
use Rattle.ob_base.specs.declared.id.FieldNo.{FieldNo}
use Rattle.ob_base.specs.declared.value.Value.{Value}
use Rattle.ob_expr.specs.declared.row.Row.{Row}
use Rattle.ob_expr.specs.declared.typed.Link.{Link}
use Rattle.ob_expr.specs.Meaning.{cell_in, row_at, ids_of, meaning}
use Rattle.ob_expr.specs.Reads.{EachInTurn, MayRead, MayReadAll, MayReadPath}
use Rattle.ob_expr.specs.TypedTree.{TypedTree, TypedTrees, no_trees, one_more, row_id, integer, a_text, truth, unset, path, prefix, binary, chosen, choice, joined, digits, over}

pub EachInTurn-map : {A : Type 0} (HasValue P Q : A → Type 0) (xs : List A) → ((x : A) → P x → Q x) → EachInTurn HasValue P xs → EachInTurn HasValue Q xs
EachInTurn-map HasValue P Q [] follows each = tt
EachInTurn-map HasValue P Q (x ∷ xs) follows each = (follows x each.0, λ has. EachInTurn-map HasValue P Q xs follows (each.1 has))

module _ (held : Cell → Option Value) (P Q : Cell → Type 0) (follows : (c : Cell) → P c → Q c) where
  MayReadPath-map : (row : Row) (links : List Link) (field : FieldNo) → MayReadPath held P row links field → MayReadPath held Q row links field
  MayReadPath-map row [] field may = follows (cell_in row field) may
  MayReadPath-map row (link ∷ links) field may =
      (follows (cell_in row link.field) may.0, λ id is. MayReadPath-map (row_at link.target id) links field (may.1 id is))

  mutual
    pub MayRead-map : (row : Row) (tree : TypedTree) → MayRead held P row tree → MayRead held Q row tree
    MayRead-map row row_id may = tt
    MayRead-map row (integer n) may = tt
    MayRead-map row (a_text bytes) may = tt
    MayRead-map row (truth b) may = tt
    MayRead-map row (unset k) may = tt
    MayRead-map row (path route) may = MayReadPath-map row route.links route.field may
    MayRead-map row (prefix word inner) may = MayRead-map row inner may
    MayRead-map row (binary op left right) may = (MayRead-map row left may.0, λ a is not. MayRead-map row right (may.1 a is not))
    MayRead-map row (chosen which left right) may = (MayRead-map row left may.0, λ is. MayRead-map row right (may.1 is))
    MayRead-map row (choice condition first second) may =
        (MayRead-map row condition may.0, λ c is holds. MayRead-map row first (may.1 c is holds), λ c is holds. MayRead-map row second (may.2 c is holds))
    MayRead-map row (joined all) may = MayReadAll-map row all may
    MayRead-map row (digits inner) may = MayRead-map row inner may
    MayRead-map row (over aggregate route target inner) may = (
      MayReadPath-map row route.links route.field may.0,
      λ targets is.
          EachInTurn-map (λ id. IsOk (meaning held (row_at target id) inner)) (λ id. MayRead held P (row_at target id) inner) (λ id. MayRead held Q (row_at target id) inner) (ids_of targets)
          (λ id. MayRead-map (row_at target id) inner) (may.1 targets is),
    )

    MayReadAll-map : (row : Row) (all : TypedTrees) → MayReadAll held P row all → MayReadAll held Q row all
    MayReadAll-map row no_trees may = tt
    MayReadAll-map row (one_more tree rest) may = (MayRead-map row tree may.0, λ has. MayReadAll-map row rest (may.1 has))

-- after reads, which change no cell
pub MayRead-kept : (held after : Cell → Option Value) (P Q : Cell → Type 0) (row : Row) (tree : TypedTree) → after ≡ held → ((c : Cell) → P c → Q c)
    → MayRead held P row tree → MayRead after Q row tree
MayRead-kept held after P Q row tree kept follows may = rw kept (MayRead-map held P Q follows row tree may)

pub MayReadPath-kept : (held after : Cell → Option Value) (P Q : Cell → Type 0) (row : Row) (links : List Link) (field : FieldNo) → after ≡ held → ((c : Cell) → P c → Q c)
    → MayReadPath held P row links field → MayReadPath after Q row links field
MayReadPath-kept held after P Q row links field kept follows may = rw kept (MayReadPath-map held P Q follows row links field may)
