-- What an expression means is what a cell holds, or what operators make. Crates above have it as the clause of `values_from_cells`.
use Rattle.std.proofs.Common.{◌≡◌, ◌⊎◌, inl, inr, length, pos, nat_lt, List, [], ◌∷◌, Bool, true, false, not, cond, Option, Some, Result, Ok, filter, refl}
use Rattle.std.specs.List.{flat_map}
use Rattle.ob_base.specs.Limits.{max_text_bytes}
use Rattle.ob_base.specs.declared.id.Cell.{Cell}
use Rattle.ob_base.specs.declared.id.FieldNo.{FieldNo}
use Rattle.ob_base.specs.declared.id.RecId.{RecId}
use Rattle.ob_base.specs.declared.value.Value.{Value}
use Rattle.ob_base.specs.declared.value.Value.TheVariants as value
use Rattle.ob_expr.specs.declared.kind.Kind.{Kind}
use Rattle.ob_expr.specs.declared.kind.Kind.TheVariants as kind
use Rattle.ob_expr.specs.declared.row.Row.{Row}
use Rattle.ob_base.specs.declared.syntax.Operator.{Operator}
use Rattle.ob_base.specs.declared.syntax.Operator.TheVariants.{Or, And, Equal, NotEqual, Less, LessOrEqual, Greater, GreaterOrEqual, Add, Subtract, Multiply, Divide, Modulo}
use Rattle.ob_base.specs.declared.syntax.Prefix.{Prefix}
use Rattle.ob_base.specs.declared.syntax.Prefix.TheVariants.{Not, Minus}
use Rattle.ob_expr.specs.declared.typed.Aggregate.{Aggregate}
use Rattle.ob_expr.specs.declared.typed.Aggregate.TheVariants.{Count, Any, All, Sum, Extreme as AnExtreme}
use Rattle.ob_expr.specs.declared.typed.Link.{Link}
use Rattle.ob_expr.specs.Chain.{and_then, each}
use Rattle.ob_expr.specs.Computing.{Lack, number_of, is_true, is_unset, prefixed_value, decides, operated_value, chosen_value, extreme_of, total, gathered_value, bytes_of, joined_value, digits_value}
use Rattle.ob_expr.specs.Kinds.{HasKind, empty_value}
use Rattle.ob_expr.specs.Meaning.{cell_in, row_at, ids_of, follow, value_at, at_end, path_value, meaning, values_of}
use Rattle.ob_expr.specs.Reads.{IsMade}
use Rattle.ob_expr.specs.TypedTree.{TypedTree, row_id, integer, a_text, truth, unset, path, prefix, binary, chosen, choice, joined, digits, over, kind_of}
use Rattle.ob_expr.proofs.KindsOf.{fitted-kind, arithmetic-kind, prefixed-kind, text-kind, held_at}
use Rattle.ob_expr.proofs.Outcomes.{then_ok, valued}
use Rattle.ob_expr.proofs.Picked.{is_same, AllHave, chosen-has, set-have, extreme-has, each-has}

-- integers, truths and texts are made
int-made : (v : Value) → HasKind kind.Int v → IsMade v
int-made (value.Int n) has = tt
int-made value.Nil has = absurd has
int-made (value.Bool b) has = absurd has
int-made (value.Word bytes) has = absurd has
int-made (value.Day n) has = absurd has
int-made (value.Moment n) has = absurd has
int-made (value.Ref id) has = absurd has
int-made (value.Refs ids) has = absurd has

bool-made : (v : Value) → HasKind kind.Bool v → IsMade v
bool-made (value.Bool b) has = tt
bool-made value.Nil has = absurd has
bool-made (value.Int n) has = absurd has
bool-made (value.Word bytes) has = absurd has
bool-made (value.Day n) has = absurd has
bool-made (value.Moment n) has = absurd has
bool-made (value.Ref id) has = absurd has
bool-made (value.Refs ids) has = absurd has

word-made : (v : Value) → HasKind kind.Word v → IsMade v
word-made (value.Word bytes) has = tt
word-made value.Nil has = tt
word-made (value.Bool b) has = absurd has
word-made (value.Int n) has = absurd has
word-made (value.Day n) has = absurd has
word-made (value.Moment n) has = absurd has
word-made (value.Ref id) has = absurd has
word-made (value.Refs ids) has = absurd has

prefixed-made : (word : Prefix) (a v : Value) → prefixed_value word a ≡ Ok v → IsMade v
prefixed-made Not a v is = bool-made v (prefixed-kind Not a v is)
prefixed-made Minus a v is = int-made v (prefixed-kind Minus a v is)

empty-made : (k : Kind) → IsMade (empty_value k)
empty-made kind.Bool = tt
empty-made kind.Int = tt
empty-made kind.Word = tt
empty-made kind.Day = tt
empty-made kind.Moment = tt
empty-made (kind.Ref model) = tt
empty-made (kind.Refs model) = refl

module _ (held : Cell → Option Value) where
  -- made, or held by a cell
  abbrev IsGiven : Value → Type 0
  IsGiven v = IsMade v ⊎ ((cell : Cell) × (held cell ≡ Some v))

  made : (w v : Value) → IsMade w → valued w ≡ Ok v → IsGiven v
  made w v is same = is_same IsGiven w v (inl is) same

  -- `or` and `and` give one of their operands
  one_of : (b : Bool) (a v : Value) (right : Result Value Lack) → IsGiven a → ((w : Value) → right ≡ Ok w → IsGiven w)
      → cond b (Ok a) (and_then right (λ w. Ok w)) ≡ Ok v → IsGiven v
  one_of true a v right has of is = is_same IsGiven a v has is
  one_of false a v right has of is = let t = then_ok right (λ w. Ok w) v is in is_same IsGiven t.0 v (of t.0 t.1) t.2

  operated-given : (op : Operator) (a v : Value) (right : Result Value Lack) → IsGiven a → ((w : Value) → right ≡ Ok w → IsGiven w)
      → cond (decides op a) (Ok a) (and_then right (operated_value op a)) ≡ Ok v → IsGiven v
  operated-given Or a v right has of is = one_of (is_true a) a v right has of is
  operated-given And a v right has of is = one_of (not (is_true a)) a v right has of is
  operated-given Add a v right has of is = let t = then_ok right (operated_value Add a) v is in inl (int-made v (arithmetic-kind Add (number_of a) (number_of t.0) v t.2))
  operated-given Subtract a v right has of is = let t = then_ok right (operated_value Subtract a) v is in inl (int-made v (arithmetic-kind Subtract (number_of a) (number_of t.0) v t.2))
  operated-given Multiply a v right has of is = let t = then_ok right (operated_value Multiply a) v is in inl (int-made v (arithmetic-kind Multiply (number_of a) (number_of t.0) v t.2))
  operated-given Divide a v right has of is = let t = then_ok right (operated_value Divide a) v is in inl (int-made v (arithmetic-kind Divide (number_of a) (number_of t.0) v t.2))
  operated-given Modulo a v right has of is = let t = then_ok right (operated_value Modulo a) v is in inl (int-made v (arithmetic-kind Modulo (number_of a) (number_of t.0) v t.2))
  operated-given Equal a v right has of is = let t = then_ok right (operated_value Equal a) v is in made _ v tt t.2
  operated-given NotEqual a v right has of is = let t = then_ok right (operated_value NotEqual a) v is in made _ v tt t.2
  operated-given Less a v right has of is = let t = then_ok right (operated_value Less a) v is in made _ v tt t.2
  operated-given LessOrEqual a v right has of is = let t = then_ok right (operated_value LessOrEqual a) v is in made _ v tt t.2
  operated-given Greater a v right has of is = let t = then_ok right (operated_value Greater a) v is in made _ v tt t.2
  operated-given GreaterOrEqual a v right has of is = let t = then_ok right (operated_value GreaterOrEqual a) v is in made _ v tt t.2

  gathered-given : (aggregate : Aggregate) (k : Kind) (vs : List Value) (v : Value) → AllHave IsGiven vs → gathered_value aggregate k vs ≡ Ok v → IsGiven v
  gathered-given Count k vs v all is = made _ v tt is
  gathered-given Any k vs v all is = made _ v tt is
  gathered-given All k vs v all is = made _ v tt is
  gathered-given Sum k vs v all is = inl (int-made v (fitted-kind (total vs) v is))
  gathered-given (AnExtreme which) k vs v all is =
      is_same IsGiven (extreme_of which (empty_value k) vs) v
      (extreme-has IsGiven which (empty_value k) (filter (λ v. not (is_unset v)) vs) (inl (empty-made k)) (set-have IsGiven vs all)) is

  followed-given : (k : Kind) (next : RecId → Result Value Lack) (s v : Value) → ((id : RecId) → next id ≡ Ok v → IsGiven v)
      → follow next (Ok (empty_value k)) s ≡ Ok v → IsGiven v
  followed-given k next (value.Ref id) v of is = of id is
  followed-given k next _ v of is = made (empty_value k) v (empty-made k) is

  picked-given : (b : Bool) (m n : Result Value Lack) (v : Value) → (m ≡ Ok v → IsGiven v) → (n ≡ Ok v → IsGiven v) → cond b m n ≡ Ok v → IsGiven v
  picked-given true m n v p q is = p is
  picked-given false m n v p q is = q is

  at_end-given : (row : Row) (links : List Link) (field : FieldNo) (k : Kind) (v : Value) → at_end held row links field k ≡ Ok v → IsGiven v
  at_end-given row [] field k v is = inr (cell_in row field, held_at (cell_in row field) (held (cell_in row field)) v is)
  at_end-given row (link ∷ links) field k v is =
      let next = λ (id : RecId). at_end held (row_at link.target id) links field k in
      let t = then_ok (value_at (cell_in row link.field) (held (cell_in row link.field))) (follow next (Ok (empty_value k))) v is in
      followed-given k next t.0 v (λ id e. at_end-given (row_at link.target id) links field k v e) t.2

  pub meaning-given : (row : Row) (tree : TypedTree) (v : Value) → meaning held row tree ≡ Ok v → IsGiven v
  meaning-given row row_id v is = inl (int-made v (fitted-kind (pos row.id.0) v is))
  meaning-given row (integer n) v is = made (value.Int n) v tt is
  meaning-given row (a_text bytes) v is = made (value.Word bytes) v tt is
  meaning-given row (truth b) v is = made (value.Bool b) v tt is
  meaning-given row (unset k) v is = made value.Nil v tt is
  meaning-given row (path route) v is = at_end-given row route.links route.field route.kind v is
  meaning-given row (prefix word inner) v is =
      let t = then_ok (meaning held row inner) (prefixed_value word) v is in
      inl (prefixed-made word t.0 v t.2)
  meaning-given row (binary op left right) v is =
      let t = then_ok (meaning held row left) (λ a. cond (decides op a) (Ok a) (and_then (meaning held row right) (operated_value op a))) v is in
      operated-given op t.0 v (meaning held row right) (meaning-given row left t.0 t.1) (λ w e. meaning-given row right w e) t.2
  meaning-given row (chosen which left right) v is =
      let t = then_ok (meaning held row left) (λ a. and_then (meaning held row right) (λ b. Ok (chosen_value which a b))) v is in
      let u = then_ok (meaning held row right) (λ b. Ok (chosen_value which t.0 b)) v t.2 in
      is_same IsGiven (chosen_value which t.0 u.0) v (chosen-has IsGiven which t.0 u.0 (meaning-given row left t.0 t.1) (meaning-given row right u.0 u.1)) u.2
  meaning-given row (choice condition first second) v is =
      let t = then_ok (meaning held row condition) (λ c. cond (is_true c) (meaning held row first) (meaning held row second)) v is in
      picked-given (is_true t.0) (meaning held row first) (meaning held row second) v (meaning-given row first v) (meaning-given row second v) t.2
  meaning-given row (joined all) v is =
      let t = then_ok (values_of held row all) joined_value v is in
      inl (word-made v (text-kind (nat_lt max_text_bytes (length (flat_map bytes_of t.0))) (flat_map bytes_of t.0) v t.2))
  meaning-given row (digits inner) v is =
      let t = then_ok (meaning held row inner) (λ n. Ok (digits_value n)) v is in
      made (digits_value t.0) v tt t.2
  meaning-given row (over aggregate route target inner) v is =
      let of = λ (id : RecId). meaning held (row_at target id) inner in
      let t = then_ok (path_value held row route) (λ targets. and_then (each of (ids_of targets)) (gathered_value aggregate (kind_of inner))) v is in
      let u = then_ok (each of (ids_of t.0)) (gathered_value aggregate (kind_of inner)) v t.2 in
      gathered-given aggregate (kind_of inner) u.0 v (each-has IsGiven of (ids_of t.0) u.0 (λ id w e. meaning-given (row_at target id) inner w e) u.1) u.2
