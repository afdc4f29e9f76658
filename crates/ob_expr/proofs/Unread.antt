-- Where an expression lacks a value because a cell is unread, that cell is one that its evaluation comes to, and holds none.
use Rattle.std.proofs.Common.{◌≡◌, zero, suc, ◌-◌, ◌^◌, ◌&&◌, ℤ, pos, negsuc, refl, ap, subst, ◌∙◌, cond, List, [], ◌∷◌, length, Bool, true, false, Option, Some, None, Result, Ok, Err, IsOk}
use Rattle.std.specs.Prelude.{int_le, nat_lt, neg_ℤ, ◌+ℤ◌, ◌-ℤ◌, ◌*ℤ◌}
use Rattle.std.specs.List.{flat_map}
use Rattle.ob_base.specs.Limits.{max_text_bytes}
use Rattle.ob_base.specs.declared.id.Cell.{Cell}
use Rattle.ob_base.specs.declared.id.FieldNo.{FieldNo}
use Rattle.ob_base.specs.declared.id.RecId.{RecId}
use Rattle.ob_base.specs.declared.value.Value.{Value}
use Rattle.ob_base.specs.declared.value.Value.TheVariants as value
use Rattle.ob_expr.specs.declared.kind.Kind.{Kind}
use Rattle.ob_expr.specs.declared.row.Row.{Row}
use Rattle.ob_expr.specs.declared.typed.Aggregate.{Aggregate}
use Rattle.ob_expr.specs.declared.typed.Aggregate.TheVariants.{Count, Any, All, Sum, Extreme}
use Rattle.ob_expr.specs.declared.typed.Link.{Link}
use Rattle.ob_expr.specs.Chain.{and_then, each}
use Rattle.ob_expr.specs.Computing.{Lack, overflow, too_long, zero_divisor, unread, fitted, bytes_of, joined_value, digits_value, is_true, prefixed_value, decides, divided, floor_of, rest_of, operated_value, number_of}
use Rattle.ob_expr.specs.Computing.{chosen_value, gathered_value, total}
use Rattle.ob_expr.specs.Kinds.{empty_value}
use Rattle.ob_expr.specs.Meaning.{at_end, cell_in, follow, ids_of, meaning, path_value, row_at, value_at, values_of}
use Rattle.ob_expr.specs.Reads.{EachInTurn, IsAlong, MayRead, MayReadAll, MayReadPath}
use Rattle.ob_expr.specs.TypedTree.{TypedTree, TypedTrees, no_trees, one_more, row_id, integer, a_text, truth, unset, path, prefix, binary, chosen, choice, joined, digits, over, kind_of}
use Rattle.ob_base.specs.declared.syntax.Operator.{Operator}
use Rattle.ob_base.specs.declared.syntax.Operator.TheVariants.{Or, And, Equal, NotEqual, Less, LessOrEqual, Greater, GreaterOrEqual, Add, Subtract, Multiply, Divide, Modulo}
use Rattle.ob_base.specs.declared.syntax.Prefix.{Prefix}
use Rattle.ob_base.specs.declared.syntax.Prefix.TheVariants.{Not, Minus}
use Rattle.ob_expr.proofs.Along.{comes_to}

module _ (P : Cell → Type 0) where
  -- a value, a fault of the expression's own, or an unread cell of this kind
  abbrev pub LacksOnly : {A : Type 0} → Result A Lack → Type 0
  LacksOnly (Ok a) = Unit {0}
  LacksOnly (Err overflow) = Unit {0}
  LacksOnly (Err too_long) = Unit {0}
  LacksOnly (Err zero_divisor) = Unit {0}
  LacksOnly (Err (unread cell)) = P cell

  -- ---- one behind another

  lacks_then : {A B : Type 0} (m : Result A Lack) (f : A → Result B Lack) → LacksOnly m → ((a : A) → m ≡ Ok a → LacksOnly (f a)) → LacksOnly (and_then m f)
  lacks_then (Ok a) f only next = next a refl
  lacks_then (Err overflow) f only next = tt
  lacks_then (Err too_long) f only next = tt
  lacks_then (Err zero_divisor) f only next = tt
  lacks_then (Err (unread cell)) f only next = only

  -- for each item in its turn
  lacks_each : {A B : Type 0} (f : A → Result B Lack) (items : List A) → EachInTurn (λ item. IsOk (f item)) (λ item. LacksOnly (f item)) items → LacksOnly (each f items)
  lacks_each f [] all = tt
  lacks_each f (item ∷ items) all =
      lacks_then (f item) (λ v. and_then (each f items) (λ vs. Ok (v ∷ vs))) all.0
      (λ v is. lacks_then (each f items) (λ vs. Ok (v ∷ vs)) (lacks_each f items (all.1 (ap is_okay is))) (λ vs _. tt))
    where
      is_okay : {A : Type 0} → Result A Lack → Bool
      is_okay (Ok a) = true
      is_okay (Err lack) = false

  lacks_either : {A : Type 0} (b : Bool) (x y : Result A Lack) → (b ≡ true → LacksOnly x) → (b ≡ false → LacksOnly y) → LacksOnly (cond b x y)
  lacks_either true x y first second = first refl
  lacks_either false x y first second = second refl

  -- ---- what operators make

  lacks_fitted : (z : ℤ) → LacksOnly (fitted z)
  lacks_fitted z = lacks_either (int_le (negsuc (2 ^ 63 - 1)) z && int_le z (pos (2 ^ 63 - 1))) (Ok (value.Int z)) (Err overflow) (λ _. tt) (λ _. tt)

  lacks_joined : (vs : List Value) → LacksOnly (joined_value vs)
  lacks_joined vs = lacks_either (nat_lt max_text_bytes (length (flat_map bytes_of vs))) (Err too_long) (Ok (value.Word (flat_map bytes_of vs))) (λ _. tt) (λ _. tt)

  lacks_prefixed : (word : Prefix) (v : Value) → LacksOnly (prefixed_value word v)
  lacks_prefixed Not v = tt
  lacks_prefixed Minus v = lacks_fitted (neg_ℤ (number_of v))

  lacks_divided : (d : ℤ) (r : Result Value Lack) → LacksOnly r → LacksOnly (divided d r)
  lacks_divided (pos zero) r only = tt
  lacks_divided (pos (suc n)) r only = only
  lacks_divided (negsuc n) r only = only

  lacks_operated : (op : Operator) (a b : Value) → LacksOnly (operated_value op a b)
  lacks_operated Or a b = tt
  lacks_operated And a b = tt
  lacks_operated Equal a b = tt
  lacks_operated NotEqual a b = tt
  lacks_operated Less a b = tt
  lacks_operated LessOrEqual a b = tt
  lacks_operated Greater a b = tt
  lacks_operated GreaterOrEqual a b = tt
  lacks_operated Add a b = lacks_fitted (number_of a +ℤ number_of b)
  lacks_operated Subtract a b = lacks_fitted (number_of a -ℤ number_of b)
  lacks_operated Multiply a b = lacks_fitted (number_of a *ℤ number_of b)
  lacks_operated Divide a b = lacks_divided (number_of b) (fitted (floor_of (number_of a) (number_of b))) (lacks_fitted (floor_of (number_of a) (number_of b)))
  lacks_operated Modulo a b = lacks_divided (number_of b) (Ok (value.Int (rest_of (number_of a) (number_of b)))) tt

  lacks_gathered : (aggregate : Aggregate) (k : Kind) (vs : List Value) → LacksOnly (gathered_value aggregate k vs)
  lacks_gathered Count k vs = tt
  lacks_gathered Any k vs = tt
  lacks_gathered All k vs = tt
  lacks_gathered Sum k vs = lacks_fitted (total vs)
  lacks_gathered (Extreme which) k vs = tt

  -- behind a reference what stands there
  lacks_follow : (next : RecId → Result Value Lack) (ended : Result Value Lack) (v : Value) → ((id : RecId) → v ≡ value.Ref id → LacksOnly (next id)) → LacksOnly ended → LacksOnly (follow next ended v)
  lacks_follow next ended (value.Ref id) only end = only id refl
  lacks_follow next ended value.Nil only end = end
  lacks_follow next ended (value.Bool b) only end = end
  lacks_follow next ended (value.Int n) only end = end
  lacks_follow next ended (value.Word text) only end = end
  lacks_follow next ended (value.Day n) only end = end
  lacks_follow next ended (value.Moment n) only end = end
  lacks_follow next ended (value.Refs ids) only end = end

module _ (held : Cell → Option Value) (Read : Cell → Type 0) where
  -- a cell of the kind that holds no value
  abbrev pub IsMissed : Cell → Type 0
  IsMissed cell = Read cell × (held cell ≡ None)

  lacks_cell : (cell : Cell) (o : Option Value) → held cell ≡ o → Read cell → LacksOnly IsMissed (value_at cell o)
  lacks_cell cell (Some v) is read = tt
  lacks_cell cell None is read = (read, is)

  some_of_ok : (cell : Cell) (o : Option Value) (v : Value) → value_at cell o ≡ Ok v → o ≡ Some v
  some_of_ok cell (Some w) v is = cc
  some_of_ok cell None v is = absurd cc

  lacks_path : (row : Row) (links : List Link) (field : FieldNo) (k : Kind) → MayReadPath held Read row links field → LacksOnly IsMissed (at_end held row links field k)
  lacks_path row [] field k may = lacks_cell (cell_in row field) (held (cell_in row field)) refl may
  lacks_path row (link ∷ links) field k may =
      let c = cell_in row link.field in
      lacks_then IsMissed (value_at c (held c)) (follow (λ id. at_end held (row_at link.target id) links field k) (Ok (empty_value k))) (lacks_cell c (held c) refl may.0)
      (λ v is. lacks_follow IsMissed (λ id. at_end held (row_at link.target id) links field k) (Ok (empty_value k)) v
      (λ id ref. lacks_path (row_at link.target id) links field k (may.1 id (some_of_ok c (held c) v is ∙ ap Some ref))) tt)

  -- each in its turn, by what is known of each
  turn_weaker : (HasValue May Then : RecId → Type 0) → ((id : RecId) → May id → Then id) → (ids : List RecId) → EachInTurn HasValue May ids → EachInTurn HasValue Then ids
  turn_weaker HasValue May Then f [] all = tt
  turn_weaker HasValue May Then f (id ∷ ids) all = (f id all.0, λ has. turn_weaker HasValue May Then f ids (all.1 has))

  ok_is : {A : Type 0} (m : Result A Lack) (a : A) → m ≡ Ok a → IsOk m
  ok_is (Ok b) a is = refl
  ok_is (Err lack) a is = absurd cc

  -- an expression whose evaluation comes to such cells alone misses such cells alone
  mutual
    pub lacks_meaning : (row : Row) (tree : TypedTree) → MayRead held Read row tree → LacksOnly IsMissed (meaning held row tree)
    lacks_meaning row row_id may = lacks_fitted IsMissed (pos row.id.0)
    lacks_meaning row (integer n) may = tt
    lacks_meaning row (a_text bytes) may = tt
    lacks_meaning row (truth b) may = tt
    lacks_meaning row (unset k) may = tt
    lacks_meaning row (path route) may = lacks_path row route.links route.field route.kind may
    lacks_meaning row (prefix word inner) may = lacks_then IsMissed (meaning held row inner) (prefixed_value word) (lacks_meaning row inner may) (λ v _. lacks_prefixed IsMissed word v)
    lacks_meaning row (binary op left right) may =
        lacks_then IsMissed (meaning held row left) (λ a. cond (decides op a) (Ok a) (and_then (meaning held row right) (operated_value op a))) (lacks_meaning row left may.0)
        (λ a is. lacks_either IsMissed (decides op a) (Ok a) (and_then (meaning held row right) (operated_value op a)) (λ _. tt)
        (λ not. lacks_then IsMissed (meaning held row right) (operated_value op a) (lacks_meaning row right (may.1 a is not)) (λ b _. lacks_operated IsMissed op a b)))
    lacks_meaning row (chosen which left right) may =
        lacks_then IsMissed (meaning held row left) (λ a. and_then (meaning held row right) (λ b. Ok (chosen_value which a b))) (lacks_meaning row left may.0)
        (λ a is. lacks_then IsMissed (meaning held row right) (λ b. Ok (chosen_value which a b)) (lacks_meaning row right (may.1 (ok_is (meaning held row left) a is))) (λ b _. tt))
    lacks_meaning row (choice condition first second) may =
        lacks_then IsMissed (meaning held row condition) (λ c. cond (is_true c) (meaning held row first) (meaning held row second)) (lacks_meaning row condition may.0)
        (λ c is. lacks_either IsMissed (is_true c) (meaning held row first) (meaning held row second) (λ holds. lacks_meaning row first (may.1 c is holds)) (λ not. lacks_meaning row second (may.2 c is not)))
    lacks_meaning row (joined trees) may = lacks_then IsMissed (values_of held row trees) joined_value (lacks_values row trees may) (λ vs _. lacks_joined IsMissed vs)
    lacks_meaning row (digits inner) may = lacks_then IsMissed (meaning held row inner) (λ n. Ok (digits_value n)) (lacks_meaning row inner may) (λ n _. tt)
    lacks_meaning row (over aggregate route target inner) may =
        lacks_then IsMissed (path_value held row route) (λ targets. and_then (each (λ id. meaning held (row_at target id) inner) (ids_of targets)) (gathered_value aggregate (kind_of inner)))
        (lacks_path row route.links route.field route.kind may.0)
        (λ targets is. lacks_then IsMissed (each (λ id. meaning held (row_at target id) inner) (ids_of targets)) (gathered_value aggregate (kind_of inner))
        (lacks_each IsMissed (λ id. meaning held (row_at target id) inner) (ids_of targets)
        (turn_weaker (λ id. IsOk (meaning held (row_at target id) inner)) (λ id. MayRead held Read (row_at target id) inner) (λ id. LacksOnly IsMissed (meaning held (row_at target id) inner))
        (λ id one. lacks_meaning (row_at target id) inner one) (ids_of targets) (may.1 targets is))) (λ vs _. lacks_gathered IsMissed aggregate (kind_of inner) vs))

    lacks_values : (row : Row) (trees : TypedTrees) → MayReadAll held Read row trees → LacksOnly IsMissed (values_of held row trees)
    lacks_values row no_trees may = tt
    lacks_values row (one_more tree rest) may =
        lacks_then IsMissed (meaning held row tree) (λ v. and_then (values_of held row rest) (λ vs. Ok (v ∷ vs))) (lacks_meaning row tree may.0)
        (λ v is. lacks_then IsMissed (values_of held row rest) (λ vs. Ok (v ∷ vs)) (lacks_values row rest (may.1 (ok_is (meaning held row tree) v is))) (λ vs _. tt))

lacked : (P : Cell → Type 0) (m : Result Value Lack) (cell : Cell) → LacksOnly P m → m ≡ Err (unread cell) → P cell
lacked P m cell only is = let at : LacksOnly P {A = Value} (Err (unread cell)) = subst (λ (n : Result Value Lack). LacksOnly P n) is only in at

-- an expression that lacks a value for an unread cell comes to that cell, along its paths, and the cell holds none
pub lacks_along : (held : Cell → Option Value) (row : Row) (tree : TypedTree) (cell : Cell) → meaning held row tree ≡ Err (unread cell) → IsAlong held row tree cell × (held cell ≡ None)
lacks_along held row tree cell is =
    lacked (IsMissed held (IsAlong held row tree)) (meaning held row tree) cell (lacks_meaning held (IsAlong held row tree) row tree (comes_to held (IsAlong held row tree) row tree (λ c along. along))) is
