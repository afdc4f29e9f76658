-- What a well kinded expression means has its kind, where the fields along its paths hold values of theirs.
use Rattle.std.proofs.Common.{◌≡◌, ℕ, zero, suc, ◌-◌, ◌+ℤ◌, ◌-ℤ◌, ◌*ℤ◌, neg_ℤ, nat_lt, length, pos, negsuc, ℤ, ◌^◌, int_le, List, [], ◌∷◌, Bool, true, false, ◌&&◌, not, IsTrue, Option, Some, None, Result, Ok, Err, filter, refl, subst, cond}
use Rattle.std.specs.List.{flat_map}
use Rattle.ob_base.specs.Limits.{max_text_bytes}
use Rattle.ob_base.specs.declared.id.Cell.{Cell}
use Rattle.ob_base.specs.declared.id.FieldNo.{FieldNo}
use Rattle.ob_base.specs.declared.id.RecId.{RecId}
use Rattle.ob_base.specs.declared.value.Value.{Value}
use Rattle.ob_base.specs.declared.value.Value.TheVariants as value
use Rattle.ob_expr.specs.declared.kind.Kind.{Kind}
use Rattle.ob_expr.specs.declared.kind.Kind.TheVariants as kind
use Rattle.ob_expr.specs.declared.row.Row.{Row}
use Rattle.ob_base.specs.declared.syntax.Operator.{Operator}
use Rattle.ob_base.specs.declared.syntax.Operator.TheVariants.{Or, And, Equal, NotEqual, Less, LessOrEqual, Greater, GreaterOrEqual, Add, Subtract, Multiply, Divide, Modulo}
use Rattle.ob_base.specs.declared.syntax.Prefix.{Prefix}
use Rattle.ob_base.specs.declared.syntax.Prefix.TheVariants.{Not, Minus}
use Rattle.ob_expr.specs.declared.typed.Aggregate.{Aggregate}
use Rattle.ob_expr.specs.declared.typed.Aggregate.TheVariants.{Count, Any, All, Sum, Extreme as AnExtreme}
use Rattle.ob_expr.specs.declared.typed.Link.{Link}
use Rattle.ob_expr.specs.Chain.{and_then, each}
use Rattle.ob_expr.specs.Computing.{Lack, overflow, floor_of, rest_of, fitted, divided, number_of, is_true, is_unset, prefixed_value, decides, arithmetic_value, operated_value, chosen_value, extreme_of, total, gathered_value, too_long, bytes_of, joined_value, digits_value}
use Rattle.ob_expr.specs.Kinds.{HasKind, can_be_unset, empty_value, same_kind}
use Rattle.ob_expr.specs.Meaning.{cell_in, row_at, ids_of, follow, value_at, at_end, path_value, meaning, values_of}
use Rattle.ob_expr.specs.Reads.{PathHolds, HoldsKinds}
use Rattle.ob_expr.specs.TypedTree.{TypedTree, row_id, integer, a_text, truth, unset, path, prefix, binary, chosen, choice, joined, digits, over, kind_of, prefix_kind, operator_kind, aggregate_kind, takes, IsWellKinded}
use Rattle.ob_expr.proofs.Outcomes.{then_ok, valued}
use Rattle.ob_expr.proofs.Picked.{is_same, AllHave, chosen-has, set-have, extreme-has, each-has}

same_value : (k : Kind) (v w : Value) → HasKind k v → valued v ≡ Ok w → HasKind k w
same_value k = is_same (HasKind k)

either : (b : Bool) (n : ℤ) (v : Value) → cond b (Ok (value.Int n)) (Err overflow) ≡ Ok v → HasKind kind.Int v
either true n v is = same_value kind.Int (value.Int n) v tt is
either false n v is = absurd (cc)

pub fitted-kind : (n : ℤ) (v : Value) → fitted n ≡ Ok v → HasKind kind.Int v
fitted-kind n v is = either (int_le (negsuc (2 ^ 63 - 1)) n && int_le n (pos (2 ^ 63 - 1))) n v is

divided-kind : (d : ℤ) (m : Result Value Lack) (v : Value) → ((w : Value) → m ≡ Ok w → HasKind kind.Int w) → divided d m ≡ Ok v → HasKind kind.Int v
divided-kind (pos zero) m v of is = absurd (cc)
divided-kind (pos (suc d)) m v of is = of v is
divided-kind (negsuc d) m v of is = of v is

pub arithmetic-kind : (op : Operator) (a b : ℤ) (v : Value) → arithmetic_value op a b ≡ Ok v → HasKind kind.Int v
arithmetic-kind Add a b v is = fitted-kind (a +ℤ b) v is
arithmetic-kind Subtract a b v is = fitted-kind (a -ℤ b) v is
arithmetic-kind Multiply a b v is = fitted-kind (a *ℤ b) v is
arithmetic-kind Divide a b v is = divided-kind b (fitted (floor_of a b)) v (λ w e. fitted-kind (floor_of a b) w e) is
arithmetic-kind _ a b v is = divided-kind b (Ok (value.Int (rest_of a b))) v (λ w e. same_value kind.Int (value.Int (rest_of a b)) w tt e) is

same_bool : (k : Kind) → IsTrue (same_kind k kind.Bool) → k ≡ kind.Bool
same_bool kind.Bool is = refl
same_bool kind.Int is = absurd (cc)
same_bool kind.Word is = absurd (cc)
same_bool kind.Day is = absurd (cc)
same_bool kind.Moment is = absurd (cc)
same_bool (kind.Ref model) is = absurd (cc)
same_bool (kind.Refs model) is = absurd (cc)

nil-kind : (k : Kind) → IsTrue (can_be_unset k) → HasKind k value.Nil
nil-kind kind.Bool is = absurd (cc)
nil-kind kind.Int is = absurd (cc)
nil-kind kind.Word is = tt
nil-kind kind.Day is = tt
nil-kind kind.Moment is = tt
nil-kind (kind.Ref model) is = tt
nil-kind (kind.Refs model) is = absurd (cc)

empty-kind : (k : Kind) → HasKind k (empty_value k)
empty-kind kind.Bool = tt
empty-kind kind.Int = tt
empty-kind kind.Word = tt
empty-kind kind.Day = tt
empty-kind kind.Moment = tt
empty-kind (kind.Ref model) = tt
empty-kind (kind.Refs model) = tt

-- `or` and `and` give one of their operands
one_of : (b : Bool) (a v : Value) (right : Result Value Lack) → HasKind kind.Bool a → ((w : Value) → right ≡ Ok w → HasKind kind.Bool w)
    → cond b (Ok a) (and_then right (λ w. Ok w)) ≡ Ok v → HasKind kind.Bool v
one_of true a v right has of is = same_value kind.Bool a v has is
one_of false a v right has of is = let t = then_ok right (λ w. Ok w) v is in same_value kind.Bool t.0 v (of t.0 t.1) t.2

of_bool : (k : Kind) (v : Value) → IsTrue (same_kind k kind.Bool) → HasKind k v → HasKind kind.Bool v
of_bool k v is has = let P : Kind → Type 0 = λ k. HasKind k v in subst P (same_bool k is) has

operated-kind : (op : Operator) (k : Kind) (a v : Value) (right : Result Value Lack) → IsTrue (takes op k) → HasKind k a → ((w : Value) → right ≡ Ok w → HasKind k w)
    → cond (decides op a) (Ok a) (and_then right (operated_value op a)) ≡ Ok v → HasKind (operator_kind op) v
operated-kind Or k a v right fits has of is = one_of (is_true a) a v right (of_bool k a fits has) (λ w e. of_bool k w fits (of w e)) is
operated-kind And k a v right fits has of is = one_of (not (is_true a)) a v right (of_bool k a fits has) (λ w e. of_bool k w fits (of w e)) is
operated-kind Add k a v right fits has of is = let t = then_ok right (operated_value Add a) v is in arithmetic-kind Add (number_of a) (number_of t.0) v t.2
operated-kind Subtract k a v right fits has of is = let t = then_ok right (operated_value Subtract a) v is in arithmetic-kind Subtract (number_of a) (number_of t.0) v t.2
operated-kind Multiply k a v right fits has of is = let t = then_ok right (operated_value Multiply a) v is in arithmetic-kind Multiply (number_of a) (number_of t.0) v t.2
operated-kind Divide k a v right fits has of is = let t = then_ok right (operated_value Divide a) v is in arithmetic-kind Divide (number_of a) (number_of t.0) v t.2
operated-kind Modulo k a v right fits has of is = let t = then_ok right (operated_value Modulo a) v is in arithmetic-kind Modulo (number_of a) (number_of t.0) v t.2
operated-kind Equal k a v right fits has of is = let t = then_ok right (operated_value Equal a) v is in same_value kind.Bool _ v tt t.2
operated-kind NotEqual k a v right fits has of is = let t = then_ok right (operated_value NotEqual a) v is in same_value kind.Bool _ v tt t.2
operated-kind Less k a v right fits has of is = let t = then_ok right (operated_value Less a) v is in same_value kind.Bool _ v tt t.2
operated-kind LessOrEqual k a v right fits has of is = let t = then_ok right (operated_value LessOrEqual a) v is in same_value kind.Bool _ v tt t.2
operated-kind Greater k a v right fits has of is = let t = then_ok right (operated_value Greater a) v is in same_value kind.Bool _ v tt t.2
operated-kind GreaterOrEqual k a v right fits has of is = let t = then_ok right (operated_value GreaterOrEqual a) v is in same_value kind.Bool _ v tt t.2

pub prefixed-kind : (word : Prefix) (a v : Value) → prefixed_value word a ≡ Ok v → HasKind (prefix_kind word) v
prefixed-kind Not a v is = same_value kind.Bool (value.Bool (not (is_true a))) v tt is
prefixed-kind Minus a v is = fitted-kind (neg_ℤ (number_of a)) v is

gathered-kind : (aggregate : Aggregate) (k : Kind) (vs : List Value) (v : Value) → AllHave (HasKind k) vs → gathered_value aggregate k vs ≡ Ok v → HasKind (aggregate_kind aggregate k) v
gathered-kind Count k vs v all is = same_value kind.Int _ v tt is
gathered-kind Any k vs v all is = same_value kind.Bool _ v tt is
gathered-kind All k vs v all is = same_value kind.Bool _ v tt is
gathered-kind Sum k vs v all is = fitted-kind (total vs) v is
gathered-kind (AnExtreme which) k vs v all is =
    same_value k (extreme_of which (empty_value k) vs) v (extreme-has (HasKind k) which (empty_value k) (filter (λ v. not (is_unset v)) vs) (empty-kind k) (set-have (HasKind k) vs all)) is

pub held_at : (c : Cell) (o : Option Value) (v : Value) → value_at c o ≡ Ok v → o ≡ Some v
held_at c (Some w) v is = cc
held_at c None v is = absurd (cc)

followed-kind : (k : Kind) (next : RecId → Result Value Lack) (s v : Value) → ((id : RecId) → next id ≡ Ok v → HasKind k v)
    → follow next (Ok (empty_value k)) s ≡ Ok v → HasKind k v
followed-kind k next (value.Ref id) v of is = of id is
followed-kind k next _ v of is = same_value k (empty_value k) v (empty-kind k) is

picked-kind : (b : Bool) (m n : Result Value Lack) (k : Kind) (v : Value) → (m ≡ Ok v → HasKind k v) → (n ≡ Ok v → HasKind k v) → cond b m n ≡ Ok v → HasKind k v
picked-kind true m n k v p q is = p is
picked-kind false m n k v p q is = q is

pub text-kind : (b : Bool) (bytes : List ℕ) (v : Value) → cond b (Err too_long) (Ok (value.Word bytes)) ≡ Ok v → HasKind kind.Word v
text-kind true bytes v is = absurd (cc)
text-kind false bytes v is = same_value kind.Word (value.Word bytes) v tt is

module _ (held : Cell → Option Value) where
  pub at_end-kind : (row : Row) (links : List Link) (field : FieldNo) (k : Kind) (v : Value) → PathHolds held row.model links field k → at_end held row links field k ≡ Ok v → HasKind k v
  at_end-kind row [] field k v holds is = holds row.id v (held_at (cell_in row field) (held (cell_in row field)) v is)
  at_end-kind row (link ∷ links) field k v holds is =
      let next = λ (id : RecId). at_end held (row_at link.target id) links field k in
      let t = then_ok (value_at (cell_in row link.field) (held (cell_in row link.field))) (follow next (Ok (empty_value k))) v is in
      followed-kind k next t.0 v (λ id e. at_end-kind (row_at link.target id) links field k v holds.1 e) t.2

  pub meaning-kind : (row : Row) (tree : TypedTree) (v : Value) → IsWellKinded tree → HoldsKinds held row.model tree → meaning held row tree ≡ Ok v → HasKind (kind_of tree) v
  meaning-kind row row_id v well holds is = fitted-kind (pos row.id.0) v is
  meaning-kind row (integer n) v well holds is = same_value kind.Int (value.Int n) v tt is
  meaning-kind row (a_text bytes) v well holds is = same_value kind.Word (value.Word bytes) v tt is
  meaning-kind row (truth b) v well holds is = same_value kind.Bool (value.Bool b) v tt is
  meaning-kind row (unset k) v well holds is = same_value k value.Nil v (nil-kind k well) is
  meaning-kind row (path route) v well holds is = at_end-kind row route.links route.field route.kind v holds is
  meaning-kind row (prefix word inner) v well holds is =
      let t = then_ok (meaning held row inner) (prefixed_value word) v is in
      prefixed-kind word t.0 v t.2
  meaning-kind row (binary op left right) v well holds is =
      let t = then_ok (meaning held row left) (λ a. cond (decides op a) (Ok a) (and_then (meaning held row right) (operated_value op a))) v is in
      operated-kind op (kind_of left) t.0 v (meaning held row right) well.0 (meaning-kind row left t.0 well.2 holds.0 t.1)
      (λ w e. let P : Kind → Type 0 = λ k. HasKind k w in subst P well.1 (meaning-kind row right w well.3 holds.1 e)) t.2
  meaning-kind row (chosen which left right) v well holds is =
      let t = then_ok (meaning held row left) (λ a. and_then (meaning held row right) (λ b. Ok (chosen_value which a b))) v is in
      let u = then_ok (meaning held row right) (λ b. Ok (chosen_value which t.0 b)) v t.2 in
      let P : Kind → Type 0 = λ k. HasKind k t.0 in
      let Q : Kind → Type 0 = λ k. HasKind k u.0 in
      same_value kind.Int (chosen_value which t.0 u.0) v
      (chosen-has (HasKind kind.Int) which t.0 u.0 (subst P well.0 (meaning-kind row left t.0 well.2 holds.0 t.1)) (subst Q well.1 (meaning-kind row right u.0 well.3 holds.1 u.1))) u.2
  meaning-kind row (choice condition first second) v well holds is =
      let t = then_ok (meaning held row condition) (λ c. cond (is_true c) (meaning held row first) (meaning held row second)) v is in
      picked-kind (is_true t.0) (meaning held row first) (meaning held row second) (kind_of first) v (meaning-kind row first v well.3 holds.1)
      (λ e. let P : Kind → Type 0 = λ k. HasKind k v in subst P well.1 (meaning-kind row second v well.4 holds.2 e)) t.2
  meaning-kind row (joined all) v well holds is =
      let t = then_ok (values_of held row all) joined_value v is in
      text-kind (nat_lt max_text_bytes (length (flat_map bytes_of t.0))) (flat_map bytes_of t.0) v t.2
  meaning-kind row (digits inner) v well holds is =
      let t = then_ok (meaning held row inner) (λ n. Ok (digits_value n)) v is in
      same_value kind.Word (digits_value t.0) v tt t.2
  meaning-kind row (over aggregate route target inner) v well holds is =
      let of = λ (id : RecId). meaning held (row_at target id) inner in
      let t = then_ok (path_value held row route) (λ targets. and_then (each of (ids_of targets)) (gathered_value aggregate (kind_of inner))) v is in
      let u = then_ok (each of (ids_of t.0)) (gathered_value aggregate (kind_of inner)) v t.2 in
      gathered-kind aggregate (kind_of inner) u.0 v
      (each-has (HasKind (kind_of inner)) of (ids_of t.0) u.0 (λ id w e. meaning-kind (row_at target id) inner w well.2 holds.1 e) u.1) u.2
