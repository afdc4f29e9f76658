-- What an expression means whose constants are native is native, where the cells hold native values.
use Rattle.std.proofs.Common.{◌≡◌, ℕ, zero, suc, ◌+◌, ◌-◌, ◌^◌, ◌<◌, ◌≤◌, ◌%◌, nat_lt, ℤ, pos, negsuc, neg_ℤ, ◌+ℤ◌, ◌-ℤ◌, ◌*ℤ◌, int_le, Bool, true, false, ◌&&◌, not, cond, List, [], ◌∷◌, length, filter, Option, Some, None, Result, Ok, Err, refl, sym, ap, subst, ◌∙◌, arith, FitsSigned, w64}
use Rattle.std.specs.Int.{int_rem_euclid}
use Rattle.std.specs.Fmt.{signed_decimal}
use Rattle.std.specs.List.{flat_map}
use Rattle.std.specs.Str.{IsUtf8}
use Rattle.std.proofs.lemmas.Bool.{and_parts}
use Rattle.std.proofs.lemmas.Fmt.{IsAscii-signed}
use Rattle.std.proofs.lemmas.Int.{ints}
use Rattle.std.proofs.lemmas.Str.{IsUtf8-append, IsUtf8-from_ascii, IsUtf8-nil}
use Rattle.ob_base.specs.Limits.{max_text_bytes}
use Rattle.ob_base.specs.declared.id.Cell.{Cell}
use Rattle.ob_base.specs.declared.id.FieldNo.{FieldNo}
use Rattle.ob_base.specs.declared.id.RecId.{RecId}
use Rattle.ob_base.specs.declared.value.Value.{Value}
use Rattle.ob_base.specs.declared.value.Value.TheVariants as value
use Rattle.ob_cache.specs.Native.{HasNativeConstants, HaveNativeConstants}
use Rattle.ob_expr.specs.declared.kind.Kind.{Kind}
use Rattle.ob_expr.specs.declared.kind.Kind.TheVariants as kind
use Rattle.ob_expr.specs.declared.row.Row.{Row}
use Rattle.ob_base.specs.declared.syntax.Operator.{Operator}
use Rattle.ob_base.specs.declared.syntax.Operator.TheVariants.{Or, And, Equal, NotEqual, Less, LessOrEqual, Greater, GreaterOrEqual, Add, Subtract, Multiply, Divide, Modulo}
use Rattle.ob_base.specs.declared.syntax.Prefix.{Prefix}
use Rattle.ob_base.specs.declared.syntax.Prefix.TheVariants.{Not, Minus}
use Rattle.ob_expr.specs.declared.typed.Aggregate.{Aggregate}
use Rattle.ob_expr.specs.declared.typed.Aggregate.TheVariants.{Count, Any, All, Sum, Extreme as AnExtreme}
use Rattle.ob_expr.specs.declared.typed.Link.{Link}
use Rattle.ob_expr.specs.Chain.{and_then, each}
use Rattle.ob_expr.specs.Computing.{Lack, overflow, too_long, bytes_of, chosen_value, decides, digits_value, divided, extreme_of, fitted, floor_of, gathered_value, is_true, is_unset, joined_value, number_of, operated_value, prefixed_value, rest_of, short_enough, total}
use Rattle.ob_expr.specs.Kinds.{empty_value}
use Rattle.ob_expr.specs.Meaning.{cell_in, row_at, ids_of, follow, value_at, at_end, path_value, meaning, values_of}
use Rattle.ob_expr.specs.TypedTree.{TypedTree, TypedTrees, no_trees, one_more, row_id, integer, a_text, truth, unset, path, prefix, binary, chosen, choice, joined, digits, over, kind_of}
use Rattle.ob_expr.proofs.CallerLemmas.{AllHave, chosen-has, each-has, extreme-has, is_same, set-have, then_ok, valued}

-- its number fits 64 bits, its text is UTF-8, and its list isn't too long to be counted
pub record IsProper (v : Value) : Type 0 where
  pub number : FitsSigned w64 (number_of v)
  pub text : IsUtf8 (bytes_of v)
  pub few : length (ids_of v) < 2 ^ 63

zero-fits : FitsSigned w64 (pos 0)
zero-fits = record { sfits = omega arith }

none-few : 0 < 2 ^ 63
none-few = omega arith

pub int-proper : (n : ℤ) → FitsSigned w64 n → IsProper (value.Int n)
int-proper n fits = record { number = fits; text = IsUtf8-nil; few = none-few }

pub word-proper : (bytes : List ℕ) → IsUtf8 bytes → IsProper (value.Word bytes)
word-proper bytes utf8 = record { number = zero-fits; text = utf8; few = none-few }

pub nil-proper : IsProper value.Nil
nil-proper = record { number = zero-fits; text = IsUtf8-nil; few = none-few }

pub bool-proper : (b : Bool) → IsProper (value.Bool b)
bool-proper b = record { number = zero-fits; text = IsUtf8-nil; few = none-few }

pub ref-proper : (id : RecId) → IsProper (value.Ref id)
ref-proper id = record { number = zero-fits; text = IsUtf8-nil; few = none-few }

pub refs-proper : (ids : List RecId) → length ids < 2 ^ 63 → IsProper (value.Refs ids)
refs-proper ids few = record { number = zero-fits; text = IsUtf8-nil; few = few }

pub empty-proper : (k : Kind) → IsProper (empty_value k)
empty-proper kind.Bool = bool-proper false
empty-proper kind.Int = int-proper (pos 0) zero-fits
empty-proper kind.Word = nil-proper
empty-proper kind.Day = nil-proper
empty-proper kind.Moment = nil-proper
empty-proper (kind.Ref model) = nil-proper
empty-proper (kind.Refs model) = refs-proper [] none-few

same-proper : (v w : Value) → IsProper v → valued v ≡ Ok w → IsProper w
same-proper = is_same IsProper

-- ---- numbers

tested-fits : (n : ℤ) → int_le (negsuc (2 ^ 63 - 1)) n ≡ true → int_le n (pos (2 ^ 63 - 1)) ≡ true → FitsSigned w64 n
tested-fits (pos n) low high = record { sfits = grind (arith, ints) }
tested-fits (negsuc n) low high = record { sfits = grind (arith, ints) }

pub fitted-proper : (n : ℤ) (v : Value) → fitted n ≡ Ok v → IsProper v
fitted-proper n v is = by (int_le (negsuc (2 ^ 63 - 1)) n && int_le n (pos (2 ^ 63 - 1))) refl is
  where
    by : (b : Bool) → (int_le (negsuc (2 ^ 63 - 1)) n && int_le n (pos (2 ^ 63 - 1))) ≡ b → cond b (Ok (value.Int n)) (Err overflow) ≡ Ok v → IsProper v
    by true tests is =
        let both = and_parts (int_le (negsuc (2 ^ 63 - 1)) n) (int_le n (pos (2 ^ 63 - 1))) tests in
        same-proper (value.Int n) v (int-proper n (tested-fits n both.0 both.1)) is
    by false tests is = absurd (cc)

-- a rest is less than its divisor
rest-low : (a : ℤ) (d : ℕ) → suc d < 2 ^ 63 + 1 → FitsSigned w64 (int_rem_euclid a (pos (suc d)))
rest-low (pos a) d low = record { sfits = omega arith }
rest-low (negsuc a) d low = record { sfits = omega arith }

turned-low : (m d : ℕ) → m ≤ d → d < 2 ^ 63 → FitsSigned w64 (neg_ℤ (pos m))
turned-low zero d low small = zero-fits
turned-low (suc m) d low small = record { sfits = omega arith }

rest-turned : (a : ℤ) (d : ℕ) → d < 2 ^ 63 → FitsSigned w64 (neg_ℤ (int_rem_euclid a (pos (suc d))))
rest-turned (pos a) d small = turned-low (a % suc d) d (omega arith) small
rest-turned (negsuc a) d small = turned-low (suc d - 1 - a % suc d) d (omega arith) small

divided-proper : (d : ℤ) (m : Result Value Lack) (v : Value) → ((w : Value) → m ≡ Ok w → IsProper w) → divided d m ≡ Ok v → IsProper v
divided-proper (pos zero) m v of is = absurd (cc)
divided-proper (pos (suc d)) m v of is = of v is
divided-proper (negsuc d) m v of is = of v is

modulo-proper : (a b : ℤ) (v : Value) → FitsSigned w64 b → divided b (Ok (value.Int (rest_of a b))) ≡ Ok v → IsProper v
modulo-proper a (pos zero) v fits is = absurd (cc)
modulo-proper a (pos (suc d)) v fits is = same-proper (value.Int (rest_of a (pos (suc d)))) v (int-proper (rest_of a (pos (suc d))) (rest-low a d (let small = fits.sfits in omega arith))) is
modulo-proper a (negsuc d) v fits is = same-proper (value.Int (rest_of a (negsuc d))) v (int-proper (rest_of a (negsuc d)) (rest-turned (neg_ℤ a) d fits.sfits)) is

-- ---- texts

all-utf8 : (vs : List Value) → AllHave IsProper vs → IsUtf8 (flat_map bytes_of vs)
all-utf8 [] all = IsUtf8-nil
all-utf8 (v ∷ vs) all = IsUtf8-append (bytes_of v) (flat_map bytes_of vs) all.0.text (all-utf8 vs all.1)

short-proper : (bytes : List ℕ) (v : Value) → IsUtf8 bytes → short_enough bytes ≡ Ok v → IsProper v
short-proper bytes v utf8 is = by (nat_lt max_text_bytes (length bytes)) is
  where
    by : (b : Bool) → cond b (Err too_long) (Ok (value.Word bytes)) ≡ Ok v → IsProper v
    by true is = absurd (cc)
    by false is = same-proper (value.Word bytes) v (word-proper bytes utf8) is

-- ---- lists

few-pass : (vs : List Value) → length (filter is_true vs) ≤ length vs
few-pass [] = omega arith
few-pass (v ∷ vs) = by (is_true v) (few-pass vs)
  where
    by : (b : Bool) → length (filter is_true vs) ≤ length vs → length (cond b (v ∷ filter is_true vs) (filter is_true vs)) ≤ suc (length vs)
    by true low = omega arith
    by false low = omega arith

as-many : (f : RecId → Result Value Lack) (ids : List RecId) (vs : List Value) → each f ids ≡ Ok vs → length vs ≡ length ids
as-many f [] vs is = let same : [] ≡ vs = cc in sym (ap length same)
as-many f (id ∷ ids) vs is =
    let t = then_ok (f id) (λ v. and_then (each f ids) (λ vs. Ok (v ∷ vs))) vs is in
    let u = then_ok (each f ids) (λ vs. Ok (t.0 ∷ vs)) vs t.2 in
    let last : valued (t.0 ∷ u.0) ≡ Ok vs = u.2 in
    let same : t.0 ∷ u.0 ≡ vs = cc in
    sym (ap length same) ∙ ap suc (as-many f ids u.0 u.1)

counted-proper : (vs : List Value) (v : Value) → length vs < 2 ^ 63 → gathered_value Count kind.Bool vs ≡ Ok v → IsProper v
counted-proper vs v few is = same-proper (value.Int (pos (length (filter is_true vs)))) v (int-proper (pos (length (filter is_true vs))) (record { sfits = by (length (filter is_true vs)) (length vs) (few-pass vs) few })) is
  where
    by : (a b : ℕ) → a ≤ b → b < 2 ^ 63 → a < 2 ^ 63
    by a b low few = omega arith

-- ---- expressions

prefixed-proper : (word : Prefix) (a v : Value) → prefixed_value word a ≡ Ok v → IsProper v
prefixed-proper Not a v is = same-proper (value.Bool (not (is_true a))) v (bool-proper (not (is_true a))) is
prefixed-proper Minus a v is = fitted-proper (neg_ℤ (number_of a)) v is

one_of : (b : Bool) (a v : Value) (right : Result Value Lack) → IsProper a → ((w : Value) → right ≡ Ok w → IsProper w) → cond b (Ok a) (and_then right (λ w. Ok w)) ≡ Ok v → IsProper v
one_of true a v right has of is = same-proper a v has is
one_of false a v right has of is = let t = then_ok right (λ w. Ok w) v is in same-proper t.0 v (of t.0 t.1) t.2

compared-proper : (b : Bool) (v : Value) → valued (value.Bool b) ≡ Ok v → IsProper v
compared-proper b v is = same-proper (value.Bool b) v (bool-proper b) is

operated-proper : (op : Operator) (a v : Value) (right : Result Value Lack) → IsProper a → ((w : Value) → right ≡ Ok w → IsProper w) → cond (decides op a) (Ok a) (and_then right (operated_value op a)) ≡ Ok v → IsProper v
operated-proper Or a v right has of is = one_of (is_true a) a v right has of is
operated-proper And a v right has of is = one_of (not (is_true a)) a v right has of is
operated-proper Add a v right has of is = let t = then_ok right (operated_value Add a) v is in fitted-proper (number_of a +ℤ number_of t.0) v t.2
operated-proper Subtract a v right has of is = let t = then_ok right (operated_value Subtract a) v is in fitted-proper (number_of a -ℤ number_of t.0) v t.2
operated-proper Multiply a v right has of is = let t = then_ok right (operated_value Multiply a) v is in fitted-proper (number_of a *ℤ number_of t.0) v t.2
operated-proper Divide a v right has of is =
    let t = then_ok right (operated_value Divide a) v is in divided-proper (number_of t.0) (fitted (floor_of (number_of a) (number_of t.0))) v (λ w e. fitted-proper (floor_of (number_of a) (number_of t.0)) w e) t.2
operated-proper Modulo a v right has of is = let t = then_ok right (operated_value Modulo a) v is in modulo-proper (number_of a) (number_of t.0) v (of t.0 t.1).number t.2
operated-proper Equal a v right has of is = let t = then_ok right (operated_value Equal a) v is in compared-proper _ v t.2
operated-proper NotEqual a v right has of is = let t = then_ok right (operated_value NotEqual a) v is in compared-proper _ v t.2
operated-proper Less a v right has of is = let t = then_ok right (operated_value Less a) v is in compared-proper _ v t.2
operated-proper LessOrEqual a v right has of is = let t = then_ok right (operated_value LessOrEqual a) v is in compared-proper _ v t.2
operated-proper Greater a v right has of is = let t = then_ok right (operated_value Greater a) v is in compared-proper _ v t.2
operated-proper GreaterOrEqual a v right has of is = let t = then_ok right (operated_value GreaterOrEqual a) v is in compared-proper _ v t.2

gathered-proper : (aggregate : Aggregate) (k : Kind) (vs : List Value) (v : Value) → AllHave IsProper vs → length vs < 2 ^ 63 → gathered_value aggregate k vs ≡ Ok v → IsProper v
gathered-proper Count k vs v all few is = counted-proper vs v few is
gathered-proper Any k vs v all few is = compared-proper _ v is
gathered-proper All k vs v all few is = compared-proper _ v is
gathered-proper Sum k vs v all few is = fitted-proper (total vs) v is
gathered-proper (AnExtreme which) k vs v all few is =
    same-proper (extreme_of which (empty_value k) vs) v (extreme-has IsProper which (empty_value k) (filter (λ v. not (is_unset v)) vs) (empty-proper k) (set-have IsProper vs all)) is

followed-proper : (k : Kind) (next : RecId → Result Value Lack) (s v : Value) → ((id : RecId) → next id ≡ Ok v → IsProper v) → follow next (Ok (empty_value k)) s ≡ Ok v → IsProper v
followed-proper k next (value.Ref id) v of is = of id is
followed-proper k next _ v of is = same-proper (empty_value k) v (empty-proper k) is

picked-proper : (b : Bool) (m n : Result Value Lack) (v : Value) → (m ≡ Ok v → IsProper v) → (n ≡ Ok v → IsProper v) → cond b m n ≡ Ok v → IsProper v
picked-proper true m n v p q is = p is
picked-proper false m n v p q is = q is

held_at : (c : Cell) (o : Option Value) (v : Value) → value_at c o ≡ Ok v → o ≡ Some v
held_at c (Some w) v is = let same : w ≡ v = cc in ap Some same
held_at c None v is = absurd (cc)

module _ (held : Cell → Option Value) (proper : (cell : Cell) (v : Value) → held cell ≡ Some v → IsProper v) where
  at_end-proper : (row : Row) (links : List Link) (field : FieldNo) (k : Kind) (v : Value) → at_end held row links field k ≡ Ok v → IsProper v
  at_end-proper row [] field k v is = proper (cell_in row field) v (held_at (cell_in row field) (held (cell_in row field)) v is)
  at_end-proper row (link ∷ links) field k v is =
      let next = λ (id : RecId). at_end held (row_at link.target id) links field k in
      let t = then_ok (value_at (cell_in row link.field) (held (cell_in row link.field))) (follow next (Ok (empty_value k))) v is in
      followed-proper k next t.0 v (λ id e. at_end-proper (row_at link.target id) links field k v e) t.2

  mutual
    pub meaning-proper : (row : Row) (tree : TypedTree) → HasNativeConstants tree → (v : Value) → meaning held row tree ≡ Ok v → IsProper v
    meaning-proper row row_id native v is = fitted-proper (pos row.id.0) v is
    meaning-proper row (integer n) native v is = same-proper (value.Int n) v (int-proper n native) is
    meaning-proper row (a_text bytes) native v is = same-proper (value.Word bytes) v (word-proper bytes native) is
    meaning-proper row (truth b) native v is = same-proper (value.Bool b) v (bool-proper b) is
    meaning-proper row (unset k) native v is = same-proper value.Nil v nil-proper is
    meaning-proper row (path route) native v is = at_end-proper row route.links route.field route.kind v is
    meaning-proper row (prefix word inner) native v is = let t = then_ok (meaning held row inner) (prefixed_value word) v is in prefixed-proper word t.0 v t.2
    meaning-proper row (binary op left right) native v is =
        let t = then_ok (meaning held row left) (λ a. cond (decides op a) (Ok a) (and_then (meaning held row right) (operated_value op a))) v is in
        operated-proper op t.0 v (meaning held row right) (meaning-proper row left native.0 t.0 t.1) (λ w e. meaning-proper row right native.1 w e) t.2
    meaning-proper row (chosen which left right) native v is =
        let t = then_ok (meaning held row left) (λ a. and_then (meaning held row right) (λ b. Ok (chosen_value which a b))) v is in
        let u = then_ok (meaning held row right) (λ b. Ok (chosen_value which t.0 b)) v t.2 in
        same-proper (chosen_value which t.0 u.0) v (chosen-has IsProper which t.0 u.0 (meaning-proper row left native.0 t.0 t.1) (meaning-proper row right native.1 u.0 u.1)) u.2
    meaning-proper row (choice condition first second) native v is =
        let t = then_ok (meaning held row condition) (λ c. cond (is_true c) (meaning held row first) (meaning held row second)) v is in
        picked-proper (is_true t.0) (meaning held row first) (meaning held row second) v (meaning-proper row first native.1 v) (meaning-proper row second native.2 v) t.2
    meaning-proper row (joined all) native v is =
        let t = then_ok (values_of held row all) joined_value v is in short-proper (flat_map bytes_of t.0) v (all-utf8 t.0 (values-proper row all native t.0 t.1)) t.2
    meaning-proper row (digits inner) native v is =
        let t = then_ok (meaning held row inner) (λ n. Ok (digits_value n)) v is in
        let number = (meaning-proper row inner native t.0 t.1).number in
        same-proper (digits_value t.0) v (word-proper (signed_decimal (number_of t.0)) (IsUtf8-from_ascii (signed_decimal (number_of t.0)) (IsAscii-signed (number_of t.0) number.sfits))) t.2
    meaning-proper row (over aggregate route target inner) native v is =
        let of = λ (id : RecId). meaning held (row_at target id) inner in
        let t = then_ok (path_value held row route) (λ targets. and_then (each of (ids_of targets)) (gathered_value aggregate (kind_of inner))) v is in
        let u = then_ok (each of (ids_of t.0)) (gathered_value aggregate (kind_of inner)) v t.2 in
        let few = (at_end-proper row route.links route.field route.kind t.0 t.1).few in
        gathered-proper aggregate (kind_of inner) u.0 v (each-has IsProper of (ids_of t.0) u.0 (λ id w e. meaning-proper (row_at target id) inner native w e) u.1)
        (subst (λ (n : ℕ). n < 2 ^ 63) (sym (as-many of (ids_of t.0) u.0 u.1)) few) u.2

    values-proper : (row : Row) (all : TypedTrees) → HaveNativeConstants all → (vs : List Value) → values_of held row all ≡ Ok vs → AllHave IsProper vs
    values-proper row no_trees native vs is = let same : [] ≡ vs = cc in subst (AllHave IsProper) same tt
    values-proper row (one_more tree rest) native vs is =
        let t = then_ok (meaning held row tree) (λ v. and_then (values_of held row rest) (λ vs. Ok (v ∷ vs))) vs is in
        let u = then_ok (values_of held row rest) (λ vs. Ok (t.0 ∷ vs)) vs t.2 in
        let last : valued (t.0 ∷ u.0) ≡ Ok vs = u.2 in
        let same : t.0 ∷ u.0 ≡ vs = cc in
        subst (AllHave IsProper) same (meaning-proper row tree native.0 t.0 t.1, values-proper row rest native.1 u.0 u.1)
