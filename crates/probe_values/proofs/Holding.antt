-- The fields along the paths that names stand for hold values of their kinds, since no others are read from a line.
use Rattle.std.proofs.Common.{◌≡◌, ℕ, List, [], ◌∷◌, ◌++◌, Bool, true, false, IsTrue, cond, Option, Some, None, Result, Ok, Err, refl, subst, ◌∙◌}
use Rattle.ob_base.specs.declared.id.Cell.{Cell}
use Rattle.ob_base.specs.declared.id.FieldNo.{FieldNo}
use Rattle.ob_base.specs.declared.id.ModelNo.{ModelNo}
use Rattle.ob_base.specs.declared.value.Value.{Value}
use Rattle.ob_base.specs.declared.value.Value.TheVariants as value
use Rattle.ob_expr.specs.declared.checker.TypeFault.{TypeFault}
use Rattle.ob_expr.specs.declared.checker.TypeFault.TheVariants as fault
use Rattle.ob_expr.specs.declared.kind.Found.{Found}
use Rattle.ob_expr.specs.declared.kind.Kind.{Kind}
use Rattle.ob_expr.specs.declared.kind.Kind.TheVariants as kind
use Rattle.ob_expr.specs.declared.row.Row.{Row}
use Rattle.ob_expr.specs.declared.typed.Link.{Link}
use Rattle.ob_expr.specs.Chain.{and_then}
use Rattle.ob_expr.specs.Checking.{AreFound, IsFound, route_of, step_of, step_on, step_route}
use Rattle.ob_expr.specs.Kinds.{HasKind}
use Rattle.ob_expr.specs.Meaning.{cell_in, row_at}
use Rattle.ob_expr.specs.Reads.{ComesToPaths, MayRead, FieldHolds, PathHolds, HoldsKinds}
use Rattle.ob_expr.specs.Route.{Route, behind, through}
use Rattle.ob_expr.specs.TypedTree.{TypedTree, TypedTrees, no_trees, one_more, row_id, integer, a_text, truth, unset, path, prefix, binary, chosen, choice, joined, digits, over, EachPathOfAll}
use Rattle.std.specs.List.{find}
use Rattle.probe_values.specs.declared.fields.Entry.{Entry}
use Rattle.probe_values.specs.Fields.{field_no, finds, found, found_of, has_kind, has_name, is_day, is_int, is_list, is_moment, is_reference, is_text, is_truth, kind_of_field, of_kind, person}

-- what a step gives, and what follows gives of it
then_ok : {A B : Type 0} (r : Result A TypeFault) (next : A → Result B TypeFault) (b : B) → and_then r next ≡ Ok b → (a : A) × (r ≡ Ok a) × (next a ≡ Ok b)
then_ok (Ok a) next b is = (a, refl, is)
then_ok (Err e) next b is = absurd (cc)

abbrev accepted : {A : Type 0} → A → Result A TypeFault
accepted a = Ok a

same_ok : {A : Type 0} (x y : A) → accepted x ≡ Ok y → x ≡ y
same_ok x y is = cc

refused : {A : Type 0} (e : TypeFault) (a : A) → Err e ≡ accepted a → ⊥
refused e a is = cc

when_ok : {A : Type 0} (b : Bool) (x y : A) (e : TypeFault) → cond b (Ok x) (Err e) ≡ Ok y → x ≡ y
when_ok true x y e is = same_ok x y is
when_ok false x y e is = absurd (refused e y is)

truth_is : (v : Value) → is_truth v ≡ true → HasKind kind.Bool v
truth_is (value.Bool b) is = tt
truth_is _ is = absurd (cc)

int_is : (v : Value) → is_int v ≡ true → HasKind kind.Int v
int_is (value.Int n) is = tt
int_is _ is = absurd (cc)

text_is : (v : Value) → is_text v ≡ true → HasKind kind.Word v
text_is value.Nil is = tt
text_is (value.Word bytes) is = tt
text_is _ is = absurd (cc)

day_is : (v : Value) → is_day v ≡ true → HasKind kind.Day v
day_is value.Nil is = tt
day_is (value.Day n) is = tt
day_is _ is = absurd (cc)

moment_is : (v : Value) → is_moment v ≡ true → HasKind kind.Moment v
moment_is value.Nil is = tt
moment_is (value.Moment n) is = tt
moment_is _ is = absurd (cc)

reference_is : (model : ModelNo) (v : Value) → is_reference v ≡ true → HasKind (kind.Ref model) v
reference_is model value.Nil is = tt
reference_is model (value.Ref id) is = tt
reference_is model _ is = absurd (cc)

list_is : (model : ModelNo) (v : Value) → is_list v ≡ true → HasKind (kind.Refs model) v
list_is model (value.Refs ids) is = tt
list_is model _ is = absurd (cc)

has_kind-is : (k : Kind) (v : Value) → has_kind k v ≡ true → HasKind k v
has_kind-is kind.Bool v is = truth_is v is
has_kind-is kind.Int v is = int_is v is
has_kind-is kind.Word v is = text_is v is
has_kind-is kind.Day v is = day_is v is
has_kind-is kind.Moment v is = moment_is v is
has_kind-is (kind.Ref model) v is = reference_is model v is
has_kind-is (kind.Refs model) v is = list_is model v is

-- a value that a kind lets through has it
let_through : (k : Kind) (w v : Value) (b : Bool) → has_kind k w ≡ b → cond b (Some w) None ≡ Some v → HasKind k v
let_through k w v true has is = let same : w ≡ v = cc in subst (HasKind k) same (has_kind-is k w has)
let_through k w v false has is = absurd (cc)

pub of_kind-is : (k : Kind) (o : Option Value) (v : Value) → of_kind k o ≡ Some v → HasKind k v
of_kind-is k None v is = absurd (cc)
of_kind-is k (Some w) v is = let_through k w v (has_kind k w) refl is

-- each link is of the kind that leads to its target
abbrev AreTyped : List Link → Type 0
AreTyped [] = Unit {0}
AreTyped (link ∷ links) = (kind_of_field link.field ≡ kind.Ref link.target) × AreTyped links

abbrev IsTyped : Route → Type 0
IsTyped route = AreTyped route.links × (kind_of_field route.field ≡ route.kind)

AreTyped-append : (front back : List Link) → AreTyped front → AreTyped back → AreTyped (front ++ back)
AreTyped-append [] back f b = b
AreTyped-append (link ∷ front) back f b = (f.0, AreTyped-append front back f.1 b)

step_typed : (at : ℕ) (f : Found) (route : Route) → IsTyped (step_route f) → step_of at (Some f) ≡ Ok route → IsTyped route
step_typed at f route typed is = subst IsTyped (when_ok f.usable (step_route f) route (fault.Name at) is) typed

own_typed : (at : ℕ) (f : FieldNo) (own owners : Bool) (route : Route)
    → step_of at (cond own (Some (found None f)) (cond owners (Some (found (Some (field_no 16, person)) f)) None)) ≡ Ok route → IsTyped route
own_typed at f true owners route is = step_typed at (found None f) route (tt, refl) is
own_typed at f false true route is = step_typed at (found (Some (field_no 16, person)) f) route ((refl, tt), refl) is
own_typed at f false false route is = absurd (refused (fault.Name at) route is)

found_typed : (at : ℕ) (model : ModelNo) (entry : Option Entry) (route : Route) → step_of at (found_of model entry) ≡ Ok route → IsTyped route
found_typed at model None route is = absurd (refused (fault.Name at) route is)
found_typed at model (Some e) route is = own_typed at e.field _ _ route is

on_typed : (at : ℕ) (rest : ModelNo → Result Route TypeFault) (step : Route) (k : Kind) (route : Route) → step.kind ≡ k → IsTyped step
    → ((target : ModelNo) (end : Route) → rest target ≡ Ok end → IsTyped end) → step_on at rest step k ≡ Ok route → IsTyped route
on_typed at rest step (kind.Ref target) route same typed more is =
    let t = then_ok (rest target) (λ end. Ok (behind (through step target) end)) route is in
    let end = more target t.0 t.1 in
    let front = AreTyped-append step.links (record { field = step.field; target = target } ∷ []) typed.0 (typed.1 ∙ same, tt) in
    subst IsTyped (same_ok (behind (through step target) t.0) route t.2) (AreTyped-append (through step target) t.0.links front end.0, end.1)
on_typed at rest step _ route same typed more is = absurd (refused (fault.Kind at) route is)

route_typed : (entries : List Entry) (at : ℕ) (model : ModelNo) (names : List (List ℕ)) (route : Route) → route_of (finds entries) at model names ≡ Ok route → IsTyped route
route_typed entries at model [] route is = absurd (refused (fault.Name at) route is)
route_typed entries at model (name ∷ []) route is = found_typed at model (find (has_name name) entries) route is
route_typed entries at model (name ∷ next ∷ names) route is =
    let t = then_ok (step_of at (finds entries model name)) (λ step. step_on at (λ target. route_of (finds entries) at target (next ∷ names)) step step.kind) route is in
    on_typed at (λ target. route_of (finds entries) at target (next ∷ names)) t.0 t.0.kind route refl (found_typed at model (find (has_name name) entries) t.0 t.1)
    (λ target end e. route_typed entries at target (next ∷ names) end e) t.2

-- where each cell may be read, so may those to which an evaluation comes
pub may_read : (held : Cell → Option Value) → ((cell : Cell) (v : Value) → held cell ≡ Some v → HasKind (kind_of_field cell.field) v)
    → ((tree : TypedTree) → ComesToPaths tree) → (row : Row) (tree : TypedTree) → MayRead held (λ _. IsTrue true) row tree
may_read held holds law row tree = law tree held (λ _. true) row (λ cell along. refl)

-- what the cells hold, each of its field's kind
module _ (entries : List Entry) (held : Cell → Option Value) (holds : (cell : Cell) (v : Value) → held cell ≡ Some v → HasKind (kind_of_field cell.field) v) where
  field_holds : (model : ModelNo) (f : FieldNo) → FieldHolds held model f (kind_of_field f)
  field_holds model f id v is = holds (cell_in (row_at model id) f) v is

  path_holds : (model : ModelNo) (links : List Link) (f : FieldNo) (k : Kind) → AreTyped links → kind_of_field f ≡ k → PathHolds held model links f k
  path_holds model [] f k typed is = subst (FieldHolds held model f) is (field_holds model f)
  path_holds model (link ∷ links) f k typed is =
      (subst (FieldHolds held model link.field) typed.0 (field_holds model link.field), path_holds link.target links f k typed.1 is)

  route_holds : (model : ModelNo) (route : Route) → (names : List (List ℕ)) × (route_of (finds entries) 0 model names ≡ Ok route) → PathHolds held model route.links route.field route.kind
  route_holds model route named =
      let typed = route_typed entries 0 model named.0 route named.1 in
      path_holds model route.links route.field route.kind typed.0 typed.1

  mutual
    pub holds_kinds : (model : ModelNo) (tree : TypedTree) → AreFound (finds entries) model tree → HoldsKinds held model tree
    holds_kinds model row_id are = tt
    holds_kinds model (integer n) are = tt
    holds_kinds model (a_text bytes) are = tt
    holds_kinds model (truth b) are = tt
    holds_kinds model (unset k) are = tt
    holds_kinds model (path route) are = route_holds model route are
    holds_kinds model (prefix word inner) are = holds_kinds model inner are
    holds_kinds model (binary op left right) are = (holds_kinds model left are.0, holds_kinds model right are.1)
    holds_kinds model (chosen which left right) are = (holds_kinds model left are.0, holds_kinds model right are.1)
    holds_kinds model (choice condition first second) are = (holds_kinds model condition are.0, holds_kinds model first are.1, holds_kinds model second are.2)
    holds_kinds model (joined all) are = all_hold model all are
    holds_kinds model (digits inner) are = holds_kinds model inner are
    holds_kinds model (over aggregate route target inner) are = (route_holds model route are.0, holds_kinds target inner are.1)

    all_hold : (model : ModelNo) (all : TypedTrees) → EachPathOfAll (IsFound (finds entries)) model all → EachPathOfAll (λ from route. PathHolds held from route.links route.field route.kind) model all
    all_hold model no_trees are = tt
    all_hold model (one_more tree rest) are = (holds_kinds model tree are.0, all_hold model rest are.1)
