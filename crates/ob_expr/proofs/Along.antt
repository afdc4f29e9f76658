-- What an expression means depends on the cells along its paths alone. Crates above have it as a clause of `reads_along_paths`.
use Rattle.std.proofs.Common.{◌≡◌, inl, inr, refl, sym, subst, ap, ◌∙◌, List, [], ◌∷◌, ◌++◌, map, cond, Option, Some, None, Result, Ok, Err, IsOk}
use Rattle.ob_base.specs.declared.id.Cell.{Cell}
use Rattle.ob_base.specs.declared.id.FieldNo.{FieldNo}
use Rattle.ob_base.specs.declared.id.ModelNo.{ModelNo}
use Rattle.ob_base.specs.declared.id.RecId.{RecId}
use Rattle.ob_base.specs.declared.value.Value.{Value}
use Rattle.ob_base.specs.declared.value.Value.TheVariants as value
use Rattle.ob_expr.specs.declared.kind.Kind.{Kind}
use Rattle.ob_expr.specs.declared.kind.Kind.TheVariants as kind
use Rattle.ob_expr.specs.declared.row.Row.{Row}
use Rattle.ob_expr.specs.declared.typed.Link.{Link}
use Rattle.ob_expr.specs.Chain.{and_then, each}
use Rattle.ob_expr.specs.Computing.{Lack, joined_value, digits_value, is_true, prefixed_value, decides, operated_value, chosen_value, gathered_value}
use Rattle.ob_expr.specs.Kinds.{empty_value}
use Rattle.ob_expr.specs.Meaning.{cell_in, row_at, ids_of, follow, value_at, at_end, path_value, meaning, values_of}
use Rattle.ob_expr.specs.Reads.{EachInTurn, IsAmong, LeadsTo, IsAlongPath, IsAlongAny, MayReadPath, MayRead, MayReadAll}
use Rattle.ob_expr.specs.Route.{Route, through, behind}
use Rattle.ob_expr.specs.TypedTree.{TypedTree, TypedTrees, no_trees, one_more, row_id, integer, a_text, truth, unset, path, prefix, binary, chosen, choice, joined, digits, over, kind_of, paths_of, paths_of_all}
use Rattle.ob_expr.proofs.Outcomes.{then_ok, valued}

-- along some of the paths is along all of them
along-left : (held : Cell → Option Value) (row : Row) (xs ys : List Route) (c : Cell) → IsAlongAny held row xs c → IsAlongAny held row (xs ++ ys) c
along-left held row [] ys c along = absurd along
along-left held row (x ∷ xs) ys c (inl here) = inl here
along-left held row (x ∷ xs) ys c (inr later) = inr (along-left held row xs ys c later)

along-right : (held : Cell → Option Value) (row : Row) (xs ys : List Route) (c : Cell) → IsAlongAny held row ys c → IsAlongAny held row (xs ++ ys) c
along-right held row [] ys c along = along
along-right held row (x ∷ xs) ys c along = inr (along-right held row xs ys c along)

-- behind a link, only the rows that it leads to count
after_link : (c : Cell) (o : Option Value) (f g : RecId → Result Value Lack) (ended : Result Value Lack) → ((id : RecId) → LeadsTo o id → f id ≡ g id)
    → and_then (value_at c o) (follow f ended) ≡ and_then (value_at c o) (follow g ended)
after_link c None f g ended agree = refl
after_link c (Some (value.Ref id)) f g ended agree = agree id refl
after_link c (Some _) f g ended agree = refl

-- a path has the same value
same_path : (held other : Cell → Option Value) (row : Row) (links : List Link) (field : FieldNo) (k : Kind) → ((c : Cell) → IsAlongPath held row links field c → other c ≡ held c)
    → at_end other row links field k ≡ at_end held row links field k
same_path held other row [] field k same = ap (value_at (cell_in row field)) (same (cell_in row field) refl)
same_path held other row (link ∷ links) field k same =
    let c = cell_in row link.field in
    let here : other c ≡ held c = same c (inl refl) in
    let f = λ (id : RecId). at_end other (row_at link.target id) links field k in
    let g = λ (id : RecId). at_end held (row_at link.target id) links field k in
    ap (λ (o : Option Value). and_then (value_at c o) (follow f (Ok (empty_value k)))) here
    ∙ after_link c (held c) f g (Ok (empty_value k)) (λ id leads. same_path held other (row_at link.target id) links field k (λ d along. same d (inr (id, leads, along))))

-- the rows at the end of a path are those of its value
among_none : (k : Kind) (id : RecId) → IsAmong id (ids_of (empty_value k)) → ⊥
among_none kind.Bool id among = among
among_none kind.Int id among = among
among_none kind.Word id among = among
among_none kind.Day id among = among
among_none kind.Moment id among = among
among_none (kind.Ref model) id among = among
among_none (kind.Refs model) id among = among

leads_to : (w : Value) (id : RecId) → IsAmong id (ids_of w) → LeadsTo (Some w) id
leads_to (value.Refs ids) id among = among
leads_to value.Nil id among = absurd among
leads_to (value.Bool b) id among = absurd among
leads_to (value.Int n) id among = absurd among
leads_to (value.Word bytes) id among = absurd among
leads_to (value.Day n) id among = absurd among
leads_to (value.Moment n) id among = absurd among
leads_to (value.Ref other) id among = absurd among

leads_at : (c : Cell) (o : Option Value) (targets : Value) (id : RecId) → value_at c o ≡ Ok targets → IsAmong id (ids_of targets) → LeadsTo o id
leads_at c None targets id is among = absurd (cc)
leads_at c (Some v) targets id is among =
    let same : v ≡ targets = cc in
    let P : Value → Type 0 = λ w. IsAmong id (ids_of w) in
    leads_to v id (subst P (sym same) among)

leads_ref : (c : Cell) (o : Option Value) (s : Value) (to : RecId) → value_at c o ≡ Ok s → s ≡ value.Ref to → LeadsTo o to
leads_ref c None s to is ref = absurd (cc)
leads_ref c (Some v) s to is ref =
    let same : v ≡ value.Ref to = cc in
    let P : Value → Type 0 = λ w. LeadsTo (Some w) to in
    subst P (sym same) refl

ended_at : (k : Kind) (targets : Value) (id : RecId) → valued (empty_value k) ≡ Ok targets → IsAmong id (ids_of targets) → ⊥
ended_at k targets id is among =
    let same : empty_value k ≡ targets = cc in
    let P : Value → Type 0 = λ w. IsAmong id (ids_of w) in
    among_none k id (subst P (sym same) among)

-- where a path has targets, each of its links is set
followed : (P : Type 0) (next : RecId → Result Value Lack) (k : Kind) (s targets : Value) (id : RecId) → IsAmong id (ids_of targets)
    → ((to : RecId) → s ≡ value.Ref to → next to ≡ Ok targets → P) → follow next (Ok (empty_value k)) s ≡ Ok targets → P
followed P next k (value.Ref to) targets id among go on = go to refl on
followed P next k value.Nil targets id among go on = absurd (ended_at k targets id on among)
followed P next k (value.Bool b) targets id among go on = absurd (ended_at k targets id on among)
followed P next k (value.Int n) targets id among go on = absurd (ended_at k targets id on among)
followed P next k (value.Word bytes) targets id among go on = absurd (ended_at k targets id on among)
followed P next k (value.Day n) targets id among go on = absurd (ended_at k targets id on among)
followed P next k (value.Moment n) targets id among go on = absurd (ended_at k targets id on among)
followed P next k (value.Refs ids) targets id among go on = absurd (ended_at k targets id on among)

-- what lies along a path from a target lies along the path through it
reached : (held : Cell → Option Value) (target : ModelNo) (links : List Link) (field : FieldNo) (c : Cell) (row : Row) (before : List Link) (last : FieldNo) (k : Kind) (targets : Value) (id : RecId)
    → at_end held row before last k ≡ Ok targets → IsAmong id (ids_of targets) → IsAlongPath held (row_at target id) links field c
    → IsAlongPath held row ((before ++ record { field = last; target = target } ∷ []) ++ links) field c
reached held target links field c row [] last k targets id is among along = inr (id, leads_at (cell_in row last) (held (cell_in row last)) targets id is among, along)
reached held target links field c row (link ∷ before) last k targets id is among along =
    let here = cell_in row link.field in
    let next = λ (to : RecId). at_end held (row_at link.target to) before last k in
    let t = then_ok (value_at here (held here)) (follow next (Ok (empty_value k))) targets is in
    followed (IsAlongPath held row ((link ∷ before ++ record { field = last; target = target } ∷ []) ++ links) field c) next k t.0 targets id among
    (λ to ref on. inr (to, leads_ref here (held here) t.0 to t.1 ref, reached held target links field c (row_at link.target to) before last k targets id on among along)) t.2

any_reached : (held : Cell → Option Value) (target : ModelNo) (c : Cell) (row : Row) (route : Route) (targets : Value) (id : RecId) (routes : List Route)
    → path_value held row route ≡ Ok targets → IsAmong id (ids_of targets) → IsAlongAny held (row_at target id) routes c
    → IsAlongAny held row (map (behind (through route target)) routes) c
any_reached held target c row route targets id [] is among along = absurd along
any_reached held target c row route targets id (first ∷ routes) is among (inl here) =
    inl (reached held target first.links first.field c row route.links route.field route.kind targets id is among here)
any_reached held target c row route targets id (first ∷ routes) is among (inr later) = inr (any_reached held target c row route targets id routes is among later)

each_same : (f g : RecId → Result Value Lack) (ids : List RecId) → ((id : RecId) → IsAmong id ids → f id ≡ g id) → each f ids ≡ each g ids
each_same f g [] same = refl
each_same f g (id ∷ ids) same =
    ap (λ (m : Result Value Lack). and_then m (λ v. and_then (each f ids) (λ vs. Ok (v ∷ vs)))) (same id (inl refl))
    ∙ ap (λ (m : Result (List Value) Lack). and_then (g id) (λ v. and_then m (λ vs. Ok (v ∷ vs)))) (each_same f g ids (λ other among. same other (inr among)))

after_same : {A B : Type 0} (m : Result A Lack) (f g : A → Result B Lack) → ((a : A) → m ≡ Ok a → f a ≡ g a) → and_then m f ≡ and_then m g
after_same (Ok a) f g same = same a refl
after_same (Err lack) f g same = refl

module _ (held other : Cell → Option Value) where
  abbrev IsSame : Row → List Route → Type 0
  IsSame row routes = (c : Cell) → IsAlongAny held row routes c → other c ≡ held c

  mutual
    pub same_meaning : (row : Row) (tree : TypedTree) → IsSame row (paths_of tree) → meaning other row tree ≡ meaning held row tree
    same_meaning row row_id same = refl
    same_meaning row (integer n) same = refl
    same_meaning row (a_text bytes) same = refl
    same_meaning row (truth b) same = refl
    same_meaning row (unset k) same = refl
    same_meaning row (path route) same = same_path held other row route.links route.field route.kind (λ c along. same c (inl along))
    same_meaning row (prefix word inner) same = ap (λ (m : Result Value Lack). and_then m (prefixed_value word)) (same_meaning row inner same)
    same_meaning row (binary op left right) same =
        ap (λ (m : Result Value Lack). and_then m (λ a. cond (decides op a) (Ok a) (and_then (meaning other row right) (operated_value op a))))
        (same_meaning row left (λ c along. same c (along-left held row (paths_of left) (paths_of right) c along)))
        ∙ ap (λ (n : Result Value Lack). and_then (meaning held row left) (λ a. cond (decides op a) (Ok a) (and_then n (operated_value op a))))
        (same_meaning row right (λ c along. same c (along-right held row (paths_of left) (paths_of right) c along)))
    same_meaning row (chosen which left right) same =
        ap (λ (m : Result Value Lack). and_then m (λ a. and_then (meaning other row right) (λ b. Ok (chosen_value which a b))))
        (same_meaning row left (λ c along. same c (along-left held row (paths_of left) (paths_of right) c along)))
        ∙ ap (λ (n : Result Value Lack). and_then (meaning held row left) (λ a. and_then n (λ b. Ok (chosen_value which a b))))
        (same_meaning row right (λ c along. same c (along-right held row (paths_of left) (paths_of right) c along)))
    same_meaning row (choice condition first second) same =
        let front = λ (c : Cell) (along : IsAlongAny held row (paths_of condition ++ paths_of first) c).
        same c (along-left held row (paths_of condition ++ paths_of first) (paths_of second) c along) in
        ap (λ (m : Result Value Lack). and_then m (λ c. cond (is_true c) (meaning other row first) (meaning other row second)))
        (same_meaning row condition (λ c along. front c (along-left held row (paths_of condition) (paths_of first) c along)))
        ∙ ap (λ (m : Result Value Lack). and_then (meaning held row condition) (λ c. cond (is_true c) m (meaning other row second)))
        (same_meaning row first (λ c along. front c (along-right held row (paths_of condition) (paths_of first) c along)))
        ∙ ap (λ (m : Result Value Lack). and_then (meaning held row condition) (λ c. cond (is_true c) (meaning held row first) m))
        (same_meaning row second (λ c along. same c (along-right held row (paths_of condition ++ paths_of first) (paths_of second) c along)))
    same_meaning row (joined all) same = ap (λ (m : Result (List Value) Lack). and_then m joined_value) (same_values row all same)
    same_meaning row (digits inner) same = ap (λ (m : Result Value Lack). and_then m (λ n. Ok (digits_value n))) (same_meaning row inner same)
    same_meaning row (over aggregate route target inner) same =
        let made = λ (cells : Cell → Option Value) (targets : Value). and_then (each (λ id. meaning cells (row_at target id) inner) (ids_of targets)) (gathered_value aggregate (kind_of inner)) in
        ap (λ (m : Result Value Lack). and_then m (made other)) (same_path held other row route.links route.field route.kind (λ c along. same c (inl along)))
        ∙ after_same (path_value held row route) (made other) (made held) (λ targets is.
        ap (λ (m : Result (List Value) Lack). and_then m (gathered_value aggregate (kind_of inner)))
        (each_same (λ id. meaning other (row_at target id) inner) (λ id. meaning held (row_at target id) inner) (ids_of targets)
        (λ id among. same_meaning (row_at target id) inner (λ c along. same c (inr (any_reached held target c row route targets id (paths_of inner) is among along))))))

    same_values : (row : Row) (all : TypedTrees) → IsSame row (paths_of_all all) → values_of other row all ≡ values_of held row all
    same_values row no_trees same = refl
    same_values row (one_more tree rest) same =
        ap (λ (m : Result Value Lack). and_then m (λ v. and_then (values_of other row rest) (λ vs. Ok (v ∷ vs))))
        (same_meaning row tree (λ c along. same c (along-left held row (paths_of tree) (paths_of_all rest) c along)))
        ∙ ap (λ (n : Result (List Value) Lack). and_then (meaning held row tree) (λ v. and_then n (λ vs. Ok (v ∷ vs))))
        (same_values row rest (λ c along. same c (along-right held row (paths_of tree) (paths_of_all rest) c along)))

turn_of_all : (HasValue May : RecId → Type 0) (ids : List RecId) → ((id : RecId) → IsAmong id ids → May id) → EachInTurn HasValue May ids
turn_of_all HasValue May [] all = tt
turn_of_all HasValue May (id ∷ ids) all = (all id (inl refl), λ has. turn_of_all HasValue May ids (λ other among. all other (inr among)))

module _ (held : Cell → Option Value) (P : Cell → Type 0) where
  abbrev AreAll : Row → List Route → Type 0
  AreAll row routes = (c : Cell) → IsAlongAny held row routes c → P c

  may_path : (row : Row) (links : List Link) (field : FieldNo) → ((c : Cell) → IsAlongPath held row links field c → P c) → MayReadPath held P row links field
  may_path row [] field all = all (cell_in row field) refl
  may_path row (link ∷ links) field all = (
    all (cell_in row link.field) (inl refl),
    λ id is. may_path (row_at link.target id) links field
        (λ c along. all c (inr (id, (let L : Option Value → Type 0 = λ o. LeadsTo o id in subst L (sym is) refl), along))),
  )

  mutual
    pub comes_to : (row : Row) (tree : TypedTree) → AreAll row (paths_of tree) → MayRead held P row tree
    comes_to row row_id all = tt
    comes_to row (integer n) all = tt
    comes_to row (a_text bytes) all = tt
    comes_to row (truth b) all = tt
    comes_to row (unset k) all = tt
    comes_to row (path route) all = may_path row route.links route.field (λ c along. all c (inl along))
    comes_to row (prefix word inner) all = comes_to row inner all
    comes_to row (binary op left right) all = (
      comes_to row left (λ c along. all c (along-left held row (paths_of left) (paths_of right) c along)),
      λ a is not. comes_to row right (λ c along. all c (along-right held row (paths_of left) (paths_of right) c along)),
    )
    comes_to row (chosen which left right) all = (
      comes_to row left (λ c along. all c (along-left held row (paths_of left) (paths_of right) c along)),
      λ is. comes_to row right (λ c along. all c (along-right held row (paths_of left) (paths_of right) c along)),
    )
    comes_to row (choice condition first second) all =
        let front = λ (c : Cell) (along : IsAlongAny held row (paths_of condition ++ paths_of first) c).
        all c (along-left held row (paths_of condition ++ paths_of first) (paths_of second) c along) in (
          comes_to row condition (λ c along. front c (along-left held row (paths_of condition) (paths_of first) c along)),
          λ v is holds. comes_to row first (λ c along. front c (along-right held row (paths_of condition) (paths_of first) c along)),
          λ v is holds. comes_to row second (λ c along. all c (along-right held row (paths_of condition ++ paths_of first) (paths_of second) c along)),
        )
    comes_to row (joined parts) all = comes_to_all row parts all
    comes_to row (digits inner) all = comes_to row inner all
    comes_to row (over aggregate route target inner) all = (
      may_path row route.links route.field (λ c along. all c (inl along)),
      λ targets is.
          turn_of_all (λ id. IsOk (meaning held (row_at target id) inner)) (λ id. MayRead held P (row_at target id) inner) (ids_of targets)
          (λ id among. comes_to (row_at target id) inner (λ c along. all c (inr (any_reached held target c row route targets id (paths_of inner) is among along)))),
    )

    comes_to_all : (row : Row) (parts : TypedTrees) → AreAll row (paths_of_all parts) → MayReadAll held P row parts
    comes_to_all row no_trees all = tt
    comes_to_all row (one_more tree rest) all = (
      comes_to row tree (λ c along. all c (along-left held row (paths_of tree) (paths_of_all rest) c along)),
      λ has. comes_to_all row rest (λ c along. all c (along-right held row (paths_of tree) (paths_of_all rest) c along)),
    )
