-- What the checker accepts is well kinded, and its paths are ones that names stand for.
use Rattle.std.proofs.Common.{◌≡◌, ℕ, List, [], ◌∷◌, Bool, true, false, IsTrue, cond, Option, Some, None, Result, Ok, Err, refl, sym, ap, subst, eqb, eqb-true}
use Rattle.ob_base.specs.declared.id.ModelNo.{ModelNo}
use Rattle.ob_expr.specs.declared.checker.TypeFault.{TypeFault}
use Rattle.ob_expr.specs.declared.checker.TypeFault.TheVariants as fault
use Rattle.ob_expr.specs.declared.function.Function.{Function}
use Rattle.ob_expr.specs.declared.function.Function.TheVariants as function
use Rattle.ob_expr.specs.declared.kind.Found.{Found}
use Rattle.ob_expr.specs.declared.kind.Kind.{Kind}
use Rattle.ob_expr.specs.declared.kind.Kind.TheVariants as kind
use Rattle.ob_base.specs.declared.syntax.Operator.{Operator}
use Rattle.ob_base.specs.declared.syntax.Operator.TheVariants.{Equal, NotEqual}
use Rattle.ob_base.specs.declared.syntax.Prefix.{Prefix}
use Rattle.ob_expr.specs.declared.typed.Aggregate.{Aggregate}
use Rattle.ob_expr.specs.declared.typed.Aggregate.TheVariants.{Count}
use Rattle.ob_expr.specs.Chain.{and_then, each}
use Rattle.ob_expr.specs.Checking.{AreFound, IsFound, unset_beside, beside, both, operands_of, of_kind, prefixed, operated, called, counted, gathered, targets_along, targets_of, by_function, is_row_id, route_of, part_of, part_over, part_gathered, parts_of, typed_of, whole}
use Rattle.ob_expr.specs.Functions.{function_of}
use Rattle.ob_base.specs.Syntax.{Tree, Arguments, no_arguments, argument, offset_of_tree}
use Rattle.ob_base.specs.Syntax.{integer as an_integer, a_text as some_text, truth as a_truth, unset as an_unset, path as a_path, prefix as a_prefix, binary as a_binary, call as a_call}
use Rattle.ob_expr.specs.Kinds.{can_be_unset, same_kind}
use Rattle.ob_expr.specs.Route.{Route}
use Rattle.ob_expr.specs.TypedTree.{TypedTree, all_of, row_id, integer, a_text, truth, unset, path, prefix, binary, chosen, choice, joined, digits, over, kind_of, prefix_kind, takes, gathers, IsWellKinded, AreTexts, EachPathOfAll}
use Rattle.ob_expr.proofs.Outcomes.{then_ok}
use Rattle.ob_expr.proofs.Routes.{route_anywhere}

abbrev accepted : {A : Type 0} → A → Result A TypeFault
accepted a = Ok a

refused : {A : Type 0} (e : TypeFault) (a : A) → Err e ≡ accepted a → ⊥
refused e a is = cc

-- equal kinds, as the definitions test them
ref_same : (a b : ModelNo) → eqb a.0 b.0 ≡ true → kind.Ref a ≡ kind.Ref b
ref_same a b is = ap (λ (n : ℕ). kind.Ref (record { 0 = n })) (eqb-true a.0 b.0 is)

refs_same : (a b : ModelNo) → eqb a.0 b.0 ≡ true → kind.Refs a ≡ kind.Refs b
refs_same a b is = ap (λ (n : ℕ). kind.Refs (record { 0 = n })) (eqb-true a.0 b.0 is)

pub same_kind-is : (a b : Kind) → IsTrue (same_kind a b) → a ≡ b
same_kind-is kind.Bool kind.Bool is = refl
same_kind-is kind.Int kind.Int is = refl
same_kind-is kind.Word kind.Word is = refl
same_kind-is kind.Day kind.Day is = refl
same_kind-is kind.Moment kind.Moment is = refl
same_kind-is (kind.Ref a) (kind.Ref b) is = ref_same a b is
same_kind-is (kind.Refs a) (kind.Refs b) is = refs_same a b is
same_kind-is _ _ is = absurd (cc)

-- what a test lets through
pub when_ok : {A : Type 0} (b : Bool) (x y : A) (e : TypeFault) → cond b (Ok x) (Err e) ≡ Ok y → (b ≡ true) × (x ≡ y)
when_ok true x y e is = let last : accepted x ≡ Ok y = is in (refl, cc)
when_ok false x y e is = absurd (refused e y is)

pub same_ok : {A : Type 0} (x y : A) → accepted x ≡ Ok y → x ≡ y
same_ok x y is = cc

module _ (finds : ModelNo → List ℕ → Option Found) (model : ModelNo) where
  -- a checked expression is well kinded, of paths that are found
  abbrev pub IsSound : TypedTree → Type 0
  IsSound tree = IsWellKinded tree × AreFound finds model tree

  -- so is a part that is there
  abbrev pub IsPart : Option TypedTree → Type 0
  IsPart None = Unit {0}
  IsPart (Some tree) = IsSound tree

  -- all parts that are there
  abbrev pub AreParts : List (Option TypedTree) → Type 0
  AreParts [] = Unit {0}
  AreParts (part ∷ parts) = IsPart part × AreParts parts

  -- two operands of one kind
  abbrev pub AreBeside : TypedTree × TypedTree → Type 0
  AreBeside two = (kind_of two.1 ≡ kind_of two.0) × IsSound two.0 × IsSound two.1

  pair_ok : (b : Bool) (x : TypedTree × TypedTree) (e : TypeFault) (two : TypedTree × TypedTree) → (b ≡ true → AreBeside x) → cond b (Ok x) (Err e) ≡ Ok two → AreBeside two
  pair_ok b x e two of is = let w = when_ok b x two e is in subst AreBeside w.1 (of w.0)

  unset_beside_ok : (at : ℕ) (tree u : TypedTree) → unset_beside at tree ≡ Ok u → (kind_of u ≡ kind_of tree) × IsSound u
  unset_beside_ok at tree u is =
      let w = when_ok (can_be_unset (kind_of tree)) (unset (kind_of tree)) u (fault.Kind at) is in
      let P : TypedTree → Type 0 = λ x. (kind_of x ≡ kind_of tree) × IsSound x in
      subst P w.1 (refl, (w.0, tt))

  two_ok : (x two : TypedTree × TypedTree) → AreBeside x → accepted x ≡ Ok two → AreBeside two
  two_ok x two well is = subst AreBeside (same_ok x two is) well

  beside_ok : (at : ℕ) (a b : Option TypedTree) (two : TypedTree × TypedTree) → IsPart a → IsPart b → beside at a b ≡ Ok two → AreBeside two
  beside_ok at (Some a) (Some b) two p q is = pair_ok (same_kind (kind_of a) (kind_of b)) (a, b) (fault.Kind at) two (λ same. (sym (same_kind-is (kind_of a) (kind_of b) same), p, q)) is
  beside_ok at (Some a) None two p q is =
      let t = then_ok (unset_beside at a) (λ u. Ok (a, u)) two is in
      let u = unset_beside_ok at a t.0 t.1 in
      two_ok (a, t.0) two (u.0, p, u.1) t.2
  beside_ok at None (Some b) two p q is =
      let t = then_ok (unset_beside at b) (λ u. Ok (u, b)) two is in
      let u = unset_beside_ok at b t.0 t.1 in
      two_ok (t.0, b) two (sym u.0, u.1, q) t.2
  beside_ok at None None two p q is = absurd (refused (fault.Kind at) two is)

  both_ok : (at : ℕ) (a b : Option TypedTree) (two : TypedTree × TypedTree) → IsPart a → IsPart b → both at a b ≡ Ok two → AreBeside two
  both_ok at (Some a) (Some b) two p q is = pair_ok (same_kind (kind_of a) (kind_of b)) (a, b) (fault.Kind at) two (λ same. (sym (same_kind-is (kind_of a) (kind_of b) same), p, q)) is
  both_ok at (Some a) None two p q is = absurd (refused (fault.Kind at) two is)
  both_ok at None b two p q is = absurd (refused (fault.Kind at) two is)

  operands_ok : (at : ℕ) (op : Operator) (a b : Option TypedTree) (two : TypedTree × TypedTree) → IsPart a → IsPart b → operands_of at op a b ≡ Ok two → AreBeside two
  operands_ok at Equal a b two p q is = beside_ok at a b two p q is
  operands_ok at NotEqual a b two p q is = beside_ok at a b two p q is
  operands_ok at _ a b two p q is = both_ok at a b two p q is

  part_is : (x : TypedTree) (o : Option TypedTree) → IsSound x → Some x ≡ o → IsPart o
  part_is x o sound is = subst IsPart is sound

  leaf_ok : (x : TypedTree) (o : Option TypedTree) → IsSound x → accepted (Some x) ≡ Ok o → IsPart o
  leaf_ok x o sound is = part_is x o sound (same_ok (Some x) o is)

  of_kind_ok : (at : ℕ) (k : Kind) (part : Option TypedTree) (tree : TypedTree) → IsPart part → of_kind at k part ≡ Ok tree → (kind_of tree ≡ k) × IsSound tree
  of_kind_ok at k None tree p is = absurd (refused (fault.Kind at) tree is)
  of_kind_ok at k (Some t) tree p is =
      let w = when_ok (same_kind (kind_of t) k) t tree (fault.Kind at) is in
      let P : TypedTree → Type 0 = λ x. (kind_of x ≡ k) × IsSound x in
      subst P w.1 (same_kind-is (kind_of t) k w.0, p)

  prefixed_ok : (at : ℕ) (word : Prefix) (a o : Option TypedTree) → IsPart a → prefixed at word a ≡ Ok o → IsPart o
  prefixed_ok at word a o p is =
      let t = then_ok (of_kind at (prefix_kind word) a) (λ inner. Ok (Some (prefix word inner))) o is in
      let inner = of_kind_ok at (prefix_kind word) a t.0 p t.1 in
      leaf_ok (prefix word t.0) o ((inner.0, inner.1.0), inner.1.1) t.2

  operated_ok : (at : ℕ) (op : Operator) (a b o : Option TypedTree) → IsPart a → IsPart b → operated at op a b ≡ Ok o → IsPart o
  operated_ok at op a b o p q is =
      let t = then_ok (operands_of at op a b) (λ two. cond (takes op (kind_of two.0)) (Ok (Some (binary op two.0 two.1))) (Err (fault.Kind at))) o is in
      let two = operands_ok at op a b t.0 p q t.1 in
      let w = when_ok (takes op (kind_of t.0.0)) (Some (binary op t.0.0 t.0.1)) o (fault.Kind at) t.2 in
      part_is (binary op t.0.0 t.0.1) o ((w.0, two.0, two.1.0, two.2.0), (two.1.1, two.2.1)) w.1

  texts_ok : (at : ℕ) (parts : List (Option TypedTree)) (trees : List TypedTree) → AreParts parts → each (of_kind at kind.Word) parts ≡ Ok trees
      → AreTexts (all_of trees) × EachPathOfAll (IsFound finds) model (all_of trees)
  texts_ok at [] trees ps is =
      let P : List TypedTree → Type 0 = λ ts. AreTexts (all_of ts) × EachPathOfAll (IsFound finds) model (all_of ts) in
      subst P (same_ok [] trees is) (tt, tt)
  texts_ok at (part ∷ parts) trees ps is =
      let P : List TypedTree → Type 0 = λ ts. AreTexts (all_of ts) × EachPathOfAll (IsFound finds) model (all_of ts) in
      let t = then_ok (of_kind at kind.Word part) (λ text. and_then (each (of_kind at kind.Word) parts) (λ texts. Ok (text ∷ texts))) trees is in
      let u = then_ok (each (of_kind at kind.Word) parts) (λ texts. Ok (t.0 ∷ texts)) trees t.2 in
      let text = of_kind_ok at kind.Word part t.0 ps.0 t.1 in
      let rest = texts_ok at parts u.0 ps.1 u.1 in
      subst P (same_ok (t.0 ∷ u.0) trees u.2) ((text.0, text.1.0, rest.0), (text.1.1, rest.1))

  called_ok : (at : ℕ) (f : Option Function) (parts : List (Option TypedTree)) (o : Option TypedTree) → AreParts parts → called at f parts ≡ Ok o → IsPart o
  called_ok at None parts o ps is = absurd (refused (fault.Name at) o is)
  called_ok at (Some function.If) (c ∷ a ∷ b ∷ []) o ps is =
      let t = then_ok (of_kind at kind.Bool c) (λ c. and_then (beside at a b) (λ two. Ok (Some (choice c two.0 two.1)))) o is in
      let u = then_ok (beside at a b) (λ two. Ok (Some (choice t.0 two.0 two.1))) o t.2 in
      let condition = of_kind_ok at kind.Bool c t.0 ps.0 t.1 in
      let two = beside_ok at a b u.0 ps.1.0 ps.1.1.0 u.1 in
      leaf_ok (choice t.0 u.0.0 u.0.1) o ((condition.0, two.0, condition.1.0, two.1.0, two.2.0), (condition.1.1, two.1.1, two.2.1)) u.2
  called_ok at (Some function.Cat) parts o ps is =
      let t = then_ok (each (of_kind at kind.Word) parts) (λ texts. Ok (Some (joined (all_of texts)))) o is in
      leaf_ok (joined (all_of t.0)) o (texts_ok at parts t.0 ps t.1) t.2
  called_ok at (Some function.Text) (n ∷ []) o ps is =
      let t = then_ok (of_kind at kind.Int n) (λ n. Ok (Some (digits n))) o is in
      let number = of_kind_ok at kind.Int n t.0 ps.0 t.1 in
      leaf_ok (digits t.0) o ((number.0, number.1.0), number.1.1) t.2
  called_ok at (Some (function.Chosen which)) (a ∷ b ∷ []) o ps is =
      let t = then_ok (of_kind at kind.Int a) (λ a. and_then (of_kind at kind.Int b) (λ b. Ok (Some (chosen which a b)))) o is in
      let u = then_ok (of_kind at kind.Int b) (λ b. Ok (Some (chosen which t.0 b))) o t.2 in
      let left = of_kind_ok at kind.Int a t.0 ps.0 t.1 in
      let right = of_kind_ok at kind.Int b u.0 ps.1.0 u.1 in
      leaf_ok (chosen which t.0 u.0) o ((left.0, right.0, left.1.0, right.1.0), (left.1.1, right.1.1)) u.2
  called_ok at (Some _) _ o ps is = absurd (refused (fault.Kind at) o is)

  -- a path to rows of a model is found
  along_ok : (at : ℕ) (route : Route) (k : Kind) (to : Route × ModelNo) → route.kind ≡ k → IsFound finds model route → targets_along at route k ≡ Ok to
      → (to.0.kind ≡ kind.Refs to.1) × IsFound finds model to.0
  along_ok at route (kind.Refs target) to same found is =
      let P : Route × ModelNo → Type 0 = λ x. (x.0.kind ≡ kind.Refs x.1) × IsFound finds model x.0 in
      subst P (same_ok (route, target) to is) (same, found)
  along_ok at route _ to same found is = absurd (refused (fault.Kind at) to is)

  targets_ok : (at : ℕ) (part : Option TypedTree) (to : Route × ModelNo) → IsPart part → targets_of at part ≡ Ok to → (to.0.kind ≡ kind.Refs to.1) × IsFound finds model to.0
  targets_ok at (Some (path route)) to p is = along_ok at route route.kind to refl p.1 is
  targets_ok at _ to p is = absurd (refused (fault.Kind at) to is)

  names_ok : (at : ℕ) (names : List (List ℕ)) (b : Bool) (o : Option TypedTree)
      → cond b (Ok (Some row_id)) (and_then (route_of finds at model names) (λ route. Ok (Some (path route)))) ≡ Ok o → IsPart o
  names_ok at names true o is = leaf_ok row_id o (tt, tt) is
  names_ok at names false o is =
      let t = then_ok (route_of finds at model names) (λ route. Ok (Some (path route))) o is in
      leaf_ok (path t.0) o (tt, (names, route_anywhere finds at 0 model names t.0 t.1)) t.2

  by_function_ok : (at : ℕ) (f : Option Function) (parts : Result (List (Option TypedTree)) TypeFault) (over_targets : Aggregate → Result (Option TypedTree) TypeFault) (o : Option TypedTree)
      → ((ps : List (Option TypedTree)) → parts ≡ Ok ps → AreParts ps) → ((aggregate : Aggregate) → over_targets aggregate ≡ Ok o → IsPart o)
      → by_function at f parts over_targets ≡ Ok o → IsPart o
  by_function_ok at (Some (function.Over aggregate)) parts over_targets o of on is = on aggregate is
  by_function_ok at f parts over_targets o of on is =
      let t = then_ok parts (called at f) o is in
      called_ok at f t.0 o (of t.0 t.1) t.2

module _ (finds : ModelNo → List ℕ → Option Found) where
  gathered_ok : (at : ℕ) (aggregate : Aggregate) (model : ModelNo) (route : Route) (target : ModelNo) (a o : Option TypedTree) → route.kind ≡ kind.Refs target → IsFound finds model route
      → IsPart finds target a → gathered at aggregate route target a ≡ Ok o → IsPart finds model o
  gathered_ok at aggregate model route target None o leads found p is = absurd (refused (fault.Kind at) o is)
  gathered_ok at aggregate model route target (Some inner) o leads found p is =
      let w = when_ok (gathers aggregate (kind_of inner)) (Some (over aggregate route target inner)) o (fault.Kind at) is in
      part_is finds model (over aggregate route target inner) o ((w.0, leads, p.0), (found, p.1)) w.1

  counted_ok : (at : ℕ) (aggregate : Aggregate) (model : ModelNo) (route : Route) (target : ModelNo) (o : Option TypedTree) → route.kind ≡ kind.Refs target → IsFound finds model route
      → counted at aggregate route target ≡ Ok o → IsPart finds model o
  counted_ok at Count model route target o leads found is = leaf_ok finds model (over Count route target (truth true)) o ((refl, leads, tt), (found, tt)) is
  counted_ok at _ model route target o leads found is = absurd (refused (fault.Kind at) o is)

  mutual
    pub part_ok : (model : ModelNo) (tree : Tree) (o : Option TypedTree) → part_of finds model tree ≡ Ok o → IsPart finds model o
    part_ok model (an_integer n at) o is = leaf_ok finds model (integer n) o (tt, tt) is
    part_ok model (some_text bytes at) o is = leaf_ok finds model (a_text bytes) o (tt, tt) is
    part_ok model (a_truth b at) o is = leaf_ok finds model (truth b) o (tt, tt) is
    part_ok model (an_unset at) o is = let made = same_ok None o is in subst (IsPart finds model) made tt
    part_ok model (a_path names at) o is = names_ok finds model at names (is_row_id names) o is
    part_ok model (a_prefix word inner at) o is =
        let t = then_ok (part_of finds model inner) (prefixed at word) o is in
        prefixed_ok finds model at word t.0 o (part_ok model inner t.0 t.1) t.2
    part_ok model (a_binary op left right at) o is =
        let t = then_ok (part_of finds model left) (λ a. and_then (part_of finds model right) (operated at op a)) o is in
        let u = then_ok (part_of finds model right) (operated at op t.0) o t.2 in
        operated_ok finds model at op t.0 u.0 o (part_ok model left t.0 t.1) (part_ok model right u.0 u.1) u.2
    part_ok model (a_call name given at) o is =
        by_function_ok finds model at (function_of name) (parts_of finds model given) (λ aggregate. part_over finds aggregate model given at) o (λ ps e. parts_ok model given ps e)
        (λ aggregate e. over_ok aggregate model given at o e) is

    over_ok : (aggregate : Aggregate) (model : ModelNo) (given : Arguments) (at : ℕ) (o : Option TypedTree) → part_over finds aggregate model given at ≡ Ok o → IsPart finds model o
    over_ok aggregate model no_arguments at o is = absurd (refused (fault.Kind at) o is)
    over_ok aggregate model (argument first rest) at o is =
        let t = then_ok (part_of finds model first) (λ part. and_then (targets_of at part) (λ to. part_gathered finds aggregate to.0 to.1 rest at)) o is in
        let u = then_ok (targets_of at t.0) (λ to. part_gathered finds aggregate to.0 to.1 rest at) o t.2 in
        let to = targets_ok finds model at t.0 u.0 (part_ok model first t.0 t.1) u.1 in
        rest_ok aggregate model u.0.0 u.0.1 rest at o to.0 to.1 u.2

    rest_ok : (aggregate : Aggregate) (model : ModelNo) (route : Route) (target : ModelNo) (rest : Arguments) (at : ℕ) (o : Option TypedTree) → route.kind ≡ kind.Refs target
        → IsFound finds model route → part_gathered finds aggregate route target rest at ≡ Ok o → IsPart finds model o
    rest_ok aggregate model route target no_arguments at o leads found is = counted_ok at aggregate model route target o leads found is
    rest_ok aggregate model route target (argument inner no_arguments) at o leads found is =
        let t = then_ok (part_of finds target inner) (gathered at aggregate route target) o is in
        gathered_ok at aggregate model route target t.0 o leads found (part_ok target inner t.0 t.1) t.2
    rest_ok aggregate model route target (argument inner (argument third more)) at o leads found is =
        let t = then_ok (part_of finds target inner) (λ _. Err (fault.Kind at)) o is in
        absurd (refused (fault.Kind at) o t.2)

    parts_ok : (model : ModelNo) (given : Arguments) (ps : List (Option TypedTree)) → parts_of finds model given ≡ Ok ps → AreParts finds model ps
    parts_ok model no_arguments ps is = subst (AreParts finds model) (same_ok [] ps is) tt
    parts_ok model (argument tree rest) ps is =
        let t = then_ok (part_of finds model tree) (λ part. and_then (parts_of finds model rest) (λ parts. Ok (part ∷ parts))) ps is in
        let u = then_ok (parts_of finds model rest) (λ parts. Ok (t.0 ∷ parts)) ps t.2 in
        subst (AreParts finds model) (same_ok (t.0 ∷ u.0) ps u.2) (part_ok model tree t.0 t.1, parts_ok model rest u.0 u.1)

  whole_ok : (model : ModelNo) (at : ℕ) (part : Option TypedTree) (tree : TypedTree) → IsPart finds model part → whole at part ≡ Ok tree → IsSound finds model tree
  whole_ok model at None tree p is = absurd (refused (fault.Kind at) tree is)
  whole_ok model at (Some t) tree p is = subst (IsSound finds model) (same_ok t tree is) p

  -- a whole expression
  pub typed_ok : (model : ModelNo) (tree : Tree) (t : TypedTree) → typed_of finds model tree ≡ Ok t → IsSound finds model t
  typed_ok model tree t is =
      let u = then_ok (part_of finds model tree) (whole (offset_of_tree tree)) t is in
      whole_ok model (offset_of_tree tree) u.0 t (part_ok model tree u.0 u.1) u.2
