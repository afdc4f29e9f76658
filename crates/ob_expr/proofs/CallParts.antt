-- The checked arguments of a call as a list.
use Rattle.std.proofs.Common.{◌≡◌, ℕ, suc, ◌-◌, ◌<◌, length, take, drop, get_or, eqb, false, List, [], ◌∷◌, map, arith, Option, Some, None, Result, Ok, Err, Vec, Global, refl, sym, ap, ◌∙◌}
use Rattle.ob_base.specs.declared.id.ModelNo.{ModelNo}
use Rattle.ob_expr.specs.declared.checker.TypeFault.{TypeFault}
use Rattle.ob_expr.specs.declared.checker.TypeFault.TheVariants.{Kind as wrong_kind}
use Rattle.ob_expr.specs.declared.function.Function.{Function}
use Rattle.ob_expr.specs.declared.function.Function.TheVariants as function
use Rattle.ob_expr.specs.declared.kind.Found.{Found}
use Rattle.ob_expr.specs.declared.kind.Kind.TheVariants as kind
use Rattle.ob_base.specs.declared.syntax.Expr.{Expr, Call}
use Rattle.ob_expr.specs.declared.typed.Aggregate.{Aggregate}
use Rattle.ob_expr.specs.declared.typed.Typed.{Typed, Joined}
use Rattle.ob_expr.specs.Chain.{and_then, each}
use Rattle.ob_expr.specs.Checking.{by_function, called, of_kind, targets_of, part_of, part_over, part_gathered, parts_of}
use Rattle.ob_expr.specs.Functions.{function_of, over_targets}
use Rattle.ob_base.specs.Syntax.{CallsKeepTheirOrder, tree_of}
use Rattle.ob_expr.specs.Parts.{given_of}
use Rattle.ob_expr.specs.Route.{Route}
use Rattle.ob_expr.specs.TypedTree.{TypedTree, one_more, joined, all_of, typed_tree_of}
use Rattle.ob_expr.proofs.TypedRows.{trees_of, typed_tree_of-Joined}

abbrev a_part : TypedTree → Result (Option TypedTree) TypeFault
a_part tree = Ok (Some tree)

abbrev refused_at : ℕ → Result (Option TypedTree) TypeFault
refused_at at = Err (wrong_kind at)

same_aggregate : (a b : Aggregate) → Some a ≡ Some b → a ≡ b
same_aggregate a b is = cc

-- a function that takes values takes all of its checked arguments
by_function-values : (at : ℕ) (f : Option Function) (parts : Result (List (Option TypedTree)) TypeFault) (on : Aggregate → Result (Option TypedTree) TypeFault)
    → over_targets f ≡ None → by_function at f parts on ≡ and_then parts (called at f)
by_function-values at None parts on is = refl
by_function-values at (Some function.If) parts on is = refl
by_function-values at (Some function.Cat) parts on is = refl
by_function-values at (Some function.Text) parts on is = refl
by_function-values at (Some (function.Chosen which)) parts on is = refl
by_function-values at (Some (function.Over aggregate)) parts on is = absurd (cc)

-- one over targets looks at them
by_function-over : (at : ℕ) (f : Option Function) (parts : Result (List (Option TypedTree)) TypeFault) (on : Aggregate → Result (Option TypedTree) TypeFault) (aggregate : Aggregate)
    → over_targets f ≡ Some aggregate → by_function at f parts on ≡ on aggregate
by_function-over at None parts on aggregate is = absurd (cc)
by_function-over at (Some function.If) parts on aggregate is = absurd (cc)
by_function-over at (Some function.Cat) parts on aggregate is = absurd (cc)
by_function-over at (Some function.Text) parts on aggregate is = absurd (cc)
by_function-over at (Some (function.Chosen which)) parts on aggregate is = absurd (cc)
by_function-over at (Some (function.Over a)) parts on aggregate is = ap on (same_aggregate a aggregate is)

abbrev rest_of : List Expr → List Expr
rest_of args = take (length args - 1) (drop 1 args)

many : (args : List Expr) → eqb (length (rest_of (rest_of args))) 0 ≡ false → 2 < length args
many [] is = absurd (cc)
many (x ∷ []) is = absurd (cc)
many (x ∷ y ∷ []) is = absurd (cc)
many (x ∷ y ∷ z ∷ more) is = omega arith

module _ (finds : ModelNo → List ℕ → Option Found) (model : ModelNo) where
  parts_of-each : (exprs : List Expr) → parts_of finds model (given_of exprs) ≡ each (λ expr. part_of finds model (tree_of expr)) exprs
  parts_of-each [] = refl
  parts_of-each (expr ∷ exprs) =
      ap (λ (m : Result (List (Option TypedTree)) TypeFault). and_then (part_of finds model (tree_of expr)) (λ part. and_then m (λ parts. Ok (part ∷ parts)))) (parts_of-each exprs)

  -- a call over targets
  pub call_over : CallsKeepTheirOrder → (expr : Expr) (name : List ℕ) (given : Vec Expr Global) (at : ℕ) (aggregate : Aggregate) (args : List Expr) → expr ≡ Call name given at
      → over_targets (function_of name) ≡ Some aggregate → args ≡ given.items → part_of finds model (tree_of expr) ≡ part_over finds aggregate model (given_of args) at
  call_over law expr name given at aggregate args is over all =
      ap (λ (e : Expr). part_of finds model (tree_of e)) is ∙ ap (part_of finds model) (law name given at)
      ∙ by_function-over at (function_of name) (parts_of finds model (given_of given.items)) (λ aggregate. part_over finds aggregate model (given_of given.items) at) aggregate over
      ∙ ap (λ (xs : List Expr). part_over finds aggregate model (given_of xs) at) (sym all)

  -- a call that takes values
  call_values : CallsKeepTheirOrder → (expr : Expr) (name : List ℕ) (given : Vec Expr Global) (at : ℕ) (args : List Expr) → expr ≡ Call name given at
      → over_targets (function_of name) ≡ None → args ≡ given.items
      → part_of finds model (tree_of expr) ≡ and_then (each (λ expr. part_of finds model (tree_of expr)) args) (called at (function_of name))
  call_values law expr name given at args is values all =
      ap (λ (e : Expr). part_of finds model (tree_of e)) is ∙ ap (part_of finds model) (law name given at)
      ∙ by_function-values at (function_of name) (parts_of finds model (given_of given.items)) (λ aggregate. part_over finds aggregate model (given_of given.items) at) values
      ∙ ap (λ (m : Result (List (Option TypedTree)) TypeFault). and_then m (called at (function_of name))) (parts_of-each given.items)
      ∙ ap (λ (xs : List Expr). and_then (each (λ expr. part_of finds model (tree_of expr)) xs) (called at (function_of name))) (sym all)

  pub call_right : CallsKeepTheirOrder → (expr : Expr) (name : List ℕ) (given : Vec Expr Global) (at : ℕ) (f : Option Function) (args : List Expr) (parts : List (Option TypedTree)) → expr ≡ Call name given at
      → f ≡ function_of name → over_targets (function_of name) ≡ None → args ≡ given.items
      → each (λ expr. part_of finds model (tree_of expr)) args ≡ Ok parts → part_of finds model (tree_of expr) ≡ called at f parts
  call_right law expr name given at f args parts is named values all has =
      call_values law expr name given at args is values all ∙ ap (λ (m : Result (List (Option TypedTree)) TypeFault). and_then m (called at (function_of name))) has
      ∙ ap (λ (g : Option Function). called at g parts) (sym named)

  pub call_wrong : CallsKeepTheirOrder → (expr : Expr) (name : List ℕ) (given : Vec Expr Global) (at : ℕ) (args : List Expr) (e : TypeFault) → expr ≡ Call name given at
      → over_targets (function_of name) ≡ None → args ≡ given.items
      → each (λ expr. part_of finds model (tree_of expr)) args ≡ Err e → part_of finds model (tree_of expr) ≡ Err e
  call_wrong law expr name given at args e is values all has =
      call_values law expr name given at args is values all ∙ ap (λ (m : Result (List (Option TypedTree)) TypeFault). and_then m (called at (function_of name))) has

  -- a function over targets takes two arguments at most
  third : (aggregate : Aggregate) (at : ℕ) (args : List Expr) (first inner : Expr) (part value : Option TypedTree) (route : Route) (target : ModelNo) → 2 < length args
      → first ≡ get_or args 0 first → inner ≡ get_or (rest_of args) 0 inner → part_of finds model (tree_of first) ≡ Ok part → targets_of at part ≡ Ok (route, target)
      → part_of finds target (tree_of inner) ≡ Ok value → part_over finds aggregate model (given_of args) at ≡ Err (wrong_kind at)
  third aggregate at [] first inner part value route target more is_first is_inner has leads then_has = absurd (omega arith)
  third aggregate at (x ∷ []) first inner part value route target more is_first is_inner has leads then_has = absurd (omega arith)
  third aggregate at (x ∷ y ∷ []) first inner part value route target more is_first is_inner has leads then_has = absurd (omega arith)
  third aggregate at (x ∷ y ∷ z ∷ zs) first inner part value route target more is_first is_inner has leads then_has =
      let two : length (x ∷ y ∷ z ∷ zs) - 1 ≡ suc (suc (length zs)) = omega arith in
      let is_second : inner ≡ y = is_inner ∙ ap (λ (n : ℕ). get_or (take n (y ∷ z ∷ zs)) 0 inner) two in
      ap (λ (m : Result (Option TypedTree) TypeFault). and_then m (λ part. and_then (targets_of at part) (λ to. part_gathered finds aggregate to.0 to.1 (given_of (y ∷ z ∷ zs)) at)))
      (ap (λ (e : Expr). part_of finds model (tree_of e)) (sym is_first) ∙ has)
      ∙ ap (λ (m : Result (Route × ModelNo) TypeFault). and_then m (λ to. part_gathered finds aggregate to.0 to.1 (given_of (y ∷ z ∷ zs)) at)) leads
      ∙ ap (λ (m : Result (Option TypedTree) TypeFault). and_then m (λ _. refused_at at)) (ap (λ (e : Expr). part_of finds target (tree_of e)) (sym is_second) ∙ then_has)

  pub too_many : (aggregate : Aggregate) (at : ℕ) (args : List Expr) (first inner : Expr) (part value : Option TypedTree) (route : Route) (target : ModelNo)
      → eqb (length (rest_of (rest_of args))) 0 ≡ false → first ≡ get_or args 0 first → inner ≡ get_or (rest_of args) 0 inner → part_of finds model (tree_of first) ≡ Ok part
      → targets_of at part ≡ Ok (route, target) → part_of finds target (tree_of inner) ≡ Ok value → part_over finds aggregate model (given_of args) at ≡ Err (wrong_kind at)
  too_many aggregate at args first inner part value route target more is_first is_inner has leads then_has =
      third aggregate at args first inner part value route target (many args more) is_first is_inner has leads then_has

-- the texts of `cat` in the code and in its meaning
texts_are : (texts : List Typed) → trees_of texts ≡ all_of (map typed_tree_of texts)
texts_are [] = refl
texts_are (text ∷ texts) = ap (one_more (typed_tree_of text)) (texts_are texts)

pub joined_tree : (texts : Vec Typed Global) → typed_tree_of (Joined texts) ≡ joined (all_of (map typed_tree_of texts.items))
joined_tree texts = typed_tree_of-Joined texts ∙ ap joined (texts_are texts.items)

-- the code's end of `cat`
pub cat_right : (at : ℕ) (parts : List (Option TypedTree)) (texts : Vec Typed Global) → each (of_kind at kind.Word) parts ≡ Ok (map typed_tree_of texts.items)
    → called at (Some function.Cat) parts ≡ Ok (Some (typed_tree_of (Joined texts)))
cat_right at parts texts right =
    ap (λ (m : Result (List TypedTree) TypeFault). and_then m (λ texts. a_part (joined (all_of texts)))) right ∙ ap a_part (sym (joined_tree texts))

pub nothing_left : {A : Type 0} (xs : List A) → length xs ≡ 0 → xs ≡ []
nothing_left [] none = refl
nothing_left (x ∷ xs) none = absurd (omega arith)
