-- The parts of a checked expression as a list.
use Rattle.std.proofs.Common.{◌≡◌, List, [], ◌∷◌, Vec, Global, Option, Result, Ok, IsOk, refl, sym, ap, subst, ◌∙◌}
use mathlib.Core.Former.{Count}
use Rattle.ob_base.specs.declared.id.Cell.{Cell}
use Rattle.ob_base.specs.declared.value.Value.{Value}
use Rattle.ob_expr.specs.declared.fault.EvalFault.{EvalFault}
use Rattle.ob_expr.specs.declared.row.Row.{Row}
use Rattle.ob_expr.specs.declared.typed.Typed.{Typed, Joined, Joined', Row_of-Typed, end_of-Typed, more_of-Typed, items-the_row-Typed, items_hidden-the_row-Typed-0}
use Rattle.ob_expr.specs.Chain.{and_then, each}
use Rattle.ob_expr.specs.Computing.{Lack, joined_value}
use Rattle.ob_expr.specs.Meaning.{meaning, values_of}
use Rattle.ob_expr.specs.Outcome.{IsEvalFault}
use Rattle.ob_expr.specs.Reads.{EachInTurn, MayRead, MayReadAll}
use Rattle.ob_expr.specs.Told.{TellsRead, TellsValue}
use Rattle.ob_expr.specs.TypedTree.{TypedTrees, no_trees, one_more, joined, typed_tree_of, typed_trees_of}
use Rattle.ob_expr.proofs.Outcomes.{then_fault, tells_read}

abbrev row_of : Typed → (n : Count) × Row_of-Typed n
row_of (Joined' _ row) = (_, row)
row_of _ = (_, end_of-Typed)

-- the trees of parts
abbrev pub trees_of : List Typed → TypedTrees
trees_of [] = no_trees
trees_of (part ∷ parts) = one_more (typed_tree_of part) (trees_of parts)

rows_are : (n : _) (row : Row_of-Typed n) → typed_trees_of row ≡ trees_of (items-the_row-Typed n row)
rows_are n end_of-Typed = refl
rows_are n (more_of-Typed part rest) = ap (one_more (typed_tree_of part)) (rows_are _ rest)

pub typed_tree_of-Joined : (parts : Vec Typed Global) → typed_tree_of (Joined parts) ≡ joined (trees_of parts.items)
typed_tree_of-Joined parts =
    let row = row_of (Joined parts) in
    ap joined (rows_are row.0 row.1 ∙ ap trees_of (items_hidden-the_row-Typed-0 parts))

module _ (held : Cell → Option Value) (row : Row) where
  -- parts are evaluated in their turn
  pub values_of-parts : (parts : List Typed) → values_of held row (trees_of parts) ≡ each (λ part. meaning held row (typed_tree_of part)) parts
  values_of-parts [] = refl
  values_of-parts (part ∷ parts) = ap (λ (m : Result (List Value) Lack). and_then (meaning held row (typed_tree_of part)) (λ v. and_then m (λ vs. Ok (v ∷ vs)))) (values_of-parts parts)

  pub MayRead-parts : (can_read : Cell → Type 0) (parts : List Typed) → MayReadAll held can_read row (trees_of parts)
      → EachInTurn (λ part. IsOk (meaning held row (typed_tree_of part))) (λ part. MayRead held can_read row (typed_tree_of part)) parts
  MayRead-parts can_read [] may = tt
  MayRead-parts can_read (part ∷ parts) may = (may.0, λ has. MayRead-parts can_read parts (may.1 has))

  -- texts one behind another
  pub joined-meaning : (parts : Vec Typed Global)
      → meaning held row (typed_tree_of (Joined parts)) ≡ and_then (each (λ (part : Typed). meaning held row (typed_tree_of part)) parts.items) joined_value
  joined-meaning parts =
      ap (meaning held row) (typed_tree_of-Joined parts) ∙ ap (λ (m : Result (List Value) Lack). and_then m joined_value) (values_of-parts parts.items)

  pub joined-fault : {F : Type 0} (failed : F → Cell → Type 0) (parts : Vec Typed Global) (fault : EvalFault F)
      → IsEvalFault failed held (each (λ (part : Typed). meaning held row (typed_tree_of part)) parts.items) fault
      → IsEvalFault failed held (meaning held row (typed_tree_of (Joined parts))) fault
  joined-fault failed parts fault is =
      subst (λ (m : Result Value Lack). IsEvalFault failed held m fault) (sym (joined-meaning parts))
      (then_fault failed held (each (λ (part : Typed). meaning held row (typed_tree_of part)) parts.items) joined_value fault is)

  pub joined-tells : {F : Type 0} (failed : F → Cell → Type 0) (parts : Vec Typed Global) (values : List Value) (answer : Result Value (EvalFault F))
      → each (λ (part : Typed). meaning held row (typed_tree_of part)) parts.items ≡ Ok values → TellsValue answer (joined_value values)
      → TellsRead failed held (λ (v : Value). v) answer (meaning held row (typed_tree_of (Joined parts)))
  joined-tells failed parts values answer is told =
      let meant : meaning held row (typed_tree_of (Joined parts)) ≡ joined_value values = joined-meaning parts ∙ ap (λ (m : Result (List Value) Lack). and_then m joined_value) is in
      subst (λ (m : Result Value Lack). TellsRead failed held (λ (v : Value). v) answer m) (sym meant) (tells_read failed held answer (joined_value values) told)
