-- One more value among those of computed cells.
use Rattle.std.proofs.Common.{◌≡◌, Bool, true, false, cond, List, Option, Some, None, option_map, Ok, refl, sym, ap, subst, ◌∙◌, is_some}
use Rattle.std.specs.Prelude.{IfSome, IsSome}
use Rattle.std.specs.FinMap.{IsAntisymmetric}
use Rattle.std.specs.Ordering.{is_eq}
use Rattle.std.specs.declared.cmp.Ordering.{Ordering}
use Rattle.std.specs.declared.cmp.Ordering.TheVariants.{Less, Equal, Greater}
use Rattle.std.specs.BTreeMap as tree
use Rattle.ob_base.specs.BrokenOrder.{cell_order}
use Rattle.ob_base.specs.declared.id.Cell.{Cell}
use Rattle.ob_base.specs.declared.value.Value.{Value}
use Rattle.ob_cache.specs.Rooms.{AreRight, AreValues, IsComputedCell, KeepsAll}
use Rattle.ob_schema.specs.Tables.{Standing, Tables}
use Rattle.ob_schema.specs.Val.{val}
use Rattle.ob_schema.specs.declared.info.ModelInfo.{ModelInfo}

-- what compares as equal
is_equal : (r : Ordering) → is_eq r ≡ true → r ≡ Equal
is_equal Less is = cc
is_equal Equal is = refl
is_equal Greater is = cc

-- there is something where there is this one
there_is : (o : Option Value) (v : Value) → o ≡ Some v → IsSome o
there_is o v is = ap (λ (p : Option Value). is_some p) is

module _ (exact : IsAntisymmetric cell_order) (old new : tree.BTreeMap Cell Value) (cell : Cell) (v : Value)
    (updates : (q : Cell) → tree.get cell_order new q ≡ cond (is_eq (cell_order cell q)) (Some v) (tree.get cell_order old q)) where
  -- what stood stands
  pub insert-keeps : KeepsAll old new
  insert-keeps q there = by (is_eq (cell_order cell q)) (updates q)
    where
      by : (b : Bool) → tree.get cell_order new q ≡ cond b (Some v) (tree.get cell_order old q) → IsSome (tree.get cell_order new q)
      by true is = there_is (tree.get cell_order new q) v is
      by false is = subst IsSome (sym is) there

  -- and each is right
  pub insert-right : (models : List ModelInfo) (tables : Tables) → IsComputedCell models tables cell → val models tables cell ≡ Ok v → AreRight models tables old → AreRight models tables new
  insert-right models tables computed is_val right q = by (is_eq (cell_order cell q)) refl (updates q)
    where
      by : (b : Bool) → is_eq (cell_order cell q) ≡ b → tree.get cell_order new q ≡ cond b (Some v) (tree.get cell_order old q)
          → IfSome (tree.get cell_order new q) (λ w. IsComputedCell models tables q × (val models tables q ≡ Ok w))
      by true same is =
          let one : cell ≡ q = exact cell q (is_equal (cell_order cell q) same) in
          subst (λ (o : Option Value). IfSome o (λ w. IsComputedCell models tables q × (val models tables q ≡ Ok w))) (sym is)
          (subst (λ (c : Cell). IsComputedCell models tables c × (val models tables c ≡ Ok v)) one (computed, is_val))
      by false same is = subst (λ (o : Option Value). IfSome o (λ w. IsComputedCell models tables q × (val models tables q ≡ Ok w))) (sym is) (right q)

-- a value that stands among them is the cell's
pub told-computed : (s now : Standing) (values : tree.BTreeMap Cell Value) → s ≡ now → AreValues s.models s.tables values → (cell : Cell) (v w : Value) → tree.get cell_order values cell ≡ Some v → w ≡ v
    → val now.models now.tables cell ≡ Ok w
told-computed s now values same are cell v w is again =
    let right : IsComputedCell s.models s.tables cell × (val s.models s.tables cell ≡ Ok v) =
    subst (λ (o : Option Value). IfSome o (λ u. IsComputedCell s.models s.tables cell × (val s.models s.tables cell ≡ Ok u))) is (are.right cell) in
    subst (λ (t : Standing). val t.models t.tables cell ≡ Ok w) same (right.1 ∙ ap Ok (sym again))

-- what holds of a value that is looked up
pub told-of : {X : Type 0} (f : X → Value) (o : Option X) (p : Option Value) → option_map f o ≡ p → (P Q : Value → Type 0) → ((v : Value) → P v → Q v) → IfSome p P → IfSome o (λ x. Q (f x))
told-of f None p is P Q more told = tt
told-of f (Some x) p is P Q more told = more (f x) (subst (λ (q : Option Value). IfSome q P) (sym is) told)
