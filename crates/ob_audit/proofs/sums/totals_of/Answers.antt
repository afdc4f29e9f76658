use Rattle.std.proofs.Common.{◌≡◌, ◌+◌, ℕ, ℤ, pos, ◌+ℤ◌, List, get_or, Option, Some, None, unwrap_or, arith, rules, cond, ap, sym, subst, ◌∙◌}
use Rattle.std.specs.Prelude.{FitsSigned, IfSome}
use Rattle.std.specs.Int.{w64}
use Rattle.std.specs.BTreeMap as tree
use Rattle.std.specs.Map.{lookup}
use Rattle.std.specs.Ordering.{eq_by_cmp, is_eq, nat_cmp}
use Rattle.std.proofs.lemmas.List.{get_or_default}
use Rattle.ob_base.specs.declared.id.RecId.{RecId}
use Rattle.ob_audit.specs.Sums.{Goods, quant_fields, total_of}
use Rattle.ob_audit.proofs.Totals.{IsWithin, added-back, added-fits, goods-all, goods-more, goods-none, goods-pass, goods_to, total-more, within-later, within-map, within-or}
use Rattle.ob_audit.proofs.sums.totals_of.Goals as goal
use Rattle.ob_audit.proofs.sums.totals_of.Goals.{in-Some-2+in_ok-insert, in_default-2}

pub loop-id-init : goal.loop-id-init
loop-id-init c =
    let none : (q : ℕ) → tree.get nat_cmp c.new-totals.result q ≡ None = λ q. ap (λ (l : List Goods). lookup (λ k. is_eq (nat_cmp q k)) l) c.new-totals.ensures.empty in
    record {
      ordered = c.new-totals.ensures.ordered;
      each = none;
      bound = λ q. subst (λ (o : Option ℤ). IfSome o (IsWithin 0)) (sym (none q)) tt;
    }

pub overflow_add-had : goal.overflow_add-had
overflow_add-had c =
    let i = c.loop-id.id-index in
    let had = c.unwrap_or-had.result in
    let had_is : had ≡ unwrap_or (tree.get nat_cmp c.loop-id.totals c.in-Some-2.goods.0) (pos 0) = c.unwrap_or-had.ensures ∙ ap (λ (o : Option ℤ). unwrap_or o (pos 0)) (c.copied.ensures ∙ c.get.ensures.value) in
    let fits : FitsSigned w64 c.in-Some-2.goods.1 = search rules in
    added-fits i had c.in-Some-2.goods.1 (omega arith) (subst (IsWithin i) (sym had_is) (within-or i (tree.get nat_cmp c.loop-id.totals c.in-Some-2.goods.0) (c.loop-id.invariant.bound c.in-Some-2.goods.0))) fits

pub loop-id-preserved : goal.loop-id-preserved
loop-id-preserved c =
    let tables = c.args.tables.now in
    let models = tables.models in
    let fields = c.in-Some.fields in
    let ids = c.as_slice-id-items.result.now in
    let i = c.loop-id.id-index in
    let none : RecId = record { 0 = 0 } in
    let id = get_or ids i none in
    let low = c.loop-id-test.true in
    let at = get_or_default ids i none id low in
    let before = goods_to models tables.tables fields i ids in
    let v = c.loop-id.invariant in
    elim c.match-branch-3.branch [
      | in-Some-2+in_ok-insert w ↦
          (let goods = w.in-Some-2.goods in
          let had = w.unwrap_or-had.result in
          let old = tree.get nat_cmp c.loop-id.totals in
          let new = tree.get nat_cmp w.insert.new.self in
          let had_is : had ≡ unwrap_or (old goods.0) (pos 0) = w.unwrap_or-had.ensures ∙ ap (λ (o : Option ℤ). unwrap_or o (pos 0)) (w.copied.ensures ∙ w.get.ensures.value) in
          let within : IsWithin i had = subst (IsWithin i) (sym had_is) (within-or i (old goods.0) (v.bound goods.0)) in
          let fits : FitsSigned w64 goods.1 = search rules in
          let stored : (q : ℕ) → new q ≡ cond (eq_by_cmp nat_cmp goods.0 q) (Some (had +ℤ goods.1)) (old q) = λ q.
          w.in_ok-insert.ensures.updates.0 q ∙ ap (λ (z : ℤ). cond (eq_by_cmp nat_cmp goods.0 q) (Some z) (old q)) (added-back i had goods.1 (omega arith) within fits) in
          let more = goods-more models tables.tables fields ids i id goods low at (sym c.in_ok-goods.ensures ∙ w.in-Some-2.is) in
          record {
            ordered = subst (tree.IsOrdered nat_cmp) (sym w.totals-is) w.insert.ensures.ordered;
            each = λ q. ap (λ m. tree.get nat_cmp m q) w.totals-is
                ∙ total-more before goods.0 goods.1 had q (new q) (old q) (had_is ∙ ap (λ (o : Option ℤ). unwrap_or o (pos 0)) (v.each goods.0)) (v.each q) (stored q)
                ∙ ap (λ (l : List Goods). total_of l q) (sym more);
            bound = λ q. subst (λ m. IfSome (tree.get nat_cmp m q) (IsWithin (i + 1))) (sym w.totals-is) (within-map i (eq_by_cmp nat_cmp goods.0 q) had goods.1 (new q) (old q) (stored q) within fits (v.bound q));
          })
      | in_default-2 w ↦
          (let pass = goods-pass models tables.tables fields ids i id low at (sym c.in_ok-goods.ensures ∙ w.in_default-2.is) in
          record {
            ordered = subst (tree.IsOrdered nat_cmp) (sym w.totals-is) v.ordered;
            each = λ q. ap (λ m. tree.get nat_cmp m q) w.totals-is ∙ v.each q ∙ ap (λ (l : List Goods). total_of l q) (sym pass);
            bound = λ q. subst (λ m. IfSome (tree.get nat_cmp m q) (IsWithin (i + 1))) (sym w.totals-is) (within-later i (tree.get nat_cmp c.loop-id.totals q) (v.bound q));
          })
    ]

pub returns : goal.returns
returns c =
    let tables = c.args.tables.now in
    let models = tables.models in
    let ids = c.as_slice-id-items.result.now in
    let found = ap quant_fields c.requires ∙ sym c.in-Some.ensures.fields in
    let all = goods-all models tables.tables c.in-Some.fields ids c.loop-id.id-index c.loop-id-test.false (c.as_slice-id-items.ensures.same ∙ c.in_ok-ids.ensures) found in
    record { rising = c.loop-id.invariant.ordered; each = λ q. c.loop-id.invariant.each q ∙ ap (λ (l : List Goods). total_of l q) all }

pub returns-in_default : goal.returns-in_default
returns-in_default c =
    let tables = c.args.tables.now in
    let found : quant_fields tables.models ≡ None = ap quant_fields c.requires ∙ sym c.quant_fields.ensures.fields ∙ c.in_default.is in
    record {
      rising = c.new-totals.ensures.ordered;
      each = λ q. ap (λ (l : List Goods). lookup (λ k. is_eq (nat_cmp q k)) l) c.new-totals.ensures.empty ∙ sym (ap (λ (l : List Goods). total_of l q) (goods-none tables.models tables.tables found));
    }
