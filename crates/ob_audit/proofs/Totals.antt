-- The sums of products, one quant more at a time, and the lines of them.
use Rattle.std.proofs.Common.{◌≡◌, ◌==◌, ◌<◌, ◌≤◌, ◌+◌, ◌*◌, ◌^◌, ◌++◌, ◌||◌, ◌&&◌, ℕ, ℤ, pos, ◌+ℤ◌, ◌≤ℤ◌, neg_ℤ, Bool, true, false, cond, List, [], ◌∷◌, map, length, take, get_or}
use Rattle.std.proofs.Common.{Option, Some, None, unwrap_or, refl, sym, ap, subst, ◌∙◌, arith, append_assoc, eqb, suc, of_z, to_z, ◌-◌, negsuc, eqb-true, eq-eqb}
use Rattle.std.specs.Prelude.{◌↔◌, IfSome, IsTrue, FitsSigned}
use Rattle.std.specs.Int.{w64, w128}
use Rattle.std.specs.List.{AllByRecursion, filter_map, list_any, cons_option}
use Rattle.std.specs.Option.{option_map_or}
use Rattle.std.specs.Ordering.{eq_by_cmp, nat_cmp}
use Rattle.std.proofs.lemmas.Bool.{and_parts}
use Rattle.std.proofs.lemmas.Int.{ints, to_z-of_z}
use Rattle.std.proofs.lemmas.List.{append-nil, take_all, take_more}
use Rattle.std.proofs.lemmas.List.Elements.{filter_map-append}
use Rattle.std.proofs.lemmas.List.Folds.{list_any-append}
use Rattle.ob_base.specs.declared.id.RecId.{RecId}
use Rattle.ob_audit.specs.Report.{sum_line}
use Rattle.ob_audit.specs.Sums.{Goods, goods_in, goods_of, quant_fields, sum_of, total_of}
use Rattle.ob_audit.specs.declared.sums.QuantFields.{QuantFields}
use Rattle.ob_schema.specs.Tables.{Tables, ids_in}
use Rattle.ob_schema.specs.declared.info.ModelInfo.{ModelInfo}
use Rattle.ob_tables.proofs.CallerLemmas.{same_test}

-- ---- a quant more

module _ (q : ℕ) where
  abbrev is_of : Goods → Bool
  is_of one = one.0 == q

  sum-last : (goods : List Goods) (one : Goods) → sum_of q (goods ++ one ∷ []) ≡ (sum_of q goods +ℤ cond (is_of one) one.1 (pos 0))
  sum-last [] one = by (is_of one)
    where
      by : (b : Bool) → cond b (one.1 +ℤ pos 0) (pos 0) ≡ (pos 0 +ℤ cond b one.1 (pos 0))
      by true = omega (arith, ints)
      by false = omega (arith, ints)
  sum-last (g ∷ goods) one = by (is_of g) (sum_of q (goods ++ one ∷ [])) (sum_of q goods) (cond (is_of one) one.1 (pos 0)) (sum-last goods one)
    where
      by : (b : Bool) (after before more : ℤ) → after ≡ (before +ℤ more) → cond b (g.1 +ℤ after) after ≡ (cond b (g.1 +ℤ before) before +ℤ more)
      by true after before more is = omega (arith, ints)
      by false after before more is = is

  sum-none : (goods : List Goods) → list_any is_of goods ≡ false → sum_of q goods ≡ pos 0
  sum-none [] none = refl
  sum-none (g ∷ goods) none = by (is_of g) none (sum-none goods)
    where
      by : (b : Bool) → (b || list_any is_of goods) ≡ false → (list_any is_of goods ≡ false → sum_of q goods ≡ pos 0) → cond b (g.1 +ℤ sum_of q goods) (sum_of q goods) ≡ pos 0
      by true none rest = absurd cc
      by false none rest = rest none

  -- what there is of the product, as a number
  sum-or : (goods : List Goods) → unwrap_or (total_of goods q) (pos 0) ≡ sum_of q goods
  sum-or goods = by (list_any is_of goods) refl
    where
      by : (b : Bool) → list_any is_of goods ≡ b → unwrap_or (cond b (Some (sum_of q goods)) None) (pos 0) ≡ sum_of q goods
      by true is = refl
      by false is = sym (sum-none goods is)

  -- goods of the product
  total-own : (goods : List Goods) (one : Goods) → is_of one ≡ true → total_of (goods ++ one ∷ []) q ≡ Some (unwrap_or (total_of goods q) (pos 0) +ℤ one.1)
  total-own goods one own =
      ap (λ (b : Bool). cond b (Some (sum_of q (goods ++ one ∷ []))) None) (list_any-append is_of goods (one ∷ []) ∙ ap (λ (b : Bool). list_any is_of goods || (b || false)) own ∙ or-true (list_any is_of goods))
      ∙ ap Some (sum-last goods one ∙ ap (λ (b : Bool). sum_of q goods +ℤ cond b one.1 (pos 0)) own ∙ ap (λ (z : ℤ). z +ℤ one.1) (sym (sum-or goods)))
    where
      or-true : (b : Bool) → (b || true) ≡ true
      or-true true = refl
      or-true false = refl

  -- goods of another
  total-other : (goods : List Goods) (one : Goods) → is_of one ≡ false → total_of (goods ++ one ∷ []) q ≡ total_of goods q
  total-other goods one other =
      ap (λ (b : Bool). cond b (Some (sum_of q (goods ++ one ∷ []))) None) (list_any-append is_of goods (one ∷ []) ∙ ap (λ (b : Bool). list_any is_of goods || (b || false)) other ∙ or-false (list_any is_of goods))
      ∙ ap (λ (z : ℤ). cond (list_any is_of goods) (Some z) None) (sum-last goods one ∙ ap (λ (b : Bool). sum_of q goods +ℤ cond b one.1 (pos 0)) other ∙ plus-none (sum_of q goods))
    where
      or-false : (b : Bool) → (b || false) ≡ b
      or-false true = refl
      or-false false = refl

      plus-none : (z : ℤ) → (z +ℤ pos 0) ≡ z
      plus-none z = omega (arith, ints)

-- each product's total, where the map has it with one quantity more
pub total-more : (goods : List Goods) (product : ℕ) (n had : ℤ) (q : ℕ) (new old : Option ℤ) → had ≡ unwrap_or (total_of goods product) (pos 0) → old ≡ total_of goods q
    → new ≡ cond (eq_by_cmp nat_cmp product q) (Some (had +ℤ n)) old → new ≡ total_of (goods ++ (product, n) ∷ []) q
total-more goods product n had q new old had_is old_is is = by (product == q) refl
  where
    tests : eq_by_cmp nat_cmp product q ≡ (product == q)
    tests = test-is product q
      where
        test-is : (a b : ℕ) → eq_by_cmp nat_cmp a b ≡ (a == b)
        test-is a b = same_test a b ∙ turned a b
          where
            turned : (a b : ℕ) → (b == a) ≡ (a == b)
            turned a b = both (b == a) (a == b) refl refl
              where
                both : (x y : Bool) → (b == a) ≡ x → (a == b) ≡ y → x ≡ y
                both true true one other = refl
                both false false one other = refl
                both true false one other = absurd (let same : (a == b) ≡ true = eq-eqb a b (sym (eqb-true b a one)) in let no : true ≡ false = sym same ∙ other in cc)
                both false true one other = absurd (let same : (b == a) ≡ true = eq-eqb b a (sym (eqb-true a b other)) in let no : true ≡ false = sym same ∙ one in cc)

    by : (b : Bool) → (product == q) ≡ b → new ≡ total_of (goods ++ (product, n) ∷ []) q
    by true own =
        let same : product ≡ q = eqb-true product q own in
        is ∙ ap (λ (b : Bool). cond b (Some (had +ℤ n)) old) (tests ∙ own) ∙ ap (λ (z : ℤ). Some (z +ℤ n)) (had_is ∙ ap (λ (p : ℕ). unwrap_or (total_of goods p) (pos 0)) same) ∙ sym (total-own q goods (product, n) own)
    by false other = is ∙ ap (λ (b : Bool). cond b (Some (had +ℤ n)) old) (tests ∙ other) ∙ old_is ∙ sym (total-other q goods (product, n) other)

-- ---- bounds

-- no more than so many quantities of 64 bits come to
abbrev pub IsWithin : ℕ → ℤ → Type 0
IsWithin i t = (neg_ℤ (pos (2 ^ 63 * i)) ≤ℤ t) × (t ≤ℤ pos (2 ^ 63 * i))

within-none : (i : ℕ) → IsWithin i (pos 0)
within-none i = (omega (arith, ints), omega (arith, ints))

pub within-or : (i : ℕ) (o : Option ℤ) → IfSome o (IsWithin i) → IsWithin i (unwrap_or o (pos 0))
within-or i None none = within-none i
within-or i (Some t) within = within

pub within-more : (i : ℕ) (had n : ℤ) → IsWithin i had → FitsSigned w64 n → IsWithin (i + 1) (had +ℤ n)
within-more i had n within fits = (omega (arith, ints), omega (arith, ints))

pub within-later : (i : ℕ) (o : Option ℤ) → IfSome o (IsWithin i) → IfSome o (IsWithin (i + 1))
within-later i None none = tt
within-later i (Some t) within = (omega (arith, ints), omega (arith, ints))

pub within-map : (i : ℕ) (b : Bool) (had n : ℤ) (new old : Option ℤ) → new ≡ cond b (Some (had +ℤ n)) old → IsWithin i had → FitsSigned w64 n → IfSome old (IsWithin i) → IfSome new (IsWithin (i + 1))
within-map i true had n new old is within fits others = subst (λ (o : Option ℤ). IfSome o (IsWithin (i + 1))) (sym is) (within-more i had n within fits)
within-map i false had n new old is within fits others = subst (λ (o : Option ℤ). IfSome o (IsWithin (i + 1))) (sym is) (within-later i old others)

-- a sum of 128 bits with one quantity of 64 more
abbrev pub added : ℤ → ℤ → ℤ
added had n = to_z w128 (of_z w128 had) +ℤ to_z w128 (of_z w128 (to_z w64 (of_z w64 n)))

wide : (n : ℤ) → FitsSigned w64 n → FitsSigned w128 n
wide n fits = omega (arith, ints)

within-fits : (i : ℕ) (t : ℤ) → i < 2 ^ 64 → IsWithin i t → FitsSigned w128 t
within-fits i t low within = omega (arith, ints)

sum-fits : (i : ℕ) (t n : ℤ) → i < 2 ^ 64 → IsWithin i t → FitsSigned w64 n → FitsSigned w128 (t +ℤ n)
sum-fits i t n low within fits = omega (arith, ints)

added-is : (had n : ℤ) → FitsSigned w128 had → FitsSigned w64 n → added had n ≡ (had +ℤ n)
added-is had n had_fits fits =
    ap (λ (z : ℤ). z +ℤ to_z w128 (of_z w128 (to_z w64 (of_z w64 n)))) (to_z-of_z w128 had had_fits)
    ∙ ap (λ (z : ℤ). had +ℤ to_z w128 (of_z w128 z)) (to_z-of_z w64 n fits)
    ∙ ap (λ (z : ℤ). had +ℤ z) (to_z-of_z w128 n (wide n fits))

pub added-fits : (i : ℕ) (had n : ℤ) → i < 2 ^ 64 → IsWithin i had → FitsSigned w64 n → FitsSigned w128 (added had n)
added-fits i had n low within fits = subst (FitsSigned w128) (sym (added-is had n (within-fits i had low within) fits)) (sum-fits i had n low within fits)

pub added-back : (i : ℕ) (had n : ℤ) → i < 2 ^ 64 → IsWithin i had → FitsSigned w64 n → to_z w128 (of_z w128 (added had n)) ≡ (had +ℤ n)
added-back i had n low within fits =
    ap (λ (z : ℤ). to_z w128 (of_z w128 z)) (added-is had n (within-fits i had low within) fits) ∙ to_z-of_z w128 (had +ℤ n) (sum-fits i had n low within fits)

-- ---- the quants

module _ (models : List ModelInfo) (tables : Tables) (fields : QuantFields) where
  abbrev pub goods_to : ℕ → List RecId → List Goods
  goods_to i ids = filter_map (goods_of models tables fields) (take i ids)

  pub goods-more : (ids : List RecId) (i : ℕ) (id : RecId) (one : Goods) → i < length ids → id ≡ get_or ids i id → goods_of models tables fields id ≡ Some one → goods_to (i + 1) ids ≡ goods_to i ids ++ one ∷ []
  goods-more ids i id one low at is =
      ap (filter_map (goods_of models tables fields)) (take_more ids i id low ∙ ap (λ (x : RecId). take i ids ++ x ∷ []) (sym at))
      ∙ filter_map-append (goods_of models tables fields) (take i ids) (id ∷ [])
      ∙ ap (λ (o : Option Goods). goods_to i ids ++ cons_option o []) is

  pub goods-pass : (ids : List RecId) (i : ℕ) (id : RecId) → i < length ids → id ≡ get_or ids i id → goods_of models tables fields id ≡ None → goods_to (i + 1) ids ≡ goods_to i ids
  goods-pass ids i id low at is =
      ap (filter_map (goods_of models tables fields)) (take_more ids i id low ∙ ap (λ (x : RecId). take i ids ++ x ∷ []) (sym at))
      ∙ filter_map-append (goods_of models tables fields) (take i ids) (id ∷ [])
      ∙ ap (λ (o : Option Goods). goods_to i ids ++ cons_option o []) is ∙ append-nil (goods_to i ids)

  -- all of them
  pub goods-all : (ids : List RecId) (i : ℕ) → length ids ≤ i → ids ≡ ids_in tables fields.model → quant_fields models ≡ Some fields → goods_to i ids ≡ goods_in models tables
  goods-all ids i far is found =
      ap (filter_map (goods_of models tables fields)) (take_all i ids far ∙ is) ∙ ap (λ (o : Option QuantFields). option_map_or (λ f. filter_map (goods_of models tables f) (ids_in tables f.model)) o []) (sym found)

-- without quants there are none
pub goods-none : (models : List ModelInfo) (tables : Tables) → quant_fields models ≡ None → goods_in models tables ≡ []
goods-none models tables none = ap (λ (o : Option QuantFields). option_map_or (λ f. filter_map (goods_of models tables f) (ids_in tables f.model)) o []) none

-- ---- lines

abbrev pub IsZero : Goods → Type 0
IsZero total = total.1 ≡ pos 0

-- one line more
pub lines-more : (old new : List (List ℕ)) (one : Goods) (line : List ℕ) (from left : List Goods) (whole : List (List ℕ)) → from ≡ one ∷ left → new ≡ old ++ line ∷ [] → line ≡ sum_line one
    → old ++ map sum_line from ≡ whole → new ++ map sum_line left ≡ whole
lines-more old new one line from left whole is added text all =
    ap (λ (l : List (List ℕ)). l ++ map sum_line left) added ∙ append_assoc old (line ∷ []) (map sum_line left) ∙ ap (λ (t : List ℕ). old ++ t ∷ map sum_line left) text ∙ ap (λ (l : List Goods). old ++ map sum_line l) (sym is) ∙ all

-- equal where each sum is 0
pub zero-more : (old new agrees : Bool) (one : Goods) (from left : List Goods) (Whole : Type 0) → from ≡ one ∷ left → new ≡ (old && agrees) → (agrees ≡ true → IsZero one) → (IsZero one → agrees ≡ true)
    → (IsTrue old × AllByRecursion IsZero from) ↔ Whole → (IsTrue new × AllByRecursion IsZero left) ↔ Whole
zero-more old new agrees one from left Whole is added zero back all = (
  λ both. all.0 (
      (let parts = and_parts old agrees (sym added ∙ both.0) in (parts.0, subst (AllByRecursion IsZero) (sym is) (zero parts.1, both.1)))
      ),
  λ whole.
      (let before = all.1 whole in
      let rest = subst (AllByRecursion IsZero) is before.1 in
      let agree = back rest.0 in
      (added ∙ (λ i. before.0 i && agree i), rest.1)),
)

-- all are told
pub lines-end : (old new : List (List ℕ)) (left whole all : List Goods) → left ≡ [] → whole ≡ all → new ++ map sum_line left ≡ old ++ map sum_line whole → new ≡ old ++ map sum_line all
lines-end old new left whole all none is told =
    sym (append-nil new) ∙ ap (λ (l : List Goods). new ++ map sum_line l) (sym none) ∙ told ∙ ap (λ (l : List Goods). old ++ map sum_line l) is

pub zero-end : (old new : Bool) (left whole all : List Goods) → left ≡ [] → whole ≡ all → (IsTrue new × AllByRecursion IsZero left) ↔ (IsTrue old × AllByRecursion IsZero whole) → IsTrue new ↔ (IsTrue old × AllByRecursion IsZero all)
zero-end old new left whole all none is same = (
  λ yes. (let both = same.0 (yes, subst (AllByRecursion IsZero) (sym none) tt) in (both.0, subst (AllByRecursion IsZero) is both.1)),
  λ both. (same.1 (both.0, subst (AllByRecursion IsZero) (sym is) both.1)).0,
)

-- a sum is tested by its bits
pub zero-from : (t : ℤ) → FitsSigned w128 t → eqb (of_z w128 t) 0 ≡ true → t ≡ pos 0
zero-from (pos n) fits is = ap pos (eqb-true n 0 is)
zero-from (negsuc n) fits is = absurd (let none : 2 ^ 128 - suc n ≡ 0 = eqb-true (2 ^ 128 - suc n) 0 is in omega (arith, fits.sfits))

pub zero-back : (t : ℤ) → t ≡ pos 0 → eqb (of_z w128 t) 0 ≡ true
zero-back t is = ap (λ (z : ℤ). eqb (of_z w128 z) 0) is
