-- What the map that slots show has at a key.
use Rattle.std.proofs.Common.{◌≡◌, ℕ, Bool, true, false, cond, List, [], ◌∷◌, Option, Some, None, refl, sym, ap, ◌∙◌}
use Rattle.std.specs.Option.{option_flatten}
use Rattle.std.specs.declared.cmp.Ordering.{Ordering}
use Rattle.std.specs.Ordering.{nat_cmp, eq_by_cmp}
use Rattle.std.specs.Cmp.{IsTotalOrder, nat_cmp_total, eq_by_cmp_equiv}
use Rattle.std.proofs.lemmas.Cmp.{on_total, then_total}
use Rattle.std.proofs.lemmas.Map.Lookups.{CmpEqualImpliesEq, exact_pairs, exact_unsigned}
use Rattle.std.specs.Map.{lookup}
use Rattle.std.specs.BTreeMap.{BTreeMap, is_at}
use Rattle.std.specs.FinMap.{FinMap, get, get-empty, get-insert, get-remove, same_map}
use Rattle.ob_base.specs.Ids.{row_key_cmp}
use Rattle.ob_io.specs.Store.{link_cmp}
use Rattle.ob_io.specs.Slots.{content, set_to, shown}

-- row keys and links that compare alike are one
pub exact_rows : CmpEqualImpliesEq row_key_cmp
exact_rows a b h = ap (λ (p : ℕ × ℕ). record { model = record { 0 = p.0 }; id = record { 0 = p.1 } }) (exact_pairs nat_cmp nat_cmp exact_unsigned exact_unsigned (a.model.0, a.id.0) (b.model.0, b.id.0) h)

pub exact_links : CmpEqualImpliesEq link_cmp
exact_links a b h = ap (λ (p : ℕ × ℕ). record { field = record { 0 = p.0 }; target = record { 0 = p.1 } }) (exact_pairs nat_cmp nat_cmp exact_unsigned exact_unsigned (a.field.0, a.target.0) (b.field.0, b.target.0) h)

pub rows_total : IsTotalOrder row_key_cmp
rows_total = then_total (on_total (λ k. k.model.0) nat_cmp_total) (on_total (λ k. k.id.0) nat_cmp_total)

pub links_total : IsTotalOrder link_cmp
links_total = then_total (on_total (λ k. k.field.0) nat_cmp_total) (on_total (λ k. k.target.0) nat_cmp_total)

pub flattened : {X : Type 0} (b : Bool) (w : Option X) (o : Option (Option X)) → cond b w (option_flatten o) ≡ option_flatten (cond b (Some w) o)
flattened true w o = refl
flattened false w o = refl

module _ {K X : Type 0} {R : K → K → Ordering} (o : IsTotalOrder R) where
  pub get-set_to : (m : FinMap R X) (k : K) (w : Option X) (q : K) → get (set_to m k w) q ≡ cond (eq_by_cmp R q k) w (get m q)
  get-set_to m k None q = get-remove o m k q
  get-set_to m k (Some x) q = get-insert o m k x q

  -- the map that slots show has what the first slot at the key holds
  pub get-shown : (es : List (K × Option X)) (q : K) → get (shown {R = R} es) q ≡ option_flatten (lookup (is_at (R q)) es)
  get-shown [] q = get-empty R q
  get-shown (e ∷ es) q = get-set_to (shown es) e.0 e.1 q ∙ ap (cond (eq_by_cmp R q e.0) e.1) (get-shown es q) ∙ flattened (eq_by_cmp R q e.0) e.1 (lookup (is_at (R q)) es)

  -- slots that hold the same show the same
  pub shown_same : CmpEqualImpliesEq R → (m n : BTreeMap K (Option X)) → ((q : K) → content R n q ≡ content R m q) → shown {R = R} n.entries ≡ shown m.entries
  shown_same exact m n h = same_map o exact _ _ (λ q. get-shown n.entries q ∙ h q ∙ sym (get-shown m.entries q))

  -- slots that differ in one show maps that differ there
  pub shown_set : CmpEqualImpliesEq R → (m n : BTreeMap K (Option X)) (k : K) (w : Option X) → ((q : K) → content R n q ≡ cond (eq_by_cmp R k q) w (content R m q)) → shown {R = R} n.entries ≡ set_to (shown m.entries) k w
  shown_set exact m n k w h = same_map o exact _ _ (λ q.
      get-shown n.entries q ∙ h q ∙ ap (λ b. cond b w (content R m q)) ((eq_by_cmp_equiv o).symm k q)
      ∙ sym (get-set_to (shown m.entries) k w q ∙ ap (cond (eq_by_cmp R q k) w) (get-shown m.entries q)))
