-- A map into which entries of another are inserted in turn answers as that one does, at the keys that are asked for.
use Rattle.std.proofs.Common.{◌≡◌, false, cond, List, [], ◌∷◌, Option, Some, None, refl, sym, ap, ◌∙◌}
use Rattle.std.specs.declared.cmp.Ordering.{Ordering}
use Rattle.std.specs.Ordering.{eq_by_cmp}
use Rattle.std.specs.Cmp.{IsTotalOrder, eq_by_cmp_equiv}
use Rattle.std.specs.List.Sorted.{IsStrictlySortedBy}
use Rattle.std.specs.Map.{keys_of, lookup, update_all}
use Rattle.std.specs.BTreeMap.{is_at}
use Rattle.std.proofs.lemmas.Map.Keys.{IsDistinct-from_sorted}
use Rattle.std.proofs.lemmas.Map.Made.{update_all_none}

module _ {K X : Type 0} (R : K → K → Ordering) where
  -- with the entries that are left, what a map answers at these keys becomes what the whole has
  abbrev pub LeadsTo : (K → Type 0) → (K → Option X) → List (K × X) → List (K × X) → Type 0
  LeadsTo At f left whole = (q : K) → At q → update_all (eq_by_cmp R) f left q ≡ update_all (eq_by_cmp R) (λ _. None) whole q

  -- maps that answer alike at a key do so once the same entries are inserted
  alike : (q : K) (f g : K → Option X) (left : List (K × X)) → f q ≡ g q → update_all (eq_by_cmp R) f left q ≡ update_all (eq_by_cmp R) g left q
  alike q f g [] h = h
  alike q f g (e ∷ left) h = alike q (λ x. cond (eq_by_cmp R e.0 x) (Some e.1) (f x)) (λ x. cond (eq_by_cmp R e.0 x) (Some e.1) (g x)) left (ap (cond (eq_by_cmp R e.0 q) (Some e.1)) h)

  module _ (At : K → Type 0) where
    -- none of them is inserted yet
    pub copy-begun : (f : K → Option X) (left whole : List (K × X)) → ((q : K) → f q ≡ None) → left ≡ whole → LeadsTo At f left whole
    copy-begun f left whole none is q at = alike q f (λ _. None) left (none q) ∙ ap (λ es. update_all (eq_by_cmp R) (λ _. None) es q) is

    -- one more is inserted
    pub copy-more : (f g : K → Option X) (k : K) (v : X) (from left whole : List (K × X)) → from ≡ (k, v) ∷ left → ((q : K) → g q ≡ cond (eq_by_cmp R k q) (Some v) (f q)) → LeadsTo At f from whole
        → LeadsTo At g left whole
    copy-more f g k v from left whole is set h q at =
        alike q g (λ x. cond (eq_by_cmp R k x) (Some v) (f x)) left (set q) ∙ ap (λ es. update_all (eq_by_cmp R) f es q) (sym is) ∙ h q at

    -- one is left out, which is none of those keys
    pub copy-passes : (f : K → Option X) (k : K) (v : X) (from left whole : List (K × X)) → from ≡ (k, v) ∷ left → ((q : K) → At q → eq_by_cmp R k q ≡ false) → LeadsTo At f from whole → LeadsTo At f left whole
    copy-passes f k v from left whole is other h q at =
        alike q f (λ x. cond (eq_by_cmp R k x) (Some v) (f x)) left (sym (ap (λ b. cond b (Some v) (f q)) (other q at))) ∙ ap (λ es. update_all (eq_by_cmp R) f es q) (sym is) ∙ h q at

    -- all are inserted
    pub copy-done : IsTotalOrder R → (f : K → Option X) (left whole : List (K × X)) → left ≡ [] → IsStrictlySortedBy R (keys_of whole) → LeadsTo At f left whole → (q : K) → At q → f q ≡ lookup (is_at (R q)) whole
    copy-done o f left whole none sorted h q at =
        ap (λ es. update_all (eq_by_cmp R) f es q) (sym none) ∙ h q at ∙ update_all_none (eq_by_cmp_equiv o) (eq_by_cmp R) (λ x y. refl) whole q (IsDistinct-from_sorted R (keys_of whole) sorted)
