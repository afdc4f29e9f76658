-- A store whose numbers are below 2^63 stays so.
use Rattle.std.proofs.Common.{◌≡◌, Bool, true, false, cond, List, [], ◌∷◌, Option, Some, None, IfSome, All, refl, sym, subst}
use Rattle.std.specs.Ordering.{nat_cmp, eq_by_cmp}
use Rattle.std.specs.Cmp.{nat_cmp_total, IsTotalOrder, Equal-is}
use Rattle.std.specs.declared.cmp.Ordering.{Ordering}
use Rattle.std.proofs.lemmas.List.Elements.{All-head, All-tail}
use Rattle.std.proofs.lemmas.Map.Lookups.{CmpEqualImpliesEq, exact_unsigned}
use Rattle.std.specs.FinMap as finite
use Rattle.ob_base.specs.declared.id.RowKey.{RowKey}
use Rattle.ob_io.specs.declared.store.KeptRow.{KeptRow}
use Rattle.ob_io.specs.declared.store.Change.{Change}
use Rattle.ob_io.specs.declared.store.Change.TheVariants.{Put, Gone, Next}
use Rattle.ob_base.specs.Ids.{row_key_cmp}
use Rattle.ob_io.specs.Store.{Store, in_order, changed, all_changed, empty_store, Fits63, IsChangeFit, IsAnswerOf}
use Rattle.ob_io.specs.Kept.{IsStoreFit}
use Rattle.ob_io.proofs.Shown.{exact_rows, rows_total}
use Rattle.ob_io.proofs.LinksInOrder.{All-items, in_order-rising}

if_chosen : {X : Type 0} (P : X → Type 0) (b : Bool) (x : X) (o : Option X) → (b ≡ true → P x) → IfSome o P → IfSome (cond b (Some x) o) P
if_chosen P true x o new old = new refl
if_chosen P false x o new old = old

if_left : {X : Type 0} (P : X → Type 0) (b : Bool) (o : Option X) → IfSome o P → IfSome (cond b None o) P
if_left P true o old = tt
if_left P false o old = old

module _ {K X : Type 0} {R : K → K → Ordering} (o : IsTotalOrder R) (exact : CmpEqualImpliesEq R) (P : K → X → Type 0) where
  -- a fact of each key and its value, in a map with one more
  pub each-insert : (m : finite.FinMap R X) (k : K) (x : X) → P k x → ((q : K) → IfSome (finite.get m q) (P q)) → (q : K) → IfSome (finite.get (finite.insert m k x) q) (P q)
  each-insert m k x new old q = subst (λ w. IfSome w (P q)) (sym (finite.get-insert o m k x q))
      (if_chosen (P q) (eq_by_cmp R q k) x (finite.get m q) (λ e. subst (λ j. P j x) (sym (exact q k ((Equal-is (R q k)).0 e))) new) (old q))

  -- and in one with one less
  pub each-remove : (m : finite.FinMap R X) (k : K) → ((q : K) → IfSome (finite.get m q) (P q)) → (q : K) → IfSome (finite.get (finite.remove m k) q) (P q)
  each-remove m k old q = subst (λ w. IfSome w (P q)) (sym (finite.get-remove o m k q)) (if_left (P q) (eq_by_cmp R q k) (finite.get m q) (old q))

abbrev IsRowOf : RowKey → KeptRow → Type 0
IsRowOf key row = IsAnswerOf key.id row

abbrev IsIdFit : RowKey → KeptRow → Type 0
IsIdFit key row = Fits63 row.id.0

pub IsStoreFit-empty : IsStoreFit empty_store
IsStoreFit-empty = record {
  rows = λ key. subst (λ w. IfSome w (IsRowOf key)) (sym (finite.get-empty row_key_cmp key)) tt;
  ids = λ key. subst (λ w. IfSome w (IsIdFit key)) (sym (finite.get-empty row_key_cmp key)) tt;
  next_ids = λ model. subst (λ w. IfSome w Fits63) (sym (finite.get-empty nat_cmp model)) tt;
}

pub IsStoreFit-changed : (change : Change) (store : Store) → IsStoreFit store → IsChangeFit change → IsStoreFit (changed change store)
IsStoreFit-changed (Put model row) store fit h = record {
  rows = each-insert rows_total exact_rows IsRowOf store.rows (record { model = model; id = row.id }) (in_order row)
      (record { same_id = refl; rising = in_order-rising row; targets = All-items (λ link. Fits63 link.target.0) row.links h.targets }) fit.rows;
  ids = each-insert rows_total exact_rows IsIdFit store.rows (record { model = model; id = row.id }) (in_order row) h.id fit.ids;
  next_ids = fit.next_ids;
}
IsStoreFit-changed (Gone model id) store fit h = record {
  rows = each-remove rows_total exact_rows IsRowOf store.rows (record { model = model; id = id }) fit.rows;
  ids = each-remove rows_total exact_rows IsIdFit store.rows (record { model = model; id = id }) fit.ids;
  next_ids = fit.next_ids;
}
IsStoreFit-changed (Next model next) store fit h = record {
  rows = fit.rows;
  ids = fit.ids;
  next_ids = each-insert nat_cmp_total exact_unsigned (λ _ n. Fits63 n) store.next_ids model.0 next h fit.next_ids;
}

pub IsStoreFit-all_changed : (changes : List Change) (store : Store) → IsStoreFit store → All IsChangeFit changes → IsStoreFit (all_changed changes store)
IsStoreFit-all_changed [] store fit h = fit
IsStoreFit-all_changed (change ∷ changes) store fit h =
    IsStoreFit-all_changed changes (changed change store) (IsStoreFit-changed change store fit (All-head IsChangeFit change changes h)) (All-tail IsChangeFit change changes h)
