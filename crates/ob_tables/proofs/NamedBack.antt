-- The rows that name a row by a field are there.
use Rattle.std.proofs.Common.{◌≡◌, ◌⊎◌, inl, inr, Bool, true, false, cond, ◌&&◌, T, ◌==◌, List, [], ◌∷◌, map, filter, Some, refl, sym, ap, subst, ◌∙◌, eqb-true}
use Rattle.std.specs.declared.cmp.Ordering.{Ordering}
use Rattle.std.specs.declared.cmp.Ordering.TheVariants.{Less, Equal, Greater}
use Rattle.std.specs.Ordering.{is_eq, is_lt, ordering_reverse}
use Rattle.std.specs.Cmp.{IsTotalOrder, tied_itself}
use Rattle.std.specs.FinMap as finite
use Rattle.std.specs.FinMap.Entries.{below_all, find, is_sorted}
use Rattle.ob_base.specs.declared.id.FieldNo.{FieldNo}
use Rattle.ob_base.specs.declared.id.ModelNo.{ModelNo}
use Rattle.ob_base.specs.declared.id.RecId.{RecId}
use Rattle.ob_expr.specs.Reads.{IsAmong}
use Rattle.ob_base.specs.declared.id.RowKey.{RowKey}
use Rattle.ob_base.specs.Ids.{row_key_cmp}
use Rattle.ob_io.proofs.CallerLemmas.{rows_total}
use Rattle.ob_schema.specs.Plain.{names, naming}
use Rattle.ob_schema.specs.Tables.{PlainRow, Tables, key_of, kept_in, row_at, rows_in}

-- it is one of them
abbrev pub Stands : {X : Type 0} → X → List X → Type 0
Stands x [] = ⊥
Stands x (y ∷ ys) = (x ≡ y) ⊎ Stands x ys

-- of two that hold each holds
split_T : (a b : Bool) → T (a && b) → T a × T b
split_T true b both = (tt, both)
split_T false b both = absurd both

-- one of the values is the value of one
stands-map : {X Y : Type 0} (f : X → Y) (y : Y) (xs : List X) → Stands y (map f xs) → (x : X) × Stands x xs × (y ≡ f x)
stands-map f y [] among = absurd among
stands-map f y (x ∷ xs) (inl is) = (x, inl refl, is)
stands-map f y (x ∷ xs) (inr later) = let rest = stands-map f y xs later in (rest.0, inr rest.1, rest.2)

-- one that a test keeps passes it
stands-filter : {X : Type 0} (test : X → Bool) (y : X) (xs : List X) → Stands y (filter test xs) → Stands y xs × (test y ≡ true)
stands-filter test y [] among = absurd among
stands-filter {X = X} test y (x ∷ xs) among = by (test x) refl among (λ later. stands-filter test y xs later)
  where
    by : (b : Bool) → test x ≡ b → Stands y (cond b (x ∷ filter test xs) (filter test xs)) → (Stands y (filter test xs) → Stands y xs × (test y ≡ true)) → Stands y (x ∷ xs) × (test y ≡ true)
    by true passes (inl is) rest = (inl is, ap test is ∙ passes)
    by true passes (inr later) rest = let r = rest later in (inr r.0, r.1)
    by false fails among rest = let r = rest among in (inr r.0, r.1)

-- an id among ids is one of them
pub stands-among : (id : RecId) (ids : List RecId) → IsAmong id ids → Stands id ids
stands-among id [] among = among
stands-among id (x ∷ ids) (inl is) = inl is
stands-among id (x ∷ ids) (inr later) = inr (stands-among id ids later)

-- where one is less, the other is not equal
not_tied : (r s : Ordering) → T (is_lt r) → s ≡ ordering_reverse r → is_eq s ≡ false
not_tied Less s lt is = ap is_eq is
not_tied Equal s lt is = absurd lt
not_tied Greater s lt is = absurd lt

module _ {K X : Type 0} (R : K → K → Ordering) (o : IsTotalOrder R) where
  -- a key below all is less than each
  below-stands : (k : K) (e : K × X) (es : List (K × X)) → T (below_all R k es) → Stands e es → T (is_lt (R k e.0))
  below-stands k e [] below among = absurd among
  below-stands k e (x ∷ es) below (inl is) = subst (λ (y : K × X). T (is_lt (R k y.0))) (sym is) (split_T _ _ below).0
  below-stands k e (x ∷ es) below (inr later) = below-stands k e es (split_T _ _ below).1 later

  -- each entry is found by its key
  pub entry_found : (e : K × X) (es : List (K × X)) → T (is_sorted R es) → Stands e es → find R e.0 es ≡ Some e.1
  entry_found e [] sorted among = absurd among
  entry_found e (x ∷ es) sorted (inl is) =
      subst (λ (y : K × X). find R y.0 (x ∷ es) ≡ Some y.1) (sym is) (ap (λ (r : Ordering). cond (is_eq r) (Some x.1) (find R x.0 es)) (tied_itself o x.0))
  entry_found e (x ∷ es) sorted (inr later) =
      let parts = split_T _ _ sorted in
      ap (λ (b : Bool). cond b (Some x.1) (find R e.0 es)) (not_tied (R x.0 e.0) (R e.0 x.0) (below-stands x.0 e es parts.0 later) (o.antisymm e.0 x.0)) ∙ entry_found e es parts.1 later

-- a row among those of a model is there
pub rows_in-there : (tables : Tables) (model : ModelNo) (entry : RecId × PlainRow) → Stands entry (rows_in tables model) → row_at tables model entry.0 ≡ Some entry.1
rows_in-there tables model entry among =
    let mapped = stands-map (λ (e : RowKey × PlainRow). (e.0.id, e.1)) entry (filter (λ (e : RowKey × PlainRow). e.0.model.0 == model.0) (finite.entries tables.rows)) among in
    let e = mapped.0 in
    let kept = stands-filter (λ (e : RowKey × PlainRow). e.0.model.0 == model.0) e (finite.entries tables.rows) mapped.1 in
    let found : find row_key_cmp e.0 (finite.entries tables.rows) ≡ Some e.1 = entry_found row_key_cmp rows_total e (finite.entries tables.rows) (finite.entries_sorted tables.rows) kept.0 in
    let same : e.0.model.0 ≡ model.0 = eqb-true e.0.model.0 model.0 kept.1 in
    let key : key_of model entry.0 ≡ e.0 = λ i. record { model = record { 0 = sym same i }; id = (mapped.2 i).0 } in
    ap (λ (k : RowKey). finite.get tables.rows k) key ∙ finite.get-entries tables.rows e.0 ∙ found ∙ sym (ap (λ (x : RecId × PlainRow). Some x.1) mapped.2)

-- a row that names one by a field is there, and names it
pub naming-there : (tables : Tables) (model : ModelNo) (field : FieldNo) (id child : RecId) → IsAmong child (naming tables model field id)
    → (row : PlainRow) × (row_at tables model child ≡ Some row) × (names id (kept_in row field) ≡ true)
naming-there tables model field id child among =
    let test = λ (entry : RecId × PlainRow). names id (kept_in entry.1 field) in
    let mapped = stands-map (λ (entry : RecId × PlainRow). entry.0) child (filter test (rows_in tables model)) (stands-among child (naming tables model field id) among) in
    let kept = stands-filter test mapped.0 (rows_in tables model) mapped.1 in
    (mapped.0.1, ap (λ (x : RecId). row_at tables model x) mapped.2 ∙ rows_in-there tables model mapped.0 kept.0, kept.1)
