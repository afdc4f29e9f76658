-- The rows of a model, by the list of their ids, and the rows that a value names.
use Rattle.std.proofs.Common.{◌≡◌, ◌⊎◌, ◌==◌, ◌||◌, inl, inr, ℕ, zero, suc, Bool, true, false, cond, List, [], ◌∷◌, map, filter, Option, Some, None, IsSome, is_some, refl, sym, ap, subst, ◌∙◌, eqb-true, eq-eqb}
use Rattle.std.specs.Prelude.{slice_get}
use Rattle.std.specs.List.{list_any}
use Rattle.std.specs.Ordering.{is_eq}
use Rattle.std.specs.FinMap as finite
use Rattle.std.specs.FinMap.Entries.{find}
use Rattle.std.proofs.lemmas.Map.Views.{tells_apart}
use Rattle.std.proofs.lemmas.Option.{same_Some}
use Rattle.ob_base.specs.declared.id.ModelNo.{ModelNo}
use Rattle.ob_base.specs.declared.id.RecId.{RecId}
use Rattle.ob_base.specs.declared.value.Value.{Value}
use Rattle.ob_base.specs.declared.value.Value.TheVariants as value
use Rattle.ob_base.specs.declared.id.RowKey.{RowKey}
use Rattle.ob_base.specs.Ids.{row_key_cmp}
use Rattle.ob_schema.specs.Plain.{names}
use Rattle.ob_schema.specs.Plain.{targets_of}
use Rattle.ob_schema.specs.Tables.{PlainRow, Tables, ids_in, key_of, row_at, rows_in}
use Rattle.ob_tables.proofs.NamedBack.{Stands, rows_in-there}
use Rattle.ob_tables.proofs.Shown.{exact_rows}

contrary : {P : Type 0} → false ≡ true → P
contrary e = cc

-- an item of a list stands in it, at a place
abbrev pub HasAt : {X : Type 0} → List X → X → Type 0
HasAt xs x = (k : ℕ) × (slice_get xs k ≡ Some x)

later : {X : Type 0} (y : X) (xs : List X) (x : X) → HasAt xs x → HasAt (y ∷ xs) x
later y xs x h = (suc h.0, h.1)

at-map : {X Y : Type 0} (f : X → Y) (xs : List X) (x : X) → HasAt xs x → HasAt (map f xs) (f x)
at-map f [] x h = let e = h.1 in cc
at-map {X} {Y} f (y ∷ xs) x h = by h.0 h.1 (λ again. at-map f xs x again)
  where
    by : (k : ℕ) → slice_get (y ∷ xs) k ≡ Some x → (HasAt xs x → HasAt (map f xs) (f x)) → HasAt (f y ∷ map f xs) (f x)
    by zero e again = (0, ap (λ z. Some (f z)) (same_Some y x e))
    by (suc k) e again = later (f y) (map f xs) (f x) (again (k, e))

at-filter : {X : Type 0} (p : X → Bool) (xs : List X) (x : X) → p x ≡ true → HasAt xs x → HasAt (filter p xs) x
at-filter p [] x ok h = let e = h.1 in cc
at-filter {X} p (y ∷ xs) x ok h = by h.0 h.1 (λ again. at-filter p xs x ok again)
  where
    kept : (b : Bool) → HasAt (filter p xs) x → HasAt (cond b (y ∷ filter p xs) (filter p xs)) x
    kept true rest = later y (filter p xs) x rest
    kept false rest = rest

    by : (k : ℕ) → slice_get (y ∷ xs) k ≡ Some x → (HasAt xs x → HasAt (filter p xs) x) → HasAt (cond (p y) (y ∷ filter p xs) (filter p xs)) x
    by zero e again = subst (λ b. HasAt (cond b (y ∷ filter p xs) (filter p xs)) x) (sym (ap p (same_Some y x e) ∙ ok)) (0, e)
    by (suc k) e again = kept (p y) (again (k, e))

back-map : {X Y : Type 0} (f : X → Y) (xs : List X) (k : ℕ) (y : Y) → slice_get (map f xs) k ≡ Some y → (x : X) × (slice_get xs k ≡ Some x) × (y ≡ f x)
back-map f [] k y e = cc
back-map f (x ∷ xs) zero y e = (x, refl, sym (same_Some (f x) y e))
back-map f (x ∷ xs) (suc k) y e = back-map f xs k y e

pub stands-at : {X : Type 0} (xs : List X) (k : ℕ) (x : X) → slice_get xs k ≡ Some x → Stands x xs
stands-at [] k x e = cc
stands-at (y ∷ xs) zero x e = inl (sym (same_Some y x e))
stands-at (y ∷ xs) (suc k) x e = inr (stands-at xs k x e)

-- the row of each id of the model is there
pub ids-there : (t : Tables) (model : ModelNo) (k : ℕ) (id : RecId) → slice_get (ids_in t model) k ≡ Some id → IsSome (row_at t model id)
ids-there t model k id e =
    let entry = back-map (λ (e : RecId × PlainRow). e.0) (rows_in t model) k id e in
    ap is_some (ap (λ i. row_at t model i) entry.2 ∙ rows_in-there t model entry.0 (stands-at (rows_in t model) k entry.0 entry.1))

found-at : (q : RowKey) (es : List (RowKey × PlainRow)) (row : PlainRow) → find row_key_cmp q es ≡ Some row → HasAt es (q, row)
found-at q [] row e = cc
found-at q (x ∷ es) row e = by (is_eq (row_key_cmp q x.0)) refl e (λ is. found-at q es row is)
  where
    by : (b : Bool) → is_eq (row_key_cmp q x.0) ≡ b → cond b (Some x.1) (find row_key_cmp q es) ≡ Some row → (find row_key_cmp q es ≡ Some row → HasAt es (q, row)) → HasAt (x ∷ es) (q, row)
    by true same is again =
        let key : q ≡ x.0 = tells_apart exact_rows q x.0 same in
        let val : x.1 ≡ row = same_Some x.1 row is in
        (0, ap (λ (e : RowKey × PlainRow). Some e) (λ i. (sym key i, val i)))
    by false same is again = later x es (q, row) (again is)

there : {X : Type 0} (o : Option X) → IsSome o → (x : X) × (o ≡ Some x)
there None h = cc
there (Some x) h = (x, refl)

-- and the id of each row that is there is one of them
pub there-ids : (t : Tables) (model : ModelNo) (id : RecId) → IsSome (row_at t model id) → HasAt (ids_in t model) id
there-ids t model id h =
    let row = there (row_at t model id) h in
    let es = finite.entries t.rows in
    let found = found-at (key_of model id) es row.0 (sym (finite.get-entries t.rows (key_of model id)) ∙ row.1) in
    let kept = at-filter (λ (e : RowKey × PlainRow). e.0.model.0 == model.0) es (key_of model id, row.0) (eq-eqb model.0 model.0 refl) found in
    at-map (λ (e : RecId × PlainRow). e.0) (rows_in t model) (id, row.0) (at-map (λ (e : RowKey × PlainRow). (e.0.id, e.1)) (filter (λ (e : RowKey × PlainRow). e.0.model.0 == model.0) es) (key_of model id, row.0) kept)

same_id : (a b : RecId) → (a.0 == b.0) ≡ true → a ≡ b
same_id a b e = ap (λ n. record { 0 = n }) (eqb-true a.0 b.0 e)

any-at : (id : RecId) (ids : List RecId) → list_any (λ other. other.0 == id.0) ids ≡ true → HasAt ids id
any-at id [] h = contrary h
any-at id (x ∷ ids) h = by (x.0 == id.0) refl h (λ any. any-at id ids any)
  where
    by : (b : Bool) → (x.0 == id.0) ≡ b → (b || list_any (λ other. other.0 == id.0) ids) ≡ true → (list_any (λ other. other.0 == id.0) ids ≡ true → HasAt ids id) → HasAt (x ∷ ids) id
    by true same any again = (0, ap Some (same_id x id same))
    by false same any again = later x ids id (again any)

either : (a b : Bool) → (a ≡ true) ⊎ (b ≡ true) → (a || b) ≡ true
either true b h = refl
either false b (inl h) = contrary h
either false b (inr h) = h

at-any : (id : RecId) (ids : List RecId) (k : ℕ) → slice_get ids k ≡ Some id → list_any (λ other. other.0 == id.0) ids ≡ true
at-any id [] k e = cc
at-any id (x ∷ ids) zero e = either (x.0 == id.0) (list_any (λ other. other.0 == id.0) ids) (inl (eq-eqb x.0 id.0 (ap (λ i. i.0) (same_Some x id e))))
at-any id (x ∷ ids) (suc k) e = either (x.0 == id.0) (list_any (λ other. other.0 == id.0) ids) (inr (at-any id ids k e))

-- the rows that a value names are its targets
pub names-at : (v : Value) (id : RecId) → names id v ≡ true → HasAt (targets_of v) id
names-at (value.Ref other) id h = (0, ap Some (same_id other id h))
names-at (value.Refs ids) id h = any-at id ids h
names-at value.Nil id h = contrary h
names-at (value.Bool b) id h = contrary h
names-at (value.Int n) id h = contrary h
names-at (value.Word t) id h = contrary h
names-at (value.Day n) id h = contrary h
names-at (value.Moment n) id h = contrary h

single-at : (k : ℕ) (x y : RecId) → slice_get (x ∷ []) k ≡ Some y → x ≡ y
single-at zero x y e = same_Some x y e
single-at (suc k) x y e = cc

pub at-names : (v : Value) (k : ℕ) (id : RecId) → slice_get (targets_of v) k ≡ Some id → names id v ≡ true
at-names (value.Ref other) k id e = eq-eqb other.0 id.0 (ap (λ i. i.0) (single-at k other id e))
at-names (value.Refs ids) k id e = at-any id ids k e
at-names value.Nil k id e = cc
at-names (value.Bool b) k id e = cc
at-names (value.Int n) k id e = cc
at-names (value.Word t) k id e = cc
at-names (value.Day n) k id e = cc
at-names (value.Moment n) k id e = cc
