-- The changes from tables that are kept to others, as they are gathered: row by row, then the next ids model by model.
use Rattle.std.proofs.Common.{◌≡◌, ◌≢◌, ◌+◌, ◌^◌, ◌<◌, ◌≤◌, ◌⊎◌, ◌++◌, inl, inr, ℕ, zero, suc, Bool, true, false, cond, List, [], ◌∷◌, take, length, get_or, Option, Some, None, is_some, refl, sym, ap, subst, ◌∙◌, arith}
use Rattle.std.specs.Prelude.{All, Contains, option_and_then, option_map}
use Rattle.std.specs.Ordering.{eq_by_cmp, is_eq, nat_cmp}
use Rattle.std.specs.Cmp.{nat_cmp_total, tied_itself}
use Rattle.std.proofs.lemmas.Bool.{cases_eq}
use Rattle.std.proofs.lemmas.List.{take_more, take_all}
use Rattle.std.proofs.lemmas.Option.{same_Some}
use Rattle.std.specs.List.{slice_get}
use Rattle.std.proofs.lemmas.List.Elements.{All-append, All-cons, All-nil, Contains-push_cases}
use Rattle.std.proofs.lemmas.Map.Lookups.{exact_unsigned}
use Rattle.std.proofs.lemmas.Map.Views.{tells_apart}
use Rattle.ob_base.specs.Ids.{row_key_cmp}
use Rattle.ob_base.specs.Limits.{max_models}
use Rattle.ob_base.specs.declared.id.ModelNo.{ModelNo}
use Rattle.ob_base.specs.declared.id.RecId.{RecId}
use Rattle.ob_base.specs.declared.id.RowKey.{RowKey}
use Rattle.ob_cache.specs.Changing.{ChangesTo, NextsStay, RowsStay, RowsTo, TurnsRow, form_of, next_made, row_made}
use Rattle.ob_cache.specs.Kept.{kept_row}
use Rattle.ob_cache.specs.Reading.{IsOneOf}
use Rattle.ob_cache.proofs.Changing.{next-after, rows-after}
use Rattle.ob_cache.proofs.OpenedTables.{within}
use Rattle.ob_io.specs.Store.{Fits63, IsChangeFit, IsRowFit, in_order}
use Rattle.ob_io.specs.declared.store.Change.{Change}
use Rattle.ob_io.specs.declared.store.Change.TheVariants.{Put, Gone, Next}
use Rattle.ob_io.specs.declared.store.KeptRow.{KeptRow}
use Rattle.ob_schema.specs.Models.{HasModel, IsRegistry, model_at}
use Rattle.ob_schema.specs.Tables.{PlainRow, Standing, key_of, next_of, row_at}
use Rattle.ob_schema.specs.declared.info.ModelInfo.{ModelInfo}
use Rattle.ob_tables.proofs.CallerLemmas.{exact_rows, rows_total}

-- ---- lists

pub one-split : {X : Type 0} (x y : X) (xs : List X) → IsOneOf x (xs ++ y ∷ []) → IsOneOf x xs ⊎ (x ≡ y)
one-split x y [] (inl is) = inr is
one-split x y [] (inr none) = absurd none
one-split x y (z ∷ xs) (inl is) = inl (inl is)
one-split x y (z ∷ xs) (inr later) = by (one-split x y xs later)
  where
    by : IsOneOf x xs ⊎ (x ≡ y) → IsOneOf x (z ∷ xs) ⊎ (x ≡ y)
    by (inl here) = inl (inr here)
    by (inr is) = inr is

pub one-at : {X : Type 0} (xs : List X) (k : ℕ) (x : X) → slice_get xs k ≡ Some x → IsOneOf x xs
one-at [] k x is = absurd cc
one-at (y ∷ xs) zero x is = inl (sym (same_Some y x is))
one-at (y ∷ xs) (suc k) x is = inr (one-at xs k x is)

contains-none : (key : RowKey) → Contains [] key → ⊥
contains-none key one = let low : one.0 < 0 = one.1 in omega arith

-- ---- keys

keys-differ : (a b : RowKey) → (a ≡ b) ⊎ (a ≢ b)
keys-differ a b = by (cases_eq a.model.0 b.model.0) (cases_eq a.id.0 b.id.0)
  where
    by : (a.model.0 ≡ b.model.0) ⊎ (a.model.0 ≡ b.model.0 → ⊥) → (a.id.0 ≡ b.id.0) ⊎ (a.id.0 ≡ b.id.0 → ⊥) → (a ≡ b) ⊎ (a ≢ b)
    by (inl model) (inl id) = inl (λ i. record { model = record { 0 = model i }; id = record { 0 = id i } })
    by (inl model) (inr apart) = inr (λ is. apart (ap (λ (k : RowKey). k.id.0) is))
    by (inr apart) _ = inr (λ is. apart (ap (λ (k : RowKey). k.model.0) is))

key-same : (key : RowKey) → eq_by_cmp row_key_cmp key key ≡ true
key-same key = ap is_eq (tied_itself rows_total key)

key-other : (key other : RowKey) → other ≢ key → eq_by_cmp row_key_cmp other key ≡ false
key-other key other apart = by (eq_by_cmp row_key_cmp other key) refl
  where
    by : (b : Bool) → eq_by_cmp row_key_cmp other key ≡ b → b ≡ false
    by true same = absurd (apart (tells_apart exact_rows other key same))
    by false same = refl

other-model : (a b : ModelNo) → a ≢ b → eq_by_cmp nat_cmp a.0 b.0 ≡ false
other-model a b other = by (eq_by_cmp nat_cmp a.0 b.0) refl
  where
    by : (t : Bool) → eq_by_cmp nat_cmp a.0 b.0 ≡ t → t ≡ false
    by true same = absurd (other (ap (λ (n : ℕ). record { 0 = n }) (tells_apart exact_unsigned a.0 b.0 same)))
    by false same = refl

-- ---- one more change

module _ (change : Change) (old new : List Change) (is : new ≡ old ++ change ∷ []) where
  pushed-row : (key : RowKey) (row : Option KeptRow) → row_made new key row ≡ row_made (change ∷ []) key (row_made old key row)
  pushed-row key row = ap (λ (l : List Change). row_made l key row) is ∙ rows-after old (change ∷ []) key row

  pushed-next : (model : ModelNo) (next : ℕ) → next_made new model next ≡ next_made (change ∷ []) model (next_made old model next)
  pushed-next model next = ap (λ (l : List Change). next_made l model next) is ∙ next-after old (change ∷ []) model next

  pushed-fit : IsChangeFit change → All IsChangeFit old → All IsChangeFit new
  pushed-fit fit all = subst (All IsChangeFit) (sym is) (All-append IsChangeFit old (change ∷ []) all (All-cons IsChangeFit change [] fit (All-nil IsChangeFit)))

-- ---- one row

module _ (models : List ModelInfo) (key : RowKey) (before now : Option KeptRow) where
  -- it is kept as it was
  pub turned-alike : before ≡ now → (changes : List Change) → TurnsRow models key before now changes changes
  turned-alike same changes = record { fit = λ all. all; turned = by; others = λ other row apart. refl; next = λ model next. refl }
    where
      by : (row_made changes key before ≡ before) ⊎ (row_made changes key before ≡ now) → row_made changes key before ≡ now
      by (inl still) = still ∙ same
      by (inr there) = there

  module _ (has : HasModel models key.model) (old new : List Change) where
    apart-from : (other : RowKey) → (other ≢ key) ⊎ (model_at models other.model ≡ None) → other ≢ key
    apart-from other (inl apart) = apart
    apart-from other (inr none) = λ same. let both : false ≡ true = sym (ap is_some none) ∙ ap (λ (k : RowKey). is_some (model_at models k.model)) same ∙ has in cc

    -- it went
    pub turned-gone : Fits63 key.id.0 → now ≡ None → new ≡ old ++ Gone key.model key.id ∷ [] → TurnsRow models key before now old new
    turned-gone fit none is = record {
      fit = pushed-fit (Gone key.model key.id) old new is fit;
      turned = λ either. pushed-row (Gone key.model key.id) old new is key before ∙ ap (λ (b : Bool). cond b None (row_made old key before)) (key-same key) ∙ sym none;
      others = λ other row apart. pushed-row (Gone key.model key.id) old new is other row ∙ ap (λ (b : Bool). cond b None (row_made old other row)) (key-other key other (apart-from other apart));
      next = λ model next. pushed-next (Gone key.model key.id) old new is model next;
    }

    -- it came, or is kept in another form
    pub turned-put : (put : KeptRow) → put.id ≡ key.id → IsRowFit put → Some (in_order put) ≡ now → new ≡ old ++ Put key.model put ∷ [] → TurnsRow models key before now old new
    turned-put put id_is fit form is = record {
      fit = pushed-fit (Put key.model put) old new is fit;
      turned = λ either. pushed-row (Put key.model put) old new is key before ∙ ap (λ (b : Bool). cond b (Some (in_order put)) (row_made old key before)) (own ∙ key-same key) ∙ form;
      others = λ other row apart. pushed-row (Put key.model put) old new is other row
          ∙ ap (λ (b : Bool). cond b (Some (in_order put)) (row_made old other row)) (another other ∙ key-other key other (apart-from other apart));
      next = λ model next. pushed-next (Put key.model put) old new is model next;
    }
      where
        another : (other : RowKey) → eq_by_cmp row_key_cmp other (key_of key.model put.id) ≡ eq_by_cmp row_key_cmp other key
        another other = ap (λ (id : RecId). eq_by_cmp row_key_cmp other (key_of key.model id)) id_is

        own : eq_by_cmp row_key_cmp key (key_of key.model put.id) ≡ eq_by_cmp row_key_cmp key key
        own = another key

-- ---- kept forms

-- by the model and the row
pub form-at : (s : Standing) (key : RowKey) (info : ModelInfo) → model_at s.models key.model ≡ Some info → (r : Option PlainRow) → row_at s.tables key.model key.id ≡ r
    → form_of s key ≡ option_map (kept_row s.models s.tables key.model info key.id) r
form-at s key info is r there =
    ap (λ (o : Option ModelInfo). option_and_then (λ i. option_map (kept_row s.models s.tables key.model i key.id) (row_at s.tables key.model key.id)) o) is ∙ ap (option_map (kept_row s.models s.tables key.model info key.id)) there

-- a row of no model has none
pub form-absent : (s : Standing) (key : RowKey) → model_at s.models key.model ≡ None → form_of s key ≡ None
form-absent s key none = ap (option_and_then (λ i. option_map (kept_row s.models s.tables key.model i key.id) (row_at s.tables key.model key.id))) none

-- nor has one that isn't there
pub form-none : (s : Standing) (key : RowKey) → row_at s.tables key.model key.id ≡ None → form_of s key ≡ None
form-none s key none = by (model_at s.models key.model) refl
  where
    by : (o : Option ModelInfo) → model_at s.models key.model ≡ o → form_of s key ≡ None
    by None is = form-absent s key is
    by (Some info) is = form-at s key info is None none

-- ---- rows in turn

-- the rows of some keys are turned, and no other yet
pub record TurnedTo (old new : Standing) (keys : List RowKey) (changes : List Change) : Type 0 where
  pub fit : All IsChangeFit changes
  pub rows : (key : RowKey) → (row_made changes key (form_of old key) ≡ form_of new key) ⊎ ((row_made changes key (form_of old key) ≡ form_of old key) × (Contains keys key → ⊥))
  pub others : (key : RowKey) (row : Option KeptRow) → model_at old.models key.model ≡ None → row_made changes key row ≡ row
  pub next : (model : ModelNo) (next : ℕ) → next_made changes model next ≡ next

module _ (old new : Standing) where
  -- none yet
  pub turned-none : TurnedTo old new [] []
  turned-none = record { fit = All-nil IsChangeFit; rows = λ key. inr (refl, contains-none key); others = λ key row none. refl; next = λ model next. refl }

  -- one more
  pub turned-more : (keys : List RowKey) (i : ℕ) (key : RowKey) → i < length keys → key ≡ get_or keys i key → (before now : List Change) → TurnedTo old new (take i keys) before
      → TurnsRow old.models key (form_of old key) (form_of new key) before now → TurnedTo old new (take (i + 1) keys) now
  turned-more keys i key low at before now so_far turns = record {
    fit = turns.fit so_far.fit;
    rows = λ other. by other (keys-differ other key) (so_far.rows other);
    others = λ other row none. turns.others other row (inr none) ∙ so_far.others other row none;
    next = λ model next. turns.next model next ∙ so_far.next model next;
  }
    where
      more : take (i + 1) keys ≡ take i keys ++ key ∷ []
      more = take_more keys i key low ∙ ap (λ (k : RowKey). take i keys ++ k ∷ []) (sym at)

      no-more : (other : RowKey) → other ≢ key → (Contains (take i keys) other → ⊥) → Contains (take (i + 1) keys) other → ⊥
      no-more other apart not one = elim (Contains-push_cases (take i keys) key other (subst (λ (l : List RowKey). Contains l other) more one)) [ inl here ↦ not here | inr is ↦ apart (sym is) ]

      first : (row_made before key (form_of old key) ≡ form_of new key) ⊎ ((row_made before key (form_of old key) ≡ form_of old key) × (Contains (take i keys) key → ⊥))
          → (row_made before key (form_of old key) ≡ form_of old key) ⊎ (row_made before key (form_of old key) ≡ form_of new key)
      first (inl there) = inr there
      first (inr still) = inl still.0

      by : (other : RowKey) → (other ≡ key) ⊎ (other ≢ key)
          → (row_made before other (form_of old other) ≡ form_of new other) ⊎ ((row_made before other (form_of old other) ≡ form_of old other) × (Contains (take i keys) other → ⊥))
          → (row_made now other (form_of old other) ≡ form_of new other) ⊎ ((row_made now other (form_of old other) ≡ form_of old other) × (Contains (take (i + 1) keys) other → ⊥))
      by other (inl is) either = inl (subst (λ (k : RowKey). row_made now k (form_of old k) ≡ form_of new k) (sym is) (turns.turned (first (so_far.rows key))))
      by other (inr apart) (inl there) = inl (turns.others other (form_of old other) (inl apart) ∙ there)
      by other (inr apart) (inr still) = inr (turns.others other (form_of old other) (inl apart) ∙ still.0, no-more other apart still.1)

  -- all, and the others are kept as they were
  pub turned-all : (keys : List RowKey) (i : ℕ) → length keys ≤ i → ((key : RowKey) → (Contains keys key → ⊥) → form_of old key ≡ form_of new key) → (changes : List Change)
      → TurnedTo old new (take i keys) changes → RowsTo old new changes
  turned-all keys i long others changes turned = record { fit = turned.fit; rows = λ key. by key (turned.rows key); others = turned.others; next = turned.next }
    where
      by : (key : RowKey) → (row_made changes key (form_of old key) ≡ form_of new key) ⊎ ((row_made changes key (form_of old key) ≡ form_of old key) × (Contains (take i keys) key → ⊥))
          → row_made changes key (form_of old key) ≡ form_of new key
      by key (inl there) = there
      by key (inr still) = still.0 ∙ others key (λ one. still.1 (subst (λ (l : List RowKey). Contains l key) (sym (take_all i keys long)) one))

-- ---- next ids

-- where a model's next id is another, it is told
pub next-pushed : (model : ModelNo) (given : ℕ) (before after : List Change) → after ≡ before ++ Next model given ∷ [] → given < 2 ^ 63
    → (All IsChangeFit before → All IsChangeFit after) × RowsStay before after × NextsStay model before after × ((next : ℕ) → next_made after model next ≡ given)
next-pushed model given before after pushed fit = (
  pushed-fit (Next model given) before after pushed fit,
  λ key row. pushed-row (Next model given) before after pushed key row,
  λ other next apart. pushed-next (Next model given) before after pushed other next ∙ ap (λ (b : Bool). cond b given (next_made before other next)) (other-model other model apart),
  λ next. pushed-next (Next model given) before after pushed model next ∙ ap (λ (b : Bool). cond b given (next_made before model next)) (ap is_eq (tied_itself nat_cmp_total model.0)),
)

-- ---- models in turn

-- all rows are changed, and the next ids of the models up to a number
pub record ChangedTo (old new : Standing) (place : ℕ) (changes : List Change) : Type 0 where
  pub fit : All IsChangeFit changes
  pub rows : (key : RowKey) → row_made changes key (form_of old key) ≡ form_of new key
  pub other_rows : (key : RowKey) (row : Option KeptRow) → model_at old.models key.model ≡ None → row_made changes key row ≡ row
  pub next : (model : ModelNo) → HasModel old.models model → model.0 ≤ place → next_made changes model (next_of old.tables model) ≡ next_of new.tables model
  pub later_next : (model : ModelNo) (next : ℕ) → (model_at old.models model ≡ None) ⊎ (place < model.0) → next_made changes model next ≡ next

pub changed-none : (old new : Standing) (changes : List Change) → RowsTo old new changes → ChangedTo old new 0 changes
changed-none old new changes turned = record {
  fit = turned.fit;
  rows = turned.rows;
  other_rows = turned.others;
  next = λ model has low. absurd (no old.models model has low);
  later_next = λ model next later. turned.next model next;
}
  where
    no : (models : List ModelInfo) (model : ModelNo) → HasModel models model → model.0 ≤ 0 → ⊥
    no models model has low = by model.0 has low
      where
        by : (n : ℕ) → HasModel models (record { 0 = n }) → n ≤ 0 → ⊥
        by zero has low = absurd (let none : false ≡ true = has in cc)
        by (suc n) has low = omega arith

module _ (old new : Standing) (place : ℕ) (model : ModelNo) (number : model.0 ≡ place + 1) (before : List Change) (so_far : ChangedTo old new place before) where
  either : (other : ModelNo) → other.0 ≤ place + 1 → (other ≡ model) ⊎ ((other ≢ model) × (other.0 ≤ place))
  either other low = by (cases_eq other.0 model.0)
    where
      by : (other.0 ≡ model.0) ⊎ (other.0 ≡ model.0 → ⊥) → (other ≡ model) ⊎ ((other ≢ model) × (other.0 ≤ place))
      by (inl is) = inl (ap (λ (n : ℕ). record { 0 = n }) is)
      by (inr apart) = inr ((λ is. apart (ap (λ (m : ModelNo). m.0) is)), low-place other.0 model.0 low number apart)
        where
          low-place : (a b : ℕ) → a ≤ place + 1 → b ≡ place + 1 → (a ≡ b → ⊥) → a ≤ place
          low-place a b low is apart = omega arith

  beyond : (other : ModelNo) → place + 1 < other.0 → (other ≢ model) × (place < other.0)
  beyond other far = ((λ is. by other.0 model.0 far number (ap (λ (m : ModelNo). m.0) is)), omega arith)
    where
      by : (a b : ℕ) → place + 1 < a → b ≡ place + 1 → a ≡ b → ⊥
      by a b far is same = omega arith

  -- there is no such model
  pub changed-passed : model_at old.models model ≡ None → ChangedTo old new (place + 1) before
  changed-passed none = record {
    fit = so_far.fit;
    rows = so_far.rows;
    other_rows = so_far.other_rows;
    next = λ other has low. elim (either other low) [
      | inl is ↦ absurd (not-there other is has)
      | inr apart ↦ so_far.next other has apart.1
    ];
    later_next = λ other next later. so_far.later_next other next (further other later);
  }
    where
      not-there : (other : ModelNo) → other ≡ model → HasModel old.models other → ⊥
      not-there other is has = let both : false ≡ true = sym (ap is_some (ap (model_at old.models) is ∙ none)) ∙ has in cc

      further : (other : ModelNo) → (model_at old.models other ≡ None) ⊎ (place + 1 < other.0) → (model_at old.models other ≡ None) ⊎ (place < other.0)
      further other (inl none) = inl none
      further other (inr far) = inr (omega arith)

  -- its next id is told
  pub changed-more : HasModel old.models model → (now : List Change) → (All IsChangeFit before → All IsChangeFit now) → RowsStay before now → NextsStay model before now
      → (next_made before model (next_of old.tables model) ≡ next_of old.tables model → next_made now model (next_of old.tables model) ≡ next_of new.tables model)
      → ChangedTo old new (place + 1) now
  changed-more there now fit rows others own = record {
    fit = fit so_far.fit;
    rows = λ key. rows key (form_of old key) ∙ so_far.rows key;
    other_rows = λ key row none. rows key row ∙ so_far.other_rows key row none;
    next = λ other has low. elim (either other low) [
      | inl is ↦ own-next other is
      | inr apart ↦ others other (next_of old.tables other) apart.0 ∙ so_far.next other has apart.1
    ];
    later_next = λ other next later. others other next (apart-by other later) ∙ so_far.later_next other next (further other later);
  }
    where
      at-last : place < model.0
      at-last = by model.0 number
        where
          by : (b : ℕ) → b ≡ place + 1 → place < b
          by b is = omega arith

      own-next : (other : ModelNo) → other ≡ model → next_made now other (next_of old.tables other) ≡ next_of new.tables other
      own-next other is =
          subst (λ (m : ModelNo). next_made now m (next_of old.tables m) ≡ next_of new.tables m) (sym is) (own (so_far.later_next model (next_of old.tables model) (inr at-last)))

      apart-by : (other : ModelNo) → (model_at old.models other ≡ None) ⊎ (place + 1 < other.0) → other ≢ model
      apart-by other (inl none) = λ is. (let both : false ≡ true = sym (ap is_some (sym (ap (model_at old.models) is) ∙ none)) ∙ there in cc)
      apart-by other (inr far) = (beyond other far).0

      further : (other : ModelNo) → (model_at old.models other ≡ None) ⊎ (place + 1 < other.0) → (model_at old.models other ≡ None) ⊎ (place < other.0)
      further other (inl none) = inl none
      further other (inr far) = inr ((beyond other far).1)

-- all models are changed
pub changed-all : (old new : Standing) → IsRegistry old.models → (place : ℕ) → max_models ≤ place → (changes : List Change) → ChangedTo old new place changes → ChangesTo old new changes
changed-all old new registry place long changes changed = record {
  fit = changed.fit;
  rows = λ key has. changed.rows key;
  next = λ model has. changed.next model has (low model has);
  other_rows = changed.other_rows;
  other_next = λ model next none. changed.later_next model next (inl none);
}
  where
    low : (model : ModelNo) → HasModel old.models model → model.0 ≤ place
    low model has = by (within old.models model.0 has) registry.few
      where
        by : model.0 ≤ length old.models → length old.models ≤ max_models → model.0 ≤ place
        by a b = omega arith
