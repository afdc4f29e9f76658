-- A store after changes, by what they make of each row and each next id.
use Rattle.std.proofs.Common.{◌≡◌, ℕ, List, [], ◌∷◌, ◌++◌, Bool, true, false, Option, Some, None, cond, refl, ap, ◌∙◌}
use Rattle.std.specs.Prelude.{unwrap_or}
use Rattle.std.specs.Cmp.{IsTotalOrder, nat_cmp_total}
use Rattle.std.specs.FinMap as finite
use Rattle.std.specs.Ordering.{eq_by_cmp, nat_cmp}
use Rattle.ob_base.specs.Ids.{row_key_cmp}
use Rattle.ob_base.specs.declared.id.ModelNo.{ModelNo}
use Rattle.ob_base.specs.declared.id.RowKey.{RowKey}
use Rattle.ob_cache.specs.Changing.{next_made, row_made}
use Rattle.ob_io.specs.Store.{Store, all_changed, changed, in_order, next_of}
use Rattle.ob_io.specs.declared.store.Change.{Change}
use Rattle.ob_io.specs.declared.store.Change.TheVariants.{Put, Gone, Next}
use Rattle.ob_io.specs.declared.store.KeptRow.{KeptRow}

-- the row of a key
pub rows-changed : IsTotalOrder row_key_cmp → (changes : List Change) (store : Store) (key : RowKey) → finite.get (all_changed changes store).rows key ≡ row_made changes key (finite.get store.rows key)
rows-changed total [] store key = refl
rows-changed total (Put model put ∷ changes) store key =
    rows-changed total changes (changed (Put model put) store) key ∙ ap (row_made changes key) (finite.get-insert total store.rows (record { model = model; id = put.id }) (in_order put) key)
rows-changed total (Gone model id ∷ changes) store key =
    rows-changed total changes (changed (Gone model id) store) key ∙ ap (row_made changes key) (finite.get-remove total store.rows (record { model = model; id = id }) key)
rows-changed total (Next model next ∷ changes) store key = rows-changed total changes (changed (Next model next) store) key

unwrap-cond : (b : Bool) (n d : ℕ) (o : Option ℕ) → unwrap_or (cond b (Some n) o) d ≡ cond b n (unwrap_or o d)
unwrap-cond true n d o = refl
unwrap-cond false n d o = refl

-- the next id of a model
pub next-changed : (changes : List Change) (store : Store) (model : ModelNo) → next_of (all_changed changes store) model ≡ next_made changes model (next_of store model)
next-changed [] store model = refl
next-changed (Put other put ∷ changes) store model = next-changed changes (changed (Put other put) store) model
next-changed (Gone other id ∷ changes) store model = next-changed changes (changed (Gone other id) store) model
next-changed (Next other given ∷ changes) store model =
    next-changed changes (changed (Next other given) store) model
    ∙ ap (next_made changes model) (ap (λ (o : Option ℕ). unwrap_or o 1) (finite.get-insert nat_cmp_total store.next_ids other.0 given model.0) ∙ unwrap-cond (eq_by_cmp nat_cmp model.0 other.0) given 1 (finite.get store.next_ids model.0))

-- changes after changes
pub rows-after : (first second : List Change) (key : RowKey) (row : Option KeptRow) → row_made (first ++ second) key row ≡ row_made second key (row_made first key row)
rows-after [] second key row = refl
rows-after (Put model put ∷ first) second key row = rows-after first second key (cond (eq_by_cmp row_key_cmp key (record { model = model; id = put.id })) (Some (in_order put)) row)
rows-after (Gone model id ∷ first) second key row = rows-after first second key (cond (eq_by_cmp row_key_cmp key (record { model = model; id = id })) None row)
rows-after (Next model next ∷ first) second key row = rows-after first second key row

pub next-after : (first second : List Change) (model : ModelNo) (next : ℕ) → next_made (first ++ second) model next ≡ next_made second model (next_made first model next)
next-after [] second model next = refl
next-after (Put other put ∷ first) second model next = next-after first second model next
next-after (Gone other id ∷ first) second model next = next-after first second model next
next-after (Next other given ∷ first) second model next = next-after first second model (cond (eq_by_cmp nat_cmp model.0 other.0) given next)
