-- What the keepers in memory hold, and what they are made of.
use Rattle.std.specs.Prelude.{ℕ, List, map, ◌++◌, IfSome, refl, Bool, true, false, Result, Ok, Err}
use Rattle.std.specs.Coded.{Coded, code_by, coded×, coded_ℕ, coded_list}
use Rattle.std.specs.Ordering.{nat_cmp}
use Rattle.std.specs.FinMap as finite
use Rattle.ob_base.specs.declared.id.ModelNo.{ModelNo}
use Rattle.ob_io.specs.declared.keeper.KeepFault.{KeepFault}
use Rattle.ob_io.specs.declared.keeper.KeepFault.TheVariants.{Failed, NoMemory}
use Rattle.ob_base.specs.declared.id.RowKey.{RowKey}
use Rattle.ob_io.specs.declared.store.Link.{Link}
use Rattle.ob_io.specs.declared.store.KeptRow.{KeptRow}
use Rattle.ob_io.specs.declared.store.Change.{Change}
use Rattle.ob_io.specs.declared.store.Change.TheVariants.{Put, Next}
use Rattle.ob_base.specs.Ids.{row_key_cmp}
use Rattle.ob_io.specs.Store.{Store, IsAnswerOf, Fits63}
use Rattle.ob_io.specs.Plan.{Plan}

-- the changes that put these rows, in this order, and then set these next ids
abbrev pub starting_changes : List (ModelNo × KeptRow) → List (ModelNo × ℕ) → List Change
starting_changes rows next_ids = map (λ p. Put p.0 p.1) rows ++ map (λ p. Next p.0 p.1) next_ids

-- each row is an answer of its key, and all numbers are below 2^63
pub record IsStoreFit (store : Store) : Type 0 where
  pub rows : (key : RowKey) → IfSome (finite.get store.rows key) (λ row. IsAnswerOf key.id row)
  pub ids : (key : RowKey) → IfSome (finite.get store.rows key) (λ row. Fits63 row.id.0)
  pub next_ids : (model : ℕ) → IfSome (finite.get store.next_ids model) Fits63

abbrev coded_key : Coded RowKey
coded_key = code_by (ℕ × ℕ) (coded× coded_ℕ coded_ℕ) (λ k. (k.model.0, k.id.0)) (λ p. record { model = record { 0 = p.0 }; id = record { 0 = p.1 } }) (λ _. refl)

abbrev coded_link : Coded Link
coded_link = code_by (ℕ × ℕ) (coded× coded_ℕ coded_ℕ) (λ l. (l.field.0, l.target.0)) (λ p. record { field = record { 0 = p.0 }; target = record { 0 = p.1 } }) (λ _. refl)

abbrev coded_row : Coded KeptRow
coded_row =
    code_by (ℕ × (List ℕ × List Link)) (coded× coded_ℕ (coded× (coded_list coded_ℕ) (coded_list coded_link))) (λ r. (r.id.0, (r.body, r.links)))
    (λ p. record { id = record { 0 = p.0 }; body = p.1.0; links = p.1.1 }) (λ _. refl)

-- a store is stored as its two maps
abbrev pub coded_store : Coded Store
coded_store = code_by (finite.FinMap row_key_cmp KeptRow × finite.FinMap nat_cmp ℕ) (coded× (finite.code coded_key coded_row) (finite.code coded_ℕ coded_ℕ)) (λ s. (s.rows, s.next_ids))
    (λ p. record { rows = p.0; next_ids = p.1 }) (λ _. refl)

-- a store, and which calls of its keeper fail
pub record Kept : Type 0 where
  pub store : Store
  pub plan : Plan

abbrev coded_plan : Coded Plan
coded_plan = code_by (List ℕ × (ℕ × ℕ)) (coded× (coded_list coded_ℕ) (coded× coded_ℕ coded_ℕ)) (λ p. (p.fail, (p.made, p.faults))) (λ p. record { fail = p.0; made = p.1.0; faults = p.1.1 }) (λ _. refl)

abbrev pub coded_kept : Coded Kept
coded_kept = code_by (Store × Plan) (coded× coded_store coded_plan) (λ k. (k.store, k.plan)) (λ p. record { store = p.0; plan = p.1 }) (λ _. refl)

-- whether a call answered that its keeper failed
abbrev pub has_failed : {T : Type 0} → Result T KeepFault → Bool
has_failed (Ok answer) = false
has_failed (Err Failed) = true
has_failed (Err NoMemory) = false
