-- Rows of sound tables have ids of 1 to the limit, so one page has all that name a row.
use Rattle.std.proofs.Common.{◌≡◌, ◌≤◌, ◌<◌, ◌+◌, ℕ, suc, Bool, true, cond, List, [], ◌∷◌, length, filter, refl, sym, ap, subst, ◌∙◌, arith, lt-ltb}
use Rattle.std.specs.Prelude.{Contains, nat_lt}
use Rattle.std.specs.List.{AllByRecursion}
use Rattle.std.specs.List.Sorted.{IsStrictlySortedBy}
use Rattle.std.specs.declared.cmp.Ordering.TheVariants.{Less}
use Rattle.std.proofs.lemmas.Cmp.{ranked}
use Rattle.std.proofs.lemmas.List.{take_all}
use Rattle.std.proofs.lemmas.Map.Keys.{sorted_head, sorted_tail}
use Rattle.ob_base.specs.Ids.{IsId}
use Rattle.ob_base.specs.Limits.{max_id}
use Rattle.ob_base.specs.declared.id.Cell.{Cell}
use Rattle.ob_base.specs.declared.id.FieldNo.{FieldNo}
use Rattle.ob_base.specs.declared.id.ModelNo.{ModelNo}
use Rattle.ob_base.specs.declared.id.RecId.{RecId}
use Rattle.ob_base.specs.declared.value.Value.{Value}
use Rattle.ob_unlink.proofs.NamingRows.{naming-kept}
use Rattle.ob_rows.proofs.CallerLemmas.{id-within, row-of-kept}
use Rattle.ob_schema.proofs.CallerLemmas.{contains-first, contains-later}
use Rattle.ob_schema.specs.Broken.{AreSound}
use Rattle.ob_schema.specs.Models.{IsRegistry}
use Rattle.ob_schema.specs.Plain.{names, naming}
use Rattle.ob_schema.specs.Tables.{Tables, kept_at}
use Rattle.ob_schema.specs.declared.info.ModelInfo.{ModelInfo}
use Rattle.ob_tables.proofs.CallerLemmas.{id_cmp, naming-rises, told_and}
use Rattle.ob_tables.specs.Paging.{first_above}

-- ids above one that rise have the next one as their least
above-all : (from : RecId) (ids : List RecId) → AllByRecursion (λ id. id_cmp from id ≡ Less) ids → AllByRecursion (λ id. from.0 + 1 ≤ id.0) ids
above-all from [] all = tt
above-all from (id ∷ ids) all = (by from.0 id.0 (ranked from.0 id.0 Less (sym all.0)), above-all from ids all.1)
  where
    by : (a b : ℕ) → a < b → a + 1 ≤ b
    by a b low = omega arith

-- rising ids within a limit are few
few-rising : (from : ℕ) (ids : List RecId) → from ≤ max_id + 1 → IsStrictlySortedBy id_cmp ids → AllByRecursion (λ id. from ≤ id.0) ids → AllByRecursion (λ id. id.0 ≤ max_id) ids → length ids + from ≤ max_id + 1
few-rising from [] start rising low high = omega arith
few-rising from (id ∷ ids) start rising low high =
    by (length ids) id.0 from (few-rising (id.0 + 1) ids (next id.0 high.0) (sorted_tail id_cmp id ids rising) (above-all id ids (sorted_head id_cmp id ids rising)) high.1) low.0
  where
    next : (i : ℕ) → i ≤ max_id → i + 1 ≤ max_id + 1
    next i le = omega arith

    by : (n i from : ℕ) → n + (i + 1) ≤ max_id + 1 → from ≤ i → suc n + from ≤ max_id + 1
    by n i from few low = omega arith

-- a test that each passes keeps all
each-passes : (p : RecId → Bool) (ids : List RecId) → AllByRecursion (λ id. p id ≡ true) ids → filter p ids ≡ ids
each-passes p [] all = refl
each-passes p (id ∷ ids) all = ap (λ (b : Bool). cond b (id ∷ filter p ids) (filter p ids)) all.0 ∙ ap (λ (l : List RecId). id ∷ l) (each-passes p ids all.1)

by-each : (P : RecId → Type 0) (ids : List RecId) → ((id : RecId) → Contains ids id → P id) → AllByRecursion P ids
by-each P [] each = tt
by-each P (id ∷ ids) each = (each id (contains-first id ids), by-each P ids (λ other later. each other (contains-later id ids other later)))

module _ (models : List ModelInfo) (tables : Tables) (registry : IsRegistry models) (sound : AreSound models tables) where
  -- one page has all that name a row
  pub page-all : (model : ModelNo) (field : FieldNo) (id : RecId) → first_above (record { 0 = 0 }) 4294967295 (naming tables model field id) ≡ naming tables model field id
  page-all model field id = take_all 4294967295 (filter (λ other. nat_lt 0 other.0) holders) (subst (λ (l : List RecId). length l ≤ 4294967295) (sym passed) few) ∙ passed
    where
      holders : List RecId
      holders = naming tables model field id

      within : (other : RecId) → Contains holders other → IsId other
      within other among =
          let cell : Cell = record { model = model; id = other; field = field } in
          let kept = told_and (kept_at tables cell) (λ (v : Value). names id v ≡ true) (naming-kept tables model field id other among) in
          id-within models tables registry sound model other (row-of-kept tables cell kept.0 kept.1)

      passed : filter (λ other. nat_lt 0 other.0) holders ≡ holders
      passed = each-passes (λ other. nat_lt 0 other.0) holders (by-each (λ other. nat_lt 0 other.0 ≡ true) holders (λ other among. lt-ltb 0 other.0 (low other.0 (within other among).0)))
        where
          low : (n : ℕ) → 1 ≤ n → 0 < n
          low n le = omega arith

      few : length holders ≤ 4294967295
      few = by (length holders)
          (few-rising 1 holders (omega arith) (naming-rises tables model field id) (by-each (λ other. 1 ≤ other.0) holders (λ other among. (within other among).0))
          (by-each (λ other. other.0 ≤ max_id) holders (λ other among. (within other among).1)))
        where
          by : (n : ℕ) → n + 1 ≤ max_id + 1 → n ≤ 4294967295
          by n le = omega arith
