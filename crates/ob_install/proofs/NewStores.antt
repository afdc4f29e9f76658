-- Sound tables whose next ids are 1 have no rows.
use Rattle.std.proofs.Common.{◌≡◌, ◌<◌, ◌+◌, ◌∷◌, [], ℕ, zero, suc, Bool, true, false, cond, List, map, Option, Some, None, unwrap_or, is_some, refl, sym, ap, ◌∙◌, ◌⊎◌, inl, arith}
use Rattle.std.specs.Prelude.{codes, slice_get}
use Rattle.std.specs.Cmp.{nat_cmp_total}
use Rattle.std.specs.FinMap as finite
use Rattle.std.specs.List.{enumerate_from}
use Rattle.std.specs.Ordering.{eq_by_cmp, nat_cmp}
use Rattle.std.proofs.lemmas.Bool.{false≢true}
use Rattle.std.proofs.lemmas.Bool.Decides.{nat_tests}
use Rattle.ob_base.specs.Ids.{row_key_cmp}
use Rattle.ob_base.specs.Limits.{max_id}
use Rattle.ob_base.specs.declared.id.FieldNo.{FieldNo}
use Rattle.ob_base.specs.declared.id.ModelNo.{ModelNo}
use Rattle.ob_base.specs.declared.id.RowKey.{RowKey}
use Rattle.ob_base.specs.declared.refusal.BrokenKind.TheVariants as kind
use Rattle.ob_cache.proofs.CallerLemmas.{id-found, id-there}
use Rattle.ob_cache.specs.Standing.{Holding, RestsAt}
use Rattle.ob_io.specs.Store.{Store}
use Rattle.ob_schema.specs.Broken.{AreSound}
use Rattle.ob_schema.specs.Models.{HasModel, IsRegistry, field_at, field_named, is_id_from, model_at}
use Rattle.ob_schema.specs.Tables.{PlainRow, Tables, empty_tables, next_of, row_at}
use Rattle.ob_schema.specs.declared.info.ModelInfo.{ModelInfo}
use Rattle.ob_tables.proofs.CallerLemmas.{exact_rows, known_if, rows_total, tell_and, told_and}

-- ---- the next ids of tables without rows

abbrev ones : ℕ → List ModelInfo → List (ℕ × ℕ)
ones n models = map (λ place. (place.0, 1)) (enumerate_from n models)

-- whatever is found is 1
found-one : (q n : ℕ) (models : List ModelInfo) → unwrap_or (finite.find nat_cmp q (ones n models)) 1 ≡ 1
found-one q n [] = refl
found-one q n (info ∷ models) = by (eq_by_cmp nat_cmp q n) (found-one q (n + 1) models) where
  by : (b : Bool) → unwrap_or (finite.find nat_cmp q (ones (n + 1) models)) 1 ≡ 1 → unwrap_or (cond b (Some 1) (finite.find nat_cmp q (ones (n + 1) models))) 1 ≡ 1
  by true rest = refl
  by false rest = rest

-- something is found under the numbers of models alone
found-where : (k n : ℕ) (models : List ModelInfo) → is_some (finite.find nat_cmp (n + k) (ones n models)) ≡ is_some (slice_get models k)
found-where k n [] = refl
found-where zero n (info ∷ models) = ap (λ b. is_some (cond b (Some 1) (finite.find nat_cmp (n + 0) (ones (n + 1) models)))) (let e : eq_by_cmp nat_cmp (n + 0) n ≡ true = grind (arith, nat_tests) in e)
found-where (suc k) n (info ∷ models) =
    ap (λ b. is_some (cond b (Some 1) (finite.find nat_cmp (n + suc k) (ones (n + 1) models)))) (let e : eq_by_cmp nat_cmp (n + suc k) n ≡ false = grind (arith, nat_tests) in e)
    ∙ ap (λ q. is_some (finite.find nat_cmp q (ones (n + 1) models))) (let e : n + suc k ≡ n + 1 + k = omega arith in e) ∙ found-where k (n + 1) models

not-below : (q n : ℕ) (models : List ModelInfo) → q < n → is_some (finite.find nat_cmp q (ones n models)) ≡ false
not-below q n [] low = refl
not-below q n (info ∷ models) low =
    ap (λ b. is_some (cond b (Some 1) (finite.find nat_cmp q (ones (n + 1) models)))) (let e : eq_by_cmp nat_cmp q n ≡ false = grind (arith, nat_tests) in e) ∙ not-below q (n + 1) models (omega arith)

module _ (models : List ModelInfo) where
  -- each is 1
  pub next-one : (model : ModelNo) → next_of (empty_tables models) model ≡ 1
  next-one model = ap (λ o. unwrap_or o 1) (finite.get-from_entries nat_cmp_total (ones 1 models) model.0) ∙ found-one model.0 1 models

  -- and is that of a model
  next-where : (model : ModelNo) → is_some (finite.get (empty_tables models).next_ids model.0) ≡ is_some (model_at models model)
  next-where model = ap is_some (finite.get-from_entries nat_cmp_total (ones 1 models) model.0) ∙ by model.0 where
    by : (n : ℕ) → is_some (finite.find nat_cmp n (ones 1 models)) ≡ is_some (model_at models (record { 0 = n }))
    by zero = not-below 0 1 models (omega arith)
    by (suc k) = ap (λ q. is_some (finite.find nat_cmp q (ones 1 models))) (let e : suc k ≡ 1 + k = omega arith in e) ∙ found-where k 1 models

-- ---- sound tables whose next ids are 1

iff : (a b : Bool) → (a ≡ true → b ≡ true) → (b ≡ true → a ≡ true) → a ≡ b
iff true true to back = refl
iff true false to back = sym (to refl)
iff false true to back = back refl
iff false false to back = refl

same-ones : (a b : Option ℕ) → is_some a ≡ is_some b → unwrap_or a 1 ≡ 1 → unwrap_or b 1 ≡ 1 → a ≡ b
same-ones None None same x y = refl
same-ones None (Some m) same x y = absurd (false≢true same)
same-ones (Some n) None same x y = absurd (false≢true (sym same))
same-ones (Some n) (Some m) same x y = ap Some (x ∙ sym y)

module _ (models : List ModelInfo) (registry : IsRegistry models) (tables : Tables) (sound : AreSound models tables) (ones_are : (model : ModelNo) → HasModel models model → next_of tables model ≡ 1) where
  -- the id of a row would be past the limit of ids
  no-row : (key : RowKey) (row : PlainRow) → row_at tables key.model key.id ≡ Some row → ⊥
  no-row key row there =
      let (info, at, _) = told_and (model_at models key.model) _ (known_if (row_at tables key.model key.id) row _ there (sound.fits.rows key.model key.id)) in
      let low = sound.fits.above key.model key.id (ap is_some there) in
      let one = ones_are key.model (ap is_some at) in
      let none : key.id.0 ≡ 0 = omega (arith, low, one) in
      by info at none (field_named info.fields (codes "id")) refl where
        by : (info : ModelInfo) → model_at models key.model ≡ Some info → key.id.0 ≡ 0 → (o : Option FieldNo) → field_named info.fields (codes "id") ≡ o → ⊥
        by info at none None is = id-there models registry key.model info at is
        by info at none (Some number) is =
            let (field, here, of_id) = told_and (field_at models key.model number) (λ f. is_id_from f.origin ≡ true) (id-found models registry key.model info at number is) in
            sound.sound (record { kind = kind.Limit; cell = record { model = key.model; id = key.id; field = number } })
            (inl (ap is_some there, tell_and (field_at models key.model number) field (λ f. (is_id_from f.origin ≡ true) × ((key.id.0 ≡ 0) ⊎ (max_id < key.id.0))) here (of_id, inl none)))

  pub no-tables-but-empty : tables ≡ empty_tables models
  no-tables-but-empty = λ i. record { rows = rows_are i; next_ids = next_are i } where
    none : (key : RowKey) (o : Option PlainRow) → row_at tables key.model key.id ≡ o → o ≡ None
    none key None is = refl
    none key (Some row) is = absurd (no-row key row is)

    exact_keys : finite.IsAntisymmetric row_key_cmp
    exact_keys a b is = exact_rows a b is

    rows_are : tables.rows ≡ (empty_tables models).rows
    rows_are = finite.same_map rows_total exact_keys tables.rows finite.empty (λ key. none key (row_at tables key.model key.id) refl ∙ sym (finite.get-empty row_key_cmp key))

    a-one : (model : ModelNo) (o : Option ModelInfo) → model_at models model ≡ o → (p : Option ℕ) → finite.get tables.next_ids model.0 ≡ p → unwrap_or p 1 ≡ 1
    a-one model o at None is = refl
    a-one model o at (Some n) is = sym (ap (λ q. unwrap_or q 1) is) ∙ ones_are model ((sound.fits.next model).0 (ap is_some is))

    where_are : (model : ModelNo) → is_some (finite.get tables.next_ids model.0) ≡ is_some (finite.get (empty_tables models).next_ids model.0)
    where_are model = iff (is_some (finite.get tables.next_ids model.0)) (is_some (model_at models model)) (sound.fits.next model).0 (sound.fits.next model).1 ∙ sym (next-where models model)

    next_are : tables.next_ids ≡ (empty_tables models).next_ids
    next_are = finite.same_map nat_cmp_total finite.nat_cmp-IsAntisymmetric tables.next_ids (empty_tables models).next_ids
        (λ n. let model : ModelNo = record { 0 = n } in
        same-ones (finite.get tables.next_ids n) (finite.get (empty_tables models).next_ids n) (where_are model) (a-one model (model_at models model) refl (finite.get tables.next_ids n) refl) (next-one models model))

-- tables at which an engine rests are sound
pub resting-sound : (kept : Option Store) (held : Holding) (tables : Tables) → RestsAt kept held tables → AreSound held.models tables
resting-sound None held tables rests = absurd rests.over
resting-sound (Some store) held tables rests = rests.over.sound
