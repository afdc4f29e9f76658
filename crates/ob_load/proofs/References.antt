-- References gone through in their order.
use Rattle.std.proofs.Common.{◌≡◌, ℕ, ◌+◌, ◌<◌, ◌≤◌, List, [], ◌∷◌, ◌++◌, length, map, drop, get_or, Option, None, Some, sym, ap, ◌∙◌}
use Rattle.std.specs.Prelude.{fold}
use Rattle.std.specs.BTreeSet.{insert_key}
use Rattle.std.specs.Option.{option_map_or}
use Rattle.std.specs.Ordering.{nat_cmp}
use Rattle.std.proofs.lemmas.List.{drop_all}
use Rattle.toml.specs.View.{view}
use Rattle.toml.specs.declared.value.Value.{Value}
use Rattle.ob_load.specs.Preset.{Ref, reference, references}
use Rattle.ob_load.proofs.AccessSteps.{parted-at, stands-at}
use Rattle.ob_schema.specs.declared.info.FieldInfo.{FieldInfo}
use Rattle.ob_schema.specs.declared.info.ModelInfo.{ModelInfo}

module _ (models : List ModelInfo) (groups : List (List ℕ)) (first : ℕ) (refs : List Ref) (field : FieldInfo) where
  -- the numbers so far, with those that these items name
  abbrev pub rows_left : List ℕ → List Value → List ℕ
  rows_left so_far items = fold (insert_key nat_cmp) so_far (references models groups first refs field (map view items))

  -- one item
  one : (so_far : List ℕ) (x : Value) (items : List Value) (o : Option ℕ) → reference models groups first refs field (view x) ≡ o → rows_left so_far (x ∷ items) ≡ rows_left (option_map_or (insert_key nat_cmp so_far) o so_far) items
  one so_far x items None is = ap (λ (o : Option ℕ). fold (insert_key nat_cmp) so_far (option_map_or (λ n. n ∷ []) o [] ++ references models groups first refs field (map view items))) is
  one so_far x items (Some n) is = ap (λ (o : Option ℕ). fold (insert_key nat_cmp) so_far (option_map_or (λ n. n ∷ []) o [] ++ references models groups first refs field (map view items))) is

  module _ (xs : List Value) (i : ℕ) (total : List ℕ) where
    pub rows-next : (x : Value) (so_far new : List ℕ) (o : Option ℕ) → i < length xs → x ≡ get_or xs i x → reference models groups first refs field (view x) ≡ o → new ≡ option_map_or (insert_key nat_cmp so_far) o so_far
        → rows_left so_far (drop i xs) ≡ total → rows_left new (drop (i + 1) xs) ≡ total
    rows-next x so_far new o low at is grown held =
        ap (λ (l : List ℕ). rows_left l (drop (i + 1) xs)) grown ∙ sym (one so_far x (drop (i + 1) xs) o is)
        ∙ ap (rows_left so_far) (sym (parted-at xs i x (stands-at xs i x low at)).0) ∙ held

    pub rows-end : (so_far : List ℕ) → length xs ≤ i → rows_left so_far (drop i xs) ≡ total → so_far ≡ total
    rows-end so_far high held = ap (rows_left so_far) (sym (drop_all i xs high)) ∙ held
