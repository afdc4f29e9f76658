-- The rows of a model above an id are those between the key after it and its next id.
use Rattle.std.proofs.Common.{◌≡◌, ◌<◌, ◌==◌, ◌+◌, ◌-◌, ℕ, Bool, true, false, not, ◌&&◌, cond, List, [], ◌∷◌, map, filter, min, refl, sym, ap, ◌∙◌, arith}
use Rattle.std.specs.Prelude.{nat_lt}
use Rattle.std.specs.declared.cmp.Ordering.{Ordering}
use Rattle.std.specs.declared.cmp.Ordering.TheVariants.{Less, Equal, Greater}
use Rattle.std.specs.declared.ops.Bound.TheVariants.{Included, Excluded}
use Rattle.std.specs.Ordering.{nat_cmp, is_le, ordering_then}
use Rattle.std.proofs.lemmas.Bool.Decides.{nat_tests}
use Rattle.std.proofs.lemmas.Cmp.{ranked}
use Rattle.std.specs.List.{AllByRecursion}
use Rattle.std.specs.BTreeMap.{BTreeMap}
use Rattle.std.specs.BTreeMap.Range.{range_contains}
use Rattle.ob_base.specs.declared.id.ModelNo.{ModelNo}
use Rattle.ob_base.specs.declared.id.RecId.{RecId}
use Rattle.ob_base.specs.declared.value.Value.{Value}
use Rattle.ob_base.specs.declared.id.RowKey.{RowKey}
use Rattle.ob_base.specs.Ids.{row_key_cmp}
use Rattle.ob_tables.specs.Rooms.{shown_row}
use Rattle.ob_schema.specs.Tables.{PlainRow, key_of}
use Rattle.ob_tables.proofs.Between.{IsBelow}

-- from the first id above one, where all are below the next one
at-first : (after n i : ℕ) → i < n → is_le (nat_cmp (min after (n - 1) + 1) i) ≡ nat_lt after i
at-first after n i low = grind (arith, nat_tests)

not-past : (n i : ℕ) → i < n → is_le (nat_cmp n i) ≡ false
not-past n i h = grind (arith, nat_tests)

differ : (k m : ℕ) → (k ≡ m → ⊥) → (k == m) ≡ false
differ k m h = grind (arith, nat_tests)

tied : (k m : ℕ) → m ≡ k → (k == m) ≡ true
tied k m h = grind (arith, nat_tests)

and_true : (b : Bool) → (b && true) ≡ b
and_true true = refl
and_true false = refl

by_models : (m k i n after : ℕ) (r : Ordering) → r ≡ nat_cmp m k → (k ≡ m → i < n)
    → (is_le (ordering_then r (nat_cmp (min after (n - 1) + 1) i)) && not (is_le (ordering_then r (nat_cmp n i)))) ≡ ((k == m) && nat_lt after i)
by_models m k i n after Less e h = sym (ap (λ b. b && nat_lt after i) (differ k m (apart (ranked m k Less e))))
  where
    apart : m < k → k ≡ m → ⊥
    apart lt is = omega arith
by_models m k i n after Equal e h =
    let same : m ≡ k = ranked m k Equal e in
    let low : i < n = h (sym same) in
    ap (λ b. is_le (nat_cmp (min after (n - 1) + 1) i) && not b) (not-past n i low) ∙ and_true (is_le (nat_cmp (min after (n - 1) + 1) i)) ∙ at-first after n i low ∙ sym (ap (λ b. b && nat_lt after i) (tied k m same))
by_models m k i n after Greater e h = sym (ap (λ b. b && nat_lt after i) (differ k m (apart (ranked m k Greater e))))
  where
    apart : k < m → k ≡ m → ⊥
    apart lt is = omega arith

module _ (model : ModelNo) (n after : ℕ) where
  abbrev is_above : RowKey → Bool
  is_above key = range_contains row_key_cmp (Included (key_of model (record { 0 = min after (n - 1) + 1 }))) (Excluded (key_of model (record { 0 = n }))) key

  above : (key : RowKey) → IsBelow model n key → is_above key ≡ ((key.model.0 == model.0) && nat_lt after key.id.0)
  above key h = by_models model.0 key.model.0 key.id.0 n after (nat_cmp model.0 key.model.0) refl h

  abbrev by_id : RowKey × BTreeMap ℕ Value → RecId × PlainRow
  by_id e = (e.0.id, shown_row e.1)

  abbrev shown_by_id : RowKey × PlainRow → RecId × PlainRow
  shown_by_id e = (e.0.id, e.1)

  abbrev show_one : RowKey × BTreeMap ℕ Value → RowKey × PlainRow
  show_one e = (e.0, shown_row e.1)

  abbrev is_past : RecId × PlainRow → Bool
  is_past entry = nat_lt after entry.0.0

  -- the entries in the range show the rows of the model above the id
  pub shown-above : (es : List (RowKey × BTreeMap ℕ Value)) → AllByRecursion (λ e. IsBelow model n e.0) es
      → map by_id (filter (λ e. is_above e.0) es) ≡ filter is_past (map shown_by_id (filter (λ e. e.0.model.0 == model.0) (map show_one es)))
  shown-above [] h = refl
  shown-above (e ∷ es) h =
      ap (λ b. map by_id (cond b (e ∷ filter (λ f. is_above f.0) es) (filter (λ f. is_above f.0) es))) (above e.0 h.0) ∙ by_case (e.0.model.0 == model.0) (nat_lt after e.0.id.0) refl (shown-above es h.1)
    where
      by_case : (b past : Bool) → nat_lt after e.0.id.0 ≡ past → map by_id (filter (λ f. is_above f.0) es) ≡ filter is_past (map shown_by_id (filter (λ f. f.0.model.0 == model.0) (map show_one es)))
          → map by_id (cond (b && past) (e ∷ filter (λ f. is_above f.0) es) (filter (λ f. is_above f.0) es))
          ≡ filter is_past (map shown_by_id (cond b (show_one e ∷ filter (λ f. f.0.model.0 == model.0) (map show_one es)) (filter (λ f. f.0.model.0 == model.0) (map show_one es))))
      by_case true true is rest =
          ap (λ others. by_id e ∷ others) rest
          ∙ sym (ap (λ b. cond b (by_id e ∷ filter is_past (map shown_by_id (filter (λ f. f.0.model.0 == model.0) (map show_one es)))) (filter is_past (map shown_by_id (filter (λ f. f.0.model.0 == model.0) (map show_one es))))) is)
      by_case true false is rest =
          rest
          ∙ sym (ap (λ b. cond b (by_id e ∷ filter is_past (map shown_by_id (filter (λ f. f.0.model.0 == model.0) (map show_one es)))) (filter is_past (map shown_by_id (filter (λ f. f.0.model.0 == model.0) (map show_one es))))) is)
      by_case false past is rest = rest
