-- The ids above one, of rows and of those that pass.
use Rattle.std.proofs.Common.{◌≡◌, Bool, true, false, cond, List, [], ◌∷◌, map, filter, refl, ap}
use Rattle.std.specs.List.Sorted.{IsStrictlySortedBy}
use Rattle.std.specs.Prelude.{nat_lt}
use Rattle.std.proofs.lemmas.List.Kept.{IsStrictlySortedBy-filter}
use Rattle.ob_base.specs.declared.id.FieldNo.{FieldNo}
use Rattle.ob_base.specs.declared.id.ModelNo.{ModelNo}
use Rattle.ob_base.specs.declared.id.RecId.{RecId}
use Rattle.ob_schema.specs.Plain.{naming}
use Rattle.ob_schema.specs.Tables.{PlainRow, Tables, ids_in}
use Rattle.ob_tables.proofs.Listing.{naming-rises}
use Rattle.ob_tables.proofs.Rising.{id_cmp, ids-rise}

abbrev its_id : RecId × PlainRow → RecId
its_id e = e.0

module _ (after : RecId) where
  abbrev pub is_above : RecId → Bool
  is_above id = nat_lt after.0 id.0

  abbrev shows_above : RecId × PlainRow → Bool
  shows_above e = is_above e.0

  -- the ids of the rows above are the ids above
  pub ids-above : (rows : List (RecId × PlainRow)) → map its_id (filter shows_above rows) ≡ filter is_above (map its_id rows)
  ids-above [] = refl
  ids-above (e ∷ rows) = by_case (is_above e.0) (ids-above rows)
    where
      by_case : (b : Bool) → map its_id (filter shows_above rows) ≡ filter is_above (map its_id rows)
          → map its_id (cond b (e ∷ filter shows_above rows) (filter shows_above rows)) ≡ cond b (e.0 ∷ filter is_above (map its_id rows)) (filter is_above (map its_id rows))
      by_case true rest = ap (λ ids. e.0 ∷ ids) rest
      by_case false rest = rest

  -- the ids of a model above one rise
  pub above-rise : (t : Tables) (model : ModelNo) → IsStrictlySortedBy id_cmp (filter is_above (ids_in t model))
  above-rise t model = IsStrictlySortedBy-filter id_cmp is_above (ids_in t model) (ids-rise model t)

  -- and so do those of the rows that name one
  pub named-rise : (t : Tables) (model : ModelNo) (field : FieldNo) (id : RecId) → IsStrictlySortedBy id_cmp (filter is_above (naming t model field id))
  named-rise t model field id = IsStrictlySortedBy-filter id_cmp is_above (naming t model field id) (naming-rises t model field id)
