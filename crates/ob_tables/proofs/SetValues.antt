-- The values of a row in a set of fields, field by field.
use Rattle.std.proofs.Common.{◌≡◌, ◌≢◌, ◌<◌, ◌≤◌, ◌+◌, ◌++◌, ℕ, List, [], ◌∷◌, length, get_or, drop, Option, Some, None, option_map, option_and_then, refl, sym, ap, ◌∙◌, append_assoc}
use Rattle.std.proofs.lemmas.List.{at_drop_all, at_drop_more, map-append}
use Rattle.std.specs.Borrow.{Bor}
use Rattle.ob_base.specs.declared.id.Cell.{Cell}
use Rattle.ob_base.specs.declared.id.FieldNo.{FieldNo}
use Rattle.ob_base.specs.declared.id.ModelNo.{ModelNo}
use Rattle.ob_base.specs.declared.id.RecId.{RecId}
use Rattle.ob_base.specs.declared.value.Value.{Value}
use Rattle.ob_base.specs.declared.value.Value.TheVariants as value
use Rattle.ob_schema.specs.Tables.{Tables, kept_at}
use Rattle.ob_tables.specs.Sets.{set_value, set_values, values_in}

-- a value that isn't unset stands in a set
pub some-set : (v : Value) → v ≢ value.Nil → set_value (Some v) ≡ Some v
some-set value.Nil h = absurd (h refl)
some-set v h = refl

-- after some values
abbrev after : List Value → Option (List Value) → Option (List Value)
after vs rest = option_map (λ rest. vs ++ rest) rest

after_none : (o : Option (List Value)) → o ≡ after [] o
after_none None = refl
after_none (Some vs) = refl

after_one : (vs : List Value) (v : Value) (o : Option (List Value)) → after vs (option_map (λ vs. v ∷ vs) o) ≡ after (vs ++ v ∷ []) o
after_one vs v None = refl
after_one vs v (Some ws) = ap Some (sym (append_assoc vs (v ∷ []) ws))

append_nil : (vs : List Value) → vs ++ [] ≡ vs
append_nil [] = refl
append_nil (v ∷ vs) = ap (λ ws. v ∷ ws) (append_nil vs)

module _ (t : Tables) (model : ModelNo) (id : RecId) where
  abbrev at : FieldNo → Cell
  at field = record { model = model; id = id; field = field }

  abbrev values : List FieldNo → Option (List Value)
  values set = set_values t model id set

  pub values-start : (set : List FieldNo) (vs : List (Bor Value)) → vs ≡ [] → values set ≡ option_map (λ rest. values_in vs ++ rest) (values (drop 0 set))
  values-start set vs e = after_none (values set) ∙ ap (λ l. after (values_in l) (values set)) (sym e)

  -- a field that is unset leaves none
  pub values-none : (set : List FieldNo) (i : ℕ) (d : FieldNo) (vs : List Value) → i < length set → set_value (kept_at t (at (get_or set i d))) ≡ None
      → values set ≡ option_map (λ rest. vs ++ rest) (values (drop i set)) → values set ≡ None
  values-none set i d vs low unset so_far =
      so_far ∙ ap (after vs) (at_drop_more values set i d low ∙ ap (option_and_then (λ v. option_map (λ vs. v ∷ vs) (values (drop (i + 1) set)))) unset)

  -- one more value
  pub values-more : (set : List FieldNo) (i : ℕ) (d : FieldNo) (old new : List (Bor Value)) (v : Bor Value) → i < length set → set_value (kept_at t (at (get_or set i d))) ≡ Some v.now → new ≡ old ++ v ∷ []
      → values set ≡ option_map (λ rest. values_in old ++ rest) (values (drop i set)) → values set ≡ option_map (λ rest. values_in new ++ rest) (values (drop (i + 1) set))
  values-more set i d old new v low is more so_far =
      so_far ∙ ap (after (values_in old)) (at_drop_more values set i d low ∙ ap (option_and_then (λ v. option_map (λ vs. v ∷ vs) (values (drop (i + 1) set)))) is)
      ∙ after_one (values_in old) v.now (values (drop (i + 1) set)) ∙ ap (λ vs. after vs (values (drop (i + 1) set))) (sym (ap values_in more ∙ map-append (λ (v : Bor Value). v.now) old (v ∷ [])))

  -- and all
  pub values-all : (set : List FieldNo) (i : ℕ) (vs : List Value) → length set ≤ i → values set ≡ option_map (λ rest. vs ++ rest) (values (drop i set)) → values set ≡ Some vs
  values-all set i vs past so_far = so_far ∙ ap (after vs) (at_drop_all values set i past) ∙ ap Some (append_nil vs)
