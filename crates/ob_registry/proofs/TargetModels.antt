-- The model that a relation names is there.
use Rattle.std.proofs.Common.{◌≡◌, ℕ, suc, Bool, true, false, cond, List, length, ◌≤◌, ltb, Option, Some, None, option_map, is_some, inl, inr, refl, sym, ap, ◌∙◌, arith}
use Rattle.std.specs.Prelude.{IsSome, option_and_then}
use Rattle.std.specs.List.{position, position_or_len, slice_get}
use Rattle.std.specs.Str.{bytes_eq}
use Rattle.std.proofs.lemmas.Bool.Decides.{nat_tests}
use Rattle.std.proofs.lemmas.Option.{slice_get_cases}
use Rattle.ob_base.specs.declared.id.ModelNo.{ModelNo}
use Rattle.ob_definition.specs.Definitions.{is_computed}
use Rattle.ob_definition.specs.declared.definition.FieldDef.{FieldDef}
use Rattle.ob_definition.specs.Gathered.{Gathered}
use Rattle.ob_definition.specs.Members.{model_at, model_number}
use Rattle.ob_definition.specs.Types.{is_relation}
use Rattle.ob_schema.specs.Finds.{relation_of}
use Rattle.ob_schema.specs.Paths.{targets_of}

place-there : {X : Type 0} (p : X → Bool) (xs : List X) (i : ℕ) → position p xs ≡ Some i → IsSome (slice_get xs i)
place-there p xs i found = elim (slice_get_cases xs i).1 [
  | inl there ↦ ap is_some there.2
  | inr past ↦ absurd (by (ltb (position_or_len p xs) (length xs)) refl found past.0)
]
  where
    by : (b : Bool) → ltb (position_or_len p xs) (length xs) ≡ b → cond b (Some (position_or_len p xs)) None ≡ Some i → length xs ≤ i → ⊥
    by true below e le = let same : position_or_len p xs ≡ i = cc in grind (arith, nat_tests)
    by false below e le = let no : ◌≡◌ {A = Option ℕ} None (Some i) = e in cc

module _ (models : List Gathered) where
  abbrev number_at_place : ℕ → ModelNo
  number_at_place i = record { 0 = suc i }

  model-there : (name : List ℕ) (target : ModelNo) → model_number models name ≡ Some target → IsSome (model_at models target.0)
  model-there name target e = by (position (λ m. bytes_eq m.name name) models) refl e
    where
      by : (o : Option ℕ) → position (λ m. bytes_eq m.name name) models ≡ o → option_map number_at_place o ≡ Some target → IsSome (model_at models target.0)
      by None at e = absurd (cc)
      by (Some i) at e = let same : number_at_place i ≡ target = cc in ap (λ (t : ModelNo). is_some (model_at models t.0)) (sym same) ∙ place-there (λ m. bytes_eq m.name name) models i at

  pub relation-there : (f : FieldDef) (target : ModelNo) → relation_of models f ≡ Some target → IsSome (model_at models target.0)
  relation-there f target e = by (is_relation f.field_type) f.relation e
    where
      by : (b : Bool) (o : Option (List ℕ)) → cond b (option_and_then (model_number models) o) None ≡ Some target → IsSome (model_at models target.0)
      by true None e = absurd (cc)
      by true (Some name) e = model-there name target e
      by false o e = absurd (cc)

  pub target-there : (f : FieldDef) (target : ModelNo) → targets_of models f ≡ Some target → IsSome (model_at models target.0)
  target-there f target e = by (is_computed f) e
    where
      by : (b : Bool) → cond b None (relation_of models f) ≡ Some target → IsSome (model_at models target.0)
      by true e = absurd (cc)
      by false e = relation-there f target e
