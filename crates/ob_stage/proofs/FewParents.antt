-- A model of a registry has few parents: their links are fields of its own, each another one.
use Rattle.std.proofs.Common.{◌≡◌, ◌≢◌, ◌<◌, ◌≤◌, ◌+◌, [], ℕ, zero, suc, List, Option, Some, None, ap, eqb, eqb-true, get_or, length, length-append, map, refl, subst, sym, true, ◌∙◌, arith}
use Rattle.std.specs.Prelude.{All}
use Rattle.std.specs.Option.{option_and_then, option_map_or}
use Rattle.std.specs.List.{AllPairs, list_any}
use Rattle.std.proofs.lemmas.Bool.Decides.{Decides-eqb}
use Rattle.std.proofs.lemmas.List.{get_or-map, length-map}
use Rattle.std.proofs.lemmas.List.Elements.{All-map}
use Rattle.std.proofs.lemmas.List.Folds.{Any-from_list_any}
use Rattle.std.proofs.lemmas.Map.Made.{IsDistinct-from_AllPairs}
use Rattle.std.proofs.lemmas.Map.Steps.{length-le_from_distinct_below}
use Rattle.std.proofs.lemmas.Option.{slice_get_within}
use Rattle.ob_base.specs.Limits.{max_checks, max_fields}
use Rattle.ob_base.specs.declared.id.ModelNo.{ModelNo}
use Rattle.ob_orm.specs.NewRows.{parents_of}
use Rattle.ob_schema.specs.Built.{numbered}
use Rattle.ob_schema.specs.Models.{IsModel, IsParentIn, IsRegistry, field_at, fields_of, model_at}
use Rattle.ob_schema.specs.declared.info.ModelInfo.{ModelInfo}
use Rattle.ob_schema.specs.declared.info.ParentInfo.{ParentInfo}
use Rattle.ob_tables.proofs.CallerLemmas.{told_and}

-- no number of a field reaches it
abbrev pub field_numbers : ℕ
field_numbers = max_fields + max_checks + 2

-- what has a number is one of so many
number-le : {X : Type 0} (xs : List X) (n : ℕ) (x : X) → numbered xs n ≡ Some x → n ≤ length xs
number-le xs zero x is = omega arith
number-le xs (suc i) x is = let within = slice_get_within xs i x is in omega (arith, within)

module _ (models : List ModelInfo) (model : ModelNo) (info : ModelInfo) (is : model_at models model ≡ Some info) (valid : IsModel models model info) where
  -- a link is one of the model's fields
  link-low : (parent : ParentInfo) → IsParentIn models model parent → parent.link.0 < field_numbers
  link-low parent leads =
      let (field, at, so) = told_and (field_at models model parent.link) _ leads.link in
      let within = number-le (fields_of info) parent.link.0 field (sym (ap (λ (o : Option ModelInfo). option_and_then (λ i. numbered (fields_of i) parent.link.0) o) is) ∙ at) in
      let sum = length-append info.fields info.hidden in let few = valid.few in let few_hidden = valid.few_hidden in omega (arith, within, sum, few, few_hidden)

  abbrev links : List ℕ
  links = map (λ (parent : ParentInfo). parent.link.0) info.inherits

  links-low : (q : ℕ) → list_any (eqb q) links ≡ true → q < field_numbers
  links-low q found =
      let (k, n, within, at, same) = Any-from_list_any (eqb q) links found in
      let all : All (λ x. x < field_numbers) links = All-map (λ x. x < field_numbers) (λ (parent : ParentInfo). parent.link.0) info.inherits (λ i d lt. link-low (get_or info.inherits i d) (valid.parents i d lt)) in
      let low : n < field_numbers = subst (λ x. x < field_numbers) at (all k n within) in let is_it : q ≡ n = eqb-true q n same in omega (arith, low, is_it)

  links-apart : AllPairs (λ a b. a ≢ b) links
  links-apart i j d before lt same =
      let none : ParentInfo = record { link = record { 0 = d }; model = record { 0 = 0 } } in
      let within : j < length info.inherits = subst (λ n. j < n) (length-map info.inherits (λ (parent : ParentInfo). parent.link.0)) lt in
      let first = get_or-map (λ (parent : ParentInfo). parent.link.0) info.inherits i none d (omega arith) in
      let second = get_or-map (λ (parent : ParentInfo). parent.link.0) info.inherits j none d within in valid.links_apart i j none before within (ap (λ (n : ℕ). record { 0 = n }) (sym first ∙ same ∙ second))

  few-links : length info.inherits ≤ field_numbers
  few-links = subst (λ n. n ≤ field_numbers) (length-map info.inherits (λ (parent : ParentInfo). parent.link.0)) (length-le_from_distinct_below links field_numbers (IsDistinct-from_AllPairs Decides-eqb links links-apart) links-low)

-- each of its links has another one
pub few-parents : (models : List ModelInfo) (model : ModelNo) → IsRegistry models → length (parents_of models model) ≤ field_numbers
few-parents models model registry = by (model_at models model) refl where
  by : (o : Option ModelInfo) → model_at models model ≡ o → length (option_map_or (λ info. info.inherits) o []) ≤ field_numbers
  by None is = omega arith
  by (Some info) is = few-links models model info is (registry.each model info is)
