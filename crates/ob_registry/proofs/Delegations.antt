-- The field behind a link, as the program finds it.
use Rattle.std.proofs.Common.{◌≡◌, ℕ, suc, ◌<◌, inl, inr, Bool, true, false, cond, ltb, List, length, Option, Some, None, option_map, is_some, refl, sym, ap, subst, ◌∙◌, arith}
use Rattle.std.specs.Prelude.{IsSome, IsSomeAnd, option_and_then, slice_get}
use Rattle.std.specs.List.{position_or_len}
use Rattle.std.specs.Str.{bytes_eq}
use Rattle.std.proofs.lemmas.Bool.Decides.{nat_tests}
use Rattle.std.proofs.lemmas.List.Folds.{find_at}
use Rattle.std.proofs.lemmas.Option.{slice_get_past, slice_get_cases}
use Rattle.ob_base.specs.declared.id.FieldNo.{FieldNo}
use Rattle.ob_base.specs.declared.id.ModelNo.{ModelNo}
use Rattle.ob_definition.specs.declared.definition.Inherits.{Inherits}
use Rattle.ob_definition.specs.Gathered.{Gathered, model_of}
use Rattle.ob_definition.specs.Members.{model_at, model_number, number_named}
use Rattle.ob_schema.specs.declared.info.Delegation.{Delegation}
use Rattle.ob_registry.specs.declared.model.Model.{Model}
use Rattle.ob_registry.specs.ModelFields.{named_in, number_in}
use Rattle.ob_registry.specs.Modelling.{IsModelled, delegation_of}
use Rattle.ob_registry.proofs.NamedFields.{number_modelled}

abbrev pub model_at_place : ℕ → ModelNo
model_at_place i = record { 0 = suc i }

-- the model of a name is that of its number
pub model_of-number : (models : List Gathered) (name : List ℕ) → model_of models name ≡ option_and_then (λ number. model_at models number.0) (model_number models name)
model_of-number models name = find_at p models ∙ by (ltb (position_or_len p models) (length models)) refl
  where
    p : Gathered → Bool
    p m = bytes_eq m.name name

    by : (b : Bool) → ltb (position_or_len p models) (length models) ≡ b
        → slice_get models (position_or_len p models) ≡ option_and_then (λ number. model_at models number.0) (option_map model_at_place (cond b (Some (position_or_len p models)) None))
    by true e = refl
    by false e = slice_get_past models (position_or_len p models) (grind (arith, nat_tests))

-- it is there
pub model_number-there : (models : List Gathered) (name : List ℕ) (number : ModelNo) → model_number models name ≡ Some number → IsSome (model_at models number.0)
model_number-there models name number is = by (ltb (position_or_len p models) (length models)) refl is
  where
    p : Gathered → Bool
    p m = bytes_eq m.name name

    by : (b : Bool) → ltb (position_or_len p models) (length models) ≡ b → option_map model_at_place (cond b (Some (position_or_len p models)) None) ≡ Some number → IsSome (model_at models number.0)
    by true e f =
        let same : model_at_place (position_or_len p models) ≡ number = let s : ◌≡◌ {A = Option ModelNo} (Some (model_at_place (position_or_len p models))) (Some number) = f in cc in
        let within : position_or_len p models < length models = grind (arith, nat_tests) in
        subst (λ (n : ModelNo). IsSome (model_at models n.0)) same (there models (position_or_len p models) within)
      where
        there : (xs : List Gathered) (i : ℕ) → i < length xs → IsSome (slice_get xs i)
        there xs i low = elim (slice_get_cases xs i).1 [ inl found ↦ ap is_some found.2 | inr past ↦ absurd (let high = past.0 in omega arith) ]
    by false e f = absurd (let s : ◌≡◌ {A = Option ModelNo} None (Some number) = f in cc)

pub model_of-Some : (models : List Gathered) (name : List ℕ) (number : ModelNo) → model_number models name ≡ Some number → model_of models name ≡ model_at models number.0
model_of-Some models name number is = model_of-number models name ∙ ap (option_and_then (λ n. model_at models n.0)) is

module _ (models : List Gathered) (g : Gathered) (i : Inherits) (name : List ℕ) where
  -- a field by its number in the parent, behind the link
  abbrev pub behind : FieldNo → ModelNo → FieldNo → Delegation
  behind link target field = record { link = link; model = target; field = field }

  abbrev by_parts : Option FieldNo → Option ModelNo → Option Gathered → Option Delegation
  by_parts link target parent =
      option_and_then (λ p. option_and_then (λ t. option_and_then (λ l. option_map (behind l t) (number_named models p name)) link) target) parent

  no_link : (target : Option ModelNo) (parent : Option Gathered) → by_parts None target parent ≡ None
  no_link None None = refl
  no_link None (Some p) = refl
  no_link (Some t) None = refl
  no_link (Some t) (Some p) = refl

  -- without the link there is none
  pub delegation-no_link : number_named models g i.link ≡ None → delegation_of models g i name ≡ None
  delegation-no_link none =
      ap (λ (o : Option FieldNo). by_parts o (model_number models i.model) (model_of models i.model)) none ∙ no_link (model_number models i.model) (model_of models i.model)

  -- with it, it is by the field of that name in the parent
  pub delegation-found : (link : FieldNo) (target : ModelNo) (parent : Model) → number_named models g i.link ≡ Some link → model_number models i.model ≡ Some target
      → IsSomeAnd (model_at models target.0) (λ p. IsModelled models p parent)
      → delegation_of models g i name ≡ option_map (behind link target) (number_in (named_in parent.named parent.members.items) name)
  delegation-found link target parent linked known modelled =
      ap (λ (o : Option FieldNo). by_parts o (model_number models i.model) (model_of models i.model)) linked
      ∙ ap (λ (o : Option ModelNo). by_parts (Some link) o (model_of models i.model)) known
      ∙ ap (by_parts (Some link) (Some target)) (model_of-Some models i.model target known)
      ∙ by (model_at models target.0) modelled
    where
      by : (o : Option Gathered) → IsSomeAnd o (λ p. IsModelled models p parent) → by_parts (Some link) (Some target) o ≡ option_map (behind link target) (number_in (named_in parent.named parent.members.items) name)
      by None none = absurd none
      by (Some p) is = ap (option_map (behind link target)) (sym (number_modelled models p parent is name))
