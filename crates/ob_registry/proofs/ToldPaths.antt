-- A declared path as it is followed name by name.
use Rattle.std.proofs.Common.{◌≡◌, ℕ, ◌-◌, ◌≤◌, true, false, eqb, List, [], ◌∷◌, ◌++◌, length, get_or, take, drop, Option, Some, None, Ok, Err, option_map, refl, sym, ap, subst, ◌∙◌, arith}
use Rattle.std.specs.Prelude.{IsSomeAnd}
use Rattle.std.specs.Borrow.{Bor}
use Rattle.std.proofs.lemmas.List.{take_all}
use Rattle.std.proofs.lemmas.Bool.Decides.{nat_tests}
use Rattle.ob_base.specs.declared.id.ModelNo.{ModelNo}
use Rattle.ob_definition.specs.Gathered.{Gathered}
use Rattle.ob_definition.specs.Members.{members_of, model_at, named}
use Rattle.ob_schema.specs.declared.info.Step.{Step}
use Rattle.ob_registry.specs.declared.model.Member.{Member as KeptMember}
use Rattle.ob_registry.specs.declared.model.Model.{Model}
use Rattle.ob_registry.specs.ModelFields.{member_of, named_in}
use Rattle.ob_registry.specs.Modelling.{IsModelled}
use Rattle.ob_schema.specs.Paths.{no_field, no_step, has_value, path_from, steps_through, targets_of}
use Rattle.ob_registry.specs.Telling.{texts_in}
use Rattle.ob_schema.proofs.CallerLemmas.{known_by, named-is, value_of}
use Rattle.ob_registry.proofs.NamedFields.{named_modelled}
use Rattle.ob_registry.proofs.PathSteps.{behind, behind-more, path-ends, path-ends_not, path-goes_on, path-stops, path-unknown}

-- names as the first and those behind it
pub first-name : (rest : List (Bor (List ℕ))) (d : Bor (List ℕ)) → 1 ≤ length rest → texts_in rest ≡ (get_or rest 0 d).now ∷ texts_in (take (length rest - 1) (drop 1 rest))
first-name [] d some = absurd (omega arith)
first-name (x ∷ more) d some = ap (λ (l : List (Bor (List ℕ))). x.now ∷ texts_in l) (sym (take_all (length (x ∷ more) - 1) more (omega arith)))

pub no-names : (texts : List (Bor (List ℕ))) → eqb (length texts) 0 ≡ true → texts_in texts ≡ []
no-names [] e = refl
no-names (x ∷ texts) e = absurd (grind (arith, nat_tests))

pub some-names : (texts : List (Bor (List ℕ))) → eqb (length texts) 0 ≡ false → (next : List ℕ) × (names : List (List ℕ)) × (texts_in texts ≡ next ∷ names)
some-names [] e = absurd (grind (arith, nat_tests))
some-names (x ∷ texts) e = (x.now, texts_in texts, refl)

module _ (models : List Gathered) (number : ModelNo) (model : Model) (name : List ℕ) (modelled : IsSomeAnd (model_at models number.0) (λ g. IsModelled models g model))
    (found : Option (Bor KeptMember)) (by_name : option_map (λ (m : Bor KeptMember). member_of m.now) found ≡ named (named_in model.named model.members.items) name) where
  meant : (g : Gathered) × (model_at models number.0 ≡ Some g) × (option_map (λ (m : Bor KeptMember). member_of m.now) found ≡ named (members_of models g) name)
  meant = let w = value_of (model_at models number.0) (λ g. IsModelled models g model) modelled in (w.0, w.1, by_name ∙ named_modelled models w.0 model w.2 name)

  -- a name that is no field
  pub unknown : found ≡ None → (names : List (List ℕ)) → path_from models number (name ∷ names) ≡ Err no_field
  unknown none names = path-unknown models number meant.0 meant.1 name (sym meant.2 ∙ ap (option_map (λ (m : Bor KeptMember). member_of m.now)) none) names

  module _ (m : Bor KeptMember) (is : found ≡ Some m) where
    found_by_name : named (members_of models meant.0) name ≡ Some (member_of m.now)
    found_by_name = sym meant.2 ∙ ap (option_map (λ (m : Bor KeptMember). member_of m.now)) is

    -- the field is that of its own name
    pub known : IsSomeAnd (model_at models number.0) (λ g. named (members_of models g) m.now.def.now.name ≡ Some (member_of m.now))
    known =
        known_by (model_at models number.0) (λ g. named (members_of models g) m.now.def.now.name ≡ Some (member_of m.now)) meant.0 meant.1
        (ap (named (members_of models meant.0)) (named-is (members_of models meant.0) name (member_of m.now) found_by_name) ∙ found_by_name)

    pub ends_not : has_value m.now.def.now ≡ false → path_from models number (name ∷ []) ≡ Err no_step
    ends_not fails = path-ends_not models number meant.0 meant.1 name (member_of m.now) found_by_name fails

    pub stops : (next : List ℕ) (names : List (List ℕ)) → targets_of models m.now.def.now ≡ None → path_from models number (name ∷ next ∷ names) ≡ Err no_step
    stops next names none = path-stops models number meant.0 meant.1 name (member_of m.now) found_by_name next names none

    module _ (old new : List Step) (grown : IsSomeAnd (model_at models number.0) (λ g. new ≡ old ++ steps_through models number g m.now.def.now.name (member_of m.now).role)) where
      grown_by : new ≡ old ++ steps_through models number meant.0 m.now.def.now.name (member_of m.now).role
      grown_by =
          let w = value_of (model_at models number.0) (λ g. new ≡ old ++ steps_through models number g m.now.def.now.name (member_of m.now).role) grown in
          let same : w.0 ≡ meant.0 = let e : ◌≡◌ {A = Option Gathered} (Some w.0) (Some meant.0) = sym w.1 ∙ meant.1 in cc in
          subst (λ (g : Gathered). new ≡ old ++ steps_through models number g m.now.def.now.name (member_of m.now).role) same w.2

      -- a last name
      pub ends : has_value m.now.def.now ≡ true → behind old (path_from models number (name ∷ [])) ≡ Ok new
      ends passes = ap (behind old) (path-ends models number meant.0 meant.1 name (member_of m.now) found_by_name passes) ∙ ap Ok (sym grown_by)

      -- a name before others
      pub goes_on : (next : List ℕ) (names : List (List ℕ)) (target : ModelNo) → targets_of models m.now.def.now ≡ Some target
          → behind old (path_from models number (name ∷ next ∷ names)) ≡ behind new (path_from models target (next ∷ names))
      goes_on next names target is =
          ap (behind old) (path-goes_on models number meant.0 meant.1 name (member_of m.now) found_by_name next names target is)
          ∙ behind-more old (steps_through models number meant.0 m.now.def.now.name (member_of m.now).role) (path_from models target (next ∷ names))
          ∙ ap (λ (l : List Step). behind l (path_from models target (next ∷ names))) (sym grown_by)
