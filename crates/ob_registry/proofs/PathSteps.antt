-- The steps of a declared path, from its first name on.
use Rattle.std.proofs.Common.{◌≡◌, ℕ, Bool, true, false, cond, List, [], ◌∷◌, ◌++◌, append_assoc, Option, Some, None, Result, Ok, Err, refl, sym, ap, ◌∙◌}
use Rattle.std.specs.Option.{option_map_or}
use Rattle.ob_base.specs.declared.id.ModelNo.{ModelNo}
use Rattle.ob_definition.specs.Gathered.{Gathered}
use Rattle.ob_definition.specs.Members.{Member, members_of, model_at, named}
use Rattle.ob_expr.specs.Chain.{and_then}
use Rattle.ob_schema.specs.declared.info.Step.{Step}
use Rattle.ob_schema.specs.Paths.{PathFault, no_field, no_step, end_with, go_on, has_value, path_from, steps_through, targets_of}

-- the steps of a path behind others
abbrev pub behind : List Step → Result (List Step) PathFault → Result (List Step) PathFault
behind front path = and_then path (λ steps. Ok (front ++ steps))

pub behind-none : (path : Result (List Step) PathFault) → behind [] path ≡ path
behind-none (Ok steps) = refl
behind-none (Err why) = refl

pub behind-more : (a b : List Step) (path : Result (List Step) PathFault) → behind a (behind b path) ≡ behind (a ++ b) path
behind-more a b (Ok steps) = ap Ok (sym (append_assoc a b steps))
behind-more a b (Err why) = refl

module _ (models : List Gathered) (number : ModelNo) (g : Gathered) (there : model_at models number.0 ≡ Some g) (name : List ℕ) where
  abbrev at_end : Gathered → Result (List Step) PathFault
  at_end h = end_with models number h (named (members_of models h) name)

  abbrev on : List ℕ → List (List ℕ) → Gathered → Result (List Step) PathFault
  on next names h = go_on models number h (named (members_of models h) name) (λ target. path_from models target (next ∷ names))

  path-end : path_from models number (name ∷ []) ≡ at_end g
  path-end = ap (λ (o : Option Gathered). option_map_or at_end o (Err no_field)) there

  path-on : (next : List ℕ) (names : List (List ℕ)) → path_from models number (name ∷ next ∷ names) ≡ on next names g
  path-on next names = ap (λ (o : Option Gathered). option_map_or (on next names) o (Err no_field)) there

  -- a name that is no field
  pub path-unknown : named (members_of models g) name ≡ None → (names : List (List ℕ)) → path_from models number (name ∷ names) ≡ Err no_field
  path-unknown none [] = path-end ∙ ap (end_with models number g) none
  path-unknown none (next ∷ names) = path-on next names ∙ ap (λ (o : Option Member). go_on models number g o (λ target. path_from models target (next ∷ names))) none

  module _ (m : Member) (found : named (members_of models g) name ≡ Some m) where
    last : path_from models number (name ∷ []) ≡ cond (has_value m.def) (Ok (steps_through models number g m.def.name m.role)) (Err no_step)
    last = path-end ∙ ap (end_with models number g) found

    -- a last name
    pub path-ends : has_value m.def ≡ true → path_from models number (name ∷ []) ≡ Ok (steps_through models number g m.def.name m.role)
    path-ends is = last ∙ ap (λ (b : Bool). cond b (Ok (steps_through models number g m.def.name m.role)) (Err no_step)) is

    pub path-ends_not : has_value m.def ≡ false → path_from models number (name ∷ []) ≡ Err no_step
    path-ends_not is = last ∙ ap (λ (b : Bool). cond b (Ok (steps_through models number g m.def.name m.role)) (Err no_step)) is

    abbrev through : List ℕ → List (List ℕ) → ModelNo → Result (List Step) PathFault
    through next names target = behind (steps_through models number g m.def.name m.role) (path_from models target (next ∷ names))

    onward : (next : List ℕ) (names : List (List ℕ)) → path_from models number (name ∷ next ∷ names) ≡ option_map_or (through next names) (targets_of models m.def) (Err no_step)
    onward next names = path-on next names ∙ ap (λ (o : Option Member). go_on models number g o (λ target. path_from models target (next ∷ names))) found

    -- a name before others
    pub path-goes_on : (next : List ℕ) (names : List (List ℕ)) (target : ModelNo) → targets_of models m.def ≡ Some target → path_from models number (name ∷ next ∷ names) ≡ through next names target
    path-goes_on next names target is = onward next names ∙ ap (λ (o : Option ModelNo). option_map_or (through next names) o (Err no_step)) is

    pub path-stops : (next : List ℕ) (names : List (List ℕ)) → targets_of models m.def ≡ None → path_from models number (name ∷ next ∷ names) ≡ Err no_step
    path-stops next names is = onward next names ∙ ap (λ (o : Option ModelNo). option_map_or (through next names) o (Err no_step)) is
