-- The declared paths of a field that are paths have their steps in the registry.
use Rattle.std.proofs.Common.{◌≡◌, ℕ, Bool, true, false, cond, Option, Some, None, Result, Ok, Err, List, [], ◌∷◌, ◌++◌, map, refl, sym, ap, subst, ◌∙◌, append_assoc, append-nil}
use Rattle.std.specs.Prelude.{All, option_and_then}
use Rattle.std.specs.Option.{option_map_or}
use Rattle.std.proofs.lemmas.List.Elements.{All-cons, All-nil}
use Rattle.ob_base.specs.declared.id.ModelNo.{ModelNo}
use Rattle.ob_expr.specs.Chain.{and_then}
use Rattle.ob_expr.specs.Checking.{links_of as links_via}
use Rattle.ob_expr.proofs.CallerLemmas.{then_ok}
use Rattle.ob_definition.specs.declared.definition.FieldDef.{FieldDef}
use Rattle.ob_definition.specs.Definitions.{is_computed}
use Rattle.ob_definition.specs.Gathered.{Gathered}
use Rattle.ob_definition.specs.Members.{Member, members_of, model_at, model_number, named, number_of}
use Rattle.ob_definition.specs.Types.{is_relation}
use Rattle.ob_schema.specs.declared.info.ModelInfo.{ModelInfo}
use Rattle.ob_schema.specs.declared.info.Step.{Step}
use Rattle.ob_schema.specs.Finds.{relation_of}
use Rattle.ob_schema.specs.Formulas.{good_paths}
use Rattle.ob_schema.specs.Models.{AreSteps}
use Rattle.ob_schema.specs.Paths.{PathFault, no_field, no_step, end_with, go_on, has_value, path_from, step_at, steps_through}
use Rattle.ob_registry.specs.RegistryOf.{IsRegistryOf}
use Rattle.ob_registry.proofs.OwnInfos.{own_ends, own_leads}
use Rattle.ob_registry.proofs.LedPaths.{leads_by, link_steps, steps_before, steps_behind_links}
use Rattle.ob_registry.proofs.NameOrder.{named_found}
use Rattle.ob_registry.proofs.NamesLed.{IsLocated, located}

abbrev as_path : List Step → Result (List Step) PathFault
as_path steps = Ok steps

no_path : (e : PathFault) (steps : List Step) → Err e ≡ as_path steps → ⊥
no_path e steps is = cc

same_path : (a b : List Step) → as_path a ≡ Ok b → a ≡ b
same_path a b is = cc

-- a relation has a model
related : (models : List Gathered) (f : FieldDef) (target : ModelNo) → relation_of models f ≡ Some target → is_relation f.field_type ≡ true
related models f target is = by (is_relation f.field_type) is
  where
    by : (b : Bool) → cond b (option_and_then (model_number models) f.relation) None ≡ Some target → b ≡ true
    by true is = refl
    by false is = absurd (let none : ◌≡◌ {A = Option ModelNo} None (Some target) = is in cc)

module _ (models : List Gathered) (infos : List ModelInfo) (registry : IsRegistryOf models infos) where
  -- through a field to its own place, and on from there
  through_field : (number : ModelNo) (g : Gathered) (m : Member) (at : IsLocated models infos number g m) (rest : List Step)
      → AreSteps infos at.model (step_at at.model (number_of models at.gathered m.def.name) ∷ rest) → AreSteps infos number (steps_through models number g m.def.name m.role ++ rest)
  through_field number g m at rest are =
      let last : Step = step_at at.model (number_of models at.gathered m.def.name) in
      let all : steps_through models number g m.def.name m.role ++ rest ≡ link_steps number (links_via at.via) ++ last ∷ rest =
      ap (λ (l : List Step). l ++ rest) at.steps ∙ append_assoc (link_steps number (links_via at.via)) (last ∷ []) rest in
      subst (AreSteps infos number) (sym all) (steps_behind_links infos number (links_via at.via) at.model (last ∷ rest) (leads_by infos number (links_via at.via) at.model at.refs) are)

  end_steps : (number : ModelNo) (g : Gathered) → model_at models number.0 ≡ Some g → (name : List ℕ) (o : Option Member) → named (members_of models g) name ≡ o → (steps : List Step)
      → end_with models number g o ≡ Ok steps → AreSteps infos number steps
  end_steps number g there name None e steps is = absurd (no_path no_field steps is)
  end_steps number g there name (Some m) e steps is = by (has_value m.def) refl is
    where
      by : (b : Bool) → has_value m.def ≡ b → cond b (Ok (steps_through models number g m.def.name m.role)) (Err no_step) ≡ Ok steps → AreSteps infos number steps
      by false v is = absurd (no_path no_step steps is)
      by true v is =
          let at = located models infos registry number g there m (named_found (members_of models g) name m e).0 in
          let valued : has_value at.source.def ≡ true = ap has_value at.def ∙ v in
          let has = own_ends models infos registry at.model at.gathered at.there at.source at.among valued in
          let last : AreSteps infos at.model (step_at at.model (number_of models at.gathered at.source.def.name) ∷ []) = (refl, has) in
          let here : AreSteps infos at.model (step_at at.model (number_of models at.gathered m.def.name) ∷ []) =
          subst (λ (f : FieldDef). AreSteps infos at.model (step_at at.model (number_of models at.gathered f.name) ∷ [])) at.def last in
          subst (AreSteps infos number) (append-nil (steps_through models number g m.def.name m.role) ∙ same_path _ steps is) (through_field number g m at [] here)

  go_steps : (number : ModelNo) (g : Gathered) → model_at models number.0 ≡ Some g → (name : List ℕ) (o : Option Member) → named (members_of models g) name ≡ o
      → (later : ModelNo → Result (List Step) PathFault) → ((target : ModelNo) (rest : List Step) → later target ≡ Ok rest → AreSteps infos target rest) → (steps : List Step)
      → go_on models number g o later ≡ Ok steps → AreSteps infos number steps
  go_steps number g there name None e later are steps is = absurd (no_path no_field steps is)
  go_steps number g there name (Some m) e later are steps is = by (is_computed m.def) is
    where
      through : List Step
      through = steps_through models number g m.def.name m.role

      to : (o : Option ModelNo) → relation_of models m.def ≡ o → option_map_or (λ target. and_then (later target) (λ rest. Ok (through ++ rest))) o (Err no_step) ≡ Ok steps → AreSteps infos number steps
      to None r is = absurd (no_path no_step steps is)
      to (Some target) r is =
          let t = then_ok (later target) (λ rest. Ok (through ++ rest)) steps is in
          let at = located models infos registry number g there m (named_found (members_of models g) name m e).0 in
          let leads : relation_of models at.source.def ≡ Some target = ap (relation_of models) at.def ∙ r in
          let has = own_leads models infos registry at.model at.gathered at.there at.source at.among target (related models at.source.def target leads) leads in
          let last : AreSteps infos at.model (step_at at.model (number_of models at.gathered at.source.def.name) ∷ t.0) =
          steps_before infos at.model (number_of models at.gathered at.source.def.name) target t.0 has (are target t.0 t.1) in
          let here : AreSteps infos at.model (step_at at.model (number_of models at.gathered m.def.name) ∷ t.0) =
          subst (λ (f : FieldDef). AreSteps infos at.model (step_at at.model (number_of models at.gathered f.name) ∷ t.0)) at.def last in
          subst (AreSteps infos number) (same_path (through ++ t.0) steps t.2) (through_field number g m at t.0 here)

      by : (b : Bool) → option_map_or (λ target. and_then (later target) (λ rest. Ok (through ++ rest))) (cond b None (relation_of models m.def)) (Err no_step) ≡ Ok steps → AreSteps infos number steps
      by true is = absurd (no_path no_step steps is)
      by false is = to (relation_of models m.def) refl is

  -- names that are a path
  pub path_steps : (number : ModelNo) (names : List (List ℕ)) (steps : List Step) → path_from models number names ≡ Ok steps → AreSteps infos number steps
  path_steps number [] steps is = absurd (no_path no_field steps is)
  path_steps number (name ∷ []) steps is = by (model_at models number.0) refl is
    where
      by : (o : Option Gathered) → model_at models number.0 ≡ o → option_map_or (λ g. end_with models number g (named (members_of models g) name)) o (Err no_field) ≡ Ok steps → AreSteps infos number steps
      by None there is = absurd (no_path no_field steps is)
      by (Some g) there is = end_steps number g there name (named (members_of models g) name) refl steps is
  path_steps number (name ∷ next ∷ names) steps is = by (λ target. path_from models target (next ∷ names)) (λ target rest e. path_steps target (next ∷ names) rest e) (model_at models number.0) refl is
    where
      by : (later : ModelNo → Result (List Step) PathFault) → ((target : ModelNo) (rest : List Step) → later target ≡ Ok rest → AreSteps infos target rest) → (o : Option Gathered) → model_at models number.0 ≡ o
          → option_map_or (λ g. go_on models number g (named (members_of models g) name) later) o (Err no_field) ≡ Ok steps → AreSteps infos number steps
      by later are None there is = absurd (no_path no_field steps is)
      by later are (Some g) there is = go_steps number g there name (named (members_of models g) name) refl later are steps is

  -- all those of names that are some
  pub good_steps : (number : ModelNo) (all : List (List (List ℕ))) → All (AreSteps infos number) (good_paths (map (path_from models number) all))
  good_steps number [] = All-nil (AreSteps infos number)
  good_steps number (names ∷ more) = by (path_from models number names) refl (good_steps number more)
    where
      rest : List (Result (List Step) PathFault)
      rest = map (path_from models number) more

      by : (path : Result (List Step) PathFault) → path_from models number names ≡ path → All (AreSteps infos number) (good_paths rest) → All (AreSteps infos number) (good_paths (path ∷ rest))
      by (Ok steps) e all = All-cons (AreSteps infos number) steps (good_paths rest) (path_steps number names steps e) all
      by (Err why) e all = all
