-- The formula of a computed field is one of the registry, where nothing stands against the models.
use Rattle.std.proofs.Common.{◌≡◌, ◌⊎◌, ◌≤◌, ◌&&◌, Bool, true, false, cond, not, eqb, is_none, Option, Some, None, List, [], ◌∷◌, ◌++◌, length, map, inl, inr, refl, sym, ap, subst, ◌∙◌, arith}
use Rattle.std.specs.Prelude.{All, Any, Contains}
use Rattle.std.specs.Bool.{Decides}
use Rattle.std.proofs.lemmas.Bool.{and_parts, cases_lt, false≢true}
use Rattle.std.proofs.lemmas.List.Elements.{All-contains_itself, All-map, All-weaker}
use Rattle.ob_base.specs.Limits.{max_path_steps}
use Rattle.ob_base.specs.declared.id.FieldNo.{FieldNo}
use Rattle.ob_base.specs.declared.id.ModelNo.{ModelNo}
use Rattle.ob_expr.specs.TypedTree.{TypedTree, paths_of, typed_tree_of}
use Rattle.ob_expr.proofs.CallerLemmas.{typed_ok}
use Rattle.ob_base.specs.Syntax.{Tree}
use Rattle.ob_definition.specs.declared.field_type.FieldType.{FieldType}
use Rattle.ob_definition.specs.declared.wrong.Wrong.TheVariants as wrong
use Rattle.ob_definition.specs.Definitions.{is_computed}
use Rattle.ob_definition.specs.Gathered.{Gathered}
use Rattle.ob_definition.specs.Keys.{computed_fits, fits, is_selection, plain_fits}
use Rattle.ob_definition.specs.Members.{Member, Role, own, delegated, hidden, hidden_members, is_delegated, is_own_computed, members_of, model_at, own_members}
use Rattle.ob_definition.specs.Types.{is_relation}
use Rattle.ob_schema.specs.declared.info.FieldInfo.{FieldInfo}
use Rattle.ob_schema.specs.declared.info.Formula.{Formula}
use Rattle.ob_schema.specs.declared.info.ModelInfo.{ModelInfo}
use Rattle.ob_schema.specs.declared.info.Origin.TheVariants as origin
use Rattle.ob_schema.specs.declared.info.Path.{Path}
use Rattle.ob_schema.specs.declared.info.Step.{Step}
use Rattle.ob_schema.specs.Built.{IsFieldOf, IsFormula, IsOrigin}
use Rattle.ob_schema.specs.Finds.{found_at, kind_of_type}
use Rattle.ob_schema.specs.Formulas.{IsCovered, HasFormula, Place, declared_names, formula_paths, good_paths, paths_by_role, read_paths}
use Rattle.ob_schema.specs.Models.{AreSteps, EndsOwn, IsFormulaIn, field_at}
use Rattle.ob_schema.specs.Paths.{BeginsWith, path_from, step_at, steps_of_route}
use Rattle.ob_registry.specs.RegistryOf.{IsRegistryOf}
use Rattle.ob_schema.specs.Strata.{IsMember}
use Rattle.ob_schema.proofs.CallerLemmas.{Any-cases, Any-first, Any-later}
use Rattle.ob_registry.proofs.Defaults.{IsBare, computed_bare, own_fits}
use Rattle.ob_registry.proofs.Delegated.{member_cases}
use Rattle.ob_registry.proofs.Depending.{depends_along}
use Rattle.ob_registry.proofs.NamedFields.{member_parts}
use Rattle.ob_registry.proofs.OwnEnds.{ends_own}
use Rattle.ob_registry.proofs.PathTests.{All-unmap}
use Rattle.ob_registry.proofs.Resolved.{any_of, right_field, right_formula}
use Rattle.ob_registry.proofs.RoutesLed.{EndsRoute, ends_routed, ends_steps, tree_by_refs, tree_ends}
use Rattle.ob_registry.proofs.StepTests.{step_decides}
use Rattle.ob_registry.proofs.StepsLed.{good_steps}
use Rattle.ob_registry.proofs.WithinLimits.{low_stratum}

-- ---- whether steps begin with others can be told

pub same_step : (a b : Step) → (a ≡ b) ⊎ ((a ≡ b) → ⊥)
same_step a b = by (equal a b) refl
  where
    equal : Step → Step → Bool
    equal x y = eqb x.model.0 y.model.0 && eqb x.field.0 y.field.0

    decided : Decides (equal a b) (a ≡ b)
    decided = step_decides equal (λ x y. refl) a b

    by : (t : Bool) → equal a b ≡ t → (a ≡ b) ⊎ ((a ≡ b) → ⊥)
    by true e = inl (decided.0 e)
    by false e = inr (λ same. false≢true (sym e ∙ decided.1 same))

begins_or : (steps front : List Step) → BeginsWith steps front ⊎ (BeginsWith steps front → ⊥)
begins_or steps [] = inl (steps, refl)
begins_or [] (f ∷ front) = inr (λ (rest, e). absurd (cc))
begins_or (s ∷ steps) (f ∷ front) = by (same_step s f) (begins_or steps front)
  where
    by : (s ≡ f) ⊎ ((s ≡ f) → ⊥) → BeginsWith steps front ⊎ (BeginsWith steps front → ⊥) → BeginsWith (s ∷ steps) (f ∷ front) ⊎ (BeginsWith (s ∷ steps) (f ∷ front) → ⊥)
    by (inl same) (inl (rest, e)) = inl (rest, ap (λ (x : Step). x ∷ steps) same ∙ ap (λ (l : List Step). f ∷ l) e)
    by (inl same) (inr not) = inr (λ (rest, e). not (rest, (let tails : steps ≡ front ++ rest = cc in tails)))
    by (inr other) begins = inr (λ (rest, e). other (let heads : s ≡ f = cc in heads))

-- so can whether a path covers them
covered_or : (paths : List (List Step)) (read : List Step) → IsCovered paths read ⊎ (IsCovered paths read → ⊥)
covered_or [] read = inr (λ (k, x, low, at, p). absurd (omega arith))
covered_or (path ∷ paths) read = by (begins_or path read) (covered_or paths read)
  where
    by : BeginsWith path read ⊎ (BeginsWith path read → ⊥) → IsCovered paths read ⊎ (IsCovered paths read → ⊥) → IsCovered (path ∷ paths) read ⊎ (IsCovered (path ∷ paths) read → ⊥)
    by (inl begins) rest = inl (Any-first (λ steps. BeginsWith steps read) path paths begins)
    by (inr not) (inl covered) = inl (Any-later (λ steps. BeginsWith steps read) path paths covered)
    by (inr not) (inr none) = inr (λ any. elim (Any-cases (λ steps. BeginsWith steps read) path paths any) [ inl begins ↦ not begins | inr covered ↦ none covered ])

-- what covers a path is one of those on which the formula depends
Any-unmap : (P : List Step → Type 0) (paths : List Path) → Any P (map (λ (path : Path). path.steps) paths) → Any (λ path. P path.steps) paths
Any-unmap P [] (k, x, low, at, p) = absurd (omega arith)
Any-unmap P (path ∷ paths) any = elim (Any-cases P path.steps (map (λ (path : Path). path.steps) paths) any) [
  | inl here ↦ Any-first (λ (path : Path). P path.steps) path paths here
  | inr later ↦ Any-later (λ (path : Path). P path.steps) path paths (Any-unmap P paths later)
]

none_of : {X : Type 0} (o : Option X) → is_none o ≡ true → o ≡ None
none_of None e = refl
none_of (Some x) e = absurd (false≢true e)

second_part : (a b : Bool) → (a && b) ≡ true → b ≡ true
second_part a b e = (and_parts a b e).1

first_part : (a b : Bool) → (not a && b) ≡ true → a ≡ true → ⊥
first_part true b e is = false≢true e
first_part false b e is = false≢true is

module _ (models : List Gathered) (infos : List ModelInfo) (registry : IsRegistryOf models infos)
    (number : ModelNo) (field : FieldNo) (g : Gathered) (m : Member) (is : IsMember models (step_at number field) g m) where
  abbrev place : Place
  place = record { models = models; number = number; member = m }

  -- the field is one of the model's
  among : Contains (members_of models g) m ⊎ Contains (hidden_members g) m
  among = elim (member_parts models (step_at number field) g m is).1 [ inl name ↦ inl name.0 | inr condition ↦ inr condition.0 ]

  abbrev there : model_at models number.0 ≡ Some g
  there = (member_parts models (step_at number field) g m is).0

  -- a computed one is in the model's own rows, or a condition
  own_or : is_own_computed m ≡ true → Contains (own_members models g) m ⊎ Contains (hidden_members g) m
  own_or computed = elim among [
    | inr condition ↦ inr condition
    | inl name ↦ elim (member_cases models g m name) [
      | inl mine ↦ inl mine
      | inr through ↦ absurd (first_part (is_delegated m.role) (is_computed m.def) computed (ap is_delegated through.2))
    ]
  ]

  module _ (tree : Tree) (typed : TypedTree) (formula : HasFormula place tree typed) where
    -- it is no relation and no selection
    bare : IsBare m.def
    bare =
        let computed : is_computed m.def ≡ true = second_part (not (is_delegated m.role)) (is_computed m.def) formula.computed in
        let fit : cond (is_computed m.def) (computed_fits m.def) (plain_fits m.def) ≡ true = own_fits m.def (fit_all (fits m.def) refl) in
        computed_bare m.def (subst (λ (b : Bool). cond b (computed_fits m.def) (plain_fits m.def) ≡ true) computed fit)
      where
        fit_all : (b : Bool) → fits m.def ≡ b → b ≡ true
        fit_all true e = refl
        fit_all false e = absurd (right_field models registry.resolved number g there m (own_or formula.computed) wrong.Kind (inr e))

    -- each path that it reads ends in the registry
    reads_end : All (EndsRoute models infos registry number) (paths_of typed)
    reads_end = let sound = typed_ok (found_at models) number tree typed formula.checked in tree_ends models infos registry number typed sound.0 sound.1

    abbrev depends : List (List Step)
    depends = formula_paths place tree typed

    -- each path that it reads is covered
    reads_covered : All (λ route. IsCovered depends (steps_of_route number route)) (paths_of typed)
    reads_covered = All-unmap (IsCovered depends) (steps_of_route number) (paths_of typed)
        (All-weaker (Contains (read_paths number typed)) (IsCovered depends) (λ read here. by read here (covered_or depends read)) (read_paths number typed) (All-contains_itself (read_paths number typed)))
      where
        by : (read : List Step) → Contains (read_paths number typed) read → IsCovered depends read ⊎ (IsCovered depends read → ⊥) → IsCovered depends read
        by read here (inl covered) = covered
        by read here (inr none) = absurd (right_formula models registry.resolved number g there m among wrong.Path
            (inl (tree, typed, formula, any_of (λ read. IsCovered depends read → ⊥) (read_paths number typed) read here none)))

    -- no path on which it depends is too long
    few_steps : All (λ steps. length steps ≤ max_path_steps) depends
    few_steps = All-weaker (Contains depends) (λ steps. length steps ≤ max_path_steps) by depends (All-contains_itself depends)
      where
        by : (steps : List Step) → Contains depends steps → length steps ≤ max_path_steps
        by steps here = elim (cases_lt max_path_steps (length steps)) [
          | inl long ↦ absurd (right_formula models registry.resolved number g there m among wrong.Limit
              (inr (steps, depends_along place tree typed formula steps here, long)))
          | inr short ↦ short
        ]

    -- each is one of the registry
    depends_led : All (AreSteps infos number) depends
    depends_led = by m.role
        (All-map (AreSteps infos number) (steps_of_route number) (paths_of typed)
        (All-weaker (EndsRoute models infos registry number) (λ route. AreSteps infos number (steps_of_route number route)) (ends_steps models infos registry number) (paths_of typed) reads_end))
        (good_steps models infos registry number (declared_names m.def tree))
      where
        by : (role : Role) → All (AreSteps infos number) (read_paths number typed) → All (AreSteps infos number) (good_paths (map (path_from models number) (declared_names m.def tree)))
            → All (AreSteps infos number) (paths_by_role role (read_paths number typed) (good_paths (map (path_from models number) (declared_names m.def tree))))
        by hidden reads declared = reads
        by own reads declared = declared
        by (delegated i) reads declared = declared

  -- the formula of a field that has one
  pub formula_in : (info : FieldInfo) → IsFieldOf place g field info → (formula : Formula) → info.origin ≡ origin.Computed formula → IsFormulaIn infos number info formula
  formula_in info of formula from =
      let is_formula : IsFormula place field formula = subst (IsOrigin place g field) from of.origin in
      let typed = typed_tree_of formula.typed in
      let tree = is_formula.tree in
      let has = is_formula.has in
      let bare = bare tree typed has in
      record {
        kinded = (typed_ok (found_at models) number tree typed has.checked).0;
        routed = All-weaker (EndsRoute models infos registry number) _ (ends_routed models infos registry number) (paths_of typed) (reads_end tree typed has);
        own = All-weaker (EndsRoute models infos registry number) (λ route. EndsOwn infos number route.links route.field) (ends_own models infos registry number) (paths_of typed) (reads_end tree typed has);
        by_refs = tree_by_refs models infos registry number typed (typed_ok (found_at models) number tree typed has.checked).1;
        covered = All-weaker (λ route. IsCovered (depends tree typed has) (steps_of_route number route)) (λ route. Any (λ path. BeginsWith path.steps (steps_of_route number route)) formula.depends)
            (λ route covered. Any-unmap (λ steps. BeginsWith steps (steps_of_route number route)) formula.depends
            (subst (λ (l : List (List Step)). IsCovered l (steps_of_route number route)) (sym is_formula.depends) covered))
            (paths_of typed) (reads_covered tree typed has);
        steps = All-unmap (λ steps. AreSteps infos number steps × (length steps ≤ max_path_steps)) (λ (path : Path). path.steps) formula.depends
            (subst (All (λ steps. AreSteps infos number steps × (length steps ≤ max_path_steps))) (sym is_formula.depends)
            (λ k d within. (depends_led tree typed has k d within, few_steps tree typed has k d within)));
        kind = ap (λ (t : FieldType). kind_of_type t info.relation) of.field_type ∙ ap (kind_of_type m.def.field_type) of.relation ∙ has.kind;
        no_relation = ap is_relation of.field_type ∙ bare.relation;
        no_selection = ap is_selection of.field_type ∙ bare.selection;
        not_required = of.required ∙ bare.required;
        no_default = of.default ∙ none_of m.def.default bare.default;
        low = low_stratum models registry.resolved (step_at number field) g m is formula.stratum is_formula.stratum;
      }

-- the formulas of the registry
pub formulas_in : (models : List Gathered) (infos : List ModelInfo) → IsRegistryOf models infos → (number : ModelNo) (field : FieldNo) (info : FieldInfo) (formula : Formula)
    → field_at infos number field ≡ Some info → info.origin ≡ origin.Computed formula → IsFormulaIn infos number info formula
formulas_in models infos registry number field info formula at from =
    let found = registry.field_back number field info at in
    formula_in models infos registry number field found.model found.member found.is_member info found.is formula from
