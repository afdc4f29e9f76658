use Rattle.std.proofs.Common.{◌≡◌, ℕ, ◌<◌, List, Option, length, option_map, refl, sym, ap, subst, ◌∙◌, true}
use Rattle.std.specs.Prelude.{◌↔◌, Any, IsTrue}
use Rattle.ob_base.specs.Limits.{max_path_steps}
use Rattle.ob_base.specs.Syntax.{Tree, tree_of}
use Rattle.ob_expr.specs.TypedTree.{TypedTree, typed_tree_of}
use Rattle.ob_definition.specs.declared.wrong.Wrong.{Wrong}
use Rattle.ob_definition.specs.Findings.{Adds, IsAt, IsFaultAt}
use Rattle.ob_definition.specs.Members.{is_own_computed}
use Rattle.ob_definition.specs.Rooms.{spot_at}
use Rattle.ob_schema.specs.declared.info.Path.{Path}
use Rattle.ob_schema.specs.declared.info.Step.{Step}
use Rattle.ob_schema.specs.Formulas.{Place, paths_by_role}
use Rattle.ob_registry.specs.ModelFields.{member_of}
use Rattle.ob_schema.specs.Paths.{path_from}
use Rattle.ob_registry.specs.Telling.{IsPathWrong, names_by, names_in, paths_by_names, reads_by, spot_of, steps_in}
use Rattle.ob_registry.proofs.Drafting.{depends_are, draft_typed}
use Rattle.ob_registry.proofs.FormulaRooms.{found_formula, found_plain}
use Rattle.ob_registry.proofs.formulas.formula_of.Goals as goal

pub returns-then-not-is_computed-clause-faults : goal.returns-then-not-is_computed-clause-faults
returns-then-not-is_computed-clause-faults c =
    let p : Place = record { models = c.args.models.now; number = c.args.number; member = member_of c.args.member.now } in
    found_plain p c.args.first.now (sym c.is_computed.ensures ∙ c.if-not-is_computed.true)

pub returns-clause-formula : goal.returns-clause-formula
returns-clause-formula c =
    let m = member_of c.args.member.now in
    let p : Place = record { models = c.args.models.now; number = c.args.number; member = m } in
    let computed : is_own_computed m ≡ true = sym c.is_computed.ensures ∙ c.if-not-is_computed.false in
    let tree : Option Tree = option_map tree_of c.in_ok-expr.expr in
    let typed : Option TypedTree = option_map typed_tree_of c.in_ok-expr.typed in
    let depends : List (List Step) = steps_in c.in_ok-depends.depends in
    let names = ap names_in c.as_slice.ensures.value ∙ c.in_ok-names.ensures in
    let are : depends ≡ paths_by_role m.role (reads_by p.number typed) (paths_by_names p.models p.number (names_by m.def tree)) =
    c.in_ok-depends.ensures.paths ∙ ap (paths_by_role m.role (reads_by p.number typed)) (c.in_ok-declared.ensures.paths ∙ ap (paths_by_names p.models p.number) names) in
    record {
      computed = computed;
      depends = depends_are c.one_tree.ensures p computed tree c.in_ok-expr.ensures.spelled typed c.in_ok-expr.ensures.checked depends are;
      typed = draft_typed c.one_tree.ensures p computed tree c.in_ok-expr.ensures.spelled typed c.in_ok-expr.ensures.checked depends are c.in_ok-expr.typed refl;
    }

pub returns-clause-faults : goal.returns-clause-faults
returns-clause-faults c =
    let m = member_of c.args.member.now in
    let p : Place = record { models = c.args.models.now; number = c.args.number; member = m } in
    let spot = spot_of m in
    let computed : is_own_computed m ≡ true = sym c.is_computed.ensures ∙ c.if-not-is_computed.false in
    let tree : Option Tree = option_map tree_of c.in_ok-expr.expr in
    let typed : Option TypedTree = option_map typed_tree_of c.in_ok-expr.typed in
    let depends : List (List Step) = steps_in c.in_ok-depends.depends in
    let names : names_in c.as_slice.result.now ≡ names_by m.def tree = ap names_in c.as_slice.ensures.value ∙ c.in_ok-names.ensures in
    let are : depends ≡ paths_by_role m.role (reads_by p.number typed) (paths_by_names p.models p.number (names_by m.def tree)) =
    c.in_ok-depends.ensures.paths ∙ ap (paths_by_role m.role (reads_by p.number typed)) (c.in_ok-declared.ensures.paths ∙ ap (paths_by_names p.models p.number) names) in
    found_formula c.one_tree.ensures p computed tree c.in_ok-expr.ensures.spelled typed c.in_ok-expr.ensures.checked depends are c.has_long.result
    (subst (λ (l : List Path). IsTrue c.has_long.result ↔ Any (λ (steps : List Step). max_path_steps < length steps) (steps_in l)) c.as_slice-2.ensures c.has_long.ensures)
    c.args.first.now c.read.new.first c.paths_of.new.first c.depends_of.new.first c.at_field.new.self c.in_ok-expr.ensures.faults
    (subst (λ (l : List (List (List ℕ))). Adds (λ why. Any (λ path. IsFaultAt spot (IsPathWrong (path_from p.models p.number path)) why) l) c.read.new.first c.paths_of.new.first) names c.in_ok-declared.ensures.faults)
    c.in_ok-depends.ensures.faults
    (subst (λ (o : Option Wrong). Adds (IsAt o spot) c.depends_of.new.first c.at_field.new.self) c.then_some-wrong.ensures
    (subst (λ (name : List ℕ). Adds (IsAt c.then_some-wrong.result (spot_at m.entry name)) c.depends_of.new.first c.at_field.new.self) c.as_str.ensures c.in_ok-at_field.ensures.found))
