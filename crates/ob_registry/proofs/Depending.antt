-- The paths on which a right formula's value depends are those on which its field depends.
use Rattle.std.proofs.Common.{◌≡◌, ◌⊎◌, inl, inr, ℕ, Bool, true, false, cond, List, [], ◌∷◌, map, Option, Some, Result, Ok, Err, is_some, refl, sym, subst, ◌∙◌}
use Rattle.std.specs.Prelude.{◌↔◌, Contains}
use Rattle.std.proofs.lemmas.Bool.{false≢true}
use Rattle.ob_base.specs.Syntax.{Tree}
use Rattle.ob_syntax.specs.Grammar.{IsExpression, SpellAtMostOneTree}
use Rattle.ob_syntax.specs.Lexemes.{Lexeme, lexemes}
use Rattle.ob_expr.specs.declared.checker.TypeFault.{TypeFault}
use Rattle.ob_expr.specs.Checking.{typed_of}
use Rattle.ob_expr.specs.TypedTree.{TypedTree}
use Rattle.ob_definition.specs.declared.definition.FieldDef.{FieldDef}
use Rattle.ob_definition.specs.Members.{Role, own, delegated, hidden}
use Rattle.ob_schema.specs.declared.info.Step.{Step}
use Rattle.ob_schema.specs.Finds.{found_at}
use Rattle.ob_schema.specs.Formulas.{Declares, DependsAlong, DependsBy, HasFormula, HasTree, Place, declared_names, formula_paths, good_paths, names_of_tree, paths_by_role, read_paths, written_names}
use Rattle.ob_schema.specs.Paths.{PathFault, path_from}
use Rattle.ob_schema.proofs.CallerLemmas.{contains-cases, contains-first, contains-later, contains-none}

-- ---- the paths of names that are some

-- one of them is the path of one of the names
pub good_from : {X : Type 0} (f : X → Result (List Step) PathFault) (xs : List X) (steps : List Step) → Contains (good_paths (map f xs)) steps → (x : X) × Contains xs x × (f x ≡ Ok steps)
good_from f [] steps c = absurd (contains-none steps c)
good_from {X} f (x ∷ xs) steps c = by (f x) refl c (good_from f xs steps)
  where
    later : (x : X) × Contains xs x × (f x ≡ Ok steps) → (y : X) × Contains (x ∷ xs) y × (f y ≡ Ok steps)
    later (y, among, is) = (y, contains-later x xs y among, is)

    by : (r : Result (List Step) PathFault) → f x ≡ r → Contains (good_paths (r ∷ map f xs)) steps → (Contains (good_paths (map f xs)) steps → (x : X) × Contains xs x × (f x ≡ Ok steps))
        → (y : X) × Contains (x ∷ xs) y × (f y ≡ Ok steps)
    by (Err why) e c rest = later (rest c)
    by (Ok path) e c rest = elim (contains-cases path (good_paths (map f xs)) steps c) [
      | inl same ↦ (x, contains-first x xs, subst (λ (p : List Step). f x ≡ Ok p) same e)
      | inr behind ↦ later (rest behind)
    ]

-- and the path of one of the names is one of them
pub good_of : {X : Type 0} (f : X → Result (List Step) PathFault) (xs : List X) (x : X) (steps : List Step) → Contains xs x → f x ≡ Ok steps → Contains (good_paths (map f xs)) steps
good_of f [] x steps c is = absurd (contains-none x c)
good_of {X} f (y ∷ xs) x steps c is = by (f y) refl (contains-cases y xs x c) (λ later. good_of f xs x steps later is)
  where
    by : (r : Result (List Step) PathFault) → f y ≡ r → (y ≡ x) ⊎ Contains xs x → (Contains xs x → Contains (good_paths (map f xs)) steps) → Contains (good_paths (r ∷ map f xs)) steps
    by (Err why) e (inl same) rest = absurd (let b : ◌≡◌ {A = Result (List Step) PathFault} (Err why) (Ok steps) = sym e ∙ subst (λ (z : X). f z ≡ Ok steps) (sym same) is in cc)
    by (Err why) e (inr later) rest = rest later
    by (Ok path) e (inl same) rest =
        let b : ◌≡◌ {A = Result (List Step) PathFault} (Ok path) (Ok steps) = sym e ∙ subst (λ (z : X). f z ≡ Ok steps) (sym same) is in
        let s : path ≡ steps = cc in
        subst (λ (p : List Step). Contains (path ∷ good_paths (map f xs)) p) s (contains-first path (good_paths (map f xs)))
    by (Ok path) e (inr later) rest = contains-later path (good_paths (map f xs)) steps (rest later)

-- ---- what a field declares

-- by the tree that its text spells
pub declares_of : (f : FieldDef) (tree : Tree) (names : List (List ℕ)) → HasTree f tree → Contains (declared_names f tree) names → Declares f names
declares_of f tree names has among = by (is_some f.related) refl among
  where
    by : (b : Bool) → is_some f.related ≡ b → Contains (cond b (names_of_tree tree) (written_names f)) names → Declares f names
    by true e c = inr (e, (tree, has, c))
    by false e c = inl (e, c)

module _ (unique : (tokens : List Lexeme) → SpellAtMostOneTree tokens) where
  -- a text spells one tree
  pub only_tree : (f : FieldDef) (a b : Tree) → HasTree f a → HasTree f b → a ≡ b
  only_tree f a b x y =
      let e : ◌≡◌ {A = Option (List ℕ)} (Some y.spelled.text) (Some x.spelled.text) = sym y.spelled.given ∙ x.spelled.given in
      let same : y.spelled.text ≡ x.spelled.text = cc in
      unique (lexemes x.spelled.text) a b x.spelled.is_tree (subst (λ (text : List ℕ). IsExpression b (lexemes text)) same y.spelled.is_tree)

  pub declares_by : (f : FieldDef) (tree : Tree) (names : List (List ℕ)) → HasTree f tree → Declares f names → Contains (declared_names f tree) names
  declares_by f tree names has declares = by (is_some f.related) refl
    where
      by : (b : Bool) → is_some f.related ≡ b → Contains (cond b (names_of_tree tree) (written_names f)) names
      by true e = elim declares [
        | inl written ↦ absurd (false≢true (sym written.0 ∙ e))
        | inr spelled ↦ subst (λ (t : Tree). Contains (names_of_tree t) names) (only_tree f spelled.1.0 tree spelled.1.1 has) spelled.1.2
      ]
      by false e = elim declares [
        | inl written ↦ written.1
        | inr spelled ↦ absurd (false≢true (sym e ∙ spelled.0))
      ]

  -- a formula is one
  pub only_formula : (p : Place) (a b : Tree) (t u : TypedTree) → HasFormula p a t → HasFormula p b u → t ≡ u
  only_formula p a b t u f g =
      let same : a ≡ b = only_tree p.member.def a b f.has_tree g.has_tree in
      let e : ◌≡◌ {A = Result TypedTree TypeFault} (Ok t) (Ok u) = sym (subst (λ (tree : Tree). typed_of (found_at p.models) p.number tree ≡ Ok t) same f.checked) ∙ g.checked in
      let s : t ≡ u = cc in s

-- ---- the paths on which a field depends

module _ (p : Place) (tree : Tree) (typed : TypedTree) (f : HasFormula p tree typed) (steps : List Step) where
  abbrev declared : List (List Step)
  declared = good_paths (map (path_from p.models p.number) (declared_names p.member.def tree))

  declares : Contains declared steps → (names : List (List ℕ)) × Declares p.member.def names × (path_from p.models p.number names ≡ Ok steps)
  declares c = let w = good_from (path_from p.models p.number) (declared_names p.member.def tree) steps c in (w.0, declares_of p.member.def tree w.0 f.has_tree w.1, w.2)

  -- a path of its formula
  pub depends_along : Contains (formula_paths p tree typed) steps → DependsAlong p steps
  depends_along c = (f.computed, by p.member.role c)
    where
      by : (role : Role) → Contains (paths_by_role role (read_paths p.number typed) declared) steps → DependsBy role p steps
      by hidden c = (tree, typed, f, c)
      by own c = declares c
      by (delegated i) c = declares c

  module _ (unique : (tokens : List Lexeme) → SpellAtMostOneTree tokens) where
    declared_by : (names : List (List ℕ)) × Declares p.member.def names × (path_from p.models p.number names ≡ Ok steps) → Contains declared steps
    declared_by (names, said, is) = good_of (path_from p.models p.number) (declared_names p.member.def tree) names steps (declares_by unique p.member.def tree names f.has_tree said) is

    -- and nothing else
    pub along_formula : DependsAlong p steps → Contains (formula_paths p tree typed) steps
    along_formula along = by p.member.role along.1
      where
        by : (role : Role) → DependsBy role p steps → Contains (paths_by_role role (read_paths p.number typed) declared) steps
        by hidden (other, found, g, c) = subst (λ (t : TypedTree). Contains (read_paths p.number t) steps) (only_formula unique p other tree found typed g f) c
        by own d = declared_by d
        by (delegated i) d = declared_by d

    -- the two are one
    pub depends_both : Contains (formula_paths p tree typed) steps ↔ DependsAlong p steps
    depends_both = (depends_along, along_formula)
