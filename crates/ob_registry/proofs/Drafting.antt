-- The paths that are found of a computed field are those on which it depends, as far as its expression is right.
use Rattle.std.proofs.Common.{◌≡◌, inl, inr, ℕ, zero, suc, Bool, true, false, List, [], ◌∷◌, map, Option, Some, None, Result, Ok, Err, is_some, refl, sym, ap, subst, ◌∙◌, arith}
use Rattle.std.specs.Prelude.{◌↔◌, Contains, IsSomeAnd, MatchOption, if◌then◌else◌, option_map}
use Rattle.std.specs.Option.{option_map_or}
use Rattle.std.proofs.lemmas.Bool.{false≢true}
use Rattle.ob_base.specs.Syntax.{Tree}
use Rattle.ob_syntax.specs.Grammar.{SpellAtMostOneTree}
use Rattle.ob_syntax.specs.Lexemes.{Lexeme}
use Rattle.ob_expr.specs.declared.typed.Typed.{Typed}
use Rattle.ob_expr.specs.TypedTree.{TypedTree, typed_tree_of}
use Rattle.ob_base.specs.declared.id.ModelNo.{ModelNo}
use Rattle.ob_definition.specs.declared.definition.FieldDef.{FieldDef}
use Rattle.ob_definition.specs.declared.wrong.Wrong.{Wrong}
use Rattle.ob_definition.specs.Gathered.{Gathered}
use Rattle.ob_definition.specs.Members.{Role, delegated, hidden, is_own_computed, own}
use Rattle.ob_schema.specs.declared.info.Step.{Step}
use Rattle.ob_schema.specs.Formulas.{Declares, DependsAlong, DependsBy, HasFormula, Place, formula_paths, good_paths, names_of_tree, paths_by_role, read_paths, written_names}
use Rattle.ob_schema.specs.Paths.{PathFault, path_from}
use Rattle.ob_registry.specs.Telling.{IsChecked, IsReadingWrong, IsRight, IsTreeOf, names_by, paths_by_names, reads_by}
use Rattle.ob_schema.proofs.CallerLemmas.{contains-none}
use Rattle.ob_registry.proofs.Reading.{one_formula, one_tree_of, right}

-- the paths of names are those of the names that are some
module _ (models : List Gathered) (number : ModelNo) where
  abbrev IsPathBy : List (List (List ℕ)) → List Step → Type 0
  IsPathBy names steps = (path : List (List ℕ)) × Contains names path × (path_from models number path ≡ Ok steps)

  further : (path : List (List ℕ)) (names : List (List (List ℕ))) (steps : List Step) → IsPathBy names steps → IsPathBy (path ∷ names) steps
  further path names steps (other, (k, within, is), found) = (other, (suc k, omega (arith, within), is), found)

  pub path_by : (names : List (List (List ℕ))) (steps : List Step) → Contains (paths_by_names models number names) steps → IsPathBy names steps
  path_by [] steps among = absurd (contains-none steps among)
  path_by (path ∷ names) steps among = by (path_by names steps) (path_from models number path) refl among
    where
      by : (Contains (paths_by_names models number names) steps → IsPathBy names steps) → (found : Result (List Step) PathFault) → path_from models number path ≡ found
          → Contains (good_paths (found ∷ map (path_from models number) names)) steps → IsPathBy (path ∷ names) steps
      by rest (Err why) e other = further path names steps (rest other)
      by rest (Ok one) e (zero, within, is) = (path, (zero, omega arith, refl), e ∙ ap Ok is)
      by rest (Ok one) e (suc k, within, is) = further path names steps (rest (k, omega (arith, within), is))

  pub by_path : (names : List (List (List ℕ))) (steps : List Step) → IsPathBy names steps → Contains (paths_by_names models number names) steps
  by_path [] steps found = absurd (contains-none found.0 found.1)
  by_path (path ∷ names) steps found = by (by_path names steps) (path_from models number path) refl found
    where
      by : (IsPathBy names steps → Contains (paths_by_names models number names) steps) → (told : Result (List Step) PathFault) → path_from models number path ≡ told
          → IsPathBy (path ∷ names) steps → Contains (good_paths (told ∷ map (path_from models number) names)) steps
      by rest (Ok one) e (other, (zero, within, is), of) =
          let same : ◌≡◌ {A = Result (List Step) PathFault} (Ok one) (Ok steps) = sym e ∙ ap (path_from models number) is ∙ of in
          (zero, omega arith, (let s : one ≡ steps = cc in s))
      by rest (Err why) e (other, (zero, within, is), of) = absurd (let b : ◌≡◌ {A = Result (List Step) PathFault} (Err why) (Ok steps) = sym e ∙ ap (path_from models number) is ∙ of in cc)
      by rest (Ok one) e (other, (suc k, within, is), of) = let behind = rest (other, (k, omega (arith, within), is), of) in (suc behind.0, omega (arith, behind.1), behind.2)
      by rest (Err why) e (other, (suc k, within, is), of) = rest (other, (k, omega (arith, within), is), of)

module _ (unique : (tokens : List Lexeme) → SpellAtMostOneTree tokens) (p : Place) (computed : is_own_computed p.member ≡ true) (tree : Option Tree) (spelled : IsTreeOf p.member.def tree) where
  abbrev f : FieldDef
  f = p.member.def

  -- the names that are found are those that the field declares
  pub declared_are : (names : List (List ℕ)) → Contains (names_by f tree) names ↔ Declares f names
  declared_are names = by (is_some f.related) refl
    where
      of_text : (o : Option Tree) → IsTreeOf f o → is_some f.related ≡ true → Contains (option_map_or names_of_tree o []) names ↔ Declares f names
      of_text None none related = (
        λ among. absurd (contains-none names among),
        λ declares. elim declares [
          | inl key ↦ absurd (false≢true (sym key.0 ∙ related))
          | inr text ↦ absurd (none text.1.0 text.1.1)
        ],
      )
      of_text (Some t) has related = (
        λ among. inr (related, (t, has, among)),
        λ declares. elim declares [
          | inl key ↦ absurd (false≢true (sym key.0 ∙ related))
          | inr text ↦ subst (λ (x : Tree). Contains (names_of_tree x) names) (one_tree_of unique p text.1.0 t text.1.1 has) text.1.2
        ],
      )

      by : (b : Bool) → is_some f.related ≡ b → Contains (if b then option_map_or names_of_tree tree [] else written_names f) names ↔ Declares f names
      by true related = of_text tree spelled related
      by false plain = (
        λ among. inl (plain, among),
        λ declares. elim declares [
          | inl key ↦ key.1
          | inr text ↦ absurd (false≢true (sym plain ∙ text.0))
        ],
      )

  module _ (typed : Option TypedTree) (checked : IsChecked p tree typed) where
    abbrev Right : TypedTree → Type 0
    Right t = (x : Tree) × (tree ≡ Some x) × HasFormula p x t

    -- where the expression is right, its text spells a tree
    pub right_tree : (t : TypedTree) → typed ≡ Some t → Right t
    right_tree t is = by tree (subst (IsChecked p tree) is checked)
      where
        by : (o : Option Tree) → IsSomeAnd o (λ x. HasFormula p x t) → (x : Tree) × (o ≡ Some x) × HasFormula p x t
        by None has = absurd has
        by (Some x) has = (x, refl, has)

    -- the one formula of the field is what was found
    pub is_typed : (x : Tree) (t : TypedTree) → HasFormula p x t → typed ≡ Some t
    is_typed x t has = by typed refl
      where
        by : (o : Option TypedTree) → typed ≡ o → o ≡ Some t
        by None e =
            let wrong = subst (IsChecked p tree) e checked in
            absurd (right unique p x t has wrong.0 wrong.1)
        by (Some other) e = let r = right_tree other e in ap Some (one_formula unique p x r.0 t other has r.2).1

    -- what it reads is what was found to be read
    pub reads_of : (x : Tree) (t : TypedTree) → HasFormula p x t → reads_by p.number typed ≡ read_paths p.number t
    reads_of x t has = ap (reads_by p.number) (is_typed x t has)

    module _ (depends : List (List Step)) (are : depends ≡ paths_by_role p.member.role (reads_by p.number typed) (paths_by_names p.models p.number (names_by f tree))) where
      -- the paths of a right expression
      pub formula_paths_are : (t : TypedTree) (is : typed ≡ Some t) → depends ≡ formula_paths p (right_tree t is).0 t
      formula_paths_are t is =
          are ∙ ap (λ (o : Option TypedTree). paths_by_role p.member.role (reads_by p.number o) (paths_by_names p.models p.number (names_by f tree))) is
          ∙ ap (λ (o : Option Tree). paths_by_role p.member.role (read_paths p.number t) (paths_by_names p.models p.number (names_by f o))) (right_tree t is).1

      -- the paths on which the field depends
      pub depends_are : (steps : List Step) → Contains depends steps ↔ DependsAlong p steps
      depends_are steps = (
        λ among. (computed, (role p.member.role).0 (subst (λ (l : List (List Step)). Contains l steps) are among)),
        λ along. subst (λ (l : List (List Step)). Contains l steps) (sym are) ((role p.member.role).1 along.1),
      )
        where
          declared : Contains (paths_by_names p.models p.number (names_by f tree)) steps ↔ ((names : List (List ℕ)) × Declares f names × (path_from p.models p.number names ≡ Ok steps))
          declared = (
            λ among. let found = path_by p.models p.number (names_by f tree) steps among in (found.0, (declared_are found.0).0 found.1, found.2),
            λ found. by_path p.models p.number (names_by f tree) steps (found.0, (declared_are found.0).1 found.1, found.2),
          )

          read : (o : Option TypedTree) → typed ≡ o → Contains (reads_by p.number o) steps → (x : Tree) × (t : TypedTree) × HasFormula p x t × Contains (read_paths p.number t) steps
          read None e among = absurd (contains-none steps among)
          read (Some t) e among = let r = right_tree t e in (r.0, t, r.2, among)

          role : (r : Role) → Contains (paths_by_role r (reads_by p.number typed) (paths_by_names p.models p.number (names_by f tree))) steps ↔ DependsBy r p steps
          role hidden = (read typed refl, λ found. subst (λ (l : List (List Step)). Contains l steps) (sym (reads_of found.0 found.1 found.2)) found.3)
          role own = declared
          role (delegated i) = declared

      -- the expression, as the draft keeps it
      pub draft_typed : (kept : Option Typed) → typed ≡ option_map typed_tree_of kept → MatchOption kept ((w : Wrong) × IsReadingWrong p w) (IsRight p depends)
      draft_typed None e = subst (IsChecked p tree) e checked
      draft_typed (Some t) e = let r = right_tree (typed_tree_of t) e in (r.0, r.2, formula_paths_are (typed_tree_of t) e)
