-- What is wrong with an expression: one kind of thing at most, since a text spells one tree.
use Rattle.std.proofs.Common.{◌≡◌, inl, inr, ℕ, ◌<◌, ◌≤◌, Bool, true, false, ◌||◌, ◌&&◌, not, List, [], ◌∷◌, append_assoc, length}
use Rattle.std.proofs.Common.{Option, Some, None, Result, Ok, Err, is_some, refl, sym, ap, subst, ◌∙◌, arith}
use Rattle.std.specs.Prelude.{IsSomeAnd, MatchOption, unwrap_or}
use Rattle.std.specs.Borrow.{Bor}
use Rattle.ob_base.specs.Limits.{max_expression_bytes, max_expression_depth}
use Rattle.ob_base.specs.declared.expr_fault.ExprFault.{ExprFault}
use Rattle.ob_base.specs.declared.expr_fault.ExprFault.TheVariants as text_fault
use Rattle.ob_base.specs.Syntax.{Tree, depth, path, path_names}
use Rattle.ob_syntax.specs.Grammar.{IsExpression, IsFirstFault, IsFirstTooDeep, SpellAtMostOneTree}
use Rattle.ob_syntax.specs.Grammar.IsFirstFault.{at_token, at_end}
use Rattle.ob_syntax.specs.Grammar.IsFirstTooDeep.{too_deep}
use Rattle.ob_syntax.specs.Lexemes.{Lexeme, lexemes}
use Rattle.ob_expr.specs.declared.checker.TypeFault.{TypeFault}
use Rattle.ob_expr.specs.declared.checker.TypeFault.TheVariants as type_fault
use Rattle.ob_expr.specs.Checking.{typed_of}
use Rattle.ob_expr.specs.TypedTree.{TypedTree, kind_of}
use Rattle.ob_definition.specs.declared.definition.FieldDef.{FieldDef}
use Rattle.ob_definition.specs.declared.fault.Spot.{Spot}
use Rattle.ob_definition.specs.declared.wrong.Wrong.{Wrong}
use Rattle.ob_definition.specs.declared.wrong.Wrong.TheVariants as wrong
use Rattle.ob_definition.specs.Definitions.{first_of, is_computed}
use Rattle.ob_definition.specs.Findings.{fault_at}
use Rattle.ob_definition.specs.Members.{Member, is_delegated, is_own_computed}
use Rattle.ob_definition.specs.Ranking.{rank}
use Rattle.ob_registry.specs.Faults.{HasLongText, HasTextFault, HasUnknownName, HasWrongKind, IsTextFault}
use Rattle.ob_schema.specs.Finds.{found_at}
use Rattle.ob_schema.specs.Formulas.{HasFormula, HasTree, IsPath, is_path, Place, RelatedByPath, Spelled, expression_text}
use Rattle.ob_registry.specs.Telling.{IsFormulaWrong, IsReadingWrong, IsTextWrong}

-- no text is both given and not
one_text : (o : Option (List ℕ)) (a b : List ℕ) → o ≡ Some a → o ≡ Some b → a ≡ b
one_text o a b x y = let e : ◌≡◌ {A = Option (List ℕ)} (Some a) (Some b) = sym x ∙ y in cc

-- a text that spells a tree has no fault
no_first_fault : (end offset : ℕ) (tokens : List Lexeme) (tree : Tree) → IsExpression tree tokens → IsFirstFault end tokens offset → ⊥
no_first_fault end _ _ tree is (at_token front rest token stays not_on) = not_on (rest, tree, subst (IsExpression tree) (sym (append_assoc front (token ∷ []) rest)) is)
no_first_fault end _ tokens tree is (at_end _ stays none) = none tree is

no_too_deep : (offset : ℕ) (tokens : List Lexeme) (tree : Tree) → IsExpression tree tokens → depth tree ≤ max_expression_depth → IsFirstTooDeep tokens offset → ⊥
no_too_deep _ _ tree is shallow (too_deep front rest token stays on not_shallow) = not_shallow (rest, tree, subst (IsExpression tree) (sym (append_assoc front (token ∷ []) rest)) is, shallow)

no_text_fault : (text : List ℕ) (tree : Tree) (why : ExprFault) → IsExpression tree (lexemes text) → depth tree ≤ max_expression_depth → IsTextFault text why → ⊥
no_text_fault text tree (text_fault.At offset) is shallow h = no_first_fault (length text) offset (lexemes text) tree is h
no_text_fault text tree (text_fault.TooDeep offset) is shallow h = no_too_deep offset (lexemes text) tree is shallow h
no_text_fault text tree _ is shallow h = h

-- a computed field has a text
pub text_given : (f : FieldDef) → is_computed f ≡ true → expression_text f ≡ Some (unwrap_or (expression_text f) [])
text_given f is = by f.compute f.related is
  where
    by : (compute related : Option (List ℕ)) → (is_some compute || is_some related) ≡ true
        → first_of compute related ≡ Some (unwrap_or (first_of compute related) [])
    by (Some text) related is = refl
    by None (Some text) is = refl
    by None None is = absurd (let e : ◌≡◌ {A = Bool} false true = is in cc)

-- a tree that is no path
pub no_path : (tree : Tree) → path_names tree ≡ None → (names : List (List ℕ)) × IsPath names tree → ⊥
no_path _ none (_, is_path names at) = let e : ◌≡◌ {A = Option (List (List ℕ))} (Some names) None = none in cc

-- and one that is
pub is_a_path : (tree : Tree) (names : List (List ℕ)) → path_names tree ≡ Some names → (names : List (List ℕ)) × IsPath names tree
is_a_path (path names at) others e = (names, is_path names at)
is_a_path _ names e = absurd (let b : ◌≡◌ {A = Option (List (List ℕ))} None (Some names) = e in cc)

module _ (unique : (tokens : List Lexeme) → SpellAtMostOneTree tokens) (p : Place) where
  same_tree : (a b : Tree) → Spelled p.member.def a → Spelled p.member.def b → a ≡ b
  same_tree a b x y =
      unique (lexemes x.text) a b x.is_tree
      (subst (λ (text : List ℕ). IsExpression b (lexemes text)) (one_text (expression_text p.member.def) y.text x.text y.given x.given) y.is_tree)

  pub one_tree_of : (a b : Tree) → HasTree p.member.def a → HasTree p.member.def b → a ≡ b
  one_tree_of a b x y = same_tree a b x.spelled y.spelled

  -- a long text spells nothing here, and isn't read at all
  not_long : (tree : Tree) → HasTree p.member.def tree → HasLongText p → ⊥
  not_long tree has long = by (expression_text p.member.def) has.spelled.given long.1
    where
      by : (o : Option (List ℕ)) → o ≡ Some has.spelled.text → IsSomeAnd o (λ text. max_expression_bytes < length text) → ⊥
      by None e h = h
      by (Some text) e h = let same : text ≡ has.spelled.text = cc in omega (arith, has.spelled.short, ap length same, h)

  long_not_read : (why : ExprFault) → HasLongText p → HasTextFault p why → ⊥
  long_not_read why long (inl (text, given, short, h)) = by (expression_text p.member.def) given long.1
    where
      by : (o : Option (List ℕ)) → o ≡ Some text → IsSomeAnd o (λ text. max_expression_bytes < length text) → ⊥
      by None e h = h
      by (Some other) e h = let same : other ≡ text = cc in omega (arith, short, ap length same, h)
  long_not_read why long (inr (tree, spelled, other, is)) = by (expression_text p.member.def) spelled.given long.1
    where
      by : (o : Option (List ℕ)) → o ≡ Some spelled.text → IsSomeAnd o (λ text. max_expression_bytes < length text) → ⊥
      by None e h = h
      by (Some text) e h = let same : text ≡ spelled.text = cc in omega (arith, spelled.short, ap length same, h)

  -- a tree has no fault in its text
  tree_right : (tree : Tree) (why : ExprFault) → HasTree p.member.def tree → HasTextFault p why → ⊥
  tree_right tree why has (inl (text, given, short, h)) =
      no_text_fault text tree why (subst (λ (t : List ℕ). IsExpression tree (lexemes t)) (one_text (expression_text p.member.def) has.spelled.text text has.spelled.given given) has.spelled.is_tree) has.spelled.shallow h
  tree_right tree why has (inr (other, spelled, apart, is)) = apart (subst (RelatedByPath p.member.def) (same_tree tree other has.spelled spelled) has.related)

  -- trees of one field are checked alike
  checked_at : (a b : Tree) (answer : Result TypedTree TypeFault) → HasTree p.member.def a → HasTree p.member.def b → typed_of (found_at p.models) p.number b ≡ answer → typed_of (found_at p.models) p.number a ≡ answer
  checked_at a b answer x y e = ap (typed_of (found_at p.models) p.number) (one_tree_of a b x y) ∙ e

  name_not_right : HasUnknownName p → (tree : Tree) (typed : TypedTree) → HasFormula p tree typed → ⊥
  name_not_right (other, has, own, at, e) tree typed f =
      let b : ◌≡◌ {A = Result TypedTree TypeFault} (Ok typed) (Err (type_fault.Name at)) = sym f.checked ∙ checked_at tree other (Err (type_fault.Name at)) f.has_tree has e in cc

  kind_not_right : HasWrongKind p → (tree : Tree) (typed : TypedTree) → HasFormula p tree typed → ⊥
  kind_not_right (other, has, own, inl (at, e)) tree typed f =
      let b : ◌≡◌ {A = Result TypedTree TypeFault} (Ok typed) (Err (type_fault.Kind at)) = sym f.checked ∙ checked_at tree other (Err (type_fault.Kind at)) f.has_tree has e in cc
  kind_not_right (other, has, own, inr (found, e, differs)) tree typed f =
      let b : ◌≡◌ {A = Result TypedTree TypeFault} (Ok typed) (Ok found) = sym f.checked ∙ checked_at tree other (Ok found) f.has_tree has e in
      let same : typed ≡ found = cc in
      differs (f.kind ∙ ap (λ (t : TypedTree). Some (kind_of t)) same)

  name_not_kind : HasUnknownName p → HasWrongKind p → ⊥
  name_not_kind (a, has, own, at, e) (other, x, mine, inl (at', e')) =
      let b : ◌≡◌ {A = Result TypedTree TypeFault} (Err (type_fault.Name at)) (Err (type_fault.Kind at')) = sym e ∙ checked_at a other (Err (type_fault.Kind at')) has x e' in
      let d : ◌≡◌ {A = TypeFault} (type_fault.Name at) (type_fault.Kind at') = cc in cc
  name_not_kind (a, has, own, at, e) (other, x, mine, inr (found, e', differs)) =
      let b : ◌≡◌ {A = Result TypedTree TypeFault} (Err (type_fault.Name at)) (Ok found) = sym e ∙ checked_at a other (Ok found) has x e' in cc

  -- one formula at most
  pub one_formula : (tree other : Tree) (typed found : TypedTree) → HasFormula p tree typed → HasFormula p other found → (other ≡ tree) × (found ≡ typed)
  one_formula tree other typed found f g =
      let b : ◌≡◌ {A = Result TypedTree TypeFault} (Ok typed) (Ok found) = sym f.checked ∙ checked_at tree other (Ok found) f.has_tree g.has_tree g.checked in
      (one_tree_of other tree g.has_tree f.has_tree, (let s : found ≡ typed = cc in s))

  -- an expression that is right has nothing wrong itself
  pub right : (tree : Tree) (typed : TypedTree) → HasFormula p tree typed → (w : Wrong) → IsReadingWrong p w → ⊥
  right tree typed f wrong.Field h = name_not_right h tree typed f
  right tree typed f wrong.Kind h = kind_not_right h tree typed f
  right tree typed f wrong.Limit h = not_long tree f.has_tree h
  right tree typed f (wrong.Text why) h = tree_right tree why f.has_tree h.1
  right tree typed f _ h = h

  -- so what is wrong with it is of one variant
  abbrev Alike : Wrong → Wrong → Spot → Type 0
  Alike w v spot = rank (fault_at w spot) ≡ rank (fault_at v spot)

  by_name : (spot : Spot) → HasUnknownName p → (w : Wrong) → IsReadingWrong p w → Alike w wrong.Field spot
  by_name spot name wrong.Field h = refl
  by_name spot name wrong.Kind h = absurd (name_not_kind name h)
  by_name spot name wrong.Limit long = absurd (not_long name.0 name.1 long)
  by_name spot name (wrong.Text why) h = absurd (tree_right name.0 why name.1 h.1)
  by_name spot name _ h = absurd h

  by_kind : (spot : Spot) → HasWrongKind p → (w : Wrong) → IsReadingWrong p w → Alike w wrong.Kind spot
  by_kind spot kind wrong.Field name = absurd (name_not_kind name kind)
  by_kind spot kind wrong.Kind h = refl
  by_kind spot kind wrong.Limit long = absurd (not_long kind.0 kind.1 long)
  by_kind spot kind (wrong.Text why) h = absurd (tree_right kind.0 why kind.1 h.1)
  by_kind spot kind _ h = absurd h

  by_length : (spot : Spot) → HasLongText p → (w : Wrong) → IsReadingWrong p w → Alike w wrong.Limit spot
  by_length spot long wrong.Field name = absurd (not_long name.0 name.1 long)
  by_length spot long wrong.Kind kind = absurd (not_long kind.0 kind.1 long)
  by_length spot long wrong.Limit h = refl
  by_length spot long (wrong.Text why) h = absurd (long_not_read why long h.1)
  by_length spot long _ h = absurd h

  by_text : (spot : Spot) (why : ExprFault) → HasTextFault p why → (w : Wrong) → IsReadingWrong p w → Alike w (wrong.Text why) spot
  by_text spot why fault wrong.Field name = absurd (tree_right name.0 why name.1 fault)
  by_text spot why fault wrong.Kind kind = absurd (tree_right kind.0 why kind.1 fault)
  by_text spot why fault wrong.Limit long = absurd (long_not_read why long fault)
  by_text spot why fault (wrong.Text other) h = refl
  by_text spot why fault _ h = absurd h

  pub one_variant : (spot : Spot) (v : Wrong) → IsReadingWrong p v → (w : Wrong) → IsReadingWrong p w → rank (fault_at w spot) ≡ rank (fault_at v spot)
  one_variant spot wrong.Field h w = by_name spot h w
  one_variant spot wrong.Kind h w = by_kind spot h w
  one_variant spot wrong.Limit h w = by_length spot h w
  one_variant spot (wrong.Text why) h w = by_text spot why h.1 w
  one_variant spot _ h w = absurd h

  -- a text in which something is wrong spells no tree
  pub no_tree : (w : Wrong) → IsTextWrong p w → (tree : Tree) → HasTree p.member.def tree → ⊥
  no_tree wrong.Limit long tree has = not_long tree has long
  no_tree (wrong.Text why) h tree has = tree_right tree why has h.1
  no_tree _ h tree has = h

  -- and so its expression is wrong
  pub text_wrong : (w : Wrong) → IsTextWrong p w → IsReadingWrong p w
  text_wrong wrong.Limit h = h
  text_wrong (wrong.Text why) h = h
  text_wrong _ h = absurd h

-- a field without an expression of its own has nothing wrong
pub not_computed : (p : Place) → is_own_computed p.member ≡ false → (w : Wrong) → IsFormulaWrong p w → ⊥
not_computed p plain w h = let e : ◌≡◌ {A = Bool} false true = sym plain ∙ own w h in cc
  where
    own : (w : Wrong) → IsFormulaWrong p w → is_own_computed p.member ≡ true
    own wrong.Field (inl name) = name.2
    own wrong.Field (inr bad) = bad.0
    own wrong.Kind kind = kind.2
    own wrong.Path (inl (tree, typed, f, any)) = f.computed
    own wrong.Path (inr bad) = bad.0
    own wrong.Limit (inl long) = long.0
    own wrong.Limit (inr long) = long.1.0
    own (wrong.Text why) h = h.0
    own _ h = absurd h

-- a computed field's text that spells a tree
own_is_computed : (a b : Bool) → (a && b) ≡ true → b ≡ true
own_is_computed true b e = e
own_is_computed false b e = absurd (let f : ◌≡◌ {A = Bool} false true = e in cc)

pub spelled_by : (m : Member) (text : List ℕ) (tree : Tree) → is_own_computed m ≡ true → text ≡ unwrap_or (expression_text m.def) [] → length text ≤ max_expression_bytes → IsExpression tree (lexemes text)
    → depth tree ≤ max_expression_depth → Spelled m.def tree
spelled_by m text tree own is short spells shallow = record {
  text = text;
  given = text_given m.def (own_is_computed (not (is_delegated m.role)) (is_computed m.def) own) ∙ ap Some (sym is);
  short = short;
  is_tree = spells;
  shallow = shallow;
}

-- whether it is a path, as the program tells it
pub path_told : (tree : Tree) (o : Option (Bor (List (List ℕ)))) → is_some o ≡ true → MatchOption o (path_names tree ≡ None) (λ names. path_names tree ≡ Some names.now) → (names : List (List ℕ)) × IsPath names tree
path_told tree None some told = absurd (let f : ◌≡◌ {A = Bool} false true = some in cc)
path_told tree (Some names) some told = is_a_path tree names.now told

pub path_untold : (tree : Tree) (o : Option (Bor (List (List ℕ)))) → is_some o ≡ false → MatchOption o (path_names tree ≡ None) (λ names. path_names tree ≡ Some names.now) → path_names tree ≡ None
path_untold tree None none told = told
path_untold tree (Some names) none told = absurd (let f : ◌≡◌ {A = Bool} true false = none in cc)

pub related_not : (f : FieldDef) (tree : Tree) → is_some f.related ≡ false → RelatedByPath f tree
related_not f tree none some = absurd (let e : ◌≡◌ {A = Bool} false true = sym none ∙ some in cc)
