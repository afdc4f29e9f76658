-- The fields that terms name, and whether they ask a field, are those of the tree that they spell.
use Rattle.std.proofs.Common.{◌≡◌, ℕ, ◌+◌, ◌<◌, ◌≤◌, ◌||◌, Bool, true, false, Vec, Global, Result, Ok, Err, IfOk, List, [], ◌∷◌, ◌++◌, append_assoc, append-nil, map, length, get_or, drop, refl, sym, ap, ◌∙◌}
use Rattle.std.proofs.Math.Bool.{or_assoc, or-false}
use Rattle.std.proofs.lemmas.List.{drop_more, drop_all}
use Rattle.std.proofs.lemmas.List.Folds.{flat_map-map}
use Rattle.std.specs.List.{flat_map, list_any}
use Rattle.ob_base.specs.declared.id.FieldNo.{FieldNo}
use Rattle.ob_base.specs.declared.id.ModelNo.{ModelNo}
use Rattle.ob_expr.specs.declared.typed.Link.{Link}
use Rattle.ob_schema.specs.Paths.{step_at}
use Rattle.ob_schema.specs.declared.info.Step.{Step}
use Rattle.ob_domain.specs.Naming.{asks_field, fields_along, item_asks, item_fields, named_fields}
use Rattle.ob_domain.specs.Over.{end_of}
use Rattle.ob_domain.specs.Trees.{Item, Tree, operator, leaf, all_of, any, item_of, joined, signed, spelled, tree_of}
use Rattle.ob_domain.specs.declared.operator.Logical.{Logical}
use Rattle.ob_domain.specs.declared.operator.Logical.TheVariants.{And, Or, Not}
use Rattle.ob_domain.specs.declared.operator.Sense.{Sense}
use Rattle.ob_domain.specs.declared.operator.Sense.TheVariants.{Positive, Negative}
use Rattle.ob_domain.specs.declared.term.Term.{Term, Any}
use Rattle.ob_domain.proofs.AnyOf.{list_any-map}
use Rattle.ob_domain.proofs.Rows.{any-item}

module _ (model : ModelNo) where
  -- those of some trees
  abbrev pub fields_of : List Tree → List Step
  fields_of trees = flat_map (named_fields model) trees

  named-all_of : (trees : List Tree) → named_fields model (all_of trees) ≡ fields_of trees
  named-all_of [] = refl
  named-all_of (tree ∷ []) = sym (append-nil (named_fields model tree))
  named-all_of (tree ∷ next ∷ trees) = ap (λ (fields : List Step). named_fields model tree ++ fields) (named-all_of (next ∷ trees))

  named-joined : (op : Logical) (trees : List Tree) → fields_of (joined op trees) ≡ fields_of trees
  named-joined And [] = refl
  named-joined And (a ∷ []) = append_assoc (named_fields model a) [] []
  named-joined And (a ∷ b ∷ trees) = append_assoc (named_fields model a) (named_fields model b) (fields_of trees)
  named-joined Or [] = refl
  named-joined Or (a ∷ []) = append_assoc (named_fields model a) [] []
  named-joined Or (a ∷ b ∷ trees) = append_assoc (named_fields model a) (named_fields model b) (fields_of trees)
  named-joined Not [] = refl
  named-joined Not (a ∷ trees) = refl

  named-spelled : (items : List Item) → fields_of (spelled items) ≡ flat_map (item_fields model) items
  named-spelled [] = refl
  named-spelled (operator op ∷ items) = named-joined op (spelled items) ∙ named-spelled items
  named-spelled (leaf tree ∷ items) = ap (λ (fields : List Step). named_fields model tree ++ fields) (named-spelled items)

  abbrev pub term_fields : Term → List Step
  term_fields term = item_fields model (item_of term)

  -- those that each term names, one after another
  pub named-terms : (terms : List Term) → named_fields model (tree_of terms) ≡ flat_map term_fields terms
  named-terms terms = named-all_of (spelled (map item_of terms)) ∙ named-spelled (map item_of terms) ∙ flat_map-map (item_fields model) item_of terms

  pub signed-named : (sense : Sense) (tree : Tree) → named_fields model (signed sense tree) ≡ named_fields model tree
  signed-named Positive tree = refl
  signed-named Negative tree = refl

  -- one term more from the left
  pub named_more : (terms : List Term) (i : ℕ) (term : Term) (old new : List Step) (all : List Step) → i < length terms → term ≡ get_or terms i term
      → old ++ flat_map term_fields (drop i terms) ≡ all → new ≡ old ++ term_fields term → new ++ flat_map term_fields (drop (i + 1) terms) ≡ all
  named_more terms i term old new all l at was is =
      let rest : List Step = flat_map term_fields (drop (i + 1) terms) in
      ap (λ (fields : List Step). fields ++ rest) (is ∙ ap (λ (x : Term). old ++ term_fields x) at)
      ∙ append_assoc old (term_fields (get_or terms i term)) rest
      ∙ ap (λ (xs : List Term). old ++ flat_map term_fields xs) (sym (drop_more terms i term l)) ∙ was

  pub named_end : (terms : List Term) (i : ℕ) (old new : List Step) → length terms ≤ i
      → new ++ flat_map term_fields (drop i terms) ≡ old ++ flat_map term_fields terms → new ≡ old ++ named_fields model (tree_of terms)
  named_end terms i old new l was =
      sym (append-nil new) ∙ ap (λ (xs : List Term). new ++ flat_map term_fields xs) (sym (drop_all i terms l)) ∙ was ∙ ap (λ (fields : List Step). old ++ fields) (sym (named-terms terms))

-- ---- the links of a term that asks rows behind them

module _ (term : Term) (sense : Sense) (links : Vec Link Global) (inner : Vec Term Global) (ls : List Link) (ts : List Term)
    (is : term ≡ Any sense links inner) (first : ls ≡ links.items) (second : ts ≡ inner.items) where
  pub named-any : (model : ModelNo) → item_fields model (item_of term) ≡ fields_along model ls ++ named_fields (end_of model ls) (tree_of ts)
  named-any model =
      ap (λ (x : Term). item_fields model (item_of x)) is ∙ ap (item_fields model) (any-item sense links inner)
      ∙ ap (λ (xs : List Link). named_fields model (signed sense (any xs (tree_of inner.items)))) (sym first)
      ∙ ap (λ (xs : List Term). named_fields model (signed sense (any ls (tree_of xs)))) (sym second)
      ∙ signed-named model sense (any ls (tree_of ts))

  -- the terms behind the links add theirs, if memory suffices
  pub named_behind : {A E : Type 0} (r : Result A E) (model end : ModelNo) (old mid new : List Step) → mid ≡ old ++ fields_along model ls → end ≡ end_of model ls
      → IfOk r (λ x. new ≡ mid ++ named_fields end (tree_of ts)) → IfOk r (λ x. new ≡ old ++ item_fields model (item_of term))
  named_behind (Ok x) model end old mid new along ends added =
      let inner : ModelNo → List Step = λ m. named_fields m (tree_of ts) in
      added ∙ ap (λ (fields : List Step). fields ++ inner end) along
      ∙ append_assoc old (fields_along model ls) (inner end)
      ∙ ap (λ (m : ModelNo). old ++ (fields_along model ls ++ inner m)) ends
      ∙ ap (λ (fields : List Step). old ++ fields) (sym (named-any model))
  named_behind (Err why) model end old mid new along ends added = tt

-- one link more from the left
pub along_next : (links : List Link) (i : ℕ) (link : Link) (model : ModelNo) (old new all : List Step) → i < length links → link ≡ get_or links i link
    → old ++ fields_along model (drop i links) ≡ all → new ≡ old ++ step_at model link.field ∷ [] → new ++ fields_along link.target (drop (i + 1) links) ≡ all
along_next links i link model old new all l at was is =
    let rest : List Step = fields_along link.target (drop (i + 1) links) in
    ap (λ (fields : List Step). fields ++ rest) is
    ∙ append_assoc old (step_at model link.field ∷ []) rest
    ∙ ap (λ (x : Link). old ++ fields_along model (x ∷ drop (i + 1) links)) at
    ∙ ap (λ (xs : List Link). old ++ fields_along model xs) (sym (drop_more links i link l)) ∙ was

pub end_next : (links : List Link) (i : ℕ) (link : Link) (model end : ModelNo) → i < length links → link ≡ get_or links i link
    → end_of model (drop i links) ≡ end → end_of link.target (drop (i + 1) links) ≡ end
end_next links i link model end l at was =
    ap (λ (x : Link). end_of x.target (drop (i + 1) links)) at ∙ ap (end_of model) (sym (drop_more links i link l)) ∙ was

pub along_end : (links : List Link) (i : ℕ) (model : ModelNo) (old new : List Step) → length links ≤ i
    → new ++ fields_along model (drop i links) ≡ old → new ≡ old
along_end links i model old new l was = sym (append-nil new) ∙ ap (λ (xs : List Link). new ++ fields_along model xs) (sym (drop_all i links l)) ∙ was

-- ---- whether a field is asked

module _ (field : FieldNo) where
  abbrev asks_some : List Tree → Bool
  asks_some trees = list_any (asks_field field) trees

  asks-all_of : (trees : List Tree) → asks_field field (all_of trees) ≡ asks_some trees
  asks-all_of [] = refl
  asks-all_of (tree ∷ []) = sym (or-false (asks_field field tree))
  asks-all_of (tree ∷ next ∷ trees) = ap (λ (b : Bool). asks_field field tree || b) (asks-all_of (next ∷ trees))

  asks-joined : (op : Logical) (trees : List Tree) → asks_some (joined op trees) ≡ asks_some trees
  asks-joined And [] = refl
  asks-joined And (a ∷ []) = or_assoc (asks_field field a) false false
  asks-joined And (a ∷ b ∷ trees) = or_assoc (asks_field field a) (asks_field field b) (asks_some trees)
  asks-joined Or [] = refl
  asks-joined Or (a ∷ []) = or_assoc (asks_field field a) false false
  asks-joined Or (a ∷ b ∷ trees) = or_assoc (asks_field field a) (asks_field field b) (asks_some trees)
  asks-joined Not [] = refl
  asks-joined Not (a ∷ trees) = refl

  asks-spelled : (items : List Item) → asks_some (spelled items) ≡ list_any (item_asks field) items
  asks-spelled [] = refl
  asks-spelled (operator op ∷ items) = asks-joined op (spelled items) ∙ asks-spelled items
  asks-spelled (leaf tree ∷ items) = ap (λ (b : Bool). asks_field field tree || b) (asks-spelled items)

  -- some term asks it
  pub asks-terms : (terms : List Term) → list_any (λ term. item_asks field (item_of term)) terms ≡ asks_field field (tree_of terms)
  asks-terms terms = sym (asks-all_of (spelled (map item_of terms)) ∙ asks-spelled (map item_of terms) ∙ list_any-map (item_asks field) item_of terms)

  pub signed-asks : (sense : Sense) (tree : Tree) → asks_field field (signed sense tree) ≡ asks_field field tree
  signed-asks Positive tree = refl
  signed-asks Negative tree = refl
