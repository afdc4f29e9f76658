-- Private: how proofs tell policies apart. A tree is stored as its parts in prefix form.
use Rattle.std.specs.Prelude.{◌≡◌, Bool, List, [], ◌∷◌, ◌++◌, drop, refl}
use Rattle.std.specs.Coded.{Coded, code_by}
use Rattle.std.proofs.Common.{append_assoc, append-nil, ap, sym, ◌∙◌}
use Rattle.ob_base.specs.declared.id.FieldNo.{FieldNo}
use Rattle.ob_domain.specs.Trees.{Tree, constant, both, either, negation, criterion, any, first_of}
use Rattle.ob_domain.specs.declared.term.Test.{Test}
use Rattle.ob_expr.specs.declared.typed.Link.{Link}

-- what begins a tree
pub data Part : Type 0 where
  constant_part : Bool → Part
  both_part : Part
  either_part : Part
  negation_part : Part
  criterion_part : FieldNo → Test → Part
  any_part : List Link → Part

-- a tree's parts, each before what it is made of
abbrev pub parts_of : Tree → List Part
parts_of (constant b) = constant_part b ∷ []
parts_of (both a b) = both_part ∷ (parts_of a ++ parts_of b)
parts_of (either a b) = either_part ∷ (parts_of a ++ parts_of b)
parts_of (negation a) = negation_part ∷ parts_of a
parts_of (criterion field test) = criterion_part field test ∷ []
parts_of (any links a) = any_part links ∷ parts_of a

-- what a part makes of the trees behind it
abbrev pub begun : Part → List Tree → List Tree
begun (constant_part b) trees = constant b ∷ trees
begun both_part trees = both (first_of trees) (first_of (drop 1 trees)) ∷ drop 2 trees
begun either_part trees = either (first_of trees) (first_of (drop 1 trees)) ∷ drop 2 trees
begun negation_part trees = negation (first_of trees) ∷ drop 1 trees
begun (criterion_part field test) trees = criterion field test ∷ trees
begun (any_part links) trees = any links (first_of trees) ∷ drop 1 trees

-- the trees that parts spell
abbrev pub trees_of : List Part → List Tree
trees_of [] = []
trees_of (part ∷ parts) = begun part (trees_of parts)

-- a tree's parts spell it
pub trees_of-parts_of : (tree : Tree) (rest : List Part) → trees_of (parts_of tree ++ rest) ≡ tree ∷ trees_of rest
trees_of-parts_of (constant b) rest = refl
trees_of-parts_of (both a b) rest =
    ap (λ parts. begun both_part (trees_of parts)) (append_assoc (parts_of a) (parts_of b) rest)
    ∙ ap (begun both_part) (trees_of-parts_of a (parts_of b ++ rest))
    ∙ ap (λ trees. begun both_part (a ∷ trees)) (trees_of-parts_of b rest)
trees_of-parts_of (either a b) rest =
    ap (λ parts. begun either_part (trees_of parts)) (append_assoc (parts_of a) (parts_of b) rest)
    ∙ ap (begun either_part) (trees_of-parts_of a (parts_of b ++ rest))
    ∙ ap (λ trees. begun either_part (a ∷ trees)) (trees_of-parts_of b rest)
trees_of-parts_of (negation a) rest = ap (begun negation_part) (trees_of-parts_of a rest)
trees_of-parts_of (criterion field test) rest = refl
trees_of-parts_of (any links a) rest = ap (begun (any_part links)) (trees_of-parts_of a rest)

-- trees are told apart by their parts
abbrev pub tree_code : Coded (List Part) → Coded Tree
tree_code parts = code_by (List Part) parts parts_of (λ parts. first_of (trees_of parts))
    (λ tree. ap (λ parts. first_of (trees_of parts)) (sym (append-nil (parts_of tree))) ∙ ap first_of (trees_of-parts_of tree []))
