-- Domains as trees, and the trees that terms in prefix form spell.
use Rattle.std.specs.Prelude.{Bool, true, not, List, [], ◌∷◌, map, drop}
use Rattle.ob_base.specs.declared.id.FieldNo.{FieldNo}
use Rattle.ob_domain.specs.declared.domain.Domain.{Domain}
use Rattle.ob_domain.specs.declared.operator.Logical.{Logical}
use Rattle.ob_domain.specs.declared.operator.Logical.TheVariants as logical
use Rattle.ob_domain.specs.declared.operator.Sense.{Sense}
use Rattle.ob_domain.specs.declared.operator.Sense.TheVariants.{Positive, Negative}
use Rattle.ob_domain.specs.declared.term.Term.{Term, Logical as Before, Constant, Criterion, Any', Row_of-Term, end_of-Term, more_of-Term}
use Rattle.ob_domain.specs.declared.term.Test.{Test}
use Rattle.ob_expr.specs.declared.typed.Link.{Link}

-- what a row is asked to meet: `any` asks that some known row to which the links lead meets the tree
pub data Tree : Type 0 where
  constant : Bool → Tree
  both : Tree → Tree → Tree
  either : Tree → Tree → Tree
  negation : Tree → Tree
  criterion : FieldNo → Test → Tree
  any : List Link → Tree → Tree

-- a negative operator asks for the complement of its positive one
abbrev pub signed : Sense → Tree → Tree
signed Positive tree = tree
signed Negative tree = negation tree

abbrev pub has_sense : Sense → Bool → Bool
has_sense Positive b = b
has_sense Negative b = not b

-- a tree that is asked of the rows behind links
abbrev pub behind : List Link → Tree → Tree
behind [] tree = tree
behind links tree = any links tree

-- trees that follow one another must all hold; none ask nothing
abbrev pub all_of : List Tree → Tree
all_of [] = constant true
all_of (tree ∷ []) = tree
all_of (tree ∷ next ∷ trees) = both tree (all_of (next ∷ trees))

-- a term in prefix form: an operator before the terms that it takes, or a tree
pub data Item : Type 0 where
  operator : Logical → Item
  leaf : Tree → Item

-- the first of some trees; behind the last, nothing is asked
abbrev pub first_of : List Tree → Tree
first_of [] = constant true
first_of (tree ∷ trees) = tree

-- what an operator makes of the trees behind it
abbrev pub joined : Logical → List Tree → List Tree
joined logical.And trees = both (first_of trees) (first_of (drop 1 trees)) ∷ drop 2 trees
joined logical.Or trees = either (first_of trees) (first_of (drop 1 trees)) ∷ drop 2 trees
joined logical.Not trees = negation (first_of trees) ∷ drop 1 trees

-- the trees that items spell one after another
abbrev pub spelled : List Item → List Tree
spelled [] = []
spelled (operator op ∷ items) = joined op (spelled items)
spelled (leaf tree ∷ items) = tree ∷ spelled items

-- the item that a term is
abbrev mutual
  pub item_of : Term → Item
  item_of (Before op) = operator op
  item_of (Constant b) = leaf (constant b)
  item_of (Criterion sense field test) = leaf (signed sense (criterion field test))
  item_of (Any' sense links shape inner) = leaf (signed sense (any links.items (all_of (spelled (items_of inner)))))

  pub items_of : {m : _} → Row_of-Term m → List Item
  items_of end_of-Term = []
  items_of (more_of-Term term rest) = item_of term ∷ items_of rest

-- the tree for which terms stand
abbrev pub tree_of : List Term → Tree
tree_of terms = all_of (spelled (map item_of terms))

-- the tree that a domain asks of a row
abbrev pub tree_of_domain : Domain → Tree
tree_of_domain domain = tree_of domain.terms.items
