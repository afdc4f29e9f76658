-- The terms of an inner domain in the code, as a list.
use Rattle.std.proofs.Common.{◌≡◌, ◌≢◌, List, [], ◌∷◌, map, refl, ap, ◌∙◌}
use Rattle.std.specs.declared.alloc.Global.{Global}
use Rattle.std.specs.declared.vec.Vec.{Vec}
use Rattle.ob_domain.specs.Trees.{Item, Tree, all_of, any, behind, item_of, items_of, leaf, signed, spelled, tree_of}
use Rattle.ob_domain.specs.declared.operator.Sense.{Sense}
use Rattle.ob_expr.specs.declared.typed.Link.{Link}
use Rattle.ob_domain.specs.declared.term.Term.{Term, Any, Row_of-Term, end_of-Term, more_of-Term, items-the_row-Term, items_hidden-the_row-Term-0}
use Rattle.ob_domain.specs.declared.term.Term.TheBlock.{hidden-the_row-Term-0}

items_of-row : {m : _} (row : Row_of-Term m) → items_of row ≡ map item_of (items-the_row-Term m row)
items_of-row end_of-Term = refl
items_of-row (more_of-Term term rest) = ap (λ (items : List Item). item_of term ∷ items) (items_of-row rest)

items_of-terms : (terms : Vec Term Global) → items_of (hidden-the_row-Term-0 terms) ≡ map item_of terms.items
items_of-terms terms = items_of-row (hidden-the_row-Term-0 terms) ∙ ap (map item_of) (items_hidden-the_row-Term-0 terms)

pub any-item : (sense : Sense) (links : Vec Link Global) (terms : Vec Term Global) → item_of (Any sense links terms) ≡ leaf (signed sense (any links.items (tree_of terms.items)))
any-item sense links terms = ap (λ (items : List Item). leaf (signed sense (any links.items (all_of (spelled items))))) (items_of-terms terms)

-- one term that isn't an operator
pub one_tree : (terms : List Term) (term : Term) (tree : Tree) → terms ≡ term ∷ [] → item_of term ≡ leaf tree → tree_of terms ≡ tree
one_tree terms term tree alone is = ap tree_of alone ∙ ap (λ (i : Item). all_of (spelled (i ∷ []))) is

pub behind-some : (links : List Link) (tree : Tree) → links ≢ [] → behind links tree ≡ any links tree
behind-some [] tree some = absurd (some refl)
behind-some (link ∷ links) tree some = refl
