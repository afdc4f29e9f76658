-- The answers of terms, from the last to the first, are those of the trees that they spell.
use Rattle.std.proofs.Common.{◌≡◌, ℕ, zero, suc, ◌+◌, ◌-◌, ◌<◌, ◌≤◌, ◌&&◌, Bool, true, false, All, Vec, Global}
use Rattle.std.proofs.Common.{List, [], ◌∷◌, ◌++◌, map, reverse, length, get_or, drop, arith, refl, sym, ap, subst, ◌∙◌}
use Rattle.std.proofs.Math.Bool.{and_comm}
use Rattle.std.proofs.lemmas.List.{reverse-append, drop_more}
use Rattle.std.proofs.lemmas.List.Folds.{list_all-append}
use Rattle.std.specs.Prelude.{⊤}
use Rattle.std.specs.List.{list_all, list_any}
use Rattle.ob_base.specs.declared.id.ModelNo.{ModelNo}
use Rattle.ob_base.specs.declared.id.RecId.{RecId}
use Rattle.ob_expr.specs.Meaning.{row_at}
use Rattle.ob_expr.specs.declared.row.Row.{Row}
use Rattle.ob_expr.specs.declared.typed.Link.{Link}
use Rattle.ob_schema.specs.Facts.{Told}
use Rattle.ob_schema.specs.declared.info.ModelInfo.{ModelInfo}
use Rattle.ob_domain.specs.Holding.{answers_from, holds, joined_answers, some_reached}
use Rattle.ob_domain.specs.Over.{AreLinks, IsItemOver, IsOver, end_of}
use Rattle.ob_domain.specs.Trees.{Item, Tree, operator, leaf, all_of, any, has_sense, item_of, joined, signed, spelled, tree_of}
use Rattle.ob_domain.specs.declared.operator.Logical.{Logical}
use Rattle.ob_domain.specs.declared.operator.Logical.TheVariants.{And, Or, Not}
use Rattle.ob_domain.specs.declared.operator.Sense.{Sense}
use Rattle.ob_domain.specs.declared.operator.Sense.TheVariants.{Positive, Negative}
use Rattle.ob_domain.specs.declared.asked.Row.{Row as KeptRow}
use Rattle.ob_domain.specs.declared.term.Term.{Term, Any}
use Rattle.ob_domain.proofs.AnyOf.{any_found, any_passed}
use Rattle.ob_domain.proofs.Rows.{any-item}

module _ (told : Told) (user : RecId) (row : Row) where
  abbrev pub held : Tree → Bool
  held tree = holds told user tree row

  -- an operator makes of answers what it makes of the trees
  pub joined-held : (op : Logical) (trees : List Tree) → joined_answers op (map held trees) ≡ map held (joined op trees)
  joined-held And [] = refl
  joined-held And (a ∷ []) = refl
  joined-held And (a ∷ b ∷ trees) = refl
  joined-held Or [] = refl
  joined-held Or (a ∷ []) = refl
  joined-held Or (a ∷ b ∷ trees) = refl
  joined-held Not [] = refl
  joined-held Not (a ∷ trees) = refl

  pub answers-held : (item : Item) (items : List Item) → answers_from told user row item (map held (spelled items)) ≡ map held (spelled (item ∷ items))
  answers-held (operator op) items = joined-held op (spelled items)
  answers-held (leaf tree) items = refl

  -- one term more from the right
  pub answers_more : (terms : List Term) (i n : ℕ) (d : Term) (old new : List Bool) (b : Bool) → i ≡ n + 1 → n < length terms
      → reverse old ≡ map held (spelled (map item_of (drop i terms))) → b ∷ reverse new ≡ answers_from told user row (item_of (get_or terms n d)) (reverse old)
      → reverse (new ++ b ∷ []) ≡ map held (spelled (map item_of (drop n terms)))
  answers_more terms i n d old new b next l was is =
      reverse-append new (b ∷ []) ∙ is ∙ ap (answers_from told user row (item_of (get_or terms n d))) (was ∙ ap (λ (k : ℕ). map held (spelled (map item_of (drop k terms)))) next)
      ∙ answers-held (item_of (get_or terms n d)) (map item_of (drop (n + 1) terms))
      ∙ ap (λ (ts : List Term). map held (spelled (map item_of ts))) (sym (drop_more terms n d l))

  -- all of some trees hold where each does
  pub all-held : (trees : List Tree) → holds told user (all_of trees) row ≡ list_all (λ b. b) (map held trees)
  all-held [] = refl
  all-held (tree ∷ []) = and_comm true (held tree)
  all-held (tree ∷ next ∷ trees) = ap (λ (b : Bool). held tree && b) (all-held (next ∷ trees))

  pub signed-held : (sense : Sense) (tree : Tree) → held (signed sense tree) ≡ has_sense sense (held tree)
  signed-held Positive tree = refl
  signed-held Negative tree = refl

list_all-reverse : (bs : List Bool) → list_all (λ b. b) (reverse bs) ≡ list_all (λ b. b) bs
list_all-reverse [] = refl
list_all-reverse (b ∷ bs) =
    ap (list_all (λ (b : Bool). b)) (reverse-append (b ∷ []) bs) ∙ list_all-append (λ (b : Bool). b) (reverse bs) (b ∷ [])
    ∙ ap (λ (rest : Bool). rest && (b && true)) (list_all-reverse bs) ∙ and_comm (list_all (λ b. b) bs) (b && true) ∙ ap (λ (first : Bool). first && list_all (λ b. b) bs) (and_comm b true)

-- the answers of all terms are worth what their tree is
pub answers-all : (told : Told) (user : RecId) (row : Row) (terms : List Term) (answers : List Bool) (b : Bool)
    → reverse answers ≡ map (held told user row) (spelled (map item_of terms)) → b ≡ list_all (λ x. x) answers → b ≡ holds told user (tree_of terms) row
answers-all told user row terms answers b are is =
    is ∙ sym (list_all-reverse answers) ∙ ap (list_all (λ (x : Bool). x)) are ∙ sym (all-held told user row (spelled (map item_of terms)))

-- ---- over the registry's fields

module _ (models : List ModelInfo) (model : ModelNo) where
  abbrev pub AreOver : List Tree → Type 0
  AreOver [] = ⊤
  AreOver (tree ∷ trees) = IsOver models model tree × AreOver trees

  pub AreOver-all_of : (trees : List Tree) → IsOver models model (all_of trees) → AreOver trees
  AreOver-all_of [] over = tt
  AreOver-all_of (tree ∷ []) over = (over, tt)
  AreOver-all_of (tree ∷ next ∷ trees) over = (over.0, AreOver-all_of (next ∷ trees) over.1)

  AreOver-joined : (op : Logical) (trees : List Tree) → AreOver (joined op trees) → AreOver trees
  AreOver-joined And [] over = tt
  AreOver-joined And (a ∷ []) over = (over.0.0, tt)
  AreOver-joined And (a ∷ b ∷ trees) over = (over.0.0, (over.0.1, over.1))
  AreOver-joined Or [] over = tt
  AreOver-joined Or (a ∷ []) over = (over.0.0, tt)
  AreOver-joined Or (a ∷ b ∷ trees) over = (over.0.0, (over.0.1, over.1))
  AreOver-joined Not [] over = tt
  AreOver-joined Not (a ∷ trees) over = (over.0, over.1)

  first_over : (item : Item) (items : List Item) → AreOver (spelled (item ∷ items)) → IsItemOver models model item
  first_over (operator op) items over = tt
  first_over (leaf tree) items over = over.0

  rest_over : (item : Item) (items : List Item) → AreOver (spelled (item ∷ items)) → AreOver (spelled items)
  rest_over (operator op) items over = AreOver-joined op (spelled items) over
  rest_over (leaf tree) items over = over.1

  -- each item of a tree over the registry is over it
  pub item_over : (terms : List Term) (n : ℕ) (d : Term) → n < length terms → AreOver (spelled (map item_of terms)) → IsItemOver models model (item_of (get_or terms n d))
  item_over [] n d l over = absurd (omega arith)
  item_over (term ∷ terms) zero d l over = first_over (item_of term) (map item_of terms) over
  item_over (term ∷ terms) (suc n) d l over = item_over terms n d (omega arith) (rest_over (item_of term) (map item_of terms) over)

  pub signed_over : (sense : Sense) (tree : Tree) → IsOver models model (signed sense tree) → IsOver models model tree
  signed_over Positive tree over = over
  signed_over Negative tree over = over

pub term_over : (models now : List ModelInfo) (model : ModelNo) (terms : List Term) (n : ℕ) (d : Term) → now ≡ models → n < length terms → IsOver models model (tree_of terms)
    → IsItemOver now model (item_of (get_or terms n d))
term_over models now model terms n d kept l over =
    subst (λ (ms : List ModelInfo). IsItemOver ms model (item_of (get_or terms n d))) (sym kept) (item_over models model terms n d l (AreOver-all_of models model (spelled (map item_of terms)) over))

-- ---- the answer of one term more

-- the term from the right is the next
pub answers_step : (told : Told) (user : RecId) (row : Row) (terms : List Term) (place : ℕ) (term : Term) (old new : List Bool) (b : Bool)
    → 0 < place → place ≤ length terms → term ≡ get_or terms (place - 1) term
    → reverse old ≡ map (held told user row) (spelled (map item_of (drop place terms))) → b ∷ reverse new ≡ answers_from told user row (item_of term) (reverse old)
    → reverse (new ++ b ∷ []) ≡ map (held told user row) (spelled (map item_of (drop (place - 1) terms)))
answers_step told user row terms place term old new b some l at was is =
    answers_more told user row terms place (place - 1) term old new b (omega arith) (omega arith) was
    (is ∙ ap (λ (x : Term). answers_from told user row (item_of x) (reverse old)) at)

pub item_known : (models now : List ModelInfo) (model : ModelNo) (terms : List Term) (place : ℕ) (term : Term) → now ≡ models → 0 < place → place ≤ length terms
    → term ≡ get_or terms (place - 1) term → IsOver models model (tree_of terms) → IsItemOver now model (item_of term)
item_known models now model terms place term kept some l at over =
    subst (λ (x : Term). IsItemOver now model (item_of x)) (sym at) (term_over models now model terms (place - 1) term kept (omega arith) over)

-- ---- a term that asks rows behind links

module _ (term : Term) (sense : Sense) (links : Vec Link Global) (inner : Vec Term Global) (ls : List Link) (ts : List Term)
    (is : term ≡ Any sense links inner) (first : ls ≡ links.items) (second : ts ≡ inner.items) where
  item : item_of term ≡ leaf (signed sense (any ls (tree_of ts)))
  item = ap item_of is ∙ any-item sense links inner
      ∙ ap (λ (xs : List Link). leaf (signed sense (any xs (tree_of inner.items)))) (sym first)
      ∙ ap (λ (xs : List Term). leaf (signed sense (any ls (tree_of xs)))) (sym second)

  pub any_over : (models : List ModelInfo) (model : ModelNo) → IsItemOver models model (item_of term) → AreLinks models model ls × IsOver models (end_of model ls) (tree_of ts)
  any_over models model over = signed_over models model sense (any ls (tree_of ts)) (subst (λ (x : Item). IsItemOver models model x) item over)

  pub any_answer : (told : Told) (user : RecId) (row : Row) (answers : List Bool) (b r : Bool) → r ≡ has_sense sense b → b ≡ some_reached told (holds told user (tree_of ts)) ls row
      → r ∷ answers ≡ answers_from told user row (item_of term) answers
  any_answer told user row answers b r signs reached =
      ap (λ (x : Bool). x ∷ answers) (signs ∙ ap (has_sense sense) reached ∙ sym (signed-held told user row sense (any ls (tree_of ts))))
      ∙ ap (λ (x : Item). answers_from told user row x answers) (sym item)

-- ---- rows behind links, one after another

module _ (told : Told) (user : RecId) (tree : Tree) (rows : List KeptRow) (i : ℕ) (d : KeptRow) (b : Bool) (l : i < length rows) where
  abbrev pub meets_at : KeptRow → Bool
  meets_at r = holds told user tree (row_at r.model r.id)

  module _ (is : b ≡ holds told user tree (row_at (get_or rows i d).model (get_or rows i d).id)) (none : list_any meets_at rows ≡ list_any meets_at (drop i rows)) where
    here : meets_at (get_or rows i d) ≡ b
    here = sym is

    pub one_met : b ≡ true → list_any meets_at rows ≡ true
    one_met yes' = none ∙ any_found meets_at rows i d l (here ∙ yes')

    pub one_passed : b ≡ false → list_any meets_at rows ≡ list_any meets_at (drop (i + 1) rows)
    one_passed no' = none ∙ any_passed meets_at rows i d l (here ∙ no')

pub row_over : (models now : List ModelInfo) (model : ModelNo) (tree : Tree) (rows shown : List KeptRow) (i : ℕ) (d : KeptRow) → shown ≡ rows → now ≡ models → i < length shown
    → All (λ (r : KeptRow). r.model ≡ model) rows → IsOver models model tree → IsOver now (get_or shown i d).model tree
row_over models now model tree rows shown i d same kept l ends over =
    let all : All (λ (r : KeptRow). r.model ≡ model) shown = subst (λ (rs : List KeptRow). All (λ (r : KeptRow). r.model ≡ model) rs) (sym same) ends in
    subst (λ (ms : List ModelInfo). IsOver ms (get_or shown i d).model tree) (sym kept) (subst (λ (m : ModelNo). IsOver models m tree) (sym (all i d l)) over)

pub row_known : (told : Told) (rows shown : List KeptRow) (i : ℕ) (d : KeptRow) → shown ≡ rows → i < length shown
    → All (λ (r : KeptRow). told.knows r.model r.id ≡ true) rows → told.knows (get_or shown i d).model (get_or shown i d).id ≡ true
row_known told rows shown i d same l known =
    let all : All (λ (r : KeptRow). told.knows r.model r.id ≡ true) shown = subst (λ (rs : List KeptRow). All (λ (r : KeptRow). told.knows r.model r.id ≡ true) rs) (sym same) known in
    all i d l
