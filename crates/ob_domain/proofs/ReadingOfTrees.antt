-- What stands for a tree is read as that tree, where there may be as many terms as it has.
use Rattle.std.proofs.Common.{◌≡◌, ◌≢◌, ℕ, suc, ◌+◌, ◌-◌, ◌≤◌, nat_le, List, [], ◌∷◌, ◌++◌, length, codes, Bool, true, false, if◌then◌else◌, Some, None, is_some, Ok, Err, refl, sym, ap, ◌∙◌, subst, arith}
use Rattle.std.proofs.lemmas.Bool.{le-leb}
use Rattle.ob_base.specs.Limits.{max_domain_terms}
use Rattle.ob_base.specs.declared.id.ModelNo.{ModelNo}
use Rattle.ob_domain.proofs.Steps.{only_memory, refused}
use Rattle.ob_domain.proofs.Told.{asked-other}
use Rattle.ob_domain.proofs.Texts.{is_any, logical_of-is, sign_of, takes_domain-is}
use Rattle.ob_domain.specs.Aims.{aim_of, link_at}
use Rattle.ob_domain.specs.Criteria.{criterion_from}
use Rattle.ob_domain.specs.Operators.{operator_of}
use Rattle.ob_domain.specs.Reading.{Counted, any_from, are_whole, asked_by, count_of, criterion_at, domain_from, item_from, items_from, tree_from}
use Rattle.ob_domain.specs.Stands.{Fits, Spells, Stands, a_constant, a_criterion, a_list, a_not, a_test, an_and, an_any, an_or, nothing, constant_json, inner_terms, takes_domain, terms_in, terms_in_list, three}
use Rattle.ob_domain.specs.Trees.{Item, Tree, all_of, any, behind, both, constant, either, leaf, operator, signed, spelled}
use Rattle.ob_domain.specs.declared.aim.Aim.{Aim}
use Rattle.ob_domain.specs.declared.fault.DomainFault.{DomainFault}
use Rattle.ob_domain.specs.declared.fault.DomainFault.TheVariants as fault
use Rattle.ob_domain.specs.declared.operator.Logical.{Logical}
use Rattle.ob_domain.specs.declared.operator.Logical.TheVariants as logical
use Rattle.ob_domain.specs.declared.operator.Operator.{Operator}
use Rattle.ob_domain.specs.declared.operator.Operator.TheVariants as how
use Rattle.ob_domain.specs.declared.operator.Sense.{Sense}
use Rattle.ob_schema.specs.declared.info.ModelInfo.{ModelInfo}
use Rattle.ob_expr.specs.declared.typed.Link.{Link}
use Rattle.serde_json.specs.Data.{Data, string, Items, item}

-- ---- counts

two_of : (n : ℕ) → (if nat_le 2 (suc (suc n)) then Some (suc (suc (suc n)) - 2) else None) ≡ Some (suc n)
two_of n =
    let fits : nat_le 2 (suc (suc n)) ≡ true = le-leb 2 (suc (suc n)) (omega arith) in
    let left : suc (suc (suc n)) - 2 ≡ suc n = omega arith in
    rw (fits, left) refl

one_of : (n : ℕ) → (if nat_le 1 (suc n) then Some (suc (suc n) - 1) else None) ≡ Some (suc n)
one_of n =
    let fits : nat_le 1 (suc n) ≡ true = le-leb 1 (suc n) (omega arith) in
    let left : suc (suc n) - 1 ≡ suc n = omega arith in
    rw (fits, left) refl

counts_two : (op : Logical) (items : List Item) (n : ℕ) → op ≢ logical.Not → count_of items ≡ Some (suc (suc n)) → count_of (operator op ∷ items) ≡ Some (suc n)
counts_two logical.And items n other is = rw is (two_of n)
counts_two logical.Or items n other is = rw is (two_of n)
counts_two logical.Not items n other is = absurd (other refl)

counts_one : (items : List Item) (n : ℕ) → count_of items ≡ Some (suc n) → count_of (operator logical.Not ∷ items) ≡ Some (suc n)
counts_one items n is = rw is (one_of n)

counts_leaf : (tree : Tree) (items : List Item) (n : ℕ) → count_of items ≡ Some n → count_of (leaf tree ∷ items) ≡ Some (suc n)
counts_leaf tree items n is = rw is refl

-- one term more, at its count
one_more : (left : ℕ) → left + suc 0 ≡ suc left
one_more left = omega arith

module _ (models : List ModelInfo) where
  -- ---- items

  operator_taken : (model : ModelNo) (numbers : List ℕ) (n left : ℕ) (op : Logical) → item_from models model numbers n (suc left) (string (sign_of op)) ≡ Ok (operator op, left)
  operator_taken model numbers n left op = rw (logical_of-is op) refl

  operator_at : (model : ModelNo) (numbers : List ℕ) (n left : ℕ) (op : Logical) → item_from models model numbers n (left + suc 0) (string (sign_of op)) ≡ Ok (operator op, left)
  operator_at model numbers n left op = rw one_more (operator_taken model numbers n left op)

  constant_taken : (model : ModelNo) (numbers : List ℕ) (n left : ℕ) (b : Bool) → item_from models model numbers n (suc left) (constant_json b) ≡ Ok (leaf (constant b), left)
  constant_taken model numbers n left true = refl
  constant_taken model numbers n left false = refl

  constant_at : (model : ModelNo) (numbers : List ℕ) (n left : ℕ) (b : Bool) → item_from models model numbers n (left + suc (inner_terms (constant_json b))) (constant_json b) ≡ Ok (leaf (constant b), left)
  constant_at model numbers n left true = rw one_more (constant_taken model numbers n left true)
  constant_at model numbers n left false = rw one_more (constant_taken model numbers n left false)

  -- ---- criteria

  -- a criterion is read as the tree behind its links
  abbrev IsCriterionTaken : ModelNo → List ℕ → List ℕ → Data → Tree → (ModelNo → List ℕ → ℕ → Counted Tree) → Type 0
  IsCriterionTaken model name op operand tree inner =
      (numbers : List ℕ) (left : ℕ) → criterion_at models model numbers (left + (if takes_domain (string op) then terms_in operand else 0)) name op operand inner ≡ Ok (leaf tree, left)

  asked_test : (numbers : List ℕ) (left : ℕ) (aim : Aim) (sense : Sense) (known_as : Operator) (operand : Data) (inner : ModelNo → List ℕ → ℕ → Counted Tree) (tree : Tree) → known_as ≢ how.Any
      → criterion_from models aim.field sense known_as operand ≡ Ok tree → asked_by models numbers left aim sense known_as operand inner ≡ Ok (tree, left)
  asked_test numbers left aim sense known_as operand inner tree other is = asked-other models numbers left aim sense known_as operand inner other ∙ (rw is refl)

  no_domain : (known_as : Operator) → known_as ≢ how.Any → is_any known_as ≡ false
  no_domain how.Any other = absurd (other refl)
  no_domain known_as other = refl

  at_aim : (model : ModelNo) (numbers : List ℕ) (left rest : ℕ) (name op : List ℕ) (operand : Data) (inner : ModelNo → List ℕ → ℕ → Counted Tree) (aim : Aim) (sense : Sense) (known_as : Operator) (tree : Tree)
      → aim_of models model name ≡ Ok aim → operator_of op ≡ Some (sense, known_as) → asked_by models numbers left aim sense known_as operand inner ≡ Ok (tree, rest)
      → criterion_at models model numbers left name op operand inner ≡ Ok (leaf (behind aim.links tree), rest)
  at_aim model numbers left rest name op operand inner aim sense known_as tree aims known asks = rw (aims, known, asks) refl

  test_taken : (model : ModelNo) (name op : List ℕ) (operand : Data) (aim : Aim) (sense : Sense) (known_as : Operator) (tree : Tree) (inner : ModelNo → List ℕ → ℕ → Counted Tree)
      → aim_of models model name ≡ Ok aim → operator_of op ≡ Some (sense, known_as) → known_as ≢ how.Any → criterion_from models aim.field sense known_as operand ≡ Ok tree
      → IsCriterionTaken model name op operand (behind aim.links tree) inner
  test_taken model name op operand aim sense known_as tree inner aims known other is numbers left =
      let no = takes_domain-is op sense known_as known ∙ no_domain known_as other in
      let e : left + (if takes_domain (string op) then terms_in operand else 0) ≡ left = rw no (omega arith) in
      rw e (at_aim model numbers left left name op operand inner aim sense known_as tree aims known (asked_test numbers left aim sense known_as operand inner tree other is))

  -- an inner domain is read, with what may be left behind it
  abbrev Takes : Data → ModelNo → Tree → (ModelNo → List ℕ → ℕ → Counted Tree) → Type 0
  Takes d model tree inner = (numbers : List ℕ) (left : ℕ) → inner model numbers (left + terms_in d) ≡ Ok (tree, left)

  any_taken : (model : ModelNo) (name op : List ℕ) (operand : Data) (aim : Aim) (sense : Sense) (link : Link) (tree : Tree) (inner : ModelNo → List ℕ → ℕ → Counted Tree)
      → aim_of models model name ≡ Ok aim → operator_of op ≡ Some (sense, how.Any) → link_at models aim.field ≡ Ok link → Takes operand link.target tree inner
      → IsCriterionTaken model name op operand (behind aim.links (signed sense (any (link ∷ []) tree))) inner
  any_taken model name op operand aim sense link tree inner aims known leads takes numbers left =
      let test = takes_domain-is op sense how.Any known in
      let e : left + (if takes_domain (string op) then terms_in operand else 0) ≡ left + terms_in operand = rw test refl in
      let asks : any_from models numbers (left + terms_in operand) aim sense inner ≡ Ok (signed sense (any (link ∷ []) tree), left) = rw (leads, takes (numbers ++ 2 ∷ []) left) refl in
      rw e (at_aim model numbers (left + terms_in operand) left name op operand inner aim sense how.Any (signed sense (any (link ∷ []) tree)) aims known asks)

  three_taken : (model : ModelNo) (numbers : List ℕ) (n left : ℕ) (name op : List ℕ) (operand : Data) (tree : Tree)
      → IsCriterionTaken model name op operand tree (λ target inner left. tree_from models target inner left operand)
      → item_from models model numbers n (left + suc (inner_terms (three (string name) (string op) operand))) (three (string name) (string op) operand) ≡ Ok (leaf tree, left)
  three_taken model numbers n left name op operand tree taken =
      let inside = (if takes_domain (string op) then terms_in operand else 0) in
      let e : left + suc inside ≡ suc (left + inside) = omega arith in
      rw e (taken (numbers ++ n ∷ []) left)

  -- ---- lists

  -- terms are read as items that spell the trees, each with the terms that it takes
  abbrev AreTaken : ModelNo → Items → List Tree → Type 0
  AreTaken model ds trees = (numbers : List ℕ) (n left : ℕ)
      → (items : List Item) × (items_from models model numbers n (left + terms_in_list ds) ds ≡ Ok (items, left)) × (spelled items ≡ trees) × (count_of items ≡ Some (length trees))

  read_on : (model : ModelNo) (numbers : List ℕ) (n left : ℕ) (d : Data) (ds : Items) (first : Item) (items : List Item)
      → item_from models model numbers n ((left + terms_in_list ds) + suc (inner_terms d)) d ≡ Ok (first, left + terms_in_list ds)
      → items_from models model numbers (suc n) (left + terms_in_list ds) ds ≡ Ok (items, left)
      → items_from models model numbers n (left + terms_in_list (item d ds)) (item d ds) ≡ Ok (first ∷ items, left)
  read_on model numbers n left d ds first items one more =
      let e : left + (suc (inner_terms d) + terms_in_list ds) ≡ (left + terms_in_list ds) + suc (inner_terms d) = omega arith in
      rw e (rw (one, more) refl)

  two_taken : (model : ModelNo) (ds : Items) (op : Logical) (a b whole : Tree) (trees : List Tree) → op ≢ logical.Not
      → ((items : List Item) → spelled items ≡ a ∷ b ∷ trees → spelled (operator op ∷ items) ≡ whole ∷ trees)
      → AreTaken model ds (a ∷ b ∷ trees) → AreTaken model (item (string (sign_of op)) ds) (whole ∷ trees)
  two_taken model ds op a b whole trees other joins taken numbers n left =
      let r = taken numbers (suc n) left in
      let one = operator_at model numbers n (left + terms_in_list ds) op in
      (operator op ∷ r.0, read_on model numbers n left (string (sign_of op)) ds (operator op) r.0 one r.1, joins r.0 r.2, counts_two op r.0 (length trees) other r.3)

  mutual
    pub tree_taken : (model : ModelNo) (d : Data) (tree : Tree) → Stands models model d tree → (numbers : List ℕ) (left : ℕ) → tree_from models model numbers (left + terms_in d) d ≡ Ok (tree, left)
    tree_taken _ _ _ (a_list model ds trees s) numbers left =
        let r = items_taken model ds trees s numbers 0 left in
        let whole : are_whole r.0 ≡ true = ap is_some r.3 in
        rw (r.1, whole) (ap (λ (xs : List Tree). Ok (all_of xs, left)) r.2)

    items_taken : (model : ModelNo) (ds : Items) (trees : List Tree) → Spells models model ds trees → AreTaken model ds trees
    items_taken _ _ _ (nothing model) numbers n left = ([], (let e : left + 0 ≡ left = omega arith in rw e refl), refl, refl)
    items_taken _ _ _ (an_and model ds a b trees s) numbers n left =
        two_taken model ds logical.And a b (both a b) trees (λ e. cc) (λ items is. rw is refl) (λ numbers n left. items_taken model ds (a ∷ b ∷ trees) s numbers n left) numbers n left
    items_taken _ _ _ (an_or model ds a b trees s) numbers n left =
        two_taken model ds logical.Or a b (either a b) trees (λ e. cc) (λ items is. rw is refl) (λ numbers n left. items_taken model ds (a ∷ b ∷ trees) s numbers n left) numbers n left
    items_taken _ _ _ (a_not model ds a trees s) numbers n left =
        let r = items_taken model ds (a ∷ trees) s numbers (suc n) left in
        let one = operator_at model numbers n (left + terms_in_list ds) logical.Not in
        (operator logical.Not ∷ r.0, read_on model numbers n left (string (codes "!")) ds (operator logical.Not) r.0 one r.1, rw r.2 refl, counts_one r.0 (length trees) r.3)
    items_taken _ _ _ (a_constant model ds b trees s) numbers n left =
        let r = items_taken model ds trees s numbers (suc n) left in
        let one = constant_at model numbers n (left + terms_in_list ds) b in
        (leaf (constant b) ∷ r.0, read_on model numbers n left (constant_json b) ds (leaf (constant b)) r.0 one r.1, ap (◌∷◌ (constant b)) r.2, counts_leaf (constant b) r.0 (length trees) r.3)
    items_taken _ _ _ (a_criterion model ds name op operand tree trees fits s) numbers n left =
        let r = items_taken model ds trees s numbers (suc n) left in
        let one = three_taken model numbers n (left + terms_in_list ds) name op operand tree (criterion_taken model name op operand tree fits) in
        (leaf tree ∷ r.0, read_on model numbers n left (three (string name) (string op) operand) ds (leaf tree) r.0 one r.1, ap (◌∷◌ tree) r.2, counts_leaf tree r.0 (length trees) r.3)

    criterion_taken : (model : ModelNo) (name op : List ℕ) (operand : Data) (tree : Tree) → Fits models model name op operand tree
        → IsCriterionTaken model name op operand tree (λ target inner left. tree_from models target inner left operand)
    criterion_taken _ _ _ _ _ (a_test model name op operand aim sense known_as tree aims known other is) numbers left =
        test_taken model name op operand aim sense known_as tree (λ target inner left. tree_from models target inner left operand) aims known other is numbers left
    criterion_taken _ _ _ _ _ (an_any model name op operand aim sense link tree aims known leads stands) numbers left =
        any_taken model name op operand aim sense link tree (λ target inner left. tree_from models target inner left operand) aims known leads
        (λ numbers left. tree_taken link.target operand tree stands numbers left) numbers left

  -- a domain that is short enough
  pub domain_taken : (model : ModelNo) (d : Data) (tree : Tree) → Stands models model d tree → terms_in d ≤ max_domain_terms → domain_from models model d ≡ Ok tree
  domain_taken model d tree stands few =
      let left = max_domain_terms - terms_in d in
      let e : left + terms_in d ≡ max_domain_terms = omega arith in
      let read : tree_from models model [] max_domain_terms d ≡ Ok (tree, left) = subst (λ (n : ℕ). tree_from models model [] n d ≡ Ok (tree, left)) e (tree_taken model d tree stands [] left) in
      rw read refl

  -- what stands for a tree and is short enough is refused for want of memory alone
  pub only_wanting : (model : ModelNo) (d : Data) (tree : Tree) (why : DomainFault) → (why ≢ fault.NoMemory → tree_from models model [] max_domain_terms d ≡ Err why)
      → Stands models model d tree → terms_in d ≤ max_domain_terms → why ≡ fault.NoMemory
  only_wanting model d tree why told stands few = only_memory why (λ known.
      let is = told known in
      let read : domain_from models model d ≡ Err why = rw is refl in
      refused why tree (sym read ∙ domain_taken model d tree stands few))
