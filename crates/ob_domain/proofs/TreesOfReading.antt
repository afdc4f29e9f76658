-- What is read of a list is a tree for which the list stands, and as many terms are counted as it has.
use Rattle.std.proofs.Common.{◌≡◌, ◌≢◌, ℕ, zero, suc, ◌+◌, ◌≤◌, ◌&&◌, List, [], ◌∷◌, ◌++◌, length, codes, Bool, true, false, if◌then◌else◌, Some, Ok, Err, refl, sym, ap, ◌∙◌, subst, arith, eqb-true}
use Rattle.std.specs.Str.{bytes_eq}
use Rattle.std.specs.Option.{option_map_or}
use Rattle.ob_base.specs.Chain.{◌>>=◌}
use Rattle.ob_base.specs.Limits.{max_domain_terms}
use Rattle.ob_base.specs.declared.id.ModelNo.{ModelNo}
use Rattle.ob_domain.proofs.Counts.{count-item, count-length, is_some-some, spelled-item, spelled_before}
use Rattle.ob_domain.proofs.Steps.{and_true, if_ok, refused, same_ok, some_ok, then_ok, told_ok, when_ok}
use Rattle.ob_domain.proofs.Told.{beside}
use Rattle.ob_domain.proofs.Texts.{bytes_eq-is, is_any, logical_of-sign, sign_of, takes_domain-is}
use Rattle.ob_domain.specs.Aims.{aim_of, link_at}
use Rattle.ob_domain.specs.Criteria.{criterion_from}
use Rattle.ob_domain.specs.Operators.{logical_of, operator_of}
use Rattle.ob_domain.specs.Places.{fault_at, place_of, told_at}
use Rattle.ob_domain.specs.Reading.{Counted, aimed, any_from, are_whole, asked_by, constant_from, count_of, counted, counted_left, criterion_at, is_number}
use Rattle.ob_domain.specs.Reading.{item_from, items_from, listed_from, logical_from, domain_from, misshapen, taken_by, taken_in, three_from, tree_from}
use Rattle.ob_domain.specs.Stands.{Fits, Spells, Stands, a_constant, a_criterion, a_list, a_not, a_test, an_and, an_any, an_or, nothing, constant_json, inner_terms, takes_domain, terms_in, terms_in_list, three}
use Rattle.ob_domain.specs.Trees.{Item, Tree, all_of, any, behind, constant, joined, leaf, operator, signed, spelled}
use Rattle.ob_domain.specs.declared.aim.Aim.{Aim}
use Rattle.ob_domain.specs.declared.fault.DomainFault.TheVariants as fault
use Rattle.ob_domain.specs.declared.fault.Unfit.TheVariants as unfit
use Rattle.ob_domain.specs.declared.operator.Logical.{Logical}
use Rattle.ob_domain.specs.declared.operator.Logical.TheVariants as logical
use Rattle.ob_domain.specs.declared.operator.Operator.{Operator}
use Rattle.ob_domain.specs.declared.operator.Operator.TheVariants as how
use Rattle.ob_domain.specs.declared.operator.Sense.{Sense}
use Rattle.ob_schema.specs.declared.info.ModelInfo.{ModelInfo}
use Rattle.serde_json.specs.Data.{Data, number, string, array, Items, no_items, item, Num, unsigned}

-- ---- counting

counted_left-ok : (left rest : ℕ) → counted_left left ≡ Ok rest → left ≡ suc rest
counted_left-ok zero rest is = absurd (refused (fault.Shape (place_of [])) rest is)
counted_left-ok (suc left) rest is = ap suc (same_ok left rest is)

counted-ok : (left rest : ℕ) (term first : Item) → counted left term ≡ Ok (first, rest) → (left ≡ suc rest) × (term ≡ first)
counted-ok left rest term first is =
    let t = then_ok (counted_left left) (λ rest. Ok (term, rest)) (first, rest) is in
    let same = same_ok (term, t.0) (first, rest) t.2 in
    let e : t.0 ≡ rest = ap (λ (p : Item × ℕ). p.1) same in
    (counted_left-ok left t.0 t.1 ∙ ap suc e, ap (λ (p : Item × ℕ). p.0) same)

number-is : (n : ℕ) (given : Num) → is_number n given ≡ true → given ≡ unsigned n
number-is n (unsigned m) is = ap unsigned (eqb-true m n is)
number-is n _ is = absurd (cc)

module _ (models : List ModelInfo) where
  -- ---- operators before terms

  spells_operator : (model : ModelNo) (op : Logical) (ds : Items) (trees : List Tree) → taken_by op ≤ length trees → Spells models model ds trees
      → Spells models model (item (string (sign_of op)) ds) (joined op trees)
  spells_operator model logical.And ds (a ∷ b ∷ trees) enough s = an_and model ds a b trees s
  spells_operator model logical.Or ds (a ∷ b ∷ trees) enough s = an_or model ds a b trees s
  spells_operator model logical.Not ds (a ∷ trees) enough s = a_not model ds a trees s
  spells_operator model _ ds _ enough s = absurd (omega arith)

  -- what an item that is read spells before others, and how many terms were counted
  abbrev IsItemRead : ModelNo → Data → Item → ℕ → ℕ → Type 0
  IsItemRead model d first left rest =
      (left ≡ rest + suc (inner_terms d))
      × ((ds : Items) (trees : List Tree) → taken_in first ≤ length trees → Spells models model ds trees → Spells models model (item d ds) (spelled_before first trees))

  logical_read : (model : ModelNo) (numbers : List ℕ) (left rest : ℕ) (text : List ℕ) (first : Item) → logical_from numbers left text ≡ Ok (first, rest) → IsItemRead model (string text) first left rest
  logical_read model numbers left rest text first is =
      let t = some_ok (logical_of text) (λ op. counted left (operator op)) (first, rest) (fault.Shape (place_of numbers)) is in
      let c = counted-ok left rest (operator t.0) first t.2 in
      let P : List ℕ → Item → Type 0 = λ s i. IsItemRead model (string s) i left rest in
      let own : P (sign_of t.0) (operator t.0) = (omega (arith, c.0), λ ds trees enough s. spells_operator model t.0 ds trees enough s) in
      subst (λ (i : Item). P text i) c.1 (subst (λ (s : List ℕ). P s (operator t.0)) (sym (logical_of-sign text t.0 t.1)) own)

  -- ---- constants

  constant_is : (model : ModelNo) (left rest : ℕ) (b : Bool) → left ≡ suc rest → IsItemRead model (constant_json b) (leaf (constant b)) left rest
  constant_is model left rest true one = (omega arith, λ ds trees enough s. a_constant model ds true trees s)
  constant_is model left rest false one = (omega arith, λ ds trees enough s. a_constant model ds false trees s)

  numbers_read : (model : ModelNo) (left rest : ℕ) (is_one is_zero : Bool) (numbers : List ℕ) (a : Num) (first : Item) → is_number 1 a ≡ is_one → is_number 0 a ≡ is_zero
      → (if is_one then counted left (leaf (constant true)) else (if is_zero then counted left (leaf (constant false)) else misshapen numbers)) ≡ Ok (first, rest)
      → IsItemRead model (three (number a) (string (codes "=")) (number (unsigned 1))) first left rest
  numbers_read model left rest true is_zero numbers a first one none is =
      let c = counted-ok left rest (leaf (constant true)) first is in
      let P : Num → Item → Type 0 = λ m i. IsItemRead model (three (number m) (string (codes "=")) (number (unsigned 1))) i left rest in
      subst (λ (i : Item). P a i) c.1 (subst (λ (m : Num). P m (leaf (constant true))) (sym (number-is 1 a one)) (constant_is model left rest true c.0))
  numbers_read model left rest false true numbers a first one none is =
      let c = counted-ok left rest (leaf (constant false)) first is in
      let P : Num → Item → Type 0 = λ m i. IsItemRead model (three (number m) (string (codes "=")) (number (unsigned 1))) i left rest in
      subst (λ (i : Item). P a i) c.1 (subst (λ (m : Num). P m (leaf (constant false))) (sym (number-is 0 a none)) (constant_is model left rest false c.0))
  numbers_read model left rest false false numbers a first one none is = absurd (refused (fault.Shape (place_of numbers)) (first, rest) is)

  constant_read : (model : ModelNo) (numbers : List ℕ) (left rest : ℕ) (a : Num) (op : List ℕ) (b : Num) (first : Item) → constant_from numbers left a op b ≡ Ok (first, rest)
      → IsItemRead model (three (number a) (string op) (number b)) first left rest
  constant_read model numbers left rest a op b first is =
      let t = if_ok (bytes_eq op (codes "=") && is_number 1 b)
      (if is_number 1 a then counted left (leaf (constant true)) else (if is_number 0 a then counted left (leaf (constant false)) else misshapen numbers)) (first, rest) (fault.Shape (place_of numbers)) is in
      let both = and_true (bytes_eq op (codes "=")) (is_number 1 b) t.0 in
      let own = numbers_read model left rest (is_number 1 a) (is_number 0 a) numbers a first refl refl t.1 in
      let P : List ℕ → Num → Type 0 = λ s m. IsItemRead model (three (number a) (string s) (number m)) first left rest in
      subst (λ (s : List ℕ). P s b) (sym (bytes_eq-is op (codes "=") both.0)) (subst (λ (m : Num). P (codes "=") m) (sym (number-is 1 b both.1)) own)

  -- ---- criteria

  -- an inner domain is read rightly
  abbrev Reads : Data → (ModelNo → List ℕ → ℕ → Counted Tree) → Type 0
  Reads d inner = (model : ModelNo) (numbers : List ℕ) (left rest : ℕ) (tree : Tree) → inner model numbers left ≡ Ok (tree, rest) → Stands models model d tree × (left ≡ rest + terms_in d)

  -- a criterion that is read, and how many terms were counted in its operand
  abbrev IsCriterionRead : ModelNo → List ℕ → List ℕ → Data → Tree → ℕ → ℕ → Type 0
  IsCriterionRead model name op operand tree left rest = Fits models model name op operand tree × (left ≡ rest + (if takes_domain (string op) then terms_in operand else 0))

  any_read : (model : ModelNo) (numbers : List ℕ) (left rest : ℕ) (name op : List ℕ) (operand : Data) (aim : Aim) (sense : Sense) (inner : ModelNo → List ℕ → ℕ → Counted Tree) (tree : Tree)
      → Reads operand inner → aim_of models model name ≡ Ok aim → operator_of op ≡ Some (sense, how.Any) → any_from models numbers left aim sense inner ≡ Ok (tree, rest)
      → IsCriterionRead model name op operand (behind aim.links tree) left rest
  any_read model numbers left rest name op operand aim sense inner tree reads aims known is =
      let t = then_ok (told_at numbers (link_at models aim.field)) (λ link. inner link.target (numbers ++ 2 ∷ []) left >>= λ tree. Ok (signed sense (any (link ∷ []) tree.0), tree.1)) (tree, rest) is in
      let u = then_ok (inner t.0.target (numbers ++ 2 ∷ []) left) (λ tree. Ok (signed sense (any (t.0 ∷ []) tree.0), tree.1)) (tree, rest) t.2 in
      let same = same_ok (signed sense (any (t.0 ∷ []) u.0.0), u.0.1) (tree, rest) u.2 in
      let e : u.0.1 ≡ rest = ap (λ (p : Tree × ℕ). p.1) same in
      let r = reads t.0.target (numbers ++ 2 ∷ []) left u.0.1 u.0.0 u.1 in
      let test = takes_domain-is op sense how.Any known in (
        subst (λ (x : Tree). Fits models model name op operand (behind aim.links x)) (ap (λ (p : Tree × ℕ). p.0) same)
            (an_any model name op operand aim sense t.0 u.0.0 aims known (told_ok numbers (link_at models aim.field) t.0 t.1) r.0),
        rw test (omega (arith, r.1, e)),
      )

  test_read : (model : ModelNo) (numbers : List ℕ) (left rest : ℕ) (name op : List ℕ) (operand : Data) (aim : Aim) (sense : Sense) (known_as : Operator) (tree : Tree)
      → is_any known_as ≡ false → known_as ≢ how.Any → aim_of models model name ≡ Ok aim → operator_of op ≡ Some (sense, known_as)
      → (told_at numbers (criterion_from models aim.field sense known_as operand) >>= beside left) ≡ Ok (tree, rest)
      → IsCriterionRead model name op operand (behind aim.links tree) left rest
  test_read model numbers left rest name op operand aim sense known_as tree test other aims known is =
      let t = then_ok (told_at numbers (criterion_from models aim.field sense known_as operand)) (beside left) (tree, rest) is in
      let same = same_ok (t.0, left) (tree, rest) t.2 in
      let e : left ≡ rest = ap (λ (p : Tree × ℕ). p.1) same in
      let no = takes_domain-is op sense known_as known ∙ test in (
        subst (λ (x : Tree). Fits models model name op operand (behind aim.links x)) (ap (λ (p : Tree × ℕ). p.0) same)
            (a_test model name op operand aim sense known_as t.0 aims known other (told_ok numbers (criterion_from models aim.field sense known_as operand) t.0 t.1)),
        rw no (omega (arith, e)),
      )

  asked_read : (model : ModelNo) (numbers : List ℕ) (left rest : ℕ) (name op : List ℕ) (operand : Data) (aim : Aim) (sense : Sense) (known_as : Operator) (inner : ModelNo → List ℕ → ℕ → Counted Tree)
      (tree : Tree) → Reads operand inner → aim_of models model name ≡ Ok aim → operator_of op ≡ Some (sense, known_as) → asked_by models numbers left aim sense known_as operand inner ≡ Ok (tree, rest)
      → IsCriterionRead model name op operand (behind aim.links tree) left rest
  asked_read model numbers left rest name op operand aim sense how.Any inner tree reads aims known is = any_read model numbers left rest name op operand aim sense inner tree reads aims known is
  asked_read model numbers left rest name op operand aim sense known_as inner tree reads aims known is =
      test_read model numbers left rest name op operand aim sense known_as tree refl (λ e. cc) aims known is

  criterion_read : (model : ModelNo) (numbers : List ℕ) (left rest : ℕ) (name op : List ℕ) (operand : Data) (inner : ModelNo → List ℕ → ℕ → Counted Tree) (first : Item) → Reads operand inner
      → criterion_at models model numbers left name op operand inner ≡ Ok (first, rest) → (tree : Tree) × (leaf tree ≡ first) × IsCriterionRead model name op operand tree left rest
  criterion_read model numbers left rest name op operand inner first reads is =
      let t = then_ok (told_at numbers (aim_of models model name))
      (λ aim. option_map_or (λ known. aimed aim (asked_by models numbers left aim known.0 known.1 operand inner)) (operator_of op) (Err (fault_at unfit.Operator numbers))) (first, rest) is in
      let u = some_ok (operator_of op) (λ known. aimed t.0 (asked_by models numbers left t.0 known.0 known.1 operand inner)) (first, rest) (fault_at unfit.Operator numbers) t.2 in
      let v = then_ok (asked_by models numbers left t.0 u.0.0 u.0.1 operand inner) (λ tree. Ok (leaf (behind t.0.links tree.0), tree.1)) (first, rest) u.2 in
      let same = same_ok (leaf (behind t.0.links v.0.0), v.0.1) (first, rest) v.2 in
      let e : v.0.1 ≡ rest = ap (λ (p : Item × ℕ). p.1) same in
      let r = asked_read model numbers left v.0.1 name op operand t.0 u.0.0 u.0.1 inner v.0.0 reads (told_ok numbers (aim_of models model name) t.0 t.1) u.1 v.1 in
      (behind t.0.links v.0.0, ap (λ (p : Item × ℕ). p.0) same, (r.0, omega (arith, r.1, e)))

  three_read : (model : ModelNo) (numbers : List ℕ) (n left rest : ℕ) (a b c : Data) (inner : ModelNo → List ℕ → ℕ → Counted Tree) (first : Item) → Reads c inner
      → three_from models model numbers n left a b c inner ≡ Ok (first, rest) → IsItemRead model (three a b c) first left rest
  three_read model numbers n left rest (string name) (string op) operand inner first reads is =
      let t = then_ok (counted_left left) (λ rest. criterion_at models model (numbers ++ n ∷ []) rest name op operand inner) (first, rest) is in
      let r = criterion_read model (numbers ++ n ∷ []) t.0 rest name op operand inner first reads t.2 in
      let one = counted_left-ok left t.0 t.1 in
      subst (λ (i : Item). IsItemRead model (three (string name) (string op) operand) i left rest) r.1
      (omega (arith, one, r.2.1), λ ds trees enough s. a_criterion model ds name op operand r.0 trees r.2.0 s)
  three_read model numbers n left rest (number a) (string op) (number b) inner first reads is = constant_read model numbers left rest a op b first is
  three_read model numbers n left rest _ _ _ inner first reads is = absurd (refused (fault.Shape (place_of numbers)) (first, rest) is)

  -- ---- lists

  mutual
    pub tree_read : (d : Data) (model : ModelNo) (numbers : List ℕ) (left rest : ℕ) (tree : Tree) → tree_from models model numbers left d ≡ Ok (tree, rest)
        → Stands models model d tree × (left ≡ rest + terms_in d)
    tree_read (array ds) model numbers left rest tree is =
        let t = then_ok (items_from models model numbers 0 left ds) (λ read. if are_whole read.0 then Ok (all_of (spelled read.0), read.1) else misshapen numbers) (tree, rest) is in
        let u = when_ok (are_whole t.0.0) (all_of (spelled t.0.0), t.0.1) (tree, rest) (fault.Shape (place_of numbers)) t.2 in
        let e : t.0.1 ≡ rest = ap (λ (p : Tree × ℕ). p.1) u.1 in
        let k = is_some-some (count_of t.0.0) u.0 in
        let r = items_read ds model numbers 0 left t.0.1 t.0.0 k.0 t.1 k.1 in
        (subst (λ (x : Tree). Stands models model (array ds) x) (ap (λ (p : Tree × ℕ). p.0) u.1) (a_list model ds (spelled t.0.0) r.0), omega (arith, r.1, e))
    tree_read _ model numbers left rest tree is = absurd (refused (fault.Shape (place_of numbers)) (tree, rest) is)

    items_read : (ds : Items) (model : ModelNo) (numbers : List ℕ) (n left rest : ℕ) (items : List Item) (k : ℕ) → items_from models model numbers n left ds ≡ Ok (items, rest) → count_of items ≡ Some k
        → Spells models model ds (spelled items) × (left ≡ rest + terms_in_list ds)
    items_read no_items model numbers n left rest items k is count =
        let same = same_ok ([], left) (items, rest) is in
        let e : left ≡ rest = ap (λ (p : List Item × ℕ). p.1) same in
        (subst (λ (xs : List Item). Spells models model no_items (spelled xs)) (ap (λ (p : List Item × ℕ). p.0) same) (nothing model), omega (arith, e))
    items_read (item d ds) model numbers n left rest items k is count =
        let t = then_ok (item_from models model numbers n left d) (λ first. items_from models model numbers (suc n) first.1 ds >>= λ rest. Ok (first.0 ∷ rest.0, rest.1)) (items, rest) is in
        let u = then_ok (items_from models model numbers (suc n) t.0.1 ds) (λ rest. Ok (t.0.0 ∷ rest.0, rest.1)) (items, rest) t.2 in
        let same = same_ok (t.0.0 ∷ u.0.0, u.0.1) (items, rest) u.2 in
        let e : u.0.1 ≡ rest = ap (λ (p : List Item × ℕ). p.1) same in
        let m = count-item t.0.0 u.0.0 k (ap (λ (p : List Item × ℕ). count_of p.0) same ∙ count) in
        let more = items_read ds model numbers (suc n) t.0.1 u.0.1 u.0.0 m.0 u.1 m.1 in
        let one = item_read d model numbers n left t.0.1 t.0.0 t.1 in
        let spells = one.1 ds (spelled u.0.0) (omega (arith, count-length u.0.0 m.0 m.1, m.2)) more.0 in
        let whole = subst (λ (trees : List Tree). Spells models model (item d ds) trees) (sym (spelled-item t.0.0 u.0.0)) spells in
        (subst (λ (xs : List Item). Spells models model (item d ds) (spelled xs)) (ap (λ (p : List Item × ℕ). p.0) same) whole, omega (arith, one.0, more.1, e))

    item_read : (d : Data) (model : ModelNo) (numbers : List ℕ) (n left rest : ℕ) (first : Item) → item_from models model numbers n left d ≡ Ok (first, rest) → IsItemRead model d first left rest
    item_read (string text) model numbers n left rest first is = logical_read model numbers left rest text first is
    item_read (array ds) model numbers n left rest first is = listed_read ds model numbers n left rest first is
    item_read _ model numbers n left rest first is = absurd (refused (fault.Shape (place_of numbers)) (first, rest) is)

    listed_read : (ds : Items) (model : ModelNo) (numbers : List ℕ) (n left rest : ℕ) (first : Item) → listed_from models model numbers n left ds ≡ Ok (first, rest) → IsItemRead model (array ds) first left rest
    listed_read (item a (item b (item c no_items))) model numbers n left rest first is =
        three_read model numbers n left rest a b c (λ target inner left. tree_from models target inner left c) first (λ target inner left rest tree e. tree_read c target inner left rest tree e) is
    listed_read _ model numbers n left rest first is = absurd (refused (fault.Shape (place_of numbers)) (first, rest) is)

  -- a domain that is read
  pub domain_read : (model : ModelNo) (d : Data) (tree : Tree) → domain_from models model d ≡ Ok tree → Stands models model d tree × (terms_in d ≤ max_domain_terms)
  domain_read model d tree is =
      let t = then_ok (tree_from models model [] max_domain_terms d) (λ read. Ok read.0) tree is in
      let r = tree_read d model [] max_domain_terms t.0.1 t.0.0 t.1 in
      (subst (λ (x : Tree). Stands models model d x) (same_ok t.0.0 tree t.2) r.0, omega (arith, r.1))
