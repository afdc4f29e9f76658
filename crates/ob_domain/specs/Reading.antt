-- The reading of a list from the left: its tree, or its first fault. Which list stands for which tree is said in Stands.
use Rattle.std.specs.Prelude.{ℕ, zero, suc, ◌-◌, ◌==◌, ◌&&◌, nat_le, List, [], ◌∷◌, ◌++◌, codes, Bool, true, false, Option, Some, None, option_map, option_and_then, is_some, Result, Ok, Err, if◌then◌else◌}
use Rattle.std.specs.Option.{option_map_or}
use Rattle.std.specs.Str.{bytes_eq}
use Rattle.ob_base.specs.Chain.{◌>>=◌}
use Rattle.ob_base.specs.Limits.{max_domain_terms}
use Rattle.ob_base.specs.declared.id.ModelNo.{ModelNo}
use Rattle.ob_domain.specs.Aims.{aim_of, link_at}
use Rattle.ob_domain.specs.Criteria.{criterion_from}
use Rattle.ob_domain.specs.Operators.{logical_of, operator_of}
use Rattle.ob_domain.specs.Places.{fault_at, place_of, told_at}
use Rattle.ob_domain.specs.Trees.{Item, Tree, all_of, any, behind, constant, leaf, operator, signed, spelled}
use Rattle.ob_domain.specs.declared.aim.Aim.{Aim}
use Rattle.ob_domain.specs.declared.fault.DomainFault.{DomainFault}
use Rattle.ob_domain.specs.declared.fault.DomainFault.TheVariants as fault
use Rattle.ob_domain.specs.declared.fault.Unfit.TheVariants as unfit
use Rattle.ob_domain.specs.declared.operator.Logical.{Logical}
use Rattle.ob_domain.specs.declared.operator.Logical.TheVariants as logical
use Rattle.ob_domain.specs.declared.operator.Operator.{Operator}
use Rattle.ob_domain.specs.declared.operator.Operator.TheVariants as how
use Rattle.ob_domain.specs.declared.operator.Sense.{Sense}
use Rattle.ob_schema.specs.declared.info.ModelInfo.{ModelInfo}
use Rattle.serde_json.specs.Data.{Data, number, string, array, Items, no_items, item, Num, unsigned}

-- how many terms an operator takes
abbrev pub taken_by : Logical → ℕ
taken_by logical.Not = 1
taken_by _ = 2

-- how many trees items spell, where each operator has the terms that it takes
abbrev pub count_of : List Item → Option ℕ
count_of [] = Some 0
count_of (operator op ∷ items) = option_and_then (λ n. if nat_le (taken_by op) n then Some (suc n - taken_by op) else None) (count_of items)
count_of (leaf tree ∷ items) = option_map suc (count_of items)

-- how many terms an item takes
abbrev pub taken_in : Item → ℕ
taken_in (operator op) = taken_by op
taken_in (leaf tree) = 0

-- each operator has the terms that it takes
abbrev pub are_whole : List Item → Bool
are_whole items = is_some (count_of items)

-- what is read, and how many terms there may still be
abbrev pub Counted : Type 0 → Type 0
Counted A = Result (A × ℕ) DomainFault

-- a list of another form, at the item of these numbers
abbrev pub misshapen : {A : Type 0} → List ℕ → Result A DomainFault
misshapen numbers = Err (fault.Shape (place_of numbers))

-- one term more, where one may be; a term too many is told of the whole domain
abbrev pub counted_left : ℕ → Result ℕ DomainFault
counted_left zero = misshapen []
counted_left (suc left) = Ok left

-- a term that counts
abbrev pub counted : ℕ → Item → Counted Item
counted left term = counted_left left >>= λ rest. Ok (term, rest)

-- an operator before its terms
abbrev pub logical_from : List ℕ → ℕ → List ℕ → Counted Item
logical_from numbers left text = option_map_or (λ op. counted left (operator op)) (logical_of text) (misshapen numbers)

abbrev pub is_number : ℕ → Num → Bool
is_number n (unsigned m) = m == n
is_number n _ = false

-- [1,"=",1] or [0,"=",1]
abbrev pub constant_from : List ℕ → ℕ → Num → List ℕ → Num → Counted Item
constant_from numbers left a op b =
    if bytes_eq op (codes "=") && is_number 1 b
    then (if is_number 1 a then counted left (leaf (constant true))
    else (if is_number 0 a then counted left (leaf (constant false))
    else misshapen numbers))
    else misshapen numbers

-- what is behind the links of an aim, as an item
abbrev pub aimed : Aim → Counted Tree → Counted Item
aimed aim read = read >>= λ tree. Ok (leaf (behind aim.links tree.0), tree.1)

-- three items that begin with a number
abbrev pub constant_of : List ℕ → ℕ → Num → Data → Data → Counted Item
constant_of numbers left a (string op) (number b) = constant_from numbers left a op b
constant_of numbers left a _ _ = misshapen numbers

module _ (models : List ModelInfo) where
  -- `any` asks the rows of a relation for what an inner domain asks
  abbrev pub any_from : List ℕ → ℕ → Aim → Sense → (ModelNo → List ℕ → ℕ → Counted Tree) → Counted Tree
  any_from numbers left aim sense inner = do
    link ← told_at numbers (link_at models aim.field)
    tree ← inner link.target (numbers ++ 2 ∷ []) left
    Ok (signed sense (any (link ∷ []) tree.0), tree.1)

  -- what an operator asks of the field at which a criterion aims
  abbrev pub asked_by : List ℕ → ℕ → Aim → Sense → Operator → Data → (ModelNo → List ℕ → ℕ → Counted Tree) → Counted Tree
  asked_by numbers left aim sense how.Any operand inner = any_from numbers left aim sense inner
  asked_by numbers left aim sense op operand inner = told_at numbers (criterion_from models aim.field sense op operand) >>= λ tree. Ok (tree, left)

  -- a criterion at the item of these numbers: its field is judged, then its operator, then its operand
  abbrev pub criterion_at : ModelNo → List ℕ → ℕ → List ℕ → List ℕ → Data → (ModelNo → List ℕ → ℕ → Counted Tree) → Counted Item
  criterion_at model numbers left name op operand inner = do
    aim ← told_at numbers (aim_of models model name)
    option_map_or (λ known. aimed aim (asked_by numbers left aim known.0 known.1 operand inner)) (operator_of op) (Err (fault_at unfit.Operator numbers))

  -- three items: a criterion counts before it is judged
  abbrev pub three_from : ModelNo → List ℕ → ℕ → ℕ → Data → Data → Data → (ModelNo → List ℕ → ℕ → Counted Tree) → Counted Item
  three_from model numbers n left (string name) (string op) operand inner = counted_left left >>= λ rest. criterion_at model (numbers ++ n ∷ []) rest name op operand inner
  three_from model numbers n left (number a) b c inner = constant_of numbers left a b c
  three_from model numbers n left _ _ _ inner = misshapen numbers

  -- a domain at the item of these numbers, with so many terms that may still be
  abbrev mutual
    pub tree_from : ModelNo → List ℕ → ℕ → Data → Counted Tree
    tree_from model numbers left (array ds) =
        items_from model numbers 0 left ds >>= λ read. if are_whole read.0 then Ok (all_of (spelled read.0), read.1) else misshapen numbers
    tree_from model numbers left _ = misshapen numbers

    pub items_from : ModelNo → List ℕ → ℕ → ℕ → Items → Counted (List Item)
    items_from model numbers n left no_items = Ok ([], left)
    items_from model numbers n left (item d ds) =
        item_from model numbers n left d >>= λ first. items_from model numbers (suc n) first.1 ds >>= λ rest. Ok (first.0 ∷ rest.0, rest.1)

    pub item_from : ModelNo → List ℕ → ℕ → ℕ → Data → Counted Item
    item_from model numbers n left (string text) = logical_from numbers left text
    item_from model numbers n left (array ds) = listed_from model numbers n left ds
    item_from model numbers n left _ = misshapen numbers

    pub listed_from : ModelNo → List ℕ → ℕ → ℕ → Items → Counted Item
    listed_from model numbers n left (item a (item b (item c no_items))) =
        three_from model numbers n left a b c (λ target inner left. tree_from target inner left c)
    listed_from model numbers n left _ = misshapen numbers

  -- the tree of a domain, or its first fault
  abbrev pub domain_from : ModelNo → Data → Result Tree DomainFault
  domain_from model d = tree_from model [] max_domain_terms d >>= λ read. Ok read.0
