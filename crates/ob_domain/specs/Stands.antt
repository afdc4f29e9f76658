-- Which JSON stands for which tree. An operator before terms that is added has its rule here.
use Rattle.std.specs.Prelude.{◌≡◌, ◌≢◌, ◌+◌, ◌||◌, ℕ, suc, List, [], ◌∷◌, codes, Bool, true, false, Some, Ok, if◌then◌else◌}
use Rattle.std.specs.Str.{bytes_eq}
use Rattle.ob_base.specs.declared.id.ModelNo.{ModelNo}
use Rattle.ob_domain.specs.Aims.{aim_of, link_at}
use Rattle.ob_domain.specs.Criteria.{criterion_from}
use Rattle.ob_domain.specs.Operators.{operator_of}
use Rattle.ob_domain.specs.Trees.{Tree, all_of, any, behind, both, constant, either, negation, signed}
use Rattle.ob_domain.specs.declared.aim.Aim.{Aim}
use Rattle.ob_domain.specs.declared.operator.Operator.{Operator}
use Rattle.ob_domain.specs.declared.operator.Operator.TheVariants as operator
use Rattle.ob_domain.specs.declared.operator.Sense.{Sense}
use Rattle.ob_expr.specs.declared.typed.Link.{Link}
use Rattle.ob_schema.specs.declared.info.ModelInfo.{ModelInfo}
use Rattle.serde_json.specs.Data.{Data, number, string, array, Items, no_items, item, unsigned}

-- the JSON of a list of three
abbrev pub three : Data → Data → Data → Data
three a b c = array (item a (item b (item c no_items)))

-- [1,"=",1] or [0,"=",1]
abbrev pub constant_json : Bool → Data
constant_json true = three (number (unsigned 1)) (string (codes "=")) (number (unsigned 1))
constant_json false = three (number (unsigned 0)) (string (codes "=")) (number (unsigned 1))

mutual
  -- a list stands for the trees that its terms spell, which must all hold
  pub data Stands (models : List ModelInfo) : ModelNo → Data → Tree → Type 0 where
    a_list : (model : ModelNo) (ds : Items) (trees : List Tree) → Spells models model ds trees → Stands models model (array ds) (all_of trees)

  -- terms in prefix form spell trees one after another: `&` and `|` take the two behind them, `!` the one
  pub data Spells (models : List ModelInfo) : ModelNo → Items → List Tree → Type 0 where
    nothing : (model : ModelNo) → Spells models model no_items []
    an_and : (model : ModelNo) (ds : Items) (a b : Tree) (trees : List Tree) → Spells models model ds (a ∷ b ∷ trees)
        → Spells models model (item (string (codes "&")) ds) (both a b ∷ trees)
    an_or : (model : ModelNo) (ds : Items) (a b : Tree) (trees : List Tree) → Spells models model ds (a ∷ b ∷ trees)
        → Spells models model (item (string (codes "|")) ds) (either a b ∷ trees)
    a_not : (model : ModelNo) (ds : Items) (a : Tree) (trees : List Tree) → Spells models model ds (a ∷ trees)
        → Spells models model (item (string (codes "!")) ds) (negation a ∷ trees)
    a_constant : (model : ModelNo) (ds : Items) (b : Bool) (trees : List Tree) → Spells models model ds trees
        → Spells models model (item (constant_json b) ds) (constant b ∷ trees)
    a_criterion : (model : ModelNo) (ds : Items) (name op : List ℕ) (operand : Data) (tree : Tree) (trees : List Tree)
        → Fits models model name op operand tree → Spells models model ds trees
        → Spells models model (item (three (string name) (string op) operand) ds) (tree ∷ trees)

  -- a field, an operator and an operand that fit one another; a dotted field asks the rows behind its links
  pub data Fits (models : List ModelInfo) : ModelNo → List ℕ → List ℕ → Data → Tree → Type 0 where
    a_test : (model : ModelNo) (name op : List ℕ) (operand : Data) (aim : Aim) (sense : Sense) (how : Operator) (tree : Tree)
        → aim_of models model name ≡ Ok aim → operator_of op ≡ Some (sense, how) → how ≢ operator.Any
        → criterion_from models aim.field sense how operand ≡ Ok tree
        → Fits models model name op operand (behind aim.links tree)
    an_any : (model : ModelNo) (name op : List ℕ) (operand : Data) (aim : Aim) (sense : Sense) (link : Link) (tree : Tree)
        → aim_of models model name ≡ Ok aim → operator_of op ≡ Some (sense, operator.Any) → link_at models aim.field ≡ Ok link
        → Stands models link.target operand tree
        → Fits models model name op operand (behind aim.links (signed sense (any (link ∷ []) tree)))

-- the operand of the operator is a domain
abbrev pub takes_domain : Data → Bool
takes_domain (string op) = bytes_eq op (codes "any") || bytes_eq op (codes "not any")
takes_domain _ = false

-- how many operators and criteria a domain has as written, those of inner ones among them
abbrev mutual
  pub terms_in : Data → ℕ
  terms_in (array ds) = terms_in_list ds
  terms_in _ = 0

  pub terms_in_list : Items → ℕ
  terms_in_list no_items = 0
  terms_in_list (item d ds) = suc (inner_terms d) + terms_in_list ds

  pub inner_terms : Data → ℕ
  inner_terms (array ds) = operand_terms ds
  inner_terms _ = 0

  pub operand_terms : Items → ℕ
  operand_terms (item field (item op (item operand no_items))) = if takes_domain op then terms_in operand else 0
  operand_terms _ = 0
