-- What is told at a place, of what was given, and what a criterion is by it.
use Rattle.std.proofs.Common.{◌≡◌, ◌≢◌, ℕ, List, [], ◌∷◌, ◌++◌, Some, Result, Ok, Err, refl, sym, ap, subst, ◌∙◌}
use Rattle.std.specs.Prelude.{IfOk, IsErrAnd, MatchResult}
use Rattle.ob_base.specs.Chain.{◌>>=◌}
use Rattle.ob_base.specs.declared.id.ModelNo.{ModelNo}
use Rattle.ob_domain.proofs.Steps.{refused, same_ok}
use Rattle.ob_domain.specs.Aims.{aim_of, link_at}
use Rattle.ob_domain.specs.Criteria.{criterion_from, criterion_item}
use Rattle.ob_domain.specs.Operators.{operator_of}
use Rattle.ob_domain.specs.Places.{IsFault, IsResult, fault_at, told_at}
use Rattle.ob_domain.specs.Reading.{Counted, aimed, any_from, asked_by, criterion_at}
use Rattle.ob_domain.specs.Trees.{Item, Tree, any, behind, leaf, signed}
use Rattle.ob_domain.specs.declared.aim.Aim.{Aim}
use Rattle.ob_domain.specs.declared.fault.DomainFault.{DomainFault}
use Rattle.ob_domain.specs.declared.fault.DomainFault.TheVariants as fault
use Rattle.ob_domain.specs.declared.fault.Unfit.{Unfit}
use Rattle.ob_domain.specs.declared.fault.Unfit.TheVariants as unfit
use Rattle.ob_domain.specs.declared.operator.Operator.{Operator}
use Rattle.ob_domain.specs.declared.operator.Operator.TheVariants as how
use Rattle.ob_domain.specs.declared.operator.Sense.{Sense}
use Rattle.ob_schema.specs.declared.info.ModelInfo.{ModelInfo}
use Rattle.ob_expr.specs.declared.typed.Link.{Link}
use Rattle.serde_json.specs.Data.{Data}

-- an answer at a place: what was given, or its fault there
abbrev pub IsTold : {A : Type 0} → List ℕ → Result A Unfit → Result A DomainFault → Type 0
IsTold numbers given answer = MatchResult given (λ x. answer ≡ Ok x) (λ why. IsErrAnd answer (λ f. IsFault f (fault_at why numbers)))

pub told_given : {A B : Type 0} (seen : A → B) (numbers : List ℕ) (given : Result A Unfit) (x : A) (defined : Result B Unfit) → IsResult seen given defined → IsTold numbers given (Ok x)
    → told_at numbers defined ≡ Ok (seen x)
told_given seen numbers (Ok y) x defined is told = let same : x ≡ y = same_ok x y told in rw (is, same) refl
told_given seen numbers (Err why) x defined is told = absurd told

fault_given : {B : Type 0} (numbers : List ℕ) (why : Unfit) (f : DomainFault) (defined : Result B Unfit) → (why ≢ unfit.NoMemory → defined ≡ Err why) → IsFault f (fault_at why numbers) → f ≢ fault.NoMemory
    → told_at numbers defined ≡ Err f
fault_given numbers unfit.NoMemory f defined is told known = absurd (known (told known))
fault_given numbers why f defined is told known = let e = is (λ e. cc) in let same = told known in rw (e, same) refl

pub told_fault : {A B : Type 0} (seen : A → B) (numbers : List ℕ) (given : Result A Unfit) (f : DomainFault) (defined : Result B Unfit) → IsResult seen given defined → IsTold numbers given (Err f)
    → f ≢ fault.NoMemory → told_at numbers defined ≡ Err f
told_fault seen numbers (Ok y) f defined is told known = absurd (refused f y told)
told_fault seen numbers (Err why) f defined is told known = fault_given numbers why f defined is told known

-- what is known of what was given
pub told_if : {A : Type 0} (P : A → Type 0) (numbers : List ℕ) (given : Result A Unfit) (x : A) → IfOk given P → IsTold numbers given (Ok x) → P x
told_if P numbers (Ok y) x holds told = subst P (sym (same_ok x y told)) holds
told_if P numbers (Err why) x holds told = absurd told

leaf_told : (numbers : List ℕ) (r : Result Tree Unfit) (first : Item) → told_at numbers (r >>= λ tree. Ok (leaf tree)) ≡ Ok first → (tree : Tree) × (told_at numbers r ≡ Ok tree) × (leaf tree ≡ first)
leaf_told numbers (Ok tree) first is = (tree, refl, same_ok (leaf tree) first is)
leaf_told numbers (Err why) first is = absurd (refused (fault_at why numbers) first is)

leaf_fault : (numbers : List ℕ) (r : Result Tree Unfit) (f : DomainFault) → told_at numbers (r >>= λ tree. Ok (leaf tree)) ≡ Err f → told_at numbers r ≡ Err f
leaf_fault numbers (Ok tree) f is = absurd (refused f (leaf tree) (sym is))
leaf_fault numbers (Err why) f is = let same : fault_at why numbers ≡ f = cc in rw same refl

-- a tree beside how many terms there may still be
abbrev pub beside : ℕ → Tree → Counted Tree
beside left tree = Ok (tree, left)

module _ (models : List ModelInfo) where
  pub asked-other : (numbers : List ℕ) (left : ℕ) (aim : Aim) (sense : Sense) (known_as : Operator) (operand : Data) (inner : ModelNo → List ℕ → ℕ → Counted Tree) → known_as ≢ how.Any
      → asked_by models numbers left aim sense known_as operand inner ≡ (told_at numbers (criterion_from models aim.field sense known_as operand) >>= beside left)
  asked-other numbers left aim sense how.Any operand inner other = absurd (other refl)
  asked-other numbers left aim sense known_as operand inner other = refl

  -- the tree of a criterion's item
  pub tree_told : (numbers : List ℕ) (aim : Aim) (sense : Sense) (known_as : Operator) (operand : Data) (first : Item) → told_at numbers (criterion_item models aim.field sense known_as operand) ≡ Ok first
      → (tree : Tree) × (told_at numbers (criterion_from models aim.field sense known_as operand) ≡ Ok tree) × (leaf tree ≡ first)
  tree_told numbers aim sense known_as operand first is = leaf_told numbers (criterion_from models aim.field sense known_as operand) first is

  module _ (model : ModelNo) (numbers : List ℕ) (left : ℕ) (name op : List ℕ) (operand : Data) (inner : ModelNo → List ℕ → ℕ → Counted Tree) (aim : Aim) (sense : Sense) (known_as : Operator) where
    pub criterion_given : (first whole : Item) → told_at numbers (aim_of models model name) ≡ Ok aim → operator_of op ≡ Some (sense, known_as) → known_as ≢ how.Any
        → told_at numbers (criterion_item models aim.field sense known_as operand) ≡ Ok first → ((tree : Tree) → first ≡ leaf tree → whole ≡ leaf (behind aim.links tree))
        → criterion_at models model numbers left name op operand inner ≡ Ok (whole, left)
    criterion_given first whole aims known other is stands =
        let t = tree_told numbers aim sense known_as operand first is in
        let asks : asked_by models numbers left aim sense known_as operand inner ≡ Ok (t.0, left) = asked-other numbers left aim sense known_as operand inner other ∙ (rw t.1 refl) in
        rw (aims, known, asks) (ap (λ (i : Item). Ok (i, left)) (sym (stands t.0 (sym t.2))))

    pub criterion_failed : (why : DomainFault) → told_at numbers (aim_of models model name) ≡ Ok aim → operator_of op ≡ Some (sense, known_as) → known_as ≢ how.Any
        → told_at numbers (criterion_item models aim.field sense known_as operand) ≡ Err why → criterion_at models model numbers left name op operand inner ≡ Err why
    criterion_failed why aims known other is =
        let f = leaf_fault numbers (criterion_from models aim.field sense known_as operand) why is in
        let asks : asked_by models numbers left aim sense known_as operand inner ≡ Err why = asked-other numbers left aim sense known_as operand inner other ∙ (rw f refl) in
        rw (aims, known, asks) refl

  pub any_given : (numbers : List ℕ) (left rest : ℕ) (aim : Aim) (sense : Sense) (inner : ModelNo → List ℕ → ℕ → Counted Tree) (link : Link) (tree : Tree) (whole : Item)
      → told_at numbers (link_at models aim.field) ≡ Ok link → inner link.target (numbers ++ 2 ∷ []) left ≡ Ok (tree, rest) → whole ≡ leaf (behind aim.links (signed sense (any (link ∷ []) tree)))
      → aimed aim (any_from models numbers left aim sense inner) ≡ Ok (whole, rest)
  any_given numbers left rest aim sense inner link tree whole leads read stands = rw (leads, read) (ap (λ (i : Item). Ok (i, rest)) (sym stands))
