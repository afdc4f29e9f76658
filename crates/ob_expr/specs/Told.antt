-- What the checker's and the evaluator's parts answer: words between their bodies and the definitions, for this crate alone.
use Rattle.std.specs.Prelude.{◌≡◌, ◌≢◌, Option, None, Result, Ok, Err, MatchResult, option_map}
use Rattle.ob_base.specs.declared.id.Cell.{Cell}
use Rattle.ob_base.specs.declared.value.Value.{Value}
use Rattle.ob_expr.specs.declared.checker.TypeFault.{TypeFault}
use Rattle.ob_expr.specs.declared.checker.TypeFault.TheVariants.{NoMemory}
use Rattle.ob_expr.specs.declared.fault.EvalFault.{EvalFault}
use Rattle.ob_expr.specs.declared.typed.Typed.{Typed}
use Rattle.ob_expr.specs.Computing.{Lack}
use Rattle.ob_expr.specs.Outcome.{IsEvalFault}
use Rattle.ob_expr.specs.TypedTree.{TypedTree, typed_tree_of}

-- the tree of a checked part; none for `unset`
abbrev pub part_tree : Option Typed → Option TypedTree
part_tree = option_map typed_tree_of

-- the code's answer is what is meant, or want of memory
abbrev pub TellsPart : Result (Option Typed) TypeFault → Result (Option TypedTree) TypeFault → Type 0
TellsPart answer meant = MatchResult answer (λ part. meant ≡ Ok (part_tree part)) (λ fault. fault ≢ NoMemory → meant ≡ Err fault)

abbrev pub TellsPair : Result (Typed × Typed) TypeFault → Result (TypedTree × TypedTree) TypeFault → Type 0
TellsPair answer meant = MatchResult answer (λ two. meant ≡ Ok (typed_tree_of two.0, typed_tree_of two.1)) (λ fault. meant ≡ Err fault)

-- the same of a value
abbrev pub TellsRead : {F T S : Type 0} → (F → Cell → Type 0) → (Cell → Option Value) → (T → S) → Result T (EvalFault F) → Result S Lack → Type 0
TellsRead has_failed held seen answer meant = MatchResult answer (λ value. meant ≡ Ok (seen value)) (IsEvalFault has_failed held meant)

-- where nothing is read
abbrev pub TellsValue : {F : Type 0} → Result Value (EvalFault F) → Result Value Lack → Type 0
TellsValue answer meant = MatchResult answer (λ value. meant ≡ Ok value) (IsEvalFault (λ _ _. ⊥) (λ _. None) meant)
