-- The texts of the operators. One that is added has its text here.
use Rattle.std.specs.Prelude.{ℕ, List, codes, Bool, true, false, Option, Some, None, if◌then◌else◌}
use Rattle.std.specs.Str.{bytes_eq}
use Rattle.ob_domain.specs.declared.operator.Comparison.TheVariants as comparison
use Rattle.ob_domain.specs.declared.operator.Logical.{Logical}
use Rattle.ob_domain.specs.declared.operator.Logical.TheVariants as logical
use Rattle.ob_domain.specs.declared.operator.Operator.{Operator}
use Rattle.ob_domain.specs.declared.operator.Operator.TheVariants as operator
use Rattle.ob_domain.specs.declared.operator.Sense.{Sense}
use Rattle.ob_domain.specs.declared.operator.Sense.TheVariants.{Positive, Negative}

-- an operator before the terms that it takes
unfoldable pub logical_of : List ℕ → Option Logical
logical_of text =
    if bytes_eq text (codes "&") then Some logical.And
    else if bytes_eq text (codes "|") then Some logical.Or
    else if bytes_eq text (codes "!") then Some logical.Not
    else None

-- an operator that asks for a pattern
abbrev pub like : Bool → Bool → Operator
like anywhere folds = operator.Like (record { anywhere = anywhere; folds = folds })

-- an operator between a field and an operand, and whether it asks for the complement
unfoldable pub operator_of : List ℕ → Option (Sense × Operator)
operator_of text =
    if bytes_eq text (codes "=") then Some (Positive, operator.Equal)
    else if bytes_eq text (codes "!=") then Some (Negative, operator.Equal)
    else if bytes_eq text (codes "=?") then Some (Positive, operator.EqualIfSet)
    else if bytes_eq text (codes "in") then Some (Positive, operator.In)
    else if bytes_eq text (codes "not in") then Some (Negative, operator.In)
    else if bytes_eq text (codes "<") then Some (Positive, operator.Compares comparison.Less)
    else if bytes_eq text (codes "<=") then Some (Positive, operator.Compares comparison.LessOrEqual)
    else if bytes_eq text (codes ">") then Some (Positive, operator.Compares comparison.Greater)
    else if bytes_eq text (codes ">=") then Some (Positive, operator.Compares comparison.GreaterOrEqual)
    else if bytes_eq text (codes "=like") then Some (Positive, like false false)
    else if bytes_eq text (codes "=ilike") then Some (Positive, like false true)
    else if bytes_eq text (codes "like") then Some (Positive, like true false)
    else if bytes_eq text (codes "ilike") then Some (Positive, like true true)
    else if bytes_eq text (codes "not like") then Some (Negative, like true false)
    else if bytes_eq text (codes "not ilike") then Some (Negative, like true true)
    else if bytes_eq text (codes "any") then Some (Positive, operator.Any)
    else if bytes_eq text (codes "not any") then Some (Negative, operator.Any)
    else if bytes_eq text (codes "child_of") then Some (Positive, operator.ChildOf)
    else if bytes_eq text (codes "parent_of") then Some (Positive, operator.ParentOf)
    else None
