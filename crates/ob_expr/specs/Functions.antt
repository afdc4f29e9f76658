-- The names of the functions. One that is added has its name here.
use Rattle.std.specs.Prelude.{ℕ, List, codes, Option, Some, None, if◌then◌else◌}
use Rattle.std.specs.Str.{bytes_eq}
use Rattle.ob_expr.specs.declared.function.Function.{Function}
use Rattle.ob_expr.specs.declared.function.Function.TheVariants.{If, Cat, Text, Chosen, Over}
use Rattle.ob_expr.specs.declared.typed.Aggregate.{Aggregate}
use Rattle.ob_expr.specs.declared.typed.Aggregate.TheVariants.{Count, Any, All, Sum, Extreme}
use Rattle.ob_expr.specs.declared.typed.Extreme.TheVariants.{Least, Greatest}

unfoldable pub function_of : List ℕ → Option Function
function_of name =
    if bytes_eq name (codes "if") then Some If
    else if bytes_eq name (codes "cat") then Some Cat
    else if bytes_eq name (codes "text") then Some Text
    else if bytes_eq name (codes "min2") then Some (Chosen Least)
    else if bytes_eq name (codes "max2") then Some (Chosen Greatest)
    else if bytes_eq name (codes "count") then Some (Over Count)
    else if bytes_eq name (codes "any") then Some (Over Any)
    else if bytes_eq name (codes "all") then Some (Over All)
    else if bytes_eq name (codes "sum") then Some (Over Sum)
    else if bytes_eq name (codes "min") then Some (Over (Extreme Least))
    else if bytes_eq name (codes "max") then Some (Over (Extreme Greatest))
    else None

-- what is made of targets, where the function is over them
abbrev pub over_targets : Option Function → Option Aggregate
over_targets (Some (Over aggregate)) = Some aggregate
over_targets _ = None
