-- The texts of modules that stand inside the program.
use Rattle.std.specs.Prelude.{ℕ, List, codes, if◌then◌else◌, Option, Some, None}
use Rattle.std.specs.Str.{bytes_eq}
use Rattle.ob_module.specs.declared.inside.base.TheConstants.{BASE}
use Rattle.ob_module.specs.declared.inside.stock.TheConstants.{STOCK}

-- the text of `base` that stands in the program, and that of `stock`
abbrev pub base_text : List ℕ
base_text = BASE.now

abbrev pub stock_text : List ℕ
stock_text = STOCK.now

-- the text of a module that stands inside the program
abbrev pub inside_text : List ℕ → Option (List ℕ)
inside_text name = if bytes_eq name (codes "base") then Some base_text else if bytes_eq name (codes "stock") then Some stock_text else None
