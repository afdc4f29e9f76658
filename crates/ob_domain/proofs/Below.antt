-- What shows that a row stands below others: their digits are parts of its path.
use Rattle.std.proofs.Common.{◌≡◌, ℕ, ◌&&◌, Bool, List, map, decimal, string_bytes, String, Global, sym, ap, ◌∙◌}
use Rattle.std.specs.List.{list_any}
use Rattle.ob_base.specs.declared.id.RecId.{RecId}
use Rattle.ob_base.specs.declared.value.Value.{Value}
use Rattle.ob_expr.specs.Meaning.{cell_in, row_at}
use Rattle.ob_schema.specs.Facts.{Told}
use Rattle.ob_schema.specs.declared.info.Step.{Step}
use Rattle.ob_domain.specs.Passing.{is_in_path, part_of_path, rows_named, targets_of}
use Rattle.ob_domain.specs.Holding.{passes, some_below}
use Rattle.ob_domain.specs.declared.term.Operand.{Operand}
use Rattle.ob_domain.specs.declared.term.Test.{Test}
use Rattle.ob_domain.specs.declared.term.Test.TheVariants.{ChildOf}
use Rattle.ob_domain.proofs.AnyOf.{list_any-map}

-- the row is known, and has one of the upper ones in its path
abbrev pub is_below : Told → Step → List RecId → RecId → Bool
is_below told paths uppers low = told.knows paths.model low && list_any (λ up. is_in_path up (told.held (cell_in (row_at paths.model low) paths.field))) uppers

-- the same, by the digits of the upper ones
abbrev pub is_below_texts : Told → Step → List (String Global) → RecId → Bool
is_below_texts told paths texts low = told.knows paths.model low && list_any (λ text. part_of_path (string_bytes text) (told.held (cell_in (row_at paths.model low) paths.field))) texts

in_path_texts : (uppers : List RecId) (texts : List (String Global)) (path : Value) → map string_bytes texts ≡ map (λ (id : RecId). decimal id.0) uppers
    → list_any (λ text. part_of_path (string_bytes text) path) texts ≡ list_any (λ up. is_in_path up path) uppers
in_path_texts uppers texts path same =
    sym (list_any-map (λ (text : List ℕ). part_of_path text path) string_bytes texts)
    ∙ ap (list_any (λ (text : List ℕ). part_of_path text path)) same
    ∙ list_any-map (λ (text : List ℕ). part_of_path text path) (λ (id : RecId). decimal id.0) uppers

pub below_from_texts : (told : Told) (paths : Step) (uppers : List RecId) (texts : List (String Global)) (low : RecId) (b : Bool)
    → map string_bytes texts ≡ map (λ (id : RecId). decimal id.0) uppers → b ≡ is_below_texts told paths texts low → is_below told paths uppers low ≡ b
below_from_texts told paths uppers texts low b same is =
    ap (λ (here : Bool). told.knows paths.model low && here) (sym (in_path_texts uppers texts (told.held (cell_in (row_at paths.model low) paths.field)) same)) ∙ sym is

-- the answer for the rows that operands and a value name
pub held_below : (told : Told) (user : RecId) (paths : Step) (operands shown : List Operand) (v : Value) (test : Test) (named targets uppers lowers : List RecId) (b : Bool)
    → test ≡ ChildOf paths operands → shown ≡ operands → uppers ≡ named → named ≡ rows_named user shown → lowers ≡ targets → targets ≡ targets_of v
    → b ≡ some_below told paths uppers lowers → b ≡ passes told user test v
held_below told user paths operands shown v test named targets uppers lowers b is slice first one second two below =
    below ∙ ap (λ (ids : List RecId). some_below told paths ids lowers) (first ∙ one ∙ ap (rows_named user) slice)
    ∙ ap (some_below told paths (rows_named user operands)) (second ∙ two)
    ∙ ap (λ (t : Test). passes told user t v) (sym is)
