-- What a domain means on a row, over facts.
use Rattle.std.specs.Prelude.{◌&&◌, ◌||◌, List, [], ◌∷◌, Bool, true, not, drop, ⊤}
use Rattle.std.specs.List.{list_any}
use Rattle.ob_base.specs.declared.id.RecId.{RecId}
use Rattle.ob_base.specs.declared.value.Value.{Value}
use Rattle.ob_domain.specs.Passing.{compares, is_in_path, is_one_of, matches_value, rows_named, targets_of}
use Rattle.ob_domain.specs.Trees.{Item, Tree, operator, leaf, constant, both, either, negation, criterion, any}
use Rattle.ob_domain.specs.declared.fault.HoldFault.{HoldFault}
use Rattle.ob_domain.specs.declared.fault.HoldFault.TheVariants as fault
use Rattle.ob_domain.specs.declared.operator.Logical.{Logical}
use Rattle.ob_domain.specs.declared.operator.Logical.TheVariants as logical
use Rattle.ob_domain.specs.declared.term.Test.{Test}
use Rattle.ob_domain.specs.declared.term.Test.TheVariants as test
use Rattle.ob_expr.specs.Meaning.{cell_in, row_at}
use Rattle.ob_expr.specs.declared.row.Row.{Row}
use Rattle.ob_expr.specs.declared.typed.Link.{Link}
use Rattle.ob_schema.specs.Facts.{Told}
use Rattle.ob_schema.specs.declared.info.Step.{Step}

module _ (told : Told) where
  -- one of the lower rows is known, and has one of the upper ones in its path: one above it, or itself; `paths` is the field with the paths of the tree's rows
  abbrev pub some_below : Step → List RecId → List RecId → Bool
  some_below paths uppers lowers =
      list_any (λ low. told.knows paths.model low && list_any (λ up. is_in_path up (told.held (cell_in (row_at paths.model low) paths.field))) uppers) lowers

  -- the value passes the test
  abbrev pub passes : RecId → Test → Value → Bool
  passes user test.Always v = true
  passes user (test.OneOf operands) v = is_one_of operands user v
  passes user (test.Compares how operand) v = compares how operand user v
  passes user (test.Matches pattern) v = matches_value pattern v
  passes user (test.ChildOf paths operands) v = some_below paths (rows_named user operands) (targets_of v)
  passes user (test.ParentOf paths operands) v = some_below paths (targets_of v) (rows_named user operands)

  -- some known row to which links lead, each through known rows alone, meets what is asked
  abbrev pub some_reached : (Row → Bool) → List Link → Row → Bool
  some_reached meets [] row = meets row
  some_reached meets (link ∷ links) row =
      list_any (λ id. told.knows link.target id && some_reached meets links (row_at link.target id)) (targets_of (told.held (cell_in row link.field)))

  -- the row meets the tree, when the user calls
  abbrev pub holds : RecId → Tree → Row → Bool
  holds user (constant b) row = b
  holds user (both a b) row = holds user a row && holds user b row
  holds user (either a b) row = holds user a row || holds user b row
  holds user (negation a) row = not (holds user a row)
  holds user (criterion field asked) row = passes user asked (told.held (cell_in row field))
  holds user (any links tree) row = some_reached (holds user tree) links row

-- what an operator makes of the answers of the terms behind it; behind the last, nothing is asked
abbrev pub first_answer : List Bool → Bool
first_answer [] = true
first_answer (b ∷ answers) = b

abbrev pub joined_answers : Logical → List Bool → List Bool
joined_answers logical.And answers = (first_answer answers && first_answer (drop 1 answers)) ∷ drop 2 answers
joined_answers logical.Or answers = (first_answer answers || first_answer (drop 1 answers)) ∷ drop 2 answers
joined_answers logical.Not answers = not (first_answer answers) ∷ drop 1 answers

-- the answers of the trees that items spell, with one item more before them
abbrev pub answers_from : Told → RecId → Row → Item → List Bool → List Bool
answers_from told user row (operator op) answers = joined_answers op answers
answers_from told user row (leaf tree) answers = holds told user tree row ∷ answers

-- a fault that the facts answered, or want of memory
abbrev pub IsHoldFault : {F : Type 0} → (F → Type 0) → HoldFault F → Type 0
IsHoldFault has_failed (fault.Fact why) = has_failed why
IsHoldFault has_failed _ = ⊤
