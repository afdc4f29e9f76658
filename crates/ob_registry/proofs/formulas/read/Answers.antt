use Rattle.std.proofs.Common.{ℕ, List, Some, subst}
use Rattle.std.proofs.lemmas.Result.{MatchResult-at_err, MatchResult-at_ok}
use Rattle.ob_base.specs.Syntax.{tree_of}
use Rattle.ob_expr.specs.TypedTree.{typed_tree_of}
use Rattle.ob_definition.specs.Findings.{Adds, IsAt}
use Rattle.ob_definition.specs.Rooms.{spot_at}
use Rattle.ob_schema.specs.Formulas.{Place}
use Rattle.ob_registry.specs.ModelFields.{member_of}
use Rattle.ob_registry.proofs.FormulaRooms.{found_reading, found_right}
use Rattle.ob_registry.proofs.Reading.{no_tree, text_wrong}
use Rattle.ob_registry.proofs.formulas.read.Goals as goal

pub returns-in-Err-clause-spelled : goal.returns-in-Err-clause-spelled
returns-in-Err-clause-spelled c =
    let p : Place = record { models = c.args.models.now; number = c.args.number; member = member_of c.args.member.now } in
    no_tree c.one_tree.ensures p c.in-Err.wrong (MatchResult-at_err _ _ _ c.in-Err.is c.in_ok-expr.ensures)

pub returns-in-Err-clause-faults : goal.returns-in-Err-clause-faults
returns-in-Err-clause-faults c =
    let p : Place = record { models = c.args.models.now; number = c.args.number; member = member_of c.args.member.now } in
    found_reading c.one_tree.ensures p c.in-Err.wrong c.args.first.now c.at_field.new.self (text_wrong c.one_tree.ensures p c.in-Err.wrong (MatchResult-at_err _ _ _ c.in-Err.is c.in_ok-expr.ensures))
    (subst (λ (name : List ℕ). Adds (IsAt (Some c.in-Err.wrong) (spot_at c.args.member.now.entry name)) c.args.first.now c.at_field.new.self) c.as_str-name.ensures c.in_ok-at_field-in-Err.ensures.found)

pub returns-in-Ok-2-clause-faults : goal.returns-in-Ok-2-clause-faults
returns-in-Ok-2-clause-faults c =
    let p : Place = record { models = c.args.models.now; number = c.args.number; member = member_of c.args.member.now } in
    found_right c.one_tree.ensures p (tree_of c.in-Ok.expr) (typed_tree_of c.in-Ok-2.typed) c.args.first.now (MatchResult-at_ok _ _ _ c.in-Ok-2.is c.in_ok-typed.ensures)

pub returns-in_ok-at_field-in-Err-2-clause-faults : goal.returns-in_ok-at_field-in-Err-2-clause-faults
returns-in_ok-at_field-in-Err-2-clause-faults c =
    let p : Place = record { models = c.args.models.now; number = c.args.number; member = member_of c.args.member.now } in
    found_reading c.one_tree.ensures p c.in-Err-2.wrong c.args.first.now c.at_field-in-Err-2.new.self (MatchResult-at_err _ _ _ c.in-Err-2.is c.in_ok-typed.ensures)
    (subst (λ (name : List ℕ). Adds (IsAt (Some c.in-Err-2.wrong) (spot_at c.args.member.now.entry name)) c.args.first.now c.at_field-in-Err-2.new.self) c.as_str-name.ensures c.in_ok-at_field-in-Err-2.ensures.found)
