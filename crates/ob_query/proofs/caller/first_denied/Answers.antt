use Rattle.std.proofs.Common.{◌≡◌, true, false, map, Option, ap, ◌∙◌, sym}
use Rattle.std.specs.Prelude.{find, not}
use Rattle.std.specs.Option.{option_or}
use Rattle.ob_query.proofs.Callers.{find_then}
use Rattle.ob_query.specs.Callers.{may_read_field, named_of, named_where}
use Rattle.ob_schema.specs.declared.info.Step.{Step}
use Rattle.ob_query.proofs.caller.first_denied.Goals as goal

pub returns-in-Some : goal.returns-in-Some
returns-in-Some c =
    let test = λ (field : Step). not (may_read_field c.args.by.now field) in
    let namings = map named_of c.args.namings.now in
    sym (find_then test (named_where true namings) (named_where false namings) ∙ ap (λ (o : Option Step). option_or o (find test (named_where false namings))) (sym c.first_where.ensures ∙ c.in-Some.is))

pub returns-in-None : goal.returns-in-None
returns-in-None c =
    let test = λ (field : Step). not (may_read_field c.args.by.now field) in
    let namings = map named_of c.args.namings.now in
    c.first_where-in-None.ensures
    ∙ sym (find_then test (named_where true namings) (named_where false namings) ∙ ap (λ (o : Option Step). option_or o (find test (named_where false namings))) (sym c.first_where.ensures ∙ c.in-None.is))
