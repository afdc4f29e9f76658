use Rattle.std.proofs.Common.{rules, tests, ◌∙◌, sym}
use Rattle.std.proofs.lemmas.Iterator.{YieldsList-from_slice}
use Rattle.std.proofs.lemmas.Iterator.Search.{position_from_yields_List}
use Rattle.std.specs.Prelude.{bytes_eq}
use Rattle.ob_call.proofs.arguments.number_named.Goals as goal

pub returns-in-Some-clause-ok : goal.returns-in-Some-clause-ok
returns-in-Some-clause-ok g c =
    let name = c.args.name.now in let expected = c.args.expected.now in
    let found = position_from_yields_List (λ p. bytes_eq p.name.now name) _ _ c.position.result c.position.ensures.ran (YieldsList-from_slice expected cc) (λ x b q k. search (rules, tests)) in
    sym (sym c.in-Some.is ∙ found)

pub returns-in-None-clause-err : goal.returns-in-None-clause-err
returns-in-None-clause-err g c =
    let name = c.args.name.now in let expected = c.args.expected.now in
    let found = position_from_yields_List (λ p. bytes_eq p.name.now name) _ _ c.position.result c.position.ensures.ran (YieldsList-from_slice expected cc) (λ x b q k. search (rules, tests)) in
    (sym (sym c.in-None.is ∙ found), c.malformed.ensures)
