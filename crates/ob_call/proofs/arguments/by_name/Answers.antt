use Rattle.std.proofs.Common.{◌≡◌, false, Option, Vec, Global, codes, rules, tests, arith, bytes_eq}
use Rattle.std.proofs.lemmas.Grind.{common_steps}
use Rattle.std.proofs.lemmas.Map.Iter.{rest_more}
use Rattle.std.proofs.lemmas.Result.{err_from_is_err_and}
use Rattle.std.specs.Map.Iter.{deref_pair}
use Rattle.ob_call.proofs.Reading.{named_more, named_nothing, named_refused}
use Rattle.ob_call.specs.ArgumentsSteps.{all_given_of}
use Rattle.ob_call.specs.declared.arguments.Given.{Given}
use Rattle.ob_call.proofs.arguments.by_name.Goals as goal

pub returns-in_err-number : goal.returns-in_err-number
returns-in_err-number g c =
    let p = err_from_is_err_and c.from_residual-in_err-number.result c.from_residual-in_err-number.ensures.1 in
    let rest = rest_more deref_pair c.loop-name.name-iterator c.next.new.self c.next.result (c.in-Some.name, c.in-Some.json) c.in-Some.is c.next.ensures.steps in
    let other : bytes_eq c.as_str-name.result.now (codes "context") ≡ false = search (rules, tests) in
    rw (p.1, p.2) (named_nothing g.F.Form.fault (λ (given : Vec (Option Given) Global). all_given_of given.items) c.args.expected.now c.args.members.now.entries c.loop-name.name-iterator
    c.next.new.self c.in-Some.name.now c.in-Some.json.now c.as_str-name.result.now c.args.given.items c.loop-name.given.items c.in_err-number.field-0.0
    rest c.as_str-name.ensures.value other c.in_err-number.ensures.err c.loop-name.invariant.told)

pub returns-in_err-given : goal.returns-in_err-given
returns-in_err-given g c =
    let p = err_from_is_err_and c.from_residual-in_err-given.result c.from_residual-in_err-given.ensures.1 in
    let rest = rest_more deref_pair c.loop-name.name-iterator c.next.new.self c.next.result (c.in-Some.name, c.in-Some.json) c.in-Some.is c.next.ensures.steps in
    let other : bytes_eq c.as_str-name.result.now (codes "context") ≡ false = search (rules, tests) in
    rw (p.1, p.2) (named_refused g.F.Form.fault (λ (given : Vec (Option Given) Global). all_given_of given.items) c.args.expected.now c.args.members.now.entries c.loop-name.name-iterator
    c.next.new.self c.in-Some.name.now c.in-Some.json.now c.as_str-name.result.now c.args.given.items c.loop-name.given.items c.in_ok-number.number c.index-expected-number.result
    c.index.result.now c.in_err-given.field-0.0
    rest c.as_str-name.ensures.value other c.loop-name.invariant.sized c.in_ok-number.ensures.within c.index-expected-number.is c.index.ensures c.in_ok-number.ensures.ok c.loop-name.invariant.told c.in_err-given.ensures)

pub loop-name-preserved : goal.loop-name-preserved
loop-name-preserved g c =
    let rest = rest_more deref_pair c.loop-name.name-iterator c.next.new.self c.next.result (c.in-Some.name, c.in-Some.json) c.in-Some.is c.next.ensures.steps in
    let other : bytes_eq c.as_str-name.result.now (codes "context") ≡ false = search (rules, tests) in
    record {
      sized = grind (arith, common_steps);
      told = named_more g.F.Form.fault c.args.expected.now c.args.members.now.entries c.loop-name.name-iterator c.next.new.self c.in-Some.name.now c.in-Some.json.now c.as_str-name.result.now
          c.args.given.items c.loop-name.given.items c.in_ok-number.number c.index-expected-number.result c.index.result.now c.in_ok-given.field-0
          rest c.as_str-name.ensures.value other c.loop-name.invariant.sized c.in_ok-number.ensures.within c.index-expected-number.is c.index.ensures c.in_ok-number.ensures.ok c.loop-name.invariant.told c.in_ok-given.ensures;
    }
