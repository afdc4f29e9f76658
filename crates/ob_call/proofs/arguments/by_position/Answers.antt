use Rattle.std.proofs.Common.{◌≡◌, [], ◌∷◌, ◌++◌, Option, Vec, Global, arith}
use Rattle.std.proofs.lemmas.Grind.{common_steps}
use Rattle.std.proofs.lemmas.Result.{err_from_is_err_and}
use Rattle.serde_json.specs.View.{view}
use Rattle.ob_call.proofs.Reading.{read_more, read_refused}
use Rattle.ob_call.specs.ArgumentsSteps.{all_given_of}
use Rattle.ob_call.specs.declared.arguments.Given.{Given}
use Rattle.ob_call.proofs.arguments.by_position.Goals as goal

pub returns-in_err-own-clause-told : goal.returns-in_err-own-clause-told
returns-in_err-own-clause-told g c =
    let p = err_from_is_err_and c.from_residual.result c.from_residual.ensures.1 in
    rw (p.1, p.2) (read_refused g.F.Form.fault (λ (given : Vec (Option Given) Global). all_given_of given.items)
    (view c.args.kw.now) c.args.expected.now c.args.items.now c.loop-number.given.items c.loop-number.number c.index-expected-number.result c.in_err-own.field-0.0
    (omega arith) c.index-expected-number.is c.loop-number.invariant.told c.in_err-own.ensures)

pub loop-number-preserved : goal.loop-number-preserved
loop-number-preserved g c =
    let e : c.push.new.self.items ≡ c.loop-number.given.items ++ c.in_ok-own.own ∷ [] = grind (arith, common_steps) in
    record {
      sized = grind (arith, common_steps);
      told = read_more g.F.Form.fault (view c.args.kw.now) c.args.expected.now c.args.items.now c.loop-number.given.items c.push.new.self.items c.loop-number.number c.index-expected-number.result c.in_ok-own.own
          (omega arith) e c.index-expected-number.is c.loop-number.invariant.told c.in_ok-own.ensures;
    }
