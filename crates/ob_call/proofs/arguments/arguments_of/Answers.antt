use Rattle.std.proofs.Common.{[], ◌∷◌, Err, Option, Vec, Global, codes, map}
use Rattle.std.proofs.lemmas.Result.{err_from_is_err_and}
use Rattle.serde_json.specs.View.{view}
use Rattle.ob_base.specs.declared.place.PathStep.TheVariants.{Key}
use Rattle.ob_call.proofs.Fitting.{names_apart, result-fits}
use Rattle.ob_call.proofs.Reading.{malformed_gives, no_object, object_told, positions_refused, positions_told}
use Rattle.ob_call.specs.ArgumentsSteps.{all_given_of, expected_of}
use Rattle.ob_call.specs.declared.arguments.Given.{Given}
use Rattle.ob_call.proofs.arguments.arguments_of.Goals as goal

pub returns-in_err-given-clause-told : goal.returns-in_err-given-clause-told
returns-in_err-given-clause-told g c =
    let p = err_from_is_err_and c.from_residual.result c.from_residual.ensures.1 in
    rw (p.1, p.2) (positions_refused (λ (given : Vec (Option Given) Global). all_given_of given.items) (map (expected_of g.F.Form.fault) c.args.expected.now) c.args.args.now (view c.args.kw.now) c.in-Array.items _ c.in_err-given.field-0.0
    c.in-Array.is c.as_slice.ensures.value c.in_err-given.ensures.told)

pub returns-in_default-kw : goal.returns-in_default-kw
returns-in_default-kw g c =
    let of = λ (given : Vec (Option Given) Global). all_given_of given.items in
    let expected = map (expected_of g.F.Form.fault) c.args.expected.now in
    let given = all_given_of c.in_ok-given.given.items in
    record {
      told = positions_told of expected c.args.args.now (view c.args.kw.now) c.in-Array.items _ given (Err c.malformed_whole-in_default-kw.result)
          c.in-Array.is c.as_slice.ensures.value c.in_ok-given.ensures.told
          (malformed_gives of c.malformed_whole-in_default-kw.result (Key (codes "kw") ∷ []) _ c.malformed_whole-in_default-kw.ensures (no_object expected c.args.kw.now given c.in_default-kw.not-Object));
      fit = tt;
    }

pub returns-clause-told : goal.returns-clause-told
returns-clause-told g c =
    let of = λ (given : Vec (Option Given) Global). all_given_of given.items in
    let expected = map (expected_of g.F.Form.fault) c.args.expected.now in
    let given = all_given_of c.in_ok-given.given.items in
    positions_told of expected c.args.args.now (view c.args.kw.now) c.in-Array.items _ given _
    c.in-Array.is c.as_slice.ensures.value c.in_ok-given.ensures.told
    (object_told of expected c.args.kw.now c.in-Object.members given _ c.in-Object.is c.by_name.ensures)

pub returns-clause-fit : goal.returns-clause-fit
returns-clause-fit g c =
    let of = λ (given : Vec (Option Given) Global). all_given_of given.items in
    let expected = map (expected_of g.F.Form.fault) c.args.expected.now in
    let given = all_given_of c.in_ok-given.given.items in
    result-fits of c.by_name.result expected (view c.args.args.now) (view c.args.kw.now) (names_apart g.F.Form.fault c.args.expected.now c.requires.apart)
    (positions_told of expected c.args.args.now (view c.args.kw.now) c.in-Array.items _ given _
    c.in-Array.is c.as_slice.ensures.value c.in_ok-given.ensures.told
    (object_told of expected c.args.kw.now c.in-Object.members given _ c.in-Object.is c.by_name.ensures))
