use Rattle.std.proofs.Common.{◌≡◌, ◌<◌, ◌≤◌, List, None, ap, get_or, length, subst, sym, take, ◌∙◌, arith}
use Rattle.ob_base.specs.declared.id.FieldNo.{FieldNo}
use Rattle.ob_install.proofs.ForbiddenValues.{GivenAmong, among-all, among-more, among-none, among-one}
use Rattle.ob_install.proofs.installing.forbidding.forbidden_in.Goals as goal
use Rattle.ob_install.specs.Install.{GivesFor}
use Rattle.ob_install.specs.InstallSteps.{FindsBy, course_of}
use Rattle.ob_schema.specs.Models.{HasField}
use Rattle.ob_schema.specs.declared.preset.PresetValue.{PresetValue}

pub forbidden_value-requires-clause-field : goal.forbidden_value-requires-clause-field
forbidden_value-requires-clause-field c =
    let row = get_or c.args.placed.now.rows.now c.args.number c.index-placed-number.result in
    let one = c.one-item.result in
    let i = c.loop-one.one-index in
    let values = c.as_slice-one-items.ensures in
    let at : one ≡ get_or row.values i one = c.one-item.is ∙ ap (λ (vs : List (FieldNo × PresetValue)). get_or vs i one) values in
    let low : i < length row.values = let lt = c.loop-one-test.true in let e = ap length values in omega (arith, lt, e) in
    let fields = (c.requires.whole.known c.args.number c.index-placed-number.result c.requires.within).1 in
    subst (λ (given : FieldNo × PresetValue). HasField c.args.maker.now.schema.now row.model given.0) (sym at) (fields i one low)

pub returns-in-Some : goal.returns-in-Some
returns-in-Some c =
    let models = c.args.maker.now.schema.now in
    let placed = c.args.placed.now in
    let at = course_of models placed in
    let row = get_or placed.rows.now c.args.number c.index-placed-number.result in
    let own : row ≡ get_or placed.rows.now c.args.number row = ap (get_or placed.rows.now c.args.number) c.index-placed-number.is in
    let one = c.one-item.result in
    let i = c.loop-one.one-index in
    let values = c.as_slice-one-items.ensures in
    let is : one ≡ get_or row.values i one = c.one-item.is ∙ ap (λ (vs : List (FieldNo × PresetValue)). get_or vs i one) values in
    let low : i < length row.values = let lt = c.loop-one-test.true in let e = ap length values in omega (arith, lt, e) in
    among-one models at c.args.number row c.requires.within own i one c.in-Some.broken low is
    (subst (FindsBy models at (GivesFor models at c.args.number row.model one.0) c.args.number) c.in-Some.is c.in_ok-broken.ensures)

pub loop-one-init : goal.loop-one-init
loop-one-init c =
    let models = c.args.maker.now.schema.now in
    let placed = c.args.placed.now in
    among-none models (course_of models placed) c.args.number (get_or placed.rows.now c.args.number c.index-placed-number.result).model c.as_slice-one-items.result.now

pub loop-one-preserved : goal.loop-one-preserved
loop-one-preserved c =
    let models = c.args.maker.now.schema.now in
    let placed = c.args.placed.now in
    let at = course_of models placed in
    let row = get_or placed.rows.now c.args.number c.index-placed-number.result in
    let one = c.one-item.result in
    among-more models at c.args.number row.model c.as_slice-one-items.result.now c.loop-one.one-index one c.loop-one-test.true c.one-item.is c.loop-one.invariant
    (subst (FindsBy models at (GivesFor models at c.args.number row.model one.0) c.args.number) c.in_default.is c.in_ok-broken.ensures)

pub returns : goal.returns
returns c =
    let models = c.args.maker.now.schema.now in
    let placed = c.args.placed.now in
    let at = course_of models placed in
    let row = get_or placed.rows.now c.args.number c.index-placed-number.result in
    let own : row ≡ get_or placed.rows.now c.args.number row = ap (get_or placed.rows.now c.args.number) c.index-placed-number.is in
    let values = c.as_slice-one-items.ensures in
    let end : length row.values ≤ c.loop-one.one-index = let out = c.loop-one-test.false in let e = ap length values in omega (arith, out, e) in
    among-all models at c.args.number row c.requires.within own c.loop-one.one-index end
    (subst (λ (vs : List (FieldNo × PresetValue)). FindsBy models at (GivenAmong models at c.args.number row.model (take c.loop-one.one-index vs)) c.args.number None) values c.loop-one.invariant)
