use Rattle.std.proofs.Common.{◌≡◌, ◌≤◌, true, length, arith, rules}
use Rattle.serde_json.specs.View.{members_view, view}
use Rattle.serde_json.proofs.Views.{view-Object}
use Rattle.ob_query.proofs.Asked.{asked_then}
use Rattle.ob_query.proofs.Callers.{told_on}
use Rattle.ob_query.proofs.ReadObjects.{IsToldTo-more, IsToldTo-all}
use Rattle.ob_schema.specs.Facts.{Told}
use Rattle.ob_query.proofs.told_rows.known_object.Goals as goal

pub cell_json-requires-clause-known : goal.cell_json-requires-clause-known
cell_json-requires-clause-known g c =
    told_on g.K.Keeper c.args.by.now c.args.engine.now c.loop-field.engine (λ (told : Told). told.knows c.args.model c.args.id ≡ true) c.loop-field.invariant.asked c.requires.known

pub returns-in_err-json-clause-asked : goal.returns-in_err-json-clause-asked
returns-in_err-json-clause-asked g c = asked_then g.K.Keeper c.args.engine.now c.loop-field.engine c.cell_json.new.engine c.loop-field.invariant.asked c.cell_json.ensures.asked

pub returns-in_err-put_member-2-clause-asked : goal.returns-in_err-put_member-2-clause-asked
returns-in_err-put_member-2-clause-asked g c = asked_then g.K.Keeper c.args.engine.now c.loop-field.engine c.cell_json.new.engine c.loop-field.invariant.asked c.cell_json.ensures.asked

pub loop-field-preserved : goal.loop-field-preserved
loop-field-preserved g c =
    let old = c.args.engine.now in let mid = c.loop-field.engine in let next = c.cell_json.new.engine in
    IsToldTo-more g.K.Keeper c.args.by.now old c.args.model c.args.fields.now c.args.id mid next c.loop-field.field-index
    (members_view c.loop-field.members.entries) (members_view c.put_member-in-loop-field.new.members.entries) (view c.in_ok-json.json) _ c.info.result.now c.loop-field-test.true (search rules) (search rules) c.cell_json.ensures.asked
    c.in_ok-json.ensures.told c.in_ok-json.ensures.plain (search rules) c.loop-field.invariant

pub returns-clause-told : goal.returns-clause-told
returns-clause-told g c =
    let all : length c.args.fields.now ≤ c.loop-field.field-index = omega arith in
    IsToldTo-all g.K.Keeper c.args.by.now c.args.engine.now c.args.model c.args.fields.now c.args.id c.loop-field.engine c.loop-field.field-index (members_view c.loop-field.members.entries) _ all (view-Object c.loop-field.members)
    c.loop-field.invariant
