-- A list of objects, or one.
use Rattle.std.proofs.Common.{◌≡◌, length, map, sym, vec_len, ◌∙◌, arith}
use Rattle.serde_json.specs.View.{view}
use Rattle.ob_call.specs.Forms.{fields_at}
use Rattle.ob_effect.proofs.CallerLemmas.{edits_none, fails, starved, starves}
use Rattle.ob_commands.proofs.TakenIds.{tells-list, tells-one, told-plain}
use Rattle.ob_commands.proofs.WrongObjects.{all-objects, objects-alone, objects-listed, right-object}
use Rattle.ob_commands.proofs.creating.make_told.Goals as goal

-- ---- a list

pub make_each-requires-clause-objects : goal.make_each-requires-clause-objects
make_each-requires-clause-objects g c =
    let fields = fields_at c.args.engine.now.held.models c.args.call.now.model in
    let items = c.in-Some.items.now.items in
    rw c.as_slice.ensures.value (all-objects fields items 0 (sym (objects-listed fields (view c.args.json.now) items c.in-Some.ensures) ∙ c.requires.form))

pub returns-in_ok-id_list-in-Some-clause-told : goal.returns-in_ok-id_list-in-Some-clause-told
returns-in_ok-id_list-in-Some-clause-told g c =
    let ids = c.in_ok-ids-in-Some.ids in
    let items = c.in-Some.items.now.items in
    let listed : vec_len ids ≡ length items = rw c.as_slice.ensures.value at c.in_ok-ids-in-Some.ensures.each in
    let held = ids.ok.0 in
    let counted : length ids.items ≡ length items = omega (arith, listed, held) in
    tells-list g.K.Keeper c.args.call.now.model c.args.engine.now c.make_each.new.engine (view c.args.json.now) c.in-Some.items.now.items c.in_ok-ids-in-Some.ids.items (view c.in_ok-id_list-in-Some.field-0) c.in-Some.ensures
    (rw c.as_slice-in-Some.ensures.value at c.in_ok-id_list-in-Some.ensures) counted c.in_ok-ids-in-Some.ensures.taken

pub returns-in_ok-id_list-in-Some-clause-plain : goal.returns-in_ok-id_list-in-Some-clause-plain
returns-in_ok-id_list-in-Some-clause-plain g c = told-plain (view c.in_ok-id_list-in-Some.field-0) (map (λ id. id.0) c.as_slice-in-Some.result.now) c.in_ok-id_list-in-Some.ensures

-- ---- one

pub findings_in-requires-clause-object : goal.findings_in-requires-clause-object
findings_in-requires-clause-object g c =
    let fields = fields_at c.args.engine.now.held.models c.args.call.now.model in
    right-object fields (view c.args.json.now) (sym (objects-alone fields (view c.args.json.now) c.in-None.ensures) ∙ c.requires.form)

pub object_of-requires-clause-object : goal.object_of-requires-clause-object
object_of-requires-clause-object g c =
    let fields = fields_at c.args.engine.now.held.models c.args.call.now.model in
    right-object fields (view c.args.json.now) (sym (objects-alone fields (view c.args.json.now) c.in-None.ensures) ∙ c.requires.form)

pub returns-in_err-findings_in-in-None-clause-step : goal.returns-in_err-findings_in-in-None-clause-step
returns-in_err-findings_in-in-None-clause-step g c =
    let a = c.args.engine.now in
    let by = c.args.writer.now.by in
    let why = c.in_err-findings_in-in-None.field-0.0 in
    fails g.K.Keeper by c.from_residual-in_err-findings_in-in-None.result c.args.notes.now a a why c.from_residual-in_err-findings_in-in-None.ensures.1
    (starved g.K.Keeper by a a why (edits_none g.K.Keeper a c.requires.usable) c.in_err-findings_in-in-None.ensures.causes)

pub returns-in_err-object-in-None-clause-step : goal.returns-in_err-object-in-None-clause-step
returns-in_err-object-in-None-clause-step g c =
    let a = c.args.engine.now in
    starves g.K.Keeper c.args.writer.now.by c.from_residual-in_err-object-in-None.result c.args.notes.now a a c.from_residual-in_err-object-in-None.ensures.1 (edits_none g.K.Keeper a c.requires.usable)

pub returns-in_ok-id-in-None-clause-told : goal.returns-in_ok-id-in-None-clause-told
returns-in_ok-id-in-None-clause-told g c =
    tells-one g.K.Keeper c.args.call.now.model c.args.engine.now c.create_row.new.engine (view c.args.json.now) c.in_ok-id-in-None.id (view c.from.result) c.in-None.ensures c.from.ensures c.in_ok-id-in-None.ensures.taken
