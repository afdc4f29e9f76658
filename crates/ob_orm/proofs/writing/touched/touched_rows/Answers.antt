-- The rows of one id more.
use Rattle.std.proofs.Common.{◌≡◌, ◌∙◌, ◌++◌, ◌∷◌, ℕ, List, map, ap, get_or, refl, rules, subst, sym, true}
use Rattle.std.specs.Prelude.{All, Contains}
use Rattle.std.proofs.lemmas.List.{take_all}
use Rattle.std.proofs.lemmas.List.Elements.{All-nil}
use Rattle.ob_base.specs.declared.id.RowKey.{RowKey}
use Rattle.ob_cache.proofs.CallerLemmas.{stays-then}
use Rattle.ob_rows.proofs.CallerLemmas.{stays-none, stays-rests}
use Rattle.ob_orm.proofs.TouchedRows.{known-at, of-models, own-model, rows-more}
use Rattle.ob_rows.specs.AskingSteps.{AreKnown}
use Rattle.ob_orm.specs.NewRows.{Values}
use Rattle.ob_orm.specs.NewRowSteps.{IsTyped}
use Rattle.ob_rows.specs.Rights.{rows_named}
use Rattle.ob_orm.specs.WriteSteps.{AreOfModels}
use Rattle.ob_orm.specs.Touched.{given_parents, parent_rows, touched, touched_models}
use Rattle.ob_orm.proofs.writing.touched.touched_rows.Goals as goal
use Rattle.ob_schema.specs.Models.{HasModel, IsParentIn}
use Rattle.ob_schema.specs.Tables.{key_of}
use Rattle.ob_schema.specs.declared.info.ModelInfo.{ModelInfo}
use Rattle.ob_schema.specs.declared.info.ParentInfo.{ParentInfo}

pub loop-id-init : goal.loop-id-init
loop-id-init g c = record {
  same = stays-none _ _;
  count = search rules;
  lender = refl;
  told = λ tables rests. c.new-rows.ensures.items;
  known = λ told tells known. subst (λ (rs : List RowKey). AreKnown rs told) (sym c.new-rows.ensures.items) (All-nil (λ (row : RowKey). told.knows row.model row.id ≡ true));
  models = subst (All (λ (row : RowKey). Contains (touched_models c.args.engine.now.held.models c.args.model c.as_slice-given.result.now) row.model)) (sym c.new-rows.ensures.items)
      (All-nil (λ (row : RowKey). Contains (touched_models c.args.engine.now.held.models c.args.model c.as_slice-given.result.now) row.model));
}

pub push_touched-requires-clause-model : goal.push_touched-requires-clause-model
push_touched-requires-clause-model g c = subst (λ (ms : List ModelInfo). HasModel ms c.args.model) (sym c.loop-id.invariant.same.models) c.requires.model

pub push_touched-requires-clause-parents : goal.push_touched-requires-clause-parents
push_touched-requires-clause-parents g c =
    c.requires.parents ∙ ap (λ (vs : Values). given_parents c.args.engine.now.held.models c.args.model vs) (sym c.as_slice-given.ensures)
    ∙ ap (λ (ms : List ModelInfo). given_parents ms c.args.model c.as_slice-given.result.now) (sym c.loop-id.invariant.same.models)

pub push_touched-requires-clause-within : goal.push_touched-requires-clause-within
push_touched-requires-clause-within g c = subst (λ (ms : List ModelInfo). All (IsParentIn ms c.args.model) c.args.parents.now) (sym c.loop-id.invariant.same.models) c.requires.within

pub push_touched-requires-clause-typed : goal.push_touched-requires-clause-typed
push_touched-requires-clause-typed g c =
    subst (λ (ms : List ModelInfo). All (IsTyped ms c.args.model) c.as_slice-given.result.now) (sym c.loop-id.invariant.same.models)
    (subst (λ (vs : Values). All (IsTyped c.args.engine.now.held.models c.args.model) vs) (sym c.as_slice-given.ensures) c.requires.typed)

pub push_touched-requires-clause-rest : goal.push_touched-requires-clause-rest
push_touched-requires-clause-rest g c = c.loop-id.invariant.same.phase_is ∙ c.requires.rest

pub loop-id-preserved : goal.loop-id-preserved
loop-id-preserved g c =
    let models = c.args.engine.now.held.models in let model = c.args.model in
    let i = c.loop-id.id-index in let ids = c.as_slice-ids.result.now in
    let given = c.as_slice-given.result.now in
    let so_far = c.loop-id.invariant in
    let parents : c.args.parents.now ≡ given_parents models model given =
    c.requires.parents ∙ ap (λ (vs : Values). given_parents models model vs) (sym c.as_slice-given.ensures) in
    let ms = touched_models models model given in
    record {
      same = stays-then _ _ _ _ _ _ so_far.same c.push_touched.ensures.same;
      count = search rules;
      lender = search rules;
      told = λ tables rests.
          let row = λ (id : ℕ). key_of model (record { 0 = id }) ∷ parent_rows models model given tables id in
          c.in_ok-push_touched.ensures.told tables (stays-rests _ _ _ _ so_far.same tables rests)
          ∙ ap (λ (of : List ModelInfo). c.loop-id.rows.items ++ (key_of model (record { 0 = get_or ids i 0 }) ∷ parent_rows of model given tables (get_or ids i 0))) so_far.same.models
          ∙ ap (λ (rs : List RowKey). rs ++ row (get_or ids i 0)) (so_far.told tables rests) ∙ rows-more row ids i 0 c.loop-id-test.true;
      known = λ told tells known. c.in_ok-push_touched.ensures.known told (tells.0, so_far.same.stands tells.0 tells.1, tells.2, tells.3)
          (known-at told model ids i 0 c.loop-id-test.true known) (so_far.known told tells known);
      models = c.in_ok-push_touched.ensures.models ms (own-model model (map (λ parent. parent.model) (given_parents models model given)))
          (subst (λ (ps : List ParentInfo). AreOfModels ms ps) (sym parents) (of-models model (given_parents models model given))) so_far.models;
    }

pub returns-clause-told : goal.returns-clause-told
returns-clause-told g c = λ tables rests.
    let models = c.args.engine.now.held.models in
    c.loop-id.invariant.told tables rests
    ∙ ap (touched models c.args.model c.as_slice-given.result.now tables) (take_all c.loop-id.id-index c.as_slice-ids.result.now c.loop-id-test.false)
    ∙ ap (touched models c.args.model c.as_slice-given.result.now tables) c.as_slice-ids.ensures.value
    ∙ ap (λ (vs : Values). touched models c.args.model vs tables c.args.change.now.ids.items) c.as_slice-given.ensures

pub returns-clause-known : goal.returns-clause-known
returns-clause-known g c = λ told tells known.
    c.loop-id.invariant.known told tells (subst (λ (ids : List ℕ). AreKnown (rows_named c.args.model ids) told) (sym c.as_slice-ids.ensures.value) known)

pub returns-clause-models : goal.returns-clause-models
returns-clause-models g c =
    subst (λ (vs : Values). All (λ (row : RowKey). Contains (touched_models c.args.engine.now.held.models c.args.model vs) row.model) c.loop-id.rows.items) c.as_slice-given.ensures c.loop-id.invariant.models

pub returns-in_err-push_touched-clause-same : goal.returns-in_err-push_touched-clause-same
returns-in_err-push_touched-clause-same g c = stays-then _ _ _ _ _ _ c.loop-id.invariant.same c.push_touched.ensures.same
