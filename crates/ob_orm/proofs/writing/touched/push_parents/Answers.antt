-- The row of one parent more.
use Rattle.std.proofs.Common.{◌∙◌, ◌++◌, List, append-nil, ap, get_or, option_to_list, refl, rules, subst, sym}
use Rattle.std.specs.Prelude.{All}
use Rattle.std.specs.List.{filter_map}
use Rattle.std.proofs.lemmas.List.{take_all}
use Rattle.ob_base.specs.declared.id.RowKey.{RowKey}
use Rattle.ob_cache.proofs.CallerLemmas.{stays-then}
use Rattle.ob_rows.proofs.CallerLemmas.{stays-none, stays-rests}
use Rattle.ob_orm.proofs.TouchedRows.{chosen-more, no_parent}
use Rattle.ob_orm.specs.NewRowSteps.{IsTyped}
use Rattle.ob_orm.specs.Touched.{parent_row}
use Rattle.ob_orm.proofs.writing.touched.push_parents.Goals as goal
use Rattle.ob_schema.specs.Models.{IsParentIn}
use Rattle.ob_schema.specs.declared.info.ModelInfo.{ModelInfo}
use Rattle.ob_schema.specs.declared.info.ParentInfo.{ParentInfo}

pub loop-parent-init : goal.loop-parent-init
loop-parent-init g c = record {
  same = stays-none _ _;
  count = search rules;
  lender = refl;
  told = λ tables rests. sym (append-nil c.args.rows.now.items);
  known = λ told tells known. known;
  models = λ ms parents rows. rows;
}

pub push_parent-requires-clause-within : goal.push_parent-requires-clause-within
push_parent-requires-clause-within g c =
    subst (λ (ms : List ModelInfo). IsParentIn ms c.args.model (get_or c.args.parents.now c.loop-parent.parent-index no_parent)) (sym c.loop-parent.invariant.same.models)
    (c.requires.within c.loop-parent.parent-index no_parent c.loop-parent-test.true)

pub push_parent-requires-clause-typed : goal.push_parent-requires-clause-typed
push_parent-requires-clause-typed g c = subst (λ (ms : List ModelInfo). All (IsTyped ms c.args.model) c.args.given.now) (sym c.loop-parent.invariant.same.models) c.requires.typed

pub push_parent-requires-clause-rest : goal.push_parent-requires-clause-rest
push_parent-requires-clause-rest g c = c.loop-parent.invariant.same.phase_is ∙ c.requires.rest

pub loop-parent-preserved : goal.loop-parent-preserved
loop-parent-preserved g c =
    let models = c.args.engine.now.held.models in
    let i = c.loop-parent.parent-index in let parents = c.args.parents.now in
    let so_far = c.loop-parent.invariant in
    let parent = get_or parents i no_parent in
    record {
      same = stays-then _ _ _ _ _ _ so_far.same c.push_parent.ensures.same;
      count = search rules;
      lender = search rules;
      told = λ tables rests.
          let row = parent_row models c.args.model c.args.given.now tables c.args.id in
          c.in_ok-push_parent.ensures.told tables (stays-rests _ _ _ _ so_far.same tables rests)
          ∙ ap (λ (ms : List ModelInfo). c.loop-parent.rows.items ++ option_to_list (parent_row ms c.args.model c.args.given.now tables c.args.id parent)) so_far.same.models
          ∙ ap (λ (rs : List RowKey). rs ++ option_to_list (row parent)) (so_far.told tables rests) ∙ chosen-more row c.args.rows.now.items parents i no_parent c.loop-parent-test.true;
      known = λ told tells before. c.in_ok-push_parent.ensures.known told (tells.0, so_far.same.stands tells.0 tells.1, tells.2, tells.3) (so_far.known told tells before);
      models = λ ms of rows. c.in_ok-push_parent.ensures.models ms (of i no_parent c.loop-parent-test.true) (so_far.models ms of rows);
    }

pub returns-clause-told : goal.returns-clause-told
returns-clause-told g c = λ tables rests.
    let row = parent_row c.args.engine.now.held.models c.args.model c.args.given.now tables c.args.id in
    c.loop-parent.invariant.told tables rests
    ∙ ap (λ (ps : List ParentInfo). c.args.rows.now.items ++ filter_map row ps) (take_all c.loop-parent.parent-index c.args.parents.now c.loop-parent-test.false)

pub returns-in_err-push_parent-clause-same : goal.returns-in_err-push_parent-clause-same
returns-in_err-push_parent-clause-same g c = stays-then _ _ _ _ _ _ c.loop-parent.invariant.same c.push_parent.ensures.same
