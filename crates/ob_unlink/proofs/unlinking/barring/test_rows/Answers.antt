-- One row more.
use Rattle.std.proofs.Common.{List, get_or, refl, rules, subst, sym, ◌∙◌}
use Rattle.std.specs.Prelude.{All, Any}
use Rattle.std.proofs.lemmas.List.{take_all}
use Rattle.std.proofs.lemmas.List.Elements.{All-more, All-nil, Contains-get_or}
use Rattle.std.proofs.lemmas.Result.{err_from_is_err_and}
use Rattle.ob_base.specs.declared.id.RowKey.{RowKey}
use Rattle.ob_base.specs.declared.refusal.Refusal.{Refusal}
use Rattle.ob_cache.proofs.CallerLemmas.{stays-then}
use Rattle.ob_rows.proofs.CallerLemmas.{any_is, refused_later, stays-none, stays-rests}
use Rattle.ob_rows.specs.Settling.{BreaksField}
use Rattle.ob_unlink.specs.DeletionSteps.{BarsRow, MayGo}
use Rattle.ob_unlink.proofs.unlinking.barring.test_rows.Goals as goal
use Rattle.ob_schema.specs.Models.{HasModel}
use Rattle.ob_schema.specs.declared.info.ModelInfo.{ModelInfo}

abbrev none : RowKey
none = record { model = record { 0 = 0 }; id = record { 0 = 0 } }

pub loop-row-init : goal.loop-row-init
loop-row-init g c = record {
  ok = λ tables rests all. All-nil (MayGo c.args.engine.now.held.models tables);
  same = stays-none _ _;
  count = search rules;
  lender = refl;
}

pub test_row-requires-clause-model : goal.test_row-requires-clause-model
test_row-requires-clause-model g c =
    subst (λ (ms : List ModelInfo). HasModel ms (get_or c.args.rows.now c.loop-row.row-index none).model) (sym c.loop-row.invariant.same.models) (c.requires.models c.loop-row.row-index none c.loop-row-test.true)

pub test_row-requires-clause-rest : goal.test_row-requires-clause-rest
test_row-requires-clause-rest g c = c.loop-row.invariant.same.phase_is ∙ c.requires.rest

pub loop-row-preserved : goal.loop-row-preserved
loop-row-preserved g c =
    let i = c.loop-row.row-index in let rows = c.args.rows.now in let row = get_or rows i none in
    let so_far = c.loop-row.invariant in
    record {
      ok = λ tables rests all.
          All-more (MayGo c.args.engine.now.held.models tables) rows i none c.loop-row-test.true (so_far.ok tables rests all)
          (subst (λ (ms : List ModelInfo). MayGo ms tables row) so_far.same.models (c.in_ok-test_row.ensures.ok tables (stays-rests _ _ _ _ so_far.same tables rests) (all i none c.loop-row-test.true)));
      same = stays-then _ _ _ _ _ _ so_far.same c.test_row.ensures.same;
      count = search rules;
      lender = search rules;
    }

pub returns-clause-ok : goal.returns-clause-ok
returns-clause-ok g c = λ tables rests all.
    subst (All (MayGo c.args.engine.now.held.models tables)) (take_all c.loop-row.row-index c.args.rows.now c.loop-row-test.false) (c.loop-row.invariant.ok tables rests all)

pub returns-in_err-test_row-clause-refused : goal.returns-in_err-test_row-clause-refused
returns-in_err-test_row-clause-refused g c =
    let p = err_from_is_err_and c.from_residual.result c.from_residual.ensures.1 in
    let i = c.loop-row.row-index in let rows = c.args.rows.now in let row = get_or rows i none in
    let so_far = c.loop-row.invariant in
    let models = c.args.engine.now.held.models in
    rw (p.1, p.2) (λ tables rests all.
    refused_later _ _ _ so_far.count _ (λ (w : Refusal). Any (λ (r : RowKey). BarsRow models tables r w) rows) c.in_err-test_row.field-0.0
    (λ w bars. any_is (λ (r : RowKey). BarsRow models tables r w) rows row (Contains-get_or rows i none c.loop-row-test.true) (subst (λ (ms : List ModelInfo). BarsRow ms tables row w) so_far.same.models bars))
    (c.in_err-test_row.ensures.refused tables (stays-rests _ _ _ _ so_far.same tables rests) (all i none c.loop-row-test.true)))

pub returns-in_err-test_row-clause-causes : goal.returns-in_err-test_row-clause-causes
returns-in_err-test_row-clause-causes g c =
    let p = err_from_is_err_and c.from_residual.result c.from_residual.ensures.1 in
    let so_far = c.loop-row.invariant in
    rw (p.1, p.2)
    (refused_later _ _ _ so_far.count _ (BreaksField c.args.engine.now.held.models) c.in_err-test_row.field-0.0 (λ w breaks. subst (λ (ms : List ModelInfo). BreaksField ms w) so_far.same.models breaks)
    c.in_err-test_row.ensures.causes)

pub returns-in_err-test_row-clause-same : goal.returns-in_err-test_row-clause-same
returns-in_err-test_row-clause-same g c = stays-then _ _ _ _ _ _ c.loop-row.invariant.same c.test_row.ensures.same
