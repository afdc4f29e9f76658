-- The edits of one parent more.
use Rattle.std.proofs.Common.{◌++◌, List, ap, false, get_or, rules, take, ◌∙◌}
use Rattle.std.specs.List.{flat_map}
use Rattle.ob_cache.proofs.CallerLemmas.{stays-then}
use Rattle.ob_orm.proofs.CallerLemmas.{flat-more}
use Rattle.ob_orm.specs.NewRows.{filled, row_edits}
use Rattle.ob_orm.specs.Write.{parent_edits}
use Rattle.ob_schema.specs.declared.info.ParentInfo.{ParentInfo}
use Rattle.ob_stage.proofs.ChangedRows.{same-then}
use Rattle.ob_stage.proofs.changing.change_row.Goals as goal
use Rattle.ob_tables.specs.After.{after}
use Rattle.ob_tables.specs.declared.edit.Edit.{Edit}

abbrev none : ParentInfo
none = record { link = record { 0 = 0 }; model = record { 0 = 0 } }

pub returns-in_err-push_parent-clause-same : goal.returns-in_err-push_parent-clause-same
returns-in_err-push_parent-clause-same g c = stays-then _ _ _ _ _ _ c.loop-parent.invariant.same c.push_parent.ensures.same

pub loop-parent-preserved : goal.loop-parent-preserved
loop-parent-preserved g c =
    let models = c.args.maker.now.schema.now in let by = c.args.maker.now.author in
    let model = c.args.model in let given = c.args.given.now in
    let i = c.loop-parent.parent-index in let parents = c.as_slice-parents.result.now in
    let so_far = c.loop-parent.invariant in
    let own = row_edits model (filled models by false model given) c.args.id.0 in
    record {
      told = λ at is.
          let sets = parent_edits models by model at.staged given c.args.id.0 in
          c.in_ok-push_parent.ensures.told at (so_far.same.stands at is)
          ∙ same-then models at.staged c.loop-parent.edits.items (own ++ flat_map sets (take i parents)) (sets (get_or parents i none)) (so_far.told at is)
          ∙ ap (λ (es : List Edit). after models at.staged es) (flat-more sets own parents i none c.loop-parent-test.true);
      fit = c.in_ok-push_parent.ensures.fit;
      same = stays-then _ _ _ _ _ _ so_far.same c.push_parent.ensures.same;
      count = search rules;
      lender = search rules;
    }
