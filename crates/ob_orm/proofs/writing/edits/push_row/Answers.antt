-- The row's own edits, then those of one parent more.
use Rattle.std.proofs.Common.{◌≡◌, ◌++◌, [], List, Option, ap, append-nil, append_assoc, false, get_or, refl, rules, sym, arith, ◌∙◌}
use Rattle.std.specs.List.{flat_map}
use Rattle.std.specs.Option.{option_map_or}
use Rattle.std.proofs.lemmas.List.{take_all}
use Rattle.ob_cache.proofs.CallerLemmas.{stays-then}
use Rattle.ob_rows.proofs.CallerLemmas.{stays-none, stays-rests}
use Rattle.ob_orm.proofs.WriteEdits.{flat-more}
use Rattle.ob_orm.specs.NewRows.{filled, parents_of, row_edits}
use Rattle.ob_orm.specs.Write.{parent_edits}
use Rattle.ob_orm.proofs.writing.edits.push_row.Goals as goal
use Rattle.ob_schema.specs.declared.info.ModelInfo.{ModelInfo}
use Rattle.ob_schema.specs.declared.info.ParentInfo.{ParentInfo}
use Rattle.ob_tables.specs.declared.edit.Edit.{Edit}

abbrev none : ParentInfo
none = record { link = record { 0 = 0 }; model = record { 0 = 0 } }

pub push_filled-requires-clause-low : goal.push_filled-requires-clause-low
push_filled-requires-clause-low g c = let low = c.requires.low in omega (arith, low)

pub loop-parent-init : goal.loop-parent-init
loop-parent-init g c = record {
  same = stays-none _ _;
  count = search rules;
  lender = refl;
  told = λ tables rests. c.in-Ok.ensures.edits ∙ sym (append-nil _);
  fit = c.in-Ok.ensures.fit;
}

pub push_parent-requires-clause-schema : goal.push_parent-requires-clause-schema
push_parent-requires-clause-schema g c = c.loop-parent.invariant.same.models ∙ c.requires.schema

pub push_parent-requires-clause-rest : goal.push_parent-requires-clause-rest
push_parent-requires-clause-rest g c = c.loop-parent.invariant.same.phase_is ∙ c.requires.rest

pub loop-parent-preserved : goal.loop-parent-preserved
loop-parent-preserved g c =
    let models = c.args.maker.now.schema.now in let by = c.args.maker.now.author in
    let model = c.args.model in let given = c.args.given.now in
    let i = c.loop-parent.parent-index in let parents = c.as_slice-parents.result.now in
    let so_far = c.loop-parent.invariant in
    let own = c.args.edits.now.items ++ row_edits model (filled models by false model given) c.args.id in
    record {
      same = stays-then _ _ _ _ _ _ so_far.same c.push_parent.ensures.same;
      count = search rules;
      lender = search rules;
      told = λ tables rests.
          let sets = parent_edits models by model tables given c.args.id in
          c.in_ok-push_parent.ensures.told tables (stays-rests _ _ _ _ so_far.same tables rests)
          ∙ ap (λ (es : List Edit). es ++ sets (get_or parents i none)) (so_far.told tables rests) ∙ flat-more sets own parents i none c.loop-parent-test.true;
      fit = λ before. c.in_ok-push_parent.ensures.fit (so_far.fit before);
    }

pub returns-clause-told : goal.returns-clause-told
returns-clause-told g c = λ tables rests.
    let models = c.args.maker.now.schema.now in let by = c.args.maker.now.author in
    let model = c.args.model in let given = c.args.given.now in
    let sets = parent_edits models by model tables given c.args.id in
    let own = row_edits model (filled models by false model given) c.args.id in
    let parents : c.as_slice-parents.result.now ≡ parents_of models model =
    c.as_slice-parents.ensures ∙ sym (ap (λ (o : Option ModelInfo). option_map_or (λ info. info.inherits) o []) c.model_info.ensures.at) in
    c.loop-parent.invariant.told tables rests
    ∙ ap (λ (ps : List ParentInfo). (c.args.edits.now.items ++ own) ++ flat_map sets ps) (take_all c.loop-parent.parent-index c.as_slice-parents.result.now c.loop-parent-test.false)
    ∙ append_assoc c.args.edits.now.items own (flat_map sets c.as_slice-parents.result.now)
    ∙ ap (λ (ps : List ParentInfo). c.args.edits.now.items ++ (own ++ flat_map sets ps)) parents

pub returns-in_err-push_parent-clause-same : goal.returns-in_err-push_parent-clause-same
returns-in_err-push_parent-clause-same g c = stays-then _ _ _ _ _ _ c.loop-parent.invariant.same c.push_parent.ensures.same
