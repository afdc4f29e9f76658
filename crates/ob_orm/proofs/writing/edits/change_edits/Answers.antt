-- One row more.
use Rattle.std.proofs.Common.{◌≤◌, ◌++◌, [], ℕ, List, ap, get_or, refl, rules, subst, sym, ◌∙◌}
use Rattle.std.specs.List.{flat_map}
use Rattle.std.specs.Prelude.{All}
use Rattle.std.proofs.lemmas.List.{take_all}
use Rattle.std.proofs.lemmas.List.Elements.{All-nil}
use Rattle.ob_base.specs.Limits.{max_id}
use Rattle.ob_cache.proofs.CallerLemmas.{stays-then}
use Rattle.ob_rows.proofs.CallerLemmas.{stays-none, stays-rests}
use Rattle.ob_orm.proofs.WriteEdits.{flat-more}
use Rattle.ob_orm.specs.NewRows.{Values}
use Rattle.ob_orm.specs.NewRowSteps.{IsTyped}
use Rattle.ob_orm.specs.Write.{edits_of_row}
use Rattle.ob_orm.specs.WriteSteps.{SetsFit}
use Rattle.ob_orm.proofs.writing.edits.change_edits.Goals as goal
use Rattle.ob_tables.specs.declared.edit.Edit.{Edit}

pub loop-id-init : goal.loop-id-init
loop-id-init g c = record {
  same = stays-none _ _;
  count = search rules;
  lender = refl;
  told = λ tables rests. c.new-edits.ensures.items;
  fit = subst (All (SetsFit c.args.maker.now.schema.now)) (sym c.new-edits.ensures.items) (All-nil (SetsFit c.args.maker.now.schema.now));
}

pub push_row-requires-clause-schema : goal.push_row-requires-clause-schema
push_row-requires-clause-schema g c = c.loop-id.invariant.same.models ∙ c.requires.schema

pub push_row-requires-clause-typed : goal.push_row-requires-clause-typed
push_row-requires-clause-typed g c = subst (λ (vs : Values). All (IsTyped c.args.maker.now.schema.now c.args.model) vs) (sym c.as_slice-given.ensures) c.requires.typed

pub push_row-requires-clause-low : goal.push_row-requires-clause-low
push_row-requires-clause-low g c = subst (λ (xs : List ℕ). All (λ id. id ≤ max_id) xs) (sym c.as_slice-ids.ensures.value) c.requires.low c.loop-id.id-index 0 c.loop-id-test.true

pub push_row-requires-clause-rest : goal.push_row-requires-clause-rest
push_row-requires-clause-rest g c = c.loop-id.invariant.same.phase_is ∙ c.requires.rest

pub loop-id-preserved : goal.loop-id-preserved
loop-id-preserved g c =
    let models = c.args.maker.now.schema.now in let by = c.args.maker.now.author in
    let i = c.loop-id.id-index in let ids = c.as_slice-ids.result.now in
    let given = c.as_slice-given.result.now in
    let so_far = c.loop-id.invariant in
    record {
      same = stays-then _ _ _ _ _ _ so_far.same c.push_row.ensures.same;
      count = search rules;
      lender = search rules;
      told = λ tables rests.
          let row = edits_of_row models by c.args.model tables given in
          c.in_ok-push_row.ensures.told tables (stays-rests _ _ _ _ so_far.same tables rests)
          ∙ ap (λ (es : List Edit). es ++ row (get_or ids i 0)) (so_far.told tables rests) ∙ flat-more row [] ids i 0 c.loop-id-test.true;
      fit = c.in_ok-push_row.ensures.fit so_far.fit;
    }

pub returns-clause-told : goal.returns-clause-told
returns-clause-told g c = λ tables rests.
    let models = c.args.maker.now.schema.now in let by = c.args.maker.now.author in
    c.loop-id.invariant.told tables rests
    ∙ ap (flat_map (edits_of_row models by c.args.model tables c.as_slice-given.result.now)) (take_all c.loop-id.id-index c.as_slice-ids.result.now c.loop-id-test.false)
    ∙ ap (flat_map (edits_of_row models by c.args.model tables c.as_slice-given.result.now)) c.as_slice-ids.ensures.value
    ∙ ap (λ (vs : Values). flat_map (edits_of_row models by c.args.model tables vs) c.args.change.now.ids.items) c.as_slice-given.ensures

pub returns-in_err-push_row-clause-same : goal.returns-in_err-push_row-clause-same
returns-in_err-push_row-clause-same g c = stays-then _ _ _ _ _ _ c.loop-id.invariant.same c.push_row.ensures.same
