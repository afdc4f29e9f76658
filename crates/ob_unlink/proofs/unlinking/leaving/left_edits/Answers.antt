-- One cell more.
use Rattle.std.proofs.Common.{◌≡◌, ◌++◌, ◌∷◌, [], List, ap, get_or, refl, rules, subst, sym, ◌∙◌}
use Rattle.std.specs.Prelude.{All}
use Rattle.std.proofs.lemmas.List.{take_all}
use Rattle.std.proofs.lemmas.List.Elements.{All-nil}
use Rattle.ob_base.specs.declared.id.Cell.{Cell}
use Rattle.ob_cache.proofs.CallerLemmas.{stays-then}
use Rattle.ob_rows.proofs.CallerLemmas.{stays-none, stays-rests}
use Rattle.ob_unlink.proofs.LeftEdits.{edits-more, edits_for}
use Rattle.ob_unlink.specs.DeletionSteps.{IsFitCell, IsMakingNone}
use Rattle.ob_rows.specs.RowSets.{has_key}
use Rattle.ob_unlink.proofs.unlinking.leaving.left_edits.Goals as goal
use Rattle.ob_schema.specs.declared.info.ModelInfo.{ModelInfo}
use Rattle.ob_tables.specs.declared.edit.Edit.{Edit}

abbrev none : Cell
none = record { model = record { 0 = 0 }; id = record { 0 = 0 }; field = record { 0 = 0 } }

pub loop-cell-init : goal.loop-cell-init
loop-cell-init g c = record {
  told = λ tables rests all. c.new-edits.ensures.items;
  fit = subst (All (IsMakingNone c.args.engine.now.held.models)) (sym c.new-edits.ensures.items) (All-nil (IsMakingNone c.args.engine.now.held.models));
  same = stays-none _ _;
  count = search rules;
  lender = refl;
}

pub push_left-requires-clause-field : goal.push_left-requires-clause-field
push_left-requires-clause-field g c =
    subst (λ (ms : List ModelInfo). IsFitCell ms (get_or c.args.cells.now c.loop-cell.cell-index none)) (sym c.loop-cell.invariant.same.models) (c.requires.fields c.loop-cell.cell-index none c.loop-cell-test.true)

pub push_left-requires-clause-rest : goal.push_left-requires-clause-rest
push_left-requires-clause-rest g c = c.loop-cell.invariant.same.phase_is ∙ c.requires.rest

pub loop-cell-preserved : goal.loop-cell-preserved
loop-cell-preserved g c =
    let models = c.args.engine.now.held.models in
    let i = c.loop-cell.cell-index in let cells = c.args.cells.now in let cell = get_or cells i none in
    let gone = has_key c.args.rows.now in
    let so_far = c.loop-cell.invariant in
    let old = c.loop-cell.edits.items in let new = c.push_left.new.edits.items in
    record {
      told = λ tables rests all.
          subst (λ (ms : List ModelInfo). new ≡ old ++ edits_for ms gone tables (cell ∷ [])) so_far.same.models
          (c.in_ok-push_left.ensures.told tables (stays-rests _ _ _ _ so_far.same tables rests) (all i none c.loop-cell-test.true))
          ∙ ap (λ (es : List Edit). es ++ edits_for models gone tables (cell ∷ [])) (so_far.told tables rests all) ∙ sym (edits-more models gone tables cells i none c.loop-cell-test.true);
      fit = subst (λ (ms : List ModelInfo). All (IsMakingNone ms) old → All (IsMakingNone ms) new) so_far.same.models c.in_ok-push_left.ensures.fit so_far.fit;
      same = stays-then _ _ _ _ _ _ so_far.same c.push_left.ensures.same;
      count = search rules;
      lender = search rules;
    }

pub returns-clause-told : goal.returns-clause-told
returns-clause-told g c = λ tables rests all.
    c.loop-cell.invariant.told tables rests all
    ∙ ap (edits_for c.args.engine.now.held.models (has_key c.args.rows.now) tables) (take_all c.loop-cell.cell-index c.args.cells.now c.loop-cell-test.false)

pub returns-in_err-push_left-clause-same : goal.returns-in_err-push_left-clause-same
returns-in_err-push_left-clause-same g c = stays-then _ _ _ _ _ _ c.loop-cell.invariant.same c.push_left.ensures.same
