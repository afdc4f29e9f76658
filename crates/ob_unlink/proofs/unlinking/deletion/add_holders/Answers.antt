-- One relation more.
use Rattle.std.proofs.Common.{List, get_or, refl, rules, subst, sym, ◌∙◌, false}
use Rattle.std.specs.Prelude.{Any}
use Rattle.std.proofs.lemmas.List.{take_all}
use Rattle.ob_cache.proofs.CallerLemmas.{stays-then}
use Rattle.ob_rows.proofs.CallerLemmas.{any_more, stays-none, stays-rests}
use Rattle.ob_unlink.proofs.TakenRows.{adds-as, adds-none, adds-then, counts-none, counts-then, takes-as, takes-none, takes-then}
use Rattle.ob_unlink.specs.DeletionSteps.{AddsCells, AreFit, LeadsBy, TakesBy, TakesMore}
use Rattle.ob_rows.specs.Relations.{IsRelation}
use Rattle.ob_rows.specs.declared.relations.KeptRelation.{KeptRelation}
use Rattle.ob_unlink.proofs.unlinking.deletion.add_holders.Goals as goal
use Rattle.ob_schema.proofs.CallerLemmas.{Any-none}
use Rattle.ob_schema.specs.declared.info.ModelInfo.{ModelInfo}

abbrev none : KeptRelation
none = record { model = record { 0 = 0 }; field = record { 0 = 0 }; target = record { 0 = 0 }; cascades = false }

pub loop-relation-init : goal.loop-relation-init
loop-relation-init g c = record {
  rows = λ tables rests. takes-none _ _ _ (λ other any. Any-none (λ (r : KeptRelation). TakesBy tables r c.args.row other) any);
  cells = λ tables rests. adds-none _ _ (λ cell any. Any-none (λ (r : KeptRelation). LeadsBy tables r c.args.row cell) any);
  kept_count = counts-none _ _;
  fit = λ fits. fits;
  same = stays-none _ _;
  count = search rules;
  lender = refl;
}

pub add_by-requires-clause-relation : goal.add_by-requires-clause-relation
add_by-requires-clause-relation g c =
    subst (λ (ms : List ModelInfo). IsRelation ms (get_or c.args.relations.now c.loop-relation.relation-index none)) (sym c.loop-relation.invariant.same.models)
    (c.requires.relations c.loop-relation.relation-index none c.loop-relation-test.true)

pub add_by-requires-clause-rest : goal.add_by-requires-clause-rest
add_by-requires-clause-rest g c = c.loop-relation.invariant.same.phase_is ∙ c.requires.rest

pub loop-relation-preserved : goal.loop-relation-preserved
loop-relation-preserved g c =
    let i = c.loop-relation.relation-index in let relations = c.args.relations.now in
    let so_far = c.loop-relation.invariant in
    record {
      rows = λ tables rests.
          takes-as _ _ _ _ _ _ (takes-then _ _ _ _ _ _ _ _ (so_far.rows tables rests) (c.in_ok-add_by.ensures.rows tables (stays-rests _ _ _ _ so_far.same tables rests)))
          (λ other. any_more (λ (r : KeptRelation). TakesBy tables r c.args.row other) relations i none c.loop-relation-test.true);
      cells = λ tables rests.
          adds-as _ _ _ _ (adds-then _ _ _ _ _ (so_far.cells tables rests) (c.in_ok-add_by.ensures.cells tables (stays-rests _ _ _ _ so_far.same tables rests)))
          (λ cell. any_more (λ (r : KeptRelation). LeadsBy tables r c.args.row cell) relations i none c.loop-relation-test.true);
      kept_count = counts-then _ _ _ _ _ _ so_far.kept_count c.in_ok-add_by.ensures.kept_count;
      fit = λ fits.
          subst (λ (ms : List ModelInfo). AreFit ms c.loop-relation.rows c.loop-relation.cells → AreFit ms c.add_by.new.rows c.add_by.new.cells) so_far.same.models c.in_ok-add_by.ensures.fit (so_far.fit fits);
      same = stays-then _ _ _ _ _ _ so_far.same c.add_by.ensures.same;
      count = search rules;
      lender = search rules;
    }

pub returns-clause-rows : goal.returns-clause-rows
returns-clause-rows g c = λ tables rests.
    subst (λ (l : List KeptRelation). TakesMore c.args.rows.now c.loop-relation.rows c.args.waiting.now.items c.loop-relation.waiting.items (λ other. Any (λ r. TakesBy tables r c.args.row other) l))
    (take_all c.loop-relation.relation-index c.args.relations.now c.loop-relation-test.false) (c.loop-relation.invariant.rows tables rests)

pub returns-clause-cells : goal.returns-clause-cells
returns-clause-cells g c = λ tables rests.
    subst (λ (l : List KeptRelation). AddsCells c.args.cells.now c.loop-relation.cells (λ cell. Any (λ r. LeadsBy tables r c.args.row cell) l))
    (take_all c.loop-relation.relation-index c.args.relations.now c.loop-relation-test.false) (c.loop-relation.invariant.cells tables rests)

pub returns-in_err-add_by-clause-same : goal.returns-in_err-add_by-clause-same
returns-in_err-add_by-clause-same g c = stays-then _ _ _ _ _ _ c.loop-relation.invariant.same c.add_by.ensures.same
