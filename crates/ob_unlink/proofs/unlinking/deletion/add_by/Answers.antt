-- The rows that name one by a relation, and their cells.
use Rattle.std.proofs.Common.{subst, sym, ◌∙◌}
use Rattle.std.specs.Prelude.{All}
use Rattle.ob_rows.proofs.CallerLemmas.{both_ways}
use Rattle.ob_unlink.proofs.FoundRows.{found-cells, found-fit, found-rows, kept-relation}
use Rattle.ob_unlink.proofs.TakenRows.{adds-as, adds-none, takes-as, takes-none}
use Rattle.ob_unlink.proofs.unlinking.deletion.add_by.Goals as goal
use Rattle.ob_schema.specs.Models.{IsRegistry}
use Rattle.ob_tables.specs.Fitting.{IsFitId}

pub returns-then-not-leads_to-clause-rows : goal.returns-then-not-leads_to-clause-rows
returns-then-not-leads_to-clause-rows g c = λ tables rests. takes-none _ _ _ (λ other by. both_ways c.leads_to.result (c.leads_to.ensures.1 by.1) c.if-not-leads_to.true)

pub returns-then-not-leads_to-clause-cells : goal.returns-then-not-leads_to-clause-cells
returns-then-not-leads_to-clause-cells g c = λ tables rests. adds-none _ _ (λ cell by. both_ways c.leads_to.result (c.leads_to.ensures.1 by.0) c.if-not-leads_to.true)

pub holders-requires-clause-relation : goal.holders-requires-clause-relation
holders-requires-clause-relation g c =
    kept-relation c.args.engine.now.held.models (subst IsRegistry c.schema.ensures c.parts_fit_together.ensures) c.args.relation c.requires.relation

pub returns-clause-rows : goal.returns-clause-rows
returns-clause-rows g c = λ tables rests.
    takes-as _ _ _ _ _ _ c.in_ok-add_found.ensures.rows
    (found-rows tables c.args.relation c.args.row (c.leads_to.ensures.0 c.if-not-leads_to.false) c.as_slice.result.now (c.as_slice.ensures.same ∙ c.in_ok-ids.ensures.told tables rests))

pub returns-clause-cells : goal.returns-clause-cells
returns-clause-cells g c = λ tables rests.
    adds-as _ _ _ _ c.in_ok-add_found.ensures.cells
    (found-cells tables c.args.relation c.args.row (c.leads_to.ensures.0 c.if-not-leads_to.false) c.as_slice.result.now (c.as_slice.ensures.same ∙ c.in_ok-ids.ensures.told tables rests))

pub returns-clause-fit : goal.returns-clause-fit
returns-clause-fit g c =
    found-fit c.args.engine.now.held.models (subst IsRegistry c.schema.ensures c.parts_fit_together.ensures) c.args.relation c.requires.relation c.as_slice.result.now
    (subst (All IsFitId) (sym c.as_slice.ensures.same) c.in_ok-ids.ensures.fit) c.args.rows.now c.add_found.new.rows c.args.cells.now c.add_found.new.cells c.args.waiting.now.items c.add_found.new.waiting.items
    c.in_ok-add_found.ensures.rows c.in_ok-add_found.ensures.cells
