-- One row more of which all is known.
use Rattle.std.proofs.Common.{◌≡◌, ◌+◌, ◌∷◌, [], List, refl, rules, length, length-append, ap, subst, sym, ◌∙◌, arith}
use Rattle.std.specs.Prelude.{All, Contains}
use Rattle.std.proofs.lemmas.List.{nil_from_length}
use Rattle.ob_base.specs.declared.id.RowKey.{RowKey}
use Rattle.ob_cache.proofs.CallerLemmas.{stays-then}
use Rattle.ob_rows.proofs.CallerLemmas.{all_among, no_row, stays-none, stays-rests}
use Rattle.ob_unlink.proofs.FoundRows.{named-fit, named-row}
use Rattle.ob_unlink.proofs.NamingRows.{leads-all, takes-all}
use Rattle.ob_unlink.proofs.Searched.{begun, ended, searched}
use Rattle.ob_unlink.proofs.TakenRows.{adds-as, takes-as}
use Rattle.ob_unlink.specs.DeletionSteps.{AreFit, TakesMore}
use Rattle.ob_rows.specs.Relations.{IsRelation}
use Rattle.ob_rows.specs.Rights.{rows_named}
use Rattle.ob_unlink.proofs.unlinking.deletion.search.Goals as goal
use Rattle.ob_schema.specs.declared.info.ModelInfo.{ModelInfo}

pub loop-row-init : goal.loop-row-init
loop-row-init g c =
    let models = c.args.engine.now.held.models in
    let some = rows_named c.args.model c.args.ids.now in
    let takes = subst (λ (l : List RowKey). TakesMore c.new-rows.result c.take_named.new.rows l c.take_named.new.waiting.items (Contains some)) c.new-waiting.ensures.items c.in_ok-take_named.ensures.rows in
    record {
      told = λ tables rests. begun models tables some c.new-rows.result c.take_named.new.rows c.new-cells.result c.take_named.new.waiting.items c.new-rows.ensures.empty c.new-cells.ensures.empty takes;
      fit = named-fit models c.new-rows.result c.take_named.new.rows c.new-cells.result (Contains some) [] c.take_named.new.waiting.items takes (λ row. no_row c.new-rows.result row c.new-rows.ensures.empty)
          c.new-cells.ensures.empty (named-row models c.args.model c.args.ids.now c.requires.model c.requires.low);
      same = stays-none _ _;
      count = search rules;
      lender = refl;
    }

pub add_holders-requires-clause-relations : goal.add_holders-requires-clause-relations
add_holders-requires-clause-relations g c =
    subst (λ (ms : List ModelInfo). All (IsRelation ms) c.args.relations.now) (sym c.loop-row.invariant.same.models)
    (all_among (IsRelation c.args.engine.now.held.models) c.args.relations.now (λ r among. (c.requires.relations r).0 among))

pub add_holders-requires-clause-rest : goal.add_holders-requires-clause-rest
add_holders-requires-clause-rest g c = c.loop-row.invariant.same.phase_is ∙ c.requires.rest

pub loop-row-preserved : goal.loop-row-preserved
loop-row-preserved g c =
    let models = c.args.engine.now.held.models in
    let some = rows_named c.args.model c.args.ids.now in
    let so_far = c.loop-row.invariant in
    let row = c.in-Some.row in
    let relations = c.args.relations.now in
    record {
      told = λ tables rests.
          let later = stays-rests _ _ _ _ so_far.same tables rests in
          searched models tables some c.loop-row.rows c.add_holders.new.rows c.loop-row.cells c.add_holders.new.cells c.loop-row.waiting.items c.pop.new.self.items c.add_holders.new.waiting.items row
          (so_far.told tables rests) c.in-Some.ensures.items
          (takes-as _ _ _ _ _ _ (c.in_ok-add_holders.ensures.rows tables later) (takes-all models tables relations c.requires.relations row))
          (adds-as _ _ _ _ (c.in_ok-add_holders.ensures.cells tables later) (leads-all models tables relations c.requires.relations row));
      fit = subst (λ (ms : List ModelInfo). AreFit ms c.loop-row.rows c.loop-row.cells → AreFit ms c.add_holders.new.rows c.add_holders.new.cells) so_far.same.models c.in_ok-add_holders.ensures.fit so_far.fit;
      same = stays-then _ _ _ _ _ _ so_far.same c.add_holders.ensures.same;
      count = search rules;
      lender = search rules;
    }

pub loop-row-smaller : goal.loop-row-smaller
loop-row-smaller g c =
    let one : length c.loop-row.waiting.items ≡ length c.pop.new.self.items + length (c.in-Some.row ∷ []) = ap length c.in-Some.ensures.items ∙ length-append c.pop.new.self.items (c.in-Some.row ∷ []) in
    omega (arith, one, c.in_ok-add_holders.ensures.kept_count.0, c.in_ok-add_holders.ensures.kept_count.1, c.len.ensures.len, c.len.ensures.small)

pub returns-clause-told : goal.returns-clause-told
returns-clause-told g c = λ tables rests.
    let none = nil_from_length c.loop-row.waiting.items (omega (arith, c.in_default.ensures.cases.0, c.loop-row.waiting.ok.0)) in
    ended c.args.engine.now.held.models tables (rows_named c.args.model c.args.ids.now) c.loop-row.rows c.loop-row.cells c.loop-row.waiting.items (c.loop-row.invariant.told tables rests) none

pub returns-clause-fit : goal.returns-clause-fit
returns-clause-fit g c = c.loop-row.invariant.fit

pub returns-in_err-add_holders-clause-same : goal.returns-in_err-add_holders-clause-same
returns-in_err-add_holders-clause-same g c = stays-then _ _ _ _ _ _ c.loop-row.invariant.same c.add_holders.ensures.same
