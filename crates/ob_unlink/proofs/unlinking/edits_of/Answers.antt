-- The rows may go; the edits of the cells; the rows that are taken out.
use Rattle.std.proofs.Common.{◌≡◌, ◌++◌, List, ap, map, subst, sym, ◌∙◌}
use Rattle.std.specs.Prelude.{All, Any, IsSome}
use Rattle.std.proofs.lemmas.List.Elements.{All-append}
use Rattle.std.proofs.lemmas.Result.{err_from_is_err_and}
use Rattle.ob_base.specs.declared.id.Cell.{Cell}
use Rattle.ob_base.specs.declared.id.RowKey.{RowKey}
use Rattle.ob_base.specs.declared.refusal.Refusal.{Refusal}
use Rattle.ob_cache.proofs.CallerLemmas.{Refuses-weaker, stays-then}
use Rattle.ob_rows.proofs.CallerLemmas.{refused_later, stays-rests}
use Rattle.ob_unlink.proofs.Deleted.{all-kept, all-there, gone-fit, none-bars, restricts-bars, restricts-field, row-bars, rows-fit, rows-models}
use Rattle.ob_rows.specs.Settling.{BreaksField}
use Rattle.ob_unlink.specs.DeletionSteps.{AreFit, BarsRow, IsBarredBy, IsFitRow, IsMakingNone, IsRestricting, MayGo, RestrictsBy, gone_edits, left_edit, staying}
use Rattle.ob_rows.specs.RowSets.{has_key}
use Rattle.ob_unlink.proofs.unlinking.edits_of.Goals as goal
use Rattle.ob_schema.specs.Tables.{row_at}
use Rattle.ob_schema.specs.declared.info.ModelInfo.{ModelInfo}
use Rattle.ob_tables.specs.declared.edit.Edit.{Edit}

pub test_rows-requires-clause-models : goal.test_rows-requires-clause-models
test_rows-requires-clause-models g c = rw c.requires.listed (rows-models c.args.engine.now.held.models c.args.deletion.now.rows c.args.deletion.now.cells c.requires.fit)

pub cell_edits-requires-clause-fit : goal.cell_edits-requires-clause-fit
cell_edits-requires-clause-fit g c = subst (λ (ms : List ModelInfo). AreFit ms c.args.deletion.now.rows c.args.deletion.now.cells) (sym c.test_rows.ensures.same.models) c.requires.fit

pub cell_edits-requires-clause-rest : goal.cell_edits-requires-clause-rest
cell_edits-requires-clause-rest g c = c.test_rows.ensures.same.phase_is ∙ c.requires.rest

pub returns-clause-told : goal.returns-clause-told
returns-clause-told g c = λ tables rests covers.
    let models = c.args.engine.now.held.models in
    let rows = c.args.deletion.now.rows in let cells = c.args.deletion.now.cells in
    let gone = has_key rows in
    let same = c.test_rows.ensures.same in
    let listed = c.requires.listed in
    let there = subst (All (λ (row : RowKey). IsSome (row_at tables row.model row.id))) (sym listed) (all-there models tables rows cells covers) in
    let may = subst (All (MayGo models tables)) listed (c.in_ok-test_rows.ensures.ok tables rests there) in
    let free = subst (λ (ms : List ModelInfo). All (λ (cell : Cell). IsRestricting ms gone cell → ⊥) cells.keys) same.models c.in_ok-edits.ensures.free in
    let told = subst (λ (ms : List ModelInfo). c.in_ok-edits.edits.items ≡ map (left_edit ms gone tables) (staying gone cells.keys)) same.models
    (c.in_ok-edits.ensures.told tables (stays-rests _ _ _ _ same tables rests) (all-kept models tables rows cells covers)) in (
      none-bars models tables rows cells covers may free,
      c.in_ok-push_gone.ensures ∙ ap (λ (es : List Edit). es ++ gone_edits c.args.rows.now) told
          ∙ ap (λ (l : List RowKey). map (left_edit models gone tables) (staying gone cells.keys) ++ gone_edits l) listed,
    )

pub returns-clause-fit : goal.returns-clause-fit
returns-clause-fit g c =
    let models = c.args.engine.now.held.models in
    let own = subst (λ (ms : List ModelInfo). All (IsMakingNone ms) c.in_ok-edits.edits.items) c.test_rows.ensures.same.models c.in_ok-edits.ensures.fit in
    let rows = subst (All (IsFitRow models)) (sym c.requires.listed) (rows-fit models c.args.deletion.now.rows c.args.deletion.now.cells c.requires.fit) in
    rw c.in_ok-push_gone.ensures (All-append (IsMakingNone models) c.in_ok-edits.edits.items (gone_edits c.args.rows.now) own (gone-fit models c.args.rows.now rows))

pub returns-clause-same : goal.returns-clause-same
returns-clause-same g c = stays-then _ _ _ _ _ _ c.test_rows.ensures.same c.cell_edits.ensures.same

pub returns-in_err-test_rows-clause-refused : goal.returns-in_err-test_rows-clause-refused
returns-in_err-test_rows-clause-refused g c =
    let p = err_from_is_err_and c.from_residual.result c.from_residual.ensures.1 in
    let models = c.args.engine.now.held.models in
    let rows = c.args.deletion.now.rows in let cells = c.args.deletion.now.cells in
    rw (p.1, p.2) (λ tables rests covers.
    Refuses-weaker _ _ (λ (w : Refusal). Any (λ (row : RowKey). BarsRow models tables row w) c.args.rows.now) (IsBarredBy models tables rows) c.in_err-test_rows.field-0.0 (λ risen. risen)
    (λ w any. row-bars models tables rows cells covers w (subst (Any (λ (row : RowKey). BarsRow models tables row w)) c.requires.listed any))
    (c.in_err-test_rows.ensures.refused tables rests (subst (All (λ (row : RowKey). IsSome (row_at tables row.model row.id))) (sym c.requires.listed) (all-there models tables rows cells covers))))

pub returns-in_err-edits-clause-refused : goal.returns-in_err-edits-clause-refused
returns-in_err-edits-clause-refused g c =
    let p = err_from_is_err_and c.from_residual-in_err-edits.result c.from_residual-in_err-edits.ensures.1 in
    let models = c.args.engine.now.held.models in
    let rows = c.args.deletion.now.rows in let cells = c.args.deletion.now.cells in
    let same = c.test_rows.ensures.same in
    rw (p.1, p.2) (λ tables rests covers.
    refused_later _ _ _ c.test_rows.ensures.count _ (IsBarredBy models tables rows) c.in_err-edits.field-0.0
    (λ w h. restricts-bars models rows cells tables covers w (subst (λ (ms : List ModelInfo). RestrictsBy ms rows cells w) same.models h)) c.in_err-edits.ensures.refused)

pub returns-in_err-edits-clause-causes : goal.returns-in_err-edits-clause-causes
returns-in_err-edits-clause-causes g c =
    let p = err_from_is_err_and c.from_residual-in_err-edits.result c.from_residual-in_err-edits.ensures.1 in
    let models = c.args.engine.now.held.models in
    let rows = c.args.deletion.now.rows in let cells = c.args.deletion.now.cells in
    rw (p.1, p.2)
    (refused_later _ _ _ c.test_rows.ensures.count _ (BreaksField models) c.in_err-edits.field-0.0
    (λ w h. restricts-field models rows cells c.requires.fit w (subst (λ (ms : List ModelInfo). RestrictsBy ms rows cells w) c.test_rows.ensures.same.models h)) c.in_err-edits.ensures.refused)

pub returns-in_err-edits-clause-same : goal.returns-in_err-edits-clause-same
returns-in_err-edits-clause-same g c = stays-then _ _ _ _ _ _ c.test_rows.ensures.same c.cell_edits.ensures.same

pub returns-in_err-push_gone-clause-same : goal.returns-in_err-push_gone-clause-same
returns-in_err-push_gone-clause-same g c = stays-then _ _ _ _ _ _ c.test_rows.ensures.same c.cell_edits.ensures.same
