use Rattle.std.proofs.Common.{◌≡◌, ◌==◌, ◌++◌, [], List, length, ap, eqb-true, false, refl, sym, ◌∙◌}
use Rattle.std.proofs.lemmas.Bool.{true≢false}
use Rattle.std.proofs.lemmas.List.{nil_from_length}
use Rattle.ob_cache.proofs.CallerLemmas.{stays-then}
use Rattle.ob_orm.proofs.CallerLemmas.{parent-empty, parent-none, parent-set}
use Rattle.ob_orm.specs.NewRows.{Values, filled, row_edits}
use Rattle.ob_orm.specs.Touched.{linked_in}
use Rattle.ob_schema.specs.declared.info.ModelInfo.{ModelInfo}
use Rattle.ob_stage.proofs.Stagings.{ok-then}
use Rattle.ob_stage.proofs.changing.push_parent.Goals as goal
use Rattle.ob_tables.specs.After.{after}
use Rattle.ob_tables.specs.declared.edit.Edit.{Edit}

-- nothing is given behind the link
pub returns-then-is_empty-clause-told : goal.returns-then-is_empty-clause-told
returns-then-is_empty-clause-told g c = λ at is.
    let models = c.args.maker.now.schema.now in let values = c.as_slice-values.result.now in
    let none : values ≡ [] = nil_from_length values (eqb-true (length values) 0 (sym c.is_empty.ensures ∙ c.if-is_empty.true)) in
    ap (λ (es : List Edit). after models at.staged es)
    (parent-empty models c.args.maker.now.author c.args.model at.staged c.args.given.now c.args.id.0 c.args.parent c.args.edits.now.items values (c.as_slice-values.ensures.value ∙ c.in_ok-values.ensures.values) none)

-- the link names no row
pub returns-in_default-clause-told : goal.returns-in_default-clause-told
returns-in_default-clause-told g c = λ at is.
    let models = c.args.maker.now.schema.now in
    let named = sym c.in_default.is ∙ c.in_ok-linked.ensures.told at is ∙ ap (λ (ms : List ModelInfo). linked_in ms c.args.model at.staged c.args.given.now c.args.id.0 c.args.parent.link) c.requires.schema in
    ap (λ (es : List Edit). after models at.staged es) (parent-none models c.args.maker.now.author c.args.model at.staged c.args.given.now c.args.id.0 c.args.parent c.args.edits.now.items named)

-- what is given is set in the row that it names
pub returns-clause-told : goal.returns-clause-told
returns-clause-told g c = ok-then c.push_changes.result _ _ (λ told at is.
    let models = c.args.maker.now.schema.now in let by = c.args.maker.now.author in
    let values = c.as_slice-values.result.now in let row = c.in-Some.row in let edits = c.args.edits.now.items in
    let named = sym c.in-Some.is ∙ c.in_ok-linked.ensures.told at is ∙ ap (λ (ms : List ModelInfo). linked_in ms c.args.model at.staged c.args.given.now c.args.id.0 c.args.parent.link) c.requires.schema in
    let some : values ≡ [] → ⊥ = λ e. true≢false (sym (ap (λ (vs : Values). length vs == 0) e) ∙ sym c.is_empty.ensures ∙ c.if-is_empty.false) in
    told at (c.linked_row.ensures.same.stands at is)
    ∙ ap (λ (es : List Edit). after models at.staged es)
    (parent-set models by c.args.model at.staged c.args.given.now c.args.id.0 c.args.parent edits
    (edits ++ row_edits c.args.parent.model (filled models by false c.args.parent.model values) row.0) row values named (c.as_slice-values.ensures.value ∙ c.in_ok-values.ensures.values) some refl)) c.push_changes.ensures.told

pub returns-clause-same : goal.returns-clause-same
returns-clause-same g c = stays-then _ _ _ _ _ _ c.linked_row.ensures.same c.push_changes.ensures.same
