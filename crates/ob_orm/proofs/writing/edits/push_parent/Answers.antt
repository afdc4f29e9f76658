use Rattle.std.proofs.Common.{◌≡◌, ◌==◌, [], List, length, ap, eqb-true, subst, sym, ◌∙◌}
use Rattle.std.proofs.lemmas.Bool.{true≢false}
use Rattle.std.proofs.lemmas.List.{nil_from_length}
use Rattle.std.specs.Prelude.{All}
use Rattle.ob_orm.specs.NewRows.{Values}
use Rattle.ob_orm.specs.NewRowSteps.{IsTyped}
use Rattle.ob_orm.specs.Touched.{linked_in}
use Rattle.ob_orm.proofs.LinkedRows.{parent-empty, parent-none, parent-set}
use Rattle.ob_orm.proofs.writing.edits.push_parent.Goals as goal
use Rattle.ob_schema.specs.Models.{IsParentIn}
use Rattle.ob_schema.specs.declared.info.ModelInfo.{ModelInfo}

pub linked_row-requires-clause-parent : goal.linked_row-requires-clause-parent
linked_row-requires-clause-parent g c = subst (λ (ms : List ModelInfo). IsParentIn ms c.args.model c.args.parent) (sym c.requires.schema) c.requires.parent

pub linked_row-requires-clause-typed : goal.linked_row-requires-clause-typed
linked_row-requires-clause-typed g c = subst (λ (ms : List ModelInfo). All (IsTyped ms c.args.model) c.args.given.now) (sym c.requires.schema) c.requires.typed

-- nothing is given behind the link
pub returns-then-is_empty-clause-told : goal.returns-then-is_empty-clause-told
returns-then-is_empty-clause-told g c = λ tables rests.
    let values = c.as_slice-values.result.now in
    let none : values ≡ [] = nil_from_length values (eqb-true (length values) 0 (sym c.is_empty.ensures ∙ c.if-is_empty.true)) in
    parent-empty c.args.maker.now.schema.now c.args.maker.now.author c.args.model tables c.args.given.now c.args.id c.args.parent c.args.edits.now.items values (c.as_slice-values.ensures.value ∙ c.in-Ok.ensures.values) none

-- the link names no row
pub returns-in_default-linked-clause-told : goal.returns-in_default-linked-clause-told
returns-in_default-linked-clause-told g c = λ tables rests.
    let named = sym c.in_default-linked.is ∙ c.in_ok-linked.ensures.told tables rests ∙ ap (λ (ms : List ModelInfo). linked_in ms c.args.model tables c.args.given.now c.args.id c.args.parent.link) c.requires.schema in
    parent-none c.args.maker.now.schema.now c.args.maker.now.author c.args.model tables c.args.given.now c.args.id c.args.parent c.args.edits.now.items named

-- what is given is set in the row that it names
pub returns-in-Ok-push_filled-clause-told : goal.returns-in-Ok-push_filled-clause-told
returns-in-Ok-push_filled-clause-told g c = λ tables rests.
    let values = c.as_slice-values.result.now in
    let named = sym c.in-Some.is ∙ c.in_ok-linked.ensures.told tables rests ∙ ap (λ (ms : List ModelInfo). linked_in ms c.args.model tables c.args.given.now c.args.id c.args.parent.link) c.requires.schema in
    let some : values ≡ [] → ⊥ = λ e. true≢false (sym (ap (λ (vs : Values). length vs == 0) e) ∙ sym c.is_empty.ensures ∙ c.if-is_empty.false) in
    parent-set c.args.maker.now.schema.now c.args.maker.now.author c.args.model tables c.args.given.now c.args.id c.args.parent c.args.edits.now.items c.push_filled.new.edits.items c.in-Some.row values named
    (c.as_slice-values.ensures.value ∙ c.in-Ok.ensures.values) some c.in-Ok-push_filled.ensures.edits
