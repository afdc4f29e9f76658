use Rattle.std.proofs.Common.{◌≡◌, ◌++◌, ◌+◌, inl, inr, List, [], ◌∷◌, map, take, ap, subst, sym, ◌∙◌}
use Rattle.std.specs.Prelude.{Contains}
use Rattle.std.proofs.lemmas.List.{map-append, take_all, take_more}
use Rattle.std.proofs.lemmas.List.Elements.{Contains-push_cases}
use Rattle.ob_base.specs.declared.id.RowKey.{RowKey}
use Rattle.ob_tables.specs.Changes.{edited_row}
use Rattle.ob_tables.specs.declared.edit.Edit.{Edit}
use Rattle.ob_cache.proofs.MarkedValues.{contains-none}
use Rattle.ob_cache.proofs.staging.add_edited.Goals as goal

pub loop-edit-init : goal.loop-edit-init
loop-edit-init c = record { kept = λ key one. one; done = λ key one. absurd (contains-none key one) }

pub loop-edit-preserved : goal.loop-edit-preserved
loop-edit-preserved c =
    let edits = c.args.edits.now in
    let i = c.loop-edit.edit-index in
    let edit = c.edit-item.result in
    let new = c.add_row.new.rows.items in
    let row : RowKey = edited_row edit in
    let more : map edited_row (take (i + 1) edits) ≡ map edited_row (take i edits) ++ row ∷ [] =
    ap (map edited_row) (take_more edits i edit c.loop-edit-test.true ∙ ap (λ (e : Edit). take i edits ++ e ∷ []) (sym c.edit-item.is)) ∙ map-append edited_row (take i edits) (edit ∷ []) in
    let still = c.in_ok-add_row.ensures.kept in
    record {
      kept = λ key one. still key (c.loop-edit.invariant.kept key one);
      done = λ key one. elim (Contains-push_cases (map edited_row (take i edits)) row key (subst (λ (l : List RowKey). Contains l key) more one)) [
        | inl earlier ↦ still key (c.loop-edit.invariant.done key earlier)
        | inr same ↦ subst (Contains new) (c.edited_row.ensures ∙ same) c.in_ok-add_row.ensures.added
      ];
    }

pub returns-clause-kept : goal.returns-clause-kept
returns-clause-kept c = c.loop-edit.invariant.kept

pub returns-clause-edited : goal.returns-clause-edited
returns-clause-edited c =
    λ key one. c.loop-edit.invariant.done key (subst (λ (l : List Edit). Contains (map edited_row l) key) (sym (take_all c.loop-edit.edit-index c.args.edits.now c.loop-edit-test.false)) one)
