use Rattle.std.proofs.Common.{◌≡◌, cond, Some, ap, sym, subst, ◌∙◌, refl}
use Rattle.std.specs.BTreeMap as tree
use Rattle.std.specs.Ordering.{nat_cmp, eq_by_cmp}
use Rattle.ob_base.specs.declared.id.RowKey.{RowKey}
use Rattle.ob_base.specs.Ids.{row_key_cmp}
use Rattle.ob_tables.specs.After.{edited}
use Rattle.ob_tables.specs.Fitting.{IsFitValueAt}
use Rattle.ob_tables.specs.Rooms.{shown_tables}
use Rattle.ob_schema.specs.Tables.{Fits}
use Rattle.ob_tables.specs.declared.edit.Edit.TheVariants as edits
use Rattle.ob_tables.proofs.Edits.{none-there, sets}
use Rattle.ob_tables.proofs.tables.Tables.set.Goals as goal

pub returns-in_default-clause-tables : goal.returns-in_default-clause-tables
returns-in_default-clause-tables c =
    let models = c.self.inside.schema.now in
    let rows = c.self.inside.rows in
    subst (λ s. s.tables ≡ edited s.models s.tables (edits.Set c.args.cell c.args.value.now)) c.self.view_is
    (none-there models rows rows c.self.inside.next_ids c.args.cell c.args.value.now refl
    (sym (c.in_default.ensures.value ∙ ap (λ k. tree.get row_key_cmp rows k) c.key_of-key.ensures)))

pub put_row-requires : goal.put_row-requires
put_row-requires c = c.self.invariant.digested

-- nothing was put in
pub invariant_of-self : goal.invariant_of-self
invariant_of-self c =
    let models = c.self.inside.schema.now in record {
      fits = subst (λ rows. Fits models (shown_tables models rows c.self.inside.next_ids)) (sym c.in_err-put_row.ensures.err) c.self.invariant.fits;
      digested = c.put_row.ensures.digested;
    }

pub invariant_of-self-2 : goal.invariant_of-self-2
invariant_of-self-2 c =
    let models = c.self.inside.schema.now in
    let rows = c.self.inside.rows in
    let old = c.in-Some.old.now in
    let new = c.in_ok-row.row in
    let after = c.put_row.new.rows in
    let put = subst (λ k. (q : RowKey) → tree.get row_key_cmp after q ≡ cond (eq_by_cmp row_key_cmp k q) (Some new) (tree.get row_key_cmp rows q)) c.key_of-key.ensures c.in_ok-put_row.ensures.updates.0 in
    let fit = subst (λ s. IsFitValueAt s.models c.args.cell c.args.value.now) (sym c.self.view_is) c.requires in
    let done = sets models rows after c.self.inside.next_ids c.args.cell old new c.args.value.now c.model_info.result.now c.self.invariant.fits c.model_info.ensures.at c.model_info.ensures.fit.conditions fit
    (sym (c.in-Some.ensures.value ∙ ap (λ k. tree.get row_key_cmp rows k) c.key_of-key.ensures))
    (λ q. c.in_ok-row.ensures q ∙ ap (λ v. cond (eq_by_cmp nat_cmp c.args.cell.field.0 q) (Some v) (tree.get nat_cmp old q)) c.in_ok-try_clone.ensures) put in
    record { fits = done.1; digested = c.put_row.ensures.digested }

pub returns-clause-tables : goal.returns-clause-tables
returns-clause-tables c =
    let models = c.self.inside.schema.now in
    let rows = c.self.inside.rows in
    let old = c.in-Some.old.now in
    let new = c.in_ok-row.row in
    let after = c.put_row.new.rows in
    let put = subst (λ k. (q : RowKey) → tree.get row_key_cmp after q ≡ cond (eq_by_cmp row_key_cmp k q) (Some new) (tree.get row_key_cmp rows q)) c.key_of-key.ensures c.in_ok-put_row.ensures.updates.0 in
    let fit = subst (λ s. IsFitValueAt s.models c.args.cell c.args.value.now) (sym c.self.view_is) c.requires in
    let done = sets models rows after c.self.inside.next_ids c.args.cell old new c.args.value.now c.model_info.result.now c.self.invariant.fits c.model_info.ensures.at c.model_info.ensures.fit.conditions fit
    (sym (c.in-Some.ensures.value ∙ ap (λ k. tree.get row_key_cmp rows k) c.key_of-key.ensures))
    (λ q. c.in_ok-row.ensures q ∙ ap (λ v. cond (eq_by_cmp nat_cmp c.args.cell.field.0 q) (Some v) (tree.get nat_cmp old q)) c.in_ok-try_clone.ensures) put in
    subst (λ s. shown_tables models after c.self.inside.next_ids ≡ edited s.models s.tables (edits.Set c.args.cell c.args.value.now)) c.self.view_is done.0
