use Rattle.std.proofs.Common.{◌≡◌, ◌+◌, ap, sym, subst, ◌∙◌, max}
use Rattle.ob_schema.specs.Models.{model_at}
use Rattle.ob_tables.specs.After.{edited}
use Rattle.ob_tables.specs.Digests.{AreWhole}
use Rattle.ob_tables.specs.Fitting.{AreFitIn, AreFitValues}
use Rattle.ob_tables.specs.Rooms.{shown_tables}
use Rattle.ob_schema.specs.Tables.{Fits, next_of}
use Rattle.ob_tables.specs.declared.edit.Edit.TheVariants as edits
use Rattle.ob_tables.proofs.Edits.{makes, raises}
use Rattle.ob_tables.proofs.FitTables.{known_at}
use Rattle.ob_tables.proofs.tables.Tables.make.Goals as goal

pub put_row-requires : goal.put_row-requires
put_row-requires c = c.self.invariant.digested

-- the next id wasn't raised
pub invariant_of-self : goal.invariant_of-self
invariant_of-self c = subst (λ ids. AreWhole c.self.inside.schema.now c.self.inside.rows c.self.inside.digests ids) (sym c.in_err-insert.ensures.err) c.self.invariant

-- no row was put in
pub invariant_of-self-in_err-put_row : goal.invariant_of-self-in_err-put_row
invariant_of-self-in_err-put_row c =
    let models = c.self.inside.schema.now in
    let next = c.next.ensures.next ∙ sym (ap (λ s. next_of s.tables c.args.model) c.self.view_is) in record {
      fits = subst (λ rows. Fits models (shown_tables models rows c.insert.new.self)) (sym c.in_err-put_row.ensures.err)
          (raises models c.self.inside.rows c.self.inside.next_ids c.self.invariant.fits c.insert.new.self c.args.model c.args.id c.max-next.result c.model_info.result.now c.model_info.ensures.at
          (c.max-next.ensures ∙ ap (λ k. max k (c.args.id.0 + 1)) next) c.in_ok-insert.ensures.updates.0);
      digested = c.put_row.ensures.digested;
    }

pub invariant_of-self-2 : goal.invariant_of-self-2
invariant_of-self-2 c =
    let models = c.self.inside.schema.now in
    let next = c.next.ensures.next ∙ sym (ap (λ s. next_of s.tables c.args.model) c.self.view_is) in
    let fit = known_at (model_at models c.args.model) (λ info. AreFitValues info c.args.values.now) c.model_info.result.now c.model_info.ensures.at
    (subst (λ s. AreFitIn s.models c.args.model c.args.values.now) (sym c.self.view_is) c.requires.values) in record {
      fits = (makes models c.self.inside.rows c.put_row.new.rows c.self.inside.next_ids c.insert.new.self c.args.model c.args.id c.max-next.result c.model_info.result.now c.args.values.now c.in_ok-row.row
          c.self.invariant.fits c.model_info.ensures.at fit (c.max-next.ensures ∙ ap (λ k. max k (c.args.id.0 + 1)) next) c.in_ok-row.ensures c.in_ok-insert.ensures.updates.0 c.in_ok-put_row.ensures.updates.0).1;
      digested = c.put_row.ensures.digested;
    }

pub returns-clause-tables : goal.returns-clause-tables
returns-clause-tables c =
    let models = c.self.inside.schema.now in
    let next = c.next.ensures.next ∙ sym (ap (λ s. next_of s.tables c.args.model) c.self.view_is) in
    let fit = known_at (model_at models c.args.model) (λ info. AreFitValues info c.args.values.now) c.model_info.result.now c.model_info.ensures.at
    (subst (λ s. AreFitIn s.models c.args.model c.args.values.now) (sym c.self.view_is) c.requires.values) in
    subst (λ s. shown_tables models c.put_row.new.rows c.insert.new.self ≡ edited s.models s.tables (edits.Make c.args.model c.args.id c.args.values.now)) c.self.view_is
    (makes models c.self.inside.rows c.put_row.new.rows c.self.inside.next_ids c.insert.new.self c.args.model c.args.id c.max-next.result c.model_info.result.now c.args.values.now c.in_ok-row.row
    c.self.invariant.fits c.model_info.ensures.at fit (c.max-next.ensures ∙ ap (λ k. max k (c.args.id.0 + 1)) next) c.in_ok-row.ensures c.in_ok-insert.ensures.updates.0 c.in_ok-put_row.ensures.updates.0).0
