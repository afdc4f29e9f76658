use Rattle.std.proofs.Common.{◌≡◌, sym, subst}
use Rattle.ob_schema.specs.Tables.{Fits, key_of}
use Rattle.ob_tables.specs.After.{edited}
use Rattle.ob_tables.specs.Rooms.{shown_tables}
use Rattle.ob_tables.specs.declared.edit.Edit.TheVariants as edits
use Rattle.ob_tables.proofs.Edits.{fits-gone, shows-gone}
use Rattle.ob_tables.proofs.tables.Tables.take_out.Goals as goal

pub remove_row-requires : goal.remove_row-requires
remove_row-requires c = c.self.invariant.digested

-- nothing was taken out
pub invariant_of-self : goal.invariant_of-self
invariant_of-self c =
    let models = c.self.inside.schema.now in record {
      fits = subst (λ rows. Fits models (shown_tables models rows c.self.inside.next_ids)) (sym c.in_err-remove_row.ensures.err) c.self.invariant.fits;
      digested = c.remove_row.ensures.digested;
    }

pub invariant_of-self-2 : goal.invariant_of-self-2
invariant_of-self-2 c = record {
  fits = fits-gone c.self.inside.schema.now c.self.inside.rows c.self.inside.next_ids c.self.invariant.fits c.remove_row.new.rows (key_of c.args.model c.args.id) c.in_ok-remove_row.ensures.updates.0;
  digested = c.remove_row.ensures.digested;
}

pub returns-clause-tables : goal.returns-clause-tables
returns-clause-tables c =
    let models = c.self.inside.schema.now in
    let after = c.remove_row.new.rows in
    let key = key_of c.args.model c.args.id in
    subst (λ s. shown_tables models after c.self.inside.next_ids ≡ edited s.models s.tables (edits.Gone c.args.model c.args.id)) c.self.view_is
    (shows-gone models c.self.inside.rows c.self.inside.next_ids after key c.in_ok-remove_row.ensures.updates.0)
