use Rattle.std.proofs.Common.{◌≡◌, ◌++◌, length, take}
use Rattle.std.specs.List.{flat_map}
use Rattle.ob_expr.specs.Meaning.{cell_in, row_at}
use Rattle.ob_schema.specs.Plain.{plain_at}
use Rattle.ob_tables.specs.Settling.{ends_along, rows_led}
use Rattle.ob_tables.proofs.reading.Given.+add_ends.Given as goal

abbrev pub decreases-add_ends : goal.decreases-add_ends
decreases-add_ends l = length l.links.now

-- the cells at the ends behind the targets so far are added
abbrev pub invariant-loop-target : goal.invariant-loop-target
invariant-loop-target l = record {
  done : l.ends.items ≡ l.fn.ends.items
      ++ flat_map (λ id. ends_along (plain_at l.self.tables.now.tables l.self.tables.now.models) (row_at l.link.target id) l.rest l.field) (take l.target-index l.target-items);
  items : l.target-items ≡ rows_led (plain_at l.self.tables.now.tables l.self.tables.now.models (cell_in (row_at l.fn.model l.fn.id) l.link.field));
}
