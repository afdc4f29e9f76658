use Rattle.std.proofs.Common.{◌≡◌, Some, None, sym, ◌∙◌}
use Rattle.std.specs.Prelude.{All}
use Rattle.std.proofs.lemmas.Bool.{false≢true}
use Rattle.ob_schema.specs.Tables.{PlainRow, row_at}
use Rattle.ob_tables.specs.Rooms.{shown_row}
use Rattle.ob_tables.specs.Sets.{AreKeptAlike}
use Rattle.ob_tables.proofs.KnownFields.{known_at, tell_and, told_and}
use Rattle.ob_tables.proofs.tables.Tables.is_alike.Goals as goal

pub returns-in_default : goal.returns-in_default
returns-in_default c = (
  λ told. absurd (false≢true told),
  λ has.
      let m = told_and (row_at c.args.self.now.tables c.args.model c.args.other) (λ (found : PlainRow). All (AreKeptAlike (shown_row c.args.row.now) found) c.args.set.now) has in
      let both : None ≡ Some m.0 = c.in_default.ensures ∙ m.1 in
      absurd cc,
)

pub returns : goal.returns
returns c =
    let here = row_at c.args.self.now.tables c.args.model c.args.other in
    let found = shown_row c.in-Some.found.now in
    let P : PlainRow → Type 0 = λ found. All (AreKeptAlike (shown_row c.args.row.now) found) c.args.set.now in
    (λ told. tell_and here found P (sym c.in-Some.ensures) (c.are_alike.ensures.0 told), λ has. c.are_alike.ensures.1 (known_at here found P (sym c.in-Some.ensures) has))
