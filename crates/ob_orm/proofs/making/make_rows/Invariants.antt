use Rattle.std.proofs.Common.{◌≡◌, ◌++◌, map}
use Rattle.std.specs.Prelude.{All}
use Rattle.std.specs.Vec.Iter.{into_iter_items}
use Rattle.ob_orm.specs.NewRows.{made_rows}
use Rattle.ob_orm.specs.NewRowSteps.{HoldsNextIds, IsReady, IsTyped, so_far}
use Rattle.ob_orm.proofs.making.make_rows.Given as goal
use Rattle.ob_schema.specs.Tables.{Tables}

-- the rows so far are made
abbrev pub invariant-loop-given : goal.invariant-loop-given
invariant-loop-given l = record {
  ready : IsReady l.maker.schema.now l.making;
  made : (old : Tables) → HoldsNextIds l.maker.schema.now old l.fn.making
      → (l.making.edits.items ≡ l.fn.making.edits.items ++ (made_rows l.maker.schema.now l.maker.author (so_far l.maker.schema.now old l.fn.making) l.model l.yielded).edits)
      × (map (λ id. id.0) l.ids.items ≡ (made_rows l.maker.schema.now l.maker.author (so_far l.maker.schema.now old l.fn.making) l.model l.yielded).ids)
      × HoldsNextIds l.maker.schema.now old l.making;
  typed : All (All (IsTyped l.maker.schema.now l.model)) (into_iter_items l.given-iterator);
}
