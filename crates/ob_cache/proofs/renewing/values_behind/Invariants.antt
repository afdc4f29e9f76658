use Rattle.std.proofs.Common.{◌≡◌, ◌≤◌, IsSome, length, take}
use Rattle.std.specs.Prelude.{Contains}
use Rattle.std.specs.BTreeMap as tree
use Rattle.ob_base.specs.BrokenOrder.{cell_order}
use Rattle.ob_base.specs.Tally.{ticked_times}
use Rattle.ob_base.specs.declared.id.Cell.{Cell}
use Rattle.ob_cache.specs.Behind.{HaveOthers}
use Rattle.ob_cache.specs.Rooms.{AreRight}
use Rattle.ob_change.specs.Changing.{models_of, sides_of}
use Rattle.ob_sound.specs.FormulasBreak.{FormulasPass}
use Rattle.ob_cache.proofs.renewing.values_behind.Given as goal

-- the marked cells so far have their values, which formulas don't break
abbrev pub invariant-loop-cell : goal.invariant-loop-cell
invariant-loop-cell g l = record {
  few : l.cell-index ≤ length l.marked;
  ticks : l.steps ≡ ticked_times l.cell-index g.L.Ledger.noted l.fn.steps;
  same : l.source ≡ l.fn.change.behind.now;
  right : AreRight (models_of l.fn.change) l.fn.change.behind.now.tables l.values;
  others : HaveOthers (models_of l.fn.change) (sides_of l.fn.change) l.marked l.values;
  done : (cell : Cell) → Contains (take l.cell-index l.marked) cell → IsSome (tree.get cell_order l.values cell);
  passes : FormulasPass (models_of l.fn.change) l.fn.change.behind.now.tables (take l.cell-index l.marked);
}
