use Rattle.std.proofs.Common.{◌≡◌, true, IsSome, Ok}
use Rattle.std.specs.Prelude.{IsSomeAnd}
use Rattle.std.specs.BTreeMap as tree
use Rattle.ob_base.specs.BrokenOrder.{cell_order}
use Rattle.ob_base.specs.declared.value.Value.{Value}
use Rattle.ob_cache.specs.Behind.{AreKnown}
use Rattle.ob_cache.specs.Rooms.{IsComputedCell}
use Rattle.ob_cache.proofs.Inserting.{told-of}
use Rattle.ob_schema.specs.Models.{field_at, is_computed_from}
use Rattle.ob_schema.specs.Tables.{row_at}
use Rattle.ob_schema.specs.Val.{val}
use Rattle.ob_tables.specs.Scratch.{HasScratch}
use Rattle.ob_cache.proofs.knowing.held_of.Goals as goal

pub returns-clause-field : goal.returns-clause-field
unfolding AreKnown
returns-clause-field c =
    let s = c.args.source.now in
    let held = c.args.held.now in
    let cell = c.args.cell in
    told-of (λ v. v.now) c.get.result (tree.get cell_order held cell) c.get.ensures.value (λ (v : Value). IsComputedCell s.models s.tables cell × (val s.models s.tables cell ≡ Ok v))
    (λ (v : Value). IsSomeAnd (field_at s.models cell.model cell.field) (λ info. is_computed_from info.origin ≡ true)) (λ v is. is.0.1) (c.requires.right cell)

pub returns-clause-row : goal.returns-clause-row
unfolding AreKnown
returns-clause-row c =
    let s = c.args.source.now in
    let held = c.args.held.now in
    let cell = c.args.cell in
    told-of (λ v. v.now) c.get.result (tree.get cell_order held cell) c.get.ensures.value (λ (v : Value). IsComputedCell s.models s.tables cell × (val s.models s.tables cell ≡ Ok v))
    (λ (v : Value). IsSome (row_at s.tables cell.model cell.id)) (λ v is. is.0.0) (c.requires.right cell)

pub returns-clause-value : goal.returns-clause-value
unfolding AreKnown HasScratch
returns-clause-value c =
    let s = c.args.source.now in
    let held = c.args.held.now in
    let cell = c.args.cell in
    told-of (λ v. v.now) c.get.result (tree.get cell_order held cell) c.get.ensures.value (λ (v : Value). IsComputedCell s.models s.tables cell × (val s.models s.tables cell ≡ Ok v))
    (λ (v : Value). val s.models s.tables cell ≡ Ok v) (λ v is. is.1) (c.requires.right cell)
