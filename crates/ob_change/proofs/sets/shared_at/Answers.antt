-- One set more that no other row shares, or one that is shared.
use Rattle.std.proofs.Common.{List, sym, subst}
use Rattle.ob_base.specs.declared.id.FieldNo.{FieldNo}
use Rattle.ob_schema.specs.declared.info.ModelInfo.{ModelInfo}
use Rattle.ob_change.specs.Testing.{SharesFrom}
use Rattle.ob_change.proofs.EditedSets.{set-shared, shared-set}
use Rattle.ob_change.proofs.Turns.{none-end, none-read, none-told, one-read, one-told}
use Rattle.ob_change.proofs.sets.shared_at.Goals as goal

pub returns-in-Some-2 : goal.returns-in-Some-2
returns-in-Some-2 c =
    let models = c.args.change.schema.now in
    let behind = c.args.change.behind.now.models in
    let t = c.args.change.behind.now.tables in
    let cell = c.args.cell in
    let sets = c.as_slice-set-items.result.now in
    let first = c.in-Some-2.field in
    let from = one-told (SharesFrom behind t cell c.as_slice.result.now) _ first c.in-Some-2.is c.in_ok-field.ensures in
    let shares = subst (λ (m : List ModelInfo). SharesFrom m t cell c.set-item.result first) c.args.change.behind_over (subst (λ (l : List FieldNo). SharesFrom behind t cell l first) c.as_slice.ensures from) in
    set-shared models t cell c.in-Some.info.now sets (sym c.in-Some.ensures) c.as_slice-set-items.ensures first
    (one-read (λ set. SharesFrom models t cell set first) sets c.loop-set.set-index c.set-item.result c.loop-set-test.true c.set-item.is shares)

pub loop-set-preserved : goal.loop-set-preserved
loop-set-preserved c =
    let models = c.args.change.schema.now in
    let behind = c.args.change.behind.now.models in
    let t = c.args.change.behind.now.tables in
    let cell = c.args.cell in
    none-read (λ set. (first : FieldNo) × SharesFrom models t cell set first) c.as_slice-set-items.result.now c.loop-set.set-index c.set-item.result c.loop-set-test.true c.set-item.is c.loop-set.invariant
    (λ shares. none-told (SharesFrom behind t cell c.as_slice.result.now) _ c.in_default-2.is c.in_ok-field.ensures shares.0
    (subst (λ (l : List FieldNo). SharesFrom behind t cell l shares.0) (sym c.as_slice.ensures)
    (subst (λ (m : List ModelInfo). SharesFrom m t cell c.set-item.result shares.0) (sym c.args.change.behind_over) shares.1)))

pub returns : goal.returns
returns c =
    let models = c.args.change.schema.now in
    let t = c.args.change.behind.now.tables in
    let cell = c.args.cell in
    let sets = c.as_slice-set-items.result.now in
    λ first shares. none-end (λ set. (from : FieldNo) × SharesFrom models t cell set from) sets c.loop-set.set-index c.loop-set-test.false c.loop-set.invariant
    (shared-set models t cell c.in-Some.info.now sets (sym c.in-Some.ensures) c.as_slice-set-items.ensures first shares)
