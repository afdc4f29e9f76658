-- One row more that none names, or one that is named.
use Rattle.ob_base.specs.declared.id.RecId.{RecId}
use Rattle.ob_base.specs.declared.id.RowKey.{RowKey}
use Rattle.ob_change.specs.Testing.{IsHeldBy}
use Rattle.ob_change.proofs.Turns.{none-end, none-met, none-more, none-told, one-met, one-told}
use Rattle.ob_change.proofs.gone.holder_by.Goals as goal

pub loop-key-init : goal.loop-key-init
loop-key-init c = none-met (λ (key : RowKey). (holder : RecId) × IsHeldBy c.args.tables.now.tables c.args.model c.args.number c.args.field.now key holder) c.args.keys.now

pub returns-in-Some : goal.returns-in-Some
returns-in-Some c =
    let P = IsHeldBy c.args.tables.now.tables c.args.model c.args.number c.args.field.now in
    one-met (λ (key : RowKey). P key c.in-Some.holder) c.args.keys.now c.loop-key.key-index _ c.loop-key-test.true (one-told (P _) _ c.in-Some.holder c.in-Some.is c.in_ok-holder.ensures)

pub loop-key-preserved : goal.loop-key-preserved
loop-key-preserved c =
    let P = IsHeldBy c.args.tables.now.tables c.args.model c.args.number c.args.field.now in
    none-more (λ (key : RowKey). (holder : RecId) × P key holder) c.args.keys.now c.loop-key.key-index _ c.loop-key-test.true c.loop-key.invariant
    (λ is. none-told (P _) _ c.in_default.is c.in_ok-holder.ensures is.0 is.1)

pub returns : goal.returns
returns c =
    let P = IsHeldBy c.args.tables.now.tables c.args.model c.args.number c.args.field.now in
    λ holder any. none-end (λ (key : RowKey). (one : RecId) × P key one) c.args.keys.now c.loop-key.key-index c.loop-key-test.false c.loop-key.invariant (any.0, any.1, any.2, any.3, (holder, any.4))
