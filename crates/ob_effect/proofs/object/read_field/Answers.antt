use Rattle.serde_json.specs.Data.{depth}
use Rattle.serde_json.specs.View.{view}
use Rattle.ob_effect.proofs.TakenObjects.{depth_more, orders_fit, value_fits}
use Rattle.ob_effect.proofs.object.read_field.Goals as goal

pub returns-in-Ok-Plain-clause-fits : goal.returns-in-Ok-Plain-clause-fits
returns-in-Ok-Plain-clause-fits c =
    value_fits c.args.schema.now c.args.model c.args.object.now c.push.new.self (c.args.field, c.in-Ok-Plain.value) c.in_ok-push-in-Ok-Plain.ensures.items
    (rw c.in-Ok-Plain.field-0-is at c.in-Ok-Plain.ensures.fits)

pub returns-in-Ok-Commands-clause-fits : goal.returns-in-Ok-Commands-clause-fits
returns-in-Ok-Commands-clause-fits c =
    orders_fit c.args.schema.now c.args.model c.args.object.now c.push-in-Ok-Commands.new.self (record { field = c.args.field; commands = c.in-Ok-Commands.commands }) c.in_ok-push-in-Ok-Commands.ensures.items
    (rw c.in-Ok-Commands.field-0-is at c.in-Ok-Commands.ensures.fits)

pub returns-in-Ok-Commands-clause-depth : goal.returns-in-Ok-Commands-clause-depth
returns-in-Ok-Commands-clause-depth c =
    depth_more (depth (view c.args.json.now)) c.args.object.now c.push-in-Ok-Commands.new.self (record { field = c.args.field; commands = c.in-Ok-Commands.commands }) c.in_ok-push-in-Ok-Commands.ensures.items
    (rw c.in-Ok-Commands.field-0-is at c.in-Ok-Commands.ensures.depth)
