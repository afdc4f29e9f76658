use Rattle.serde_json.specs.View.{view}
use Rattle.ob_effect.proofs.CommandDepths.{given_fits, given_within}
use Rattle.ob_effect.proofs.object.input_of.Goals as goal

pub returns-clause-fits : goal.returns-clause-fits
returns-clause-fits c = given_fits c.args.schema.now c.args.model c.args.field (view c.args.json.now) c.from_json.result c.requires.field c.from_json.ensures.given c.from_json.ensures.holds c.from_json.ensures.commands

pub returns-clause-depth : goal.returns-clause-depth
returns-clause-depth c = given_within c.args.schema.now c.args.model c.args.field (view c.args.json.now) c.from_json.result c.requires.field c.command_forms.ensures.read c.from_json.ensures.given
