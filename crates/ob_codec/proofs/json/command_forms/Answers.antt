use Rattle.ob_codec.proofs.CommandForms.{orders_ok}
use Rattle.ob_codec.proofs.CommandsTaken.{orders_taken}
use Rattle.ob_codec.proofs.json.command_forms.Goals as goal

pub returns-clause-read : goal.returns-clause-read
returns-clause-read c = orders_ok

pub returns-clause-taken : goal.returns-clause-taken
returns-clause-taken c = orders_taken
