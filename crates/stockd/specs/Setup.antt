-- What the requests of a run stand over that its words and modules give.
use Rattle.ob_load.specs.declared.loading.Loaded.{Loaded}
use Rattle.ob_server.specs.Setup.{Setup}
use Rattle.ob_words.specs.declared.command.Command.{Command}

-- what the requests of a run stand over that the code asks for so, over what these modules declare
abbrev pub setup_of : Command → Loaded → Setup
setup_of command modules = record { models = modules.schema; policy = modules.policy; database = command.database.now }
