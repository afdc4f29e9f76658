-- What the index has is the number of a model.
use Rattle.std.proofs.Common.{◌≡◌, rules}
use Rattle.ob_schema.specs.Models.{model_named}
use Rattle.ob_schema.proofs.ModelNames.{IfSome-model_named}
use Rattle.ob_schema.proofs.schema.Schema.model.Goals as goal

pub returns-clause-there : goal.returns-clause-there
returns-clause-there c =
    let named : c.copied.result ≡ model_named c.args.self.now c.args.name.now = search rules in
    IfSome-model_named c.args.self.now c.args.name.now c.copied.result named
