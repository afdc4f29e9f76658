use Rattle.std.proofs.Common.{rules, ◌≡◌}
use Rattle.ob_definition.specs.ByName.{place_of}
use Rattle.ob_definition.proofs.Places.{place_of-IfSome}
use Rattle.ob_definition.proofs.gathering.Gathering.place.Goals as goal

pub returns-clause-within : goal.returns-clause-within
returns-clause-within c =
    let at : c.copied.result ≡ place_of c.args.self.now c.args.name.now = search rules in
    place_of-IfSome c.args.self.now c.args.name.now c.copied.result at
