use Rattle.std.proofs.Common.{List, get_or, sym, ap, ◌∙◌}
use Rattle.ob_definition.specs.Gathered.{Gathered}
use Rattle.ob_definition.proofs.Places.{model_of-free, model_of-read}
use Rattle.ob_definition.proofs.gathering.Gathering.find.Goals as goal

pub returns-in-Some : goal.returns-in-Some
returns-in-Some c =
    let model = c.index.result.now in
    let place = c.in-Some.place in
    sym (model_of-read c.args.self.now c.args.name.now place model (sym c.place.ensures.at ∙ c.in-Some.is) (c.index.ensures ∙ ap (λ (l : List Gathered). get_or l place model) c.self.view_is))

pub returns-in-None : goal.returns-in-None
returns-in-None c = sym (model_of-free c.args.self.now c.args.name.now (sym c.place.ensures.at ∙ c.in-None.is))
