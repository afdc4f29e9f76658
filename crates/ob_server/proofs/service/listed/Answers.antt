use Rattle.std.proofs.Common.{◌<◌, ap, length, rules, ◌∙◌}
use Rattle.serde_json.specs.View.{items_view}
use Rattle.ob_server.proofs.LoginFound.{few_listed}
use Rattle.ob_server.proofs.service.listed.Goals as goal

pub returns-then-len-lt5 : goal.returns-then-len-lt5
returns-then-len-lt5 c =
    let few : length c.args.elements < 5 = search rules in
    ap items_view (c.from_vec.ensures ∙ c.into_vec-first.ensures) ∙ few_listed c.args.elements few
