use Rattle.std.proofs.Common.{◌≡◌, ◌<◌, Bool, ltb, List, length, subst, sym, rules, tests}
use Rattle.std.specs.Bool.{Decides}
use Rattle.std.specs.Prelude.{Any}
use Rattle.std.specs.List.{list_any}
use Rattle.std.proofs.lemmas.Bool.Decides.{Decides-ltb}
use Rattle.std.proofs.lemmas.Iterator.{YieldsList-from_slice}
use Rattle.std.proofs.lemmas.Iterator.Search.{any_from_yields_List}
use Rattle.ob_base.specs.Limits.{max_path_steps}
use Rattle.ob_schema.specs.declared.info.Path.{Path}
use Rattle.ob_schema.specs.declared.info.Step.{Step}
use Rattle.ob_registry.specs.Telling.{steps_in}
use Rattle.ob_schema.proofs.CallerLemmas.{Any-tested}
use Rattle.ob_registry.proofs.formulas.has_long.Goals as goal

pub returns : goal.returns
returns c =
    let is : c.any.result ≡ list_any (λ (p : Path). ltb max_path_steps (length p.steps)) c.args.paths.now =
    any_from_yields_List (λ (p : Path). ltb max_path_steps (length p.steps)) _ _ c.any.result c.any.ensures.ran (YieldsList-from_slice c.args.paths.now cc) (λ x b q k. search (rules, tests)) in
    subst (λ (b : Bool). Decides b (Any (λ (steps : List Step). max_path_steps < length steps) (steps_in c.args.paths.now))) (sym is)
    (Any-tested (λ (p : Path). p.steps) (λ (steps : List Step). max_path_steps < length steps) (λ (p : Path). ltb max_path_steps (length p.steps))
    (λ p. Decides-ltb max_path_steps (length p.steps)) c.args.paths.now)
