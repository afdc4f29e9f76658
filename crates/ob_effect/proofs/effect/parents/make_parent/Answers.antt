use Rattle.std.proofs.Common.{subst}
use Rattle.std.proofs.lemmas.List.Elements.{All-push}
use Rattle.ob_effect.proofs.CallSteps.{edits_none, starves}
use Rattle.ob_effect.proofs.ParentLists.{parent_link, parent_there}
use Rattle.ob_effect.specs.Rows.{IsLink}
use Rattle.ob_schema.specs.Models.{IsRegistry}
use Rattle.ob_effect.proofs.effect.parents.make_parent.Goals as goal

pub returns-in_err-values-clause-step : goal.returns-in_err-values-clause-step
returns-in_err-values-clause-step g c =
    let a = c.args.engine.now in
    starves g.K.Keeper c.args.writer.now.by c.from_residual.result c.args.notes.now a a c.from_residual.ensures.1 (edits_none g.K.Keeper a c.requires.usable)

pub make_row-requires-clause-model : goal.make_row-requires-clause-model
make_row-requires-clause-model g c =
    parent_there c.args.engine.now.held.models (subst IsRegistry c.requires.writer.schema c.parts_fit_together.ensures) c.args.model c.args.parent c.requires.parent

pub returns-clause-links : goal.returns-clause-links
returns-clause-links g c =
    let held = c.args.engine.now.held.models in
    let registry = subst IsRegistry c.requires.writer.schema c.parts_fit_together.ensures in
    λ all. rw c.in_ok-push-2.ensures.items (All-push (IsLink held c.args.model) c.args.links.now.items (record { field = c.args.parent.link; id = c.in_ok-row.row.id }) all
    (parent_link held registry c.args.model c.args.parent c.requires.parent))
