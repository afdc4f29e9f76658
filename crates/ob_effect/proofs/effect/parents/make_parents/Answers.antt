use Rattle.std.proofs.Common.{List, [], subst}
use Rattle.std.specs.Prelude.{All}
use Rattle.std.proofs.lemmas.List.Elements.{All-nil, All-push}
use Rattle.ob_effect.proofs.CallSteps.{edits_none, fails, goes_none, goes_stepped, starves, stopped}
use Rattle.ob_effect.specs.Rows.{IsLink}
use Rattle.ob_schema.specs.declared.info.ModelInfo.{ModelInfo}
use Rattle.ob_tables.proofs.CallerLemmas.{known_if}
use Rattle.ob_effect.proofs.effect.parents.make_parents.Goals as goal
use Rattle.ob_effect.proofs.effect.parents.make_parents.Goals.{in-Some+in_ok-push, in_default}

pub returns-in_err-push-clause-step : goal.returns-in_err-push-clause-step
returns-in_err-push-clause-step g c =
    let a = c.args.engine.now in
    starves g.K.Keeper c.args.writer.now.by c.from_residual.result c.args.notes.now a a c.from_residual.ensures.1 (edits_none g.K.Keeper a c.requires.usable)

pub loop-parent-init : goal.loop-parent-init
loop-parent-init g c =
    let link = IsLink c.args.engine.now.held.models c.args.model in
    record {
      far = goes_none g.K.Keeper c.args.engine.now c.args.notes.now c.requires.usable c.requires.noted;
      links = elim c.match-back.branch [
        | in-Some+in_ok-push w ↦ rw (w.links-is, w.in_ok-push.ensures.items, c.new-links.ensures.items) (All-push link [] w.in-Some.back (All-nil link) (known_if c.args.back w.in-Some.back link w.in-Some.is c.requires.back))
        | in_default w ↦ rw (w.links-is, c.new-links.ensures.items) (All-nil link)
      ];
    }

pub returns-in_err-make_parent-clause-step : goal.returns-in_err-make_parent-clause-step
returns-in_err-make_parent-clause-step g c =
    let a = c.args.engine.now in
    let by = c.args.writer.now.by in
    let why = c.in_err-make_parent.field-0.0 in
    fails g.K.Keeper by c.from_residual-in_err-make_parent.result c.make_parent.new.notes a c.make_parent.new.engine why c.from_residual-in_err-make_parent.ensures.1
    (stopped g.K.Keeper by a c.loop-parent.engine c.make_parent.new.engine why c.loop-parent.invariant.far.edits c.in_err-make_parent.ensures.step)

pub loop-parent-preserved : goal.loop-parent-preserved
loop-parent-preserved g c = record {
  far = goes_stepped g.K.Keeper c.args.engine.now c.loop-parent.engine c.make_parent.new.engine c.loop-parent.notes c.make_parent.new.notes c.loop-parent.invariant.far c.in_ok-make_parent.ensures.step;
  links = subst (λ (ms : List ModelInfo). All (IsLink ms c.args.model) c.loop-parent.links.items → All (IsLink ms c.args.model) c.make_parent.new.links.items) c.loop-parent.invariant.far.edits.keeps.models
      c.in_ok-make_parent.ensures.links c.loop-parent.invariant.links;
}
