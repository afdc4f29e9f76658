use Rattle.std.proofs.Common.{List, ap, subst, sym, ◌∙◌, ◌≡◌}
use Rattle.std.specs.Prelude.{IsSome}
use Rattle.ob_cache.specs.Failing.{TellsStep}
use Rattle.ob_cache.proofs.OwnFaults.{fails-itself, own-step}
use Rattle.ob_change.specs.Changing.{models_of}
use Rattle.ob_expr.specs.TypedTree.{typed_tree_of}
use Rattle.ob_schema.specs.Models.{IsRegistry, field_at}
use Rattle.ob_schema.specs.Tables.{Fits, Standing}
use Rattle.ob_schema.specs.declared.info.FieldInfo.{FieldInfo}
use Rattle.ob_schema.specs.declared.info.ModelInfo.{ModelInfo}
use Rattle.ob_schema.specs.declared.info.Origin.TheVariants as origin
use Rattle.ob_tables.proofs.CallerLemmas.{there_is, told_and}
use Rattle.ob_tables.specs.Faults.{HasNoValue}
use Rattle.ob_cache.proofs.failing.own_step.Goals as goal

pub returns-in_default-clause-step : goal.returns-in_default-clause-step
returns-in_default-clause-step c =
    let models = models_of c.args.change in
    let t = c.args.change.behind.now.tables in
    let cell = c.args.cell in
    let fault = c.in-Err.fault in
    let registry = subst IsRegistry c.args.change.behind_over c.fit_together.ensures.registry in
    let fits = subst (λ (m : List ModelInfo). Fits m t) c.args.change.behind_over c.fit_together.ensures.fits in
    let lacks = subst (λ (m : List ModelInfo). HasNoValue m t cell fault) c.args.change.behind_over (subst (λ (s : Standing). HasNoValue s.models s.tables cell fault) c.requires.source c.in-Err.ensures.fault) in
    subst (TellsStep models t cell) (sym c.step_by.ensures)
    (own-step models t cell
    (fails-itself models t cell c.args.formula.now c.requires.read (c.reads_along_paths.ensures.lacks (typed_tree_of c.args.formula.now.typed))
    (c.values_from_scratch.ensures.is_val models t registry fits c.requires.tied) c.requires.computed c.requires.row) fault lacks)

pub value-requires : goal.value-requires
value-requires c =
    let models = models_of c.args.change in
    let cell = c.args.cell in
    let info = told_and (field_at models cell.model cell.field) (λ (i : FieldInfo). i.origin ≡ origin.Computed c.args.formula.now) c.requires.computed in
    record {
      field = subst (λ (m : List ModelInfo). IsSome (field_at m cell.model cell.field)) (sym (ap (λ (s : Standing). s.models) c.requires.source ∙ c.args.change.behind_over))
          (there_is (field_at models cell.model cell.field) info.0 info.1);
    }
