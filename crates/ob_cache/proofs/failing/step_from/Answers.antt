use Rattle.std.proofs.Common.{sym, ◌∙◌, ◌≡◌}
use Rattle.ob_change.specs.Changing.{models_of}
use Rattle.ob_schema.specs.Models.{field_at}
use Rattle.ob_schema.specs.declared.info.FieldInfo.{FieldInfo}
use Rattle.ob_schema.specs.declared.info.Origin.TheVariants as origin
use Rattle.ob_tables.proofs.CallerLemmas.{tell_and}
use Rattle.ob_cache.proofs.failing.step_from.Goals as goal

pub own_step-requires-clause-source : goal.own_step-requires-clause-source
own_step-requires-clause-source c = c.lacking.ensures.same ∙ c.requires.source

pub own_step-requires-clause-computed : goal.own_step-requires-clause-computed
own_step-requires-clause-computed c =
    tell_and (field_at (models_of c.args.change) c.args.cell.model c.args.cell.field) c.in-Some.info.now (λ (info : FieldInfo). info.origin ≡ origin.Computed c.in-Computed.formula) (sym c.in-Some.ensures) c.in-Computed.is

pub own_step-requires-clause-read : goal.own_step-requires-clause-read
own_step-requires-clause-read c = c.in_ok-other.ensures.read c.in-None.is
