use Rattle.std.proofs.Common.{List, Ok, ap, subst, sym, ◌∙◌, ◌≡◌}
use Rattle.std.specs.Prelude.{IsSome}
use Rattle.ob_change.specs.Changing.{models_of}
use Rattle.ob_schema.specs.Models.{field_at}
use Rattle.ob_schema.specs.Tables.{Standing}
use Rattle.ob_schema.specs.Val.{val}
use Rattle.ob_schema.specs.declared.info.ModelInfo.{ModelInfo}
use Rattle.ob_tables.proofs.CallerLemmas.{there_is}
use Rattle.ob_cache.proofs.failing.value_at.Goals as goal

pub value-requires : goal.value-requires
value-requires c =
    let models = models_of c.args.change in
    let cell = c.args.cell in
    record {
      field = subst (λ (m : List ModelInfo). IsSome (field_at m cell.model cell.field)) (sym (ap (λ (s : Standing). s.models) c.requires.source ∙ c.args.change.behind_over))
          (there_is (field_at models cell.model cell.field) c.in-Some._info.now (sym c.in-Some.ensures));
    }

pub returns-in-Ok-clause-value : goal.returns-in-Ok-clause-value
returns-in-Ok-clause-value c =
    let t = c.args.change.behind.now.tables in
    let v = c.in-Ok.value in
    subst (λ (m : List ModelInfo). val m t c.args.cell ≡ Ok v) c.args.change.behind_over (subst (λ (s : Standing). val s.models s.tables c.args.cell ≡ Ok v) c.requires.source c.in-Ok.ensures.value)
