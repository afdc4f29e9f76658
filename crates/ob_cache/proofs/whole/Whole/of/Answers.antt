use Rattle.std.proofs.Common.{List, subst}
use Rattle.ob_change.proofs.CallerLemmas.{broken-field}
use Rattle.ob_schema.specs.Broken.{IsFirstBroken}
use Rattle.ob_schema.specs.Models.{HasField}
use Rattle.ob_schema.specs.declared.info.ModelInfo.{ModelInfo}
use Rattle.ob_tables.specs.Applying.{IsFirstOrSound}
use Rattle.ob_cache.proofs.whole.Whole.of.Goals as goal

pub returns-in-Some-clause-field : goal.returns-in-Some-clause-field
returns-in-Some-clause-field c =
    let s = c.args.tables in
    let broken = c.in-Some.broken in
    let first : IsFirstBroken s.models s.tables broken = subst (IsFirstOrSound s.models s.tables) c.in-Some.is c.in_ok-broken.ensures in
    subst (λ (m : List ModelInfo). HasField m broken.cell.model broken.cell.field) c.requires.over (broken-field s.models s.tables c.fit_together.ensures.registry broken first.there)
