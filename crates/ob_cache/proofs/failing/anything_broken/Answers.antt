use Rattle.std.proofs.Common.{subst}
use Rattle.ob_schema.specs.Broken.{IsFirstBroken}
use Rattle.ob_tables.specs.Applying.{IsFirstOrSound}
use Rattle.ob_cache.proofs.failing.anything_broken.Goals as goal

pub unreachable-requires : goal.unreachable-requires
unreachable-requires c = c.requires (subst (IsFirstOrSound c.args.tables.now.models c.args.tables.now.tables) c.in-Ok-None.field-0-is c.in-Ok-None.ensures)

pub returns-in-Ok-Some : goal.returns-in-Ok-Some
returns-in-Ok-Some c =
    let s = c.args.tables.now in
    let first : IsFirstBroken s.models s.tables c.in-Ok-Some.broken = subst (IsFirstOrSound s.models s.tables) c.in-Ok-Some.field-0-is c.in-Ok-Some.ensures in first.there
