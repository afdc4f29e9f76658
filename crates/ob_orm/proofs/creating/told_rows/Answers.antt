use Rattle.std.proofs.Common.{map}
use Rattle.ob_orm.proofs.CreateMade.{told_plain}
use Rattle.ob_orm.proofs.creating.told_rows.Goals as goal

pub returns-then-is_list-clause-plain : goal.returns-then-is_list-clause-plain
returns-then-is_list-clause-plain c = told_plain c.id_list.result (map (λ id. id.0) c.as_slice.result.now) c.id_list.ensures
