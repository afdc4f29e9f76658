-- The fields of a model are few.
use Rattle.std.proofs.Common.{sym, arith}
use Rattle.ob_effect.proofs.relations.add_model.Goals as goal

pub overflow_cast-count : goal.overflow_cast-count
overflow_cast-count c = let valid = c.parts_fit_together.ensures.each c.args.model c.in-Some.info.now (sym c.in-Some.ensures) in omega (arith, valid.few)
