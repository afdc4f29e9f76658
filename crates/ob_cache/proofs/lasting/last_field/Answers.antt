-- The fields of a model are few, and numbered from 1.
use Rattle.std.proofs.Common.{sym, arith, length-append}
use Rattle.ob_cache.proofs.TakenOut.{field-within}
use Rattle.ob_cache.proofs.lasting.last_field.Goals as goal

pub overflow_add-result : goal.overflow_add-result
overflow_add-result c = let valid = c.parts_fit_together.ensures.each c.args.model c.in-Some.info.now (sym c.in-Some.ensures) in omega (arith, valid.few, valid.few_hidden)

pub overflow_cast-result : goal.overflow_cast-result
overflow_cast-result c = let valid = c.parts_fit_together.ensures.each c.args.model c.in-Some.info.now (sym c.in-Some.ensures) in omega (arith, valid.few, valid.few_hidden)

pub returns : goal.returns
returns c = λ field there.
    let info = c.in-Some.info.now in
    let low = field-within c.args.schema.now c.args.model info (sym c.in-Some.ensures) field there in
    omega (arith, low, length-append info.fields info.hidden)
