use Rattle.std.proofs.Common.{ap}
use Rattle.ob_base.specs.Syntax.{Arguments, call}
use Rattle.ob_base.proofs.Rows.{arguments_of-items}
use Rattle.ob_base.proofs.syntax.call_order.Goals as goal

pub returns : goal.returns
returns c = λ name given at. ap (λ (a : Arguments). call name a at) (arguments_of-items given)
