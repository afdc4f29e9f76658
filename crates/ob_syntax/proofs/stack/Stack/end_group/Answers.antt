use Rattle.std.proofs.Common.{◌≡◌, ◌∷◌}
use Rattle.ob_syntax.specs.declared.frame.Frame.TheVariants.{Call}
use Rattle.ob_syntax.proofs.Frames.{called-room, called-tells}
use Rattle.ob_syntax.proofs.stack.Stack.end_group.Goals as goal

pub called-requires : goal.called-requires
called-requires c =
    let is : c.args.self.now ≡ Call c.in-Some-Call.call ∷ c.pop.new.self = rw c.in-Some-Call.field-0-is at c.in-Some-Call.ensures in
    called-room c.args.self.now c.pop.new.self c.in-Some-Call.call c.args.last c.in_ok-with_argument-in-Some-Call.field-0 is c.requires c.in_ok-with_argument-in-Some-Call.ensures.call

pub returns-in_ok-with_argument-in-Some-Call : goal.returns-in_ok-with_argument-in-Some-Call
returns-in_ok-with_argument-in-Some-Call c =
    let is : c.args.self.now ≡ Call c.in-Some-Call.call ∷ c.pop.new.self = rw c.in-Some-Call.field-0-is at c.in-Some-Call.ensures in
    called-tells c.args.self.now c.pop.new.self c.in-Some-Call.call c.args.last c.in_ok-with_argument-in-Some-Call.field-0 is c.requires c.in_ok-with_argument-in-Some-Call.ensures.call
    c.called.result c.args.at c.called.ensures.tree c.called.ensures.first
