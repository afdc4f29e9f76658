use Rattle.ob_cache.proofs.OnceEach.{listed-more, pushed-kept, pushed-this, was-met}
use Rattle.ob_cache.proofs.once.add_new.Goals as goal

pub returns-in_ok-push-clause-kept : goal.returns-in_ok-push-clause-kept
returns-in_ok-push-clause-kept c = pushed-kept c.args.once.now.items c.push.new.self.items c.args.row c.in_ok-push.ensures.items

pub returns-in_ok-push-clause-added : goal.returns-in_ok-push-clause-added
returns-in_ok-push-clause-added c = pushed-this c.args.once.now.items c.push.new.self.items c.args.row c.in_ok-push.ensures.items

pub returns-in_ok-push-clause-met : goal.returns-in_ok-push-clause-met
returns-in_ok-push-clause-met c =
    let once = c.args.once.now.items in
    let now = c.push.new.self.items in
    listed-more c.args.met.now c.insert.new.self c.args.row c.in_ok-insert.ensures.updates.0 once now c.requires.met
    (pushed-kept once now c.args.row c.in_ok-push.ensures.items) (pushed-this once now c.args.row c.in_ok-push.ensures.items)

pub returns-else-branch-clause-added : goal.returns-else-branch-clause-added
returns-else-branch-clause-added c = c.requires.met c.args.row (was-met c.args.met.now c.insert.new.self c.args.row c.in_ok-insert.field-0 c.in_ok-insert.ensures.added c.if-branch.false)
