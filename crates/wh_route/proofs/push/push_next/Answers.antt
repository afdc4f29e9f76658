use Rattle.std.proofs.Common.{take, get_or, false}
use Rattle.std.proofs.lemmas.List.{take_more}
use Rattle.wh_route.specs.declared.rule.RouteRule.{RouteRule}
use Rattle.wh_route.specs.Routes.{PushesFrom}
use Rattle.wh_route.proofs.Scans.{pushes_skip, pushes_take}
use Rattle.wh_route.proofs.push.push_next.Goals as goal
use Rattle.wh_route.proofs.push.push_next.Goals.{then-pushes_from, else-pushes_from}

pub loop-rule-preserved : goal.loop-rule-preserved
loop-rule-preserved c =
    let none : RouteRule = record { id = record { 0 = 0 }; pull = false; src = record { 0 = 0 }; dest = record { 0 = 0 } } in
    let seen = take c.loop-rule.rule-index c.args.rules.now in
    let rule = get_or c.args.rules.now c.loop-rule.rule-index none in
    let more = take_more c.args.rules.now c.loop-rule.rule-index none c.loop-rule-test.true in
    elim c.if-pushes_from.branch [
      | then-pushes_from w ↦
          let pushes : PushesFrom c.args.place rule = c.pushes_from.ensures.0 w.if-pushes_from.true in
          rw (w.found-is, more) (pushes_take seen c.args.place c.loop-rule.found rule w.lesser.result c.loop-rule.invariant pushes w.lesser.ensures.both w.lesser.ensures.one w.lesser.ensures.no_more)
      | else-pushes_from w ↦
          let not : ¬ PushesFrom c.args.place rule = λ pushes. cc (c.pushes_from.ensures.1 pushes, w.if-pushes_from.false) in
          rw (w.found-is, more) (pushes_skip seen c.args.place c.loop-rule.found rule c.loop-rule.invariant not)
    ]
