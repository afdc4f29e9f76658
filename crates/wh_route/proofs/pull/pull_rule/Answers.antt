use Rattle.std.proofs.Common.{take, get_or, false}
use Rattle.std.proofs.lemmas.List.{take_more}
use Rattle.wh_route.specs.declared.rule.RouteRule.{RouteRule}
use Rattle.wh_route.specs.Routes.{PullsTo}
use Rattle.wh_route.proofs.Scans.{pulls_skip, pulls_take}
use Rattle.wh_route.proofs.pull.pull_rule.Goals as goal
use Rattle.wh_route.proofs.pull.pull_rule.Goals.{then-pulls_to, else-pulls_to}

pub loop-rule-preserved : goal.loop-rule-preserved
loop-rule-preserved c =
    let none : RouteRule = record { id = record { 0 = 0 }; pull = false; src = record { 0 = 0 }; dest = record { 0 = 0 } } in
    let seen = take c.loop-rule.rule-index c.args.rules.now in
    let rule = get_or c.args.rules.now c.loop-rule.rule-index none in
    let more = take_more c.args.rules.now c.loop-rule.rule-index none c.loop-rule-test.true in
    elim c.if-pulls_to.branch [
      | then-pulls_to w ↦
          let pulls : PullsTo c.args.place rule = c.pulls_to.ensures.0 w.if-pulls_to.true in
          rw (w.found-is, more) (pulls_take seen c.args.place c.loop-rule.found rule w.earlier.result c.loop-rule.invariant pulls w.earlier.ensures.both w.earlier.ensures.one
          w.earlier.ensures.no_later)
      | else-pulls_to w ↦
          let not : ¬ PullsTo c.args.place rule = λ pulls. cc (c.pulls_to.ensures.1 pulls, w.if-pulls_to.false) in
          rw (w.found-is, more) (pulls_skip seen c.args.place c.loop-rule.found rule c.loop-rule.invariant not)
    ]
