use Rattle.std.proofs.Common.{[], ◌∷◌, arith, length-append}
use Rattle.wh_route.proofs.Chains.{Leads-push, IsChain-end, one_chain, longer}
use Rattle.wh_route.proofs.pull.pull_chain.Goals as goal

pub returns-then-len-ge-MAX_CHAIN_RULES-clause-depth : goal.returns-then-len-ge-MAX_CHAIN_RULES-clause-depth
returns-then-len-ge-MAX_CHAIN_RULES-clause-depth c e ids chain short =
    let past = longer c.args.rules.now c.args.place c.loop-rule.chain c.loop-rule.at c.in-Some.rule c.loop-rule.invariant.0 c.in-Some.ensures.some ids chain in
    omega (arith, past, short)

pub returns-then-len-ge-MAX_CHAIN_RULES-clause-only : goal.returns-then-len-ge-MAX_CHAIN_RULES-clause-only
returns-then-len-ge-MAX_CHAIN_RULES-clause-only c = one_chain c.args.rules.now c.args.place

pub returns-in_err-push-clause-only : goal.returns-in_err-push-clause-only
returns-in_err-push-clause-only c = one_chain c.args.rules.now c.args.place

pub loop-rule-preserved : goal.loop-rule-preserved
loop-rule-preserved c =
    let led = Leads-push c.args.rules.now c.args.place c.loop-rule.chain c.loop-rule.at c.in-Some.rule c.loop-rule.invariant.0 c.in-Some.ensures.some in
    (rw c.in_ok-push.ensures.ok led, rw c.in_ok-push.ensures.ok (omega (arith, length-append c.loop-rule.chain (c.in-Some.rule.id ∷ []))))

pub returns-clause-chain : goal.returns-clause-chain
returns-clause-chain c = IsChain-end c.args.rules.now c.args.place c.loop-rule.chain c.loop-rule.at c.loop-rule.invariant.0 c.in_default.ensures.none

pub returns-clause-only : goal.returns-clause-only
returns-clause-only c = one_chain c.args.rules.now c.args.place
