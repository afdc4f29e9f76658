use Rattle.std.proofs.Common.{◌≡◌, ◌+◌, ◌-◌, suc, arith}
use Rattle.std.proofs.lemmas.Result.{err_from_is_err_and}
use Rattle.ob_codec.proofs.ValueLaws.{id_above}
use Rattle.ob_codec.proofs.ReadingSteps.{ids_fail, ids_more, ids_end, below_push}
use Rattle.ob_codec.specs.ValueReading.{body_ids}
use Rattle.ob_codec.proofs.kept_values.ids_of.Goals as goal

pub returns-in_err-id : goal.returns-in_err-id
returns-in_err-id c =
    let more : c.args.count - c.loop-i.i ≡ suc (c.args.count - (c.loop-i.i + 1)) = omega arith in
    let p = err_from_is_err_and c.from_residual.result c.from_residual.ensures.1 in
    rw (p.1, p.2) (ids_fail (c.args.count - c.loop-i.i) (c.args.count - (c.loop-i.i + 1)) c.loop-i.before c.loop-i.ids c.loop-i.left.now (body_ids c.args.count 0 c.args.bytes.now) c.in_err-id.field-0.0 more
    c.in_err-id.ensures c.loop-i.invariant.left)

pub push-requires : goal.push-requires
push-requires c = λ k d h.
    let above = id_above c.loop-i.before c.loop-i.left.now c.in_ok-id.id c.in_ok-id.rest.now c.in_ok-id.ensures in
    omega (arith, c.loop-i.invariant.below k d h, above)

pub loop-i-preserved : goal.loop-i-preserved
loop-i-preserved c =
    let above = id_above c.loop-i.before c.loop-i.left.now c.in_ok-id.id c.in_ok-id.rest.now c.in_ok-id.ensures in
    let more : c.args.count - c.loop-i.i ≡ suc (c.args.count - (c.loop-i.i + 1)) = omega arith in
    record {
      below = rw c.in_ok-push.ensures.ok (below_push c.loop-i.ids c.in_ok-id.id c.loop-i.before c.loop-i.invariant.below above);
      left = rw c.in_ok-push.ensures.ok (ids_more (c.args.count - c.loop-i.i) (c.args.count - (c.loop-i.i + 1)) c.loop-i.before c.loop-i.ids c.loop-i.left.now c.in_ok-id.id c.in_ok-id.rest.now
          (body_ids c.args.count 0 c.args.bytes.now) more c.in_ok-id.ensures c.loop-i.invariant.left);
    }

pub returns : goal.returns
returns c = ids_end (c.args.count - c.loop-i.i) c.loop-i.before c.loop-i.ids c.loop-i.left.now (body_ids c.args.count 0 c.args.bytes.now) (omega arith) c.loop-i.invariant.left
