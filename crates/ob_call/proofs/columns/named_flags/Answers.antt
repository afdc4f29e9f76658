use Rattle.std.proofs.Common.{◌≡◌, ◌<◌, ◌≤◌, ◌-◌, length, set, true, ap, arith}
use Rattle.ob_schema.specs.Models.{model_at}
use Rattle.ob_call.proofs.NamedNumbers.{IsFlaggedTo-none, IsFlaggedTo-more, IsFlaggedTo-pass, IsFlaggedTo-all}
use Rattle.ob_call.proofs.columns.named_flags.Goals as goal
use Rattle.ob_call.proofs.columns.named_flags.Goals.{in-Some, in_default}

pub loop-item-init : goal.loop-item-init
loop-item-init c =
    let e = c.in_ok-flags.ensures.items_if_clones_equal in
    IsFlaggedTo-none (model_at c.args.schema.now c.args.model) c.args.items.now c.fields.result.now c.in_ok-flags.flags.items c.fields.ensures.same c.fields.ensures.few (e (λ y same. same))

pub loop-item-preserved : goal.loop-item-preserved
loop-item-preserved c =
    let found = model_at c.args.schema.now c.args.model in
    let items = c.args.items.now in let i = c.loop-item.item-index in let item = c.item-item.result in
    let below : i < length items = omega arith in
    elim c.match-field_named.branch [
      | in-Some w ↦ (let written : c.match-field_named.flags.items ≡ set c.loop-item.flags.items (w.in-Some.number.0 - 1) true = ap (λ v. v.items) w.flags-is in
          rw written (IsFlaggedTo-more found items i c.loop-item.flags.items item w.in-Some.number below c.item-item.is c.requires w.in-Some.ensures.named c.loop-item.invariant))
      | in_default w ↦ rw w.flags-is (IsFlaggedTo-pass found items i c.loop-item.flags.items item below c.item-item.is w.in_default.ensures.named c.loop-item.invariant)
    ]

pub returns-clause-named : goal.returns-clause-named
returns-clause-named c =
    let all : length c.args.items.now ≤ c.loop-item.item-index = omega arith in
    IsFlaggedTo-all (model_at c.args.schema.now c.args.model) c.args.items.now c.loop-item.item-index c.loop-item.flags.items all c.loop-item.invariant
