use Rattle.std.proofs.Common.{◌+◌, [], Bool, cond, drop, sym, ap, ◌∙◌}
use Rattle.std.specs.List.{flat_map}
use Rattle.ob_base.specs.declared.value.Value.{Value}
use Rattle.ob_audit.proofs.KeptLoops.{held-more, held-pass, joined-more, joined-pass, joined-same, left-more, left-pass, left_from, rest-all}
use Rattle.ob_audit.specs.Rows.{links_by}
use Rattle.ob_audit.specs.Reading.{entries, links_for}
use Rattle.ob_schema.specs.Fields.{Column}
use Rattle.ob_audit.proofs.kept_rows.links_of.Goals as goal
use Rattle.ob_audit.proofs.kept_rows.links_of.Goals.{then-is_kept+in-len1-up+then-is_plain_kept+in_ok-add_links, then-is_kept+in-len1-up+else-is_plain_kept, else-is_kept}

pub loop-place-preserved : goal.loop-place-preserved
loop-place-preserved c =
    let fields = c.args.fields.now in
    let i = c.loop-place.place in
    let field = c.index-fields-place.result in
    let low = c.loop-place-test.true in
    let at = c.index-fields-place.is in
    let left = c.loop-place.left.now in
    let whole = flat_map links_for (entries fields c.args.values.now) in
    elim c.if-is_kept.branch [
      | then-is_kept+in-len1-up+then-is_plain_kept+in_ok-add_links w ↦
          (let kept = sym c.is_kept.ensures ∙ w.if-is_kept.true in
          let plain = sym w.is_plain_kept.ensures ∙ w.if-is_plain_kept.true in
          let v : Value = w.value-item.result in
          let column : Column = (i + 1, field) in
          let held = held-more fields i field low at left kept c.loop-place.invariant.hold in
          let more = left-more fields i field low at left v kept held.0 w.value-item.is in
          rw (w.links-is, w.left-is, rest-all left, w.in_ok-add_links.ensures) (record {
            hold = held.1;
            all = joined-more links_for c.loop-place.links (left_from i fields left) (left_from (i + 1) fields (drop 1 left)) (column, v) (links_by column v) whole more
                (ap (λ (b : Bool). cond b (links_by column v) []) plain) c.loop-place.invariant.all;
          }))
      | then-is_kept+in-len1-up+else-is_plain_kept w ↦
          (let kept = sym c.is_kept.ensures ∙ w.if-is_kept.true in
          let other = sym w.is_plain_kept.ensures ∙ w.if-is_plain_kept.false in
          let v : Value = w.value-item.result in
          let column : Column = (i + 1, field) in
          let held = held-more fields i field low at left kept c.loop-place.invariant.hold in
          let more = left-more fields i field low at left v kept held.0 w.value-item.is in
          rw (w.links-is, w.left-is, rest-all left) (record {
            hold = held.1;
            all = joined-pass links_for c.loop-place.links (left_from i fields left) (left_from (i + 1) fields (drop 1 left)) (column, v) whole more
                (ap (λ (b : Bool). cond b (links_by column v) []) other) c.loop-place.invariant.all;
          }))
      | else-is_kept w ↦
          (let other = sym c.is_kept.ensures ∙ w.if-is_kept.false in
          rw (w.links-is, w.left-is) (record {
            hold = held-pass fields i field low at left other c.loop-place.invariant.hold;
            all = joined-same links_for c.loop-place.links (left_from i fields left) (left_from (i + 1) fields left) whole (left-pass fields i field low at left other) c.loop-place.invariant.all;
          }))
    ]
