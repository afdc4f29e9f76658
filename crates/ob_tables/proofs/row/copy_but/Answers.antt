use Rattle.std.proofs.Common.{◌≢◌, Some, cond, sym, ap, ◌∙◌}
use Rattle.std.specs.BTreeMap as tree
use Rattle.std.specs.Ordering.{nat_cmp, eq_by_cmp}
use Rattle.std.specs.Cmp.{nat_cmp_total}
use Rattle.std.specs.Map.{lookup}
use Rattle.ob_tables.proofs.Copied.{copy-begun, copy-done, copy-more, copy-passes}
use Rattle.ob_tables.proofs.Shown.{apart}
use Rattle.ob_tables.proofs.row.copy_but.Goals as goal

pub loop-number-init : goal.loop-number-init
loop-number-init c = copy-begun nat_cmp (λ q. q ≢ c.args.field.0) (tree.get nat_cmp c.new-copy.result) c.into_iter-number-iterator.result c.args.row.now.entries
    (λ q. ap (lookup (tree.is_at (nat_cmp q))) c.new-copy.ensures.empty) (c.into_iter-number-iterator.ensures.into_iter_gives ∙ c.iter-number-items.ensures.rest)

pub returns : goal.returns
returns c =
    copy-done nat_cmp (λ q. q ≢ c.args.field.0) nat_cmp_total (tree.get nat_cmp c.loop-number.copy) c.loop-number.number-iterator c.args.row.now.entries c.in-None.ensures.steps.0 c.iter-number-items.ensures.ordered c.loop-number.invariant

pub loop-number-preserved-in_ok-put_value : goal.loop-number-preserved-in_ok-put_value
loop-number-preserved-in_ok-put_value c =
    let k = c.in-Some.number.now in
    copy-more nat_cmp (λ q. q ≢ c.args.field.0) (tree.get nat_cmp c.loop-number.copy) (tree.get nat_cmp c.put_value.new.row) k c.in-Some.value.now c.loop-number.number-iterator c.next.new.self c.args.row.now.entries
    c.in-Some.ensures.steps (λ q. c.in_ok-put_value.ensures q ∙ ap (λ v. cond (eq_by_cmp nat_cmp k q) (Some v) (tree.get nat_cmp c.loop-number.copy q)) c.in_ok-try_clone.ensures) c.loop-number.invariant

pub loop-number-preserved : goal.loop-number-preserved
loop-number-preserved c =
    let k = c.in-Some.number.now in
    copy-passes nat_cmp (λ q. q ≢ c.args.field.0) (tree.get nat_cmp c.loop-number.copy) k c.in-Some.value.now c.loop-number.number-iterator c.next.new.self c.args.row.now.entries
    c.in-Some.ensures.steps (λ q other. apart k q (λ is. other (sym is ∙ c.if-number-field.false))) c.loop-number.invariant
