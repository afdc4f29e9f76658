use Rattle.std.proofs.Common.{◌≡◌, ◌<◌, ◌+◌, ◌∙◌, ℕ, Bool, true, false, cond, Option, Some, ap, subst, get_or, unwrap_or, refl}
use Rattle.std.specs.Prelude.{SomeIff}
use Rattle.std.specs.BTreeMap as tree
use Rattle.std.specs.Ordering.{is_eq, nat_cmp}
use Rattle.ob_base.specs.declared.id.RecId.{RecId}
use Rattle.ob_tables.proofs.Counted.{counted}
use Rattle.ob_tables.proofs.cells.count_targets.Goals as goal

changed : (b : Bool) (n : ℕ) (o : Option ℕ) → unwrap_or (cond b (Some n) o) 0 ≡ cond b n (unwrap_or o 0)
changed true n o = refl
changed false n o = refl

pub loop-target-preserved : goal.loop-target-preserved
loop-target-preserved c =
    let x : RecId = get_or c.args.targets.now c.loop-target.target-index (record { 0 = 0 }) in
    let old : ℕ → ℕ = λ q. unwrap_or (tree.get nat_cmp c.loop-target.counts q) 0 in
    let new : ℕ → ℕ = λ q. unwrap_or (tree.get nat_cmp c.insert.new.self q) 0 in
    let first : ℕ → ℕ = λ q. unwrap_or (tree.get nat_cmp c.args.counts.now q) 0 in
    let more : c.in_ok-more.more ≡ c.unwrap_or-count.result + 1 = (subst (λ o. SomeIff o (c.unwrap_or-count.result + 1 < 18446744073709551616) (c.unwrap_or-count.result + 1)) c.in_ok-more.ensures.ok_part c.checked_add.ensures).1 in
    let was : c.unwrap_or-count.result ≡ old x.0 = c.unwrap_or-count.ensures ∙ ap (λ o. unwrap_or o 0) (c.copied.ensures ∙ c.get.ensures.value) in
    counted c.args.targets.now c.loop-target.target-index (record { 0 = 0 }) old new first c.loop-target-test.true
    (λ q. ap (λ o. unwrap_or o 0) (c.in_ok-insert.ensures.updates.0 q) ∙ changed (is_eq (nat_cmp x.0 q)) c.in_ok-more.more (tree.get nat_cmp c.loop-target.counts q)
    ∙ ap (λ n. cond (is_eq (nat_cmp x.0 q)) n (old q)) (more ∙ ap (λ n. n + 1) was))
    c.loop-target.invariant
