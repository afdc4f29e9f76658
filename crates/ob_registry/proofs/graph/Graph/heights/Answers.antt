use Rattle.std.proofs.Common.{◌≡◌, ◌+◌, ◌-◌, ℕ, List, replicate, sym, ap, subst, ◌∙◌, arith}
use Rattle.ob_registry.specs.Graphs.{AreHeights}
use Rattle.ob_registry.proofs.Heights.{AreHeights-none}
use Rattle.ob_registry.proofs.graph.Graph.heights.Goals as goal

pub loop-height-init : goal.loop-height-init
loop-height-init c =
    subst (λ (heights : List ℕ). AreHeights c.args.self.now.reads.items 0 heights) (sym (c.in_ok-heights.ensures ∙ ap (λ (n : ℕ). replicate {A = ℕ} n 0) (c.len.ensures ∙ sym c.requires.count)))
    (AreHeights-none c.args.self.now.reads.items)

pub loop-height-preserved : goal.loop-height-preserved
loop-height-preserved c =
    let same : c.loop-height.height ≡ c.loop-height.height + 1 - 1 = omega arith in
    subst (λ (limit : ℕ). AreHeights c.args.self.now.reads.items limit c.raise.new.heights.items) same c.raise.ensures
