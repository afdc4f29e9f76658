use Rattle.std.proofs.Common.{◌≡◌, ◌+◌, ◌<◌, ◌≤◌, ℕ, length, get_or, refl, ap, arith, rules}
use Rattle.ob_registry.proofs.Heights.{NodeReads-place, place_of_read}
use Rattle.ob_registry.proofs.graph.Graph.reads_high.Goals as goal

pub bounds-heights-read : goal.bounds-heights-read
bounds-heights-read c =
    c.requires.within (get_or c.deref-read-items.result.now c.loop-read.read-index 0)
    (NodeReads-place c.args.self.now.reads.items c.args.node c.index.result.now c.deref-read-items.result.now c.requires.node c.index.ensures c.deref-read-items.ensures.value c.loop-read.read-index c.loop-read-test.true)

pub offset_bounds-heights-read : goal.offset_bounds-heights-read
offset_bounds-heights-read c =
    let inside : get_or c.deref-read-items.result.now c.loop-read.read-index 0 < length c.args.heights.now = c.requires.within (get_or c.deref-read-items.result.now c.loop-read.read-index 0)
    (NodeReads-place c.args.self.now.reads.items c.args.node c.index.result.now c.deref-read-items.result.now c.requires.node c.index.ensures c.deref-read-items.ensures.value c.loop-read.read-index c.loop-read-test.true) in
    search rules

pub returns-then-heights-read : goal.returns-then-heights-read
returns-then-heights-read c = (
  λ _. (
    get_or c.deref-read-items.result.now c.loop-read.read-index 0,
    NodeReads-place c.args.self.now.reads.items c.args.node c.index.result.now c.deref-read-items.result.now c.requires.node c.index.ensures c.deref-read-items.ensures.value c.loop-read.read-index c.loop-read-test.true,
    c.if-heights-read.true,
  ),
  λ _. refl,
)

pub returns : goal.returns
returns c =
    let none : (b : ℕ) → (k : ℕ) × (k < length c.deref-read-items.result.now) × (get_or c.deref-read-items.result.now k 0 ≡ b) → c.args.height ≤ get_or c.args.heights.now b 0 + 1 → ⊥ =
    λ b at high. let low = c.loop-read.invariant at.0 (omega (arith, at.1, c.loop-read-test.false)) in omega (arith, low, high, ap (λ (n : ℕ). get_or c.args.heights.now n 0) at.2) in (
      λ is. absurd (cc),
      λ found. absurd (none found.0
          (place_of_read c.args.self.now.reads.items c.args.node c.index.result.now c.deref-read-items.result.now c.requires.node c.index.ensures c.deref-read-items.ensures.value found.0 found.1) found.2),
    )
