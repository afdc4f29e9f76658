use Rattle.std.proofs.Common.{◌≡◌, ◌+◌, ◌-◌, ◌<◌, ℕ, suc, List, length, get_or, sym, ap, subst, ◌∙◌, arith}
use Rattle.std.proofs.lemmas.Bool.{true≢false}
use Rattle.ob_registry.specs.Graphs.{NodeReads}
use Rattle.ob_registry.proofs.Heights.{AreHeights-raised, IsRaisedUpto, IsRaisedUpto-kept, IsRaisedUpto-none, IsRaisedUpto-raised, heights_low}
use Rattle.ob_registry.proofs.graph.Graph.raise.Goals as goal
use Rattle.ob_registry.proofs.graph.Graph.raise.Goals.{then-reads_high, else-reads_high}

pub loop-node-init : goal.loop-node-init
loop-node-init c = IsRaisedUpto-none c.args.self.now.reads.items (c.args.height - 1) c.args.heights.now.items c.requires.below

pub reads_high-requires : goal.reads_high-requires
reads_high-requires c =
    let length_at : length c.as_slice.result.now ≡ length c.loop-node.heights.items = ap length c.as_slice.ensures.value in
    record {
      node = omega (arith, c.loop-node-test.true, c.requires.count, c.len-node-end.ensures);
      within = λ b reads. omega (arith, length_at, c.requires.within c.loop-node.node b reads, c.loop-node.invariant.count, c.requires.count);
      low = λ b. (let low = heights_low c.args.self.now.reads.items (c.args.height - 1) c.loop-node.node c.loop-node.heights.items c.loop-node.invariant b in
          omega (arith, low, c.requires.low, c.requires.high, ap (λ (l : List ℕ). get_or l b 0) c.as_slice.ensures.value));
    }

pub loop-node-preserved : goal.loop-node-preserved
loop-node-preserved c =
    let is : c.args.height ≡ suc (c.args.height - 1) = omega (arith, c.requires.low) in
    let inside : c.loop-node.node < length c.loop-node.heights.items = omega (arith, c.loop-node.invariant.count, c.requires.count, c.len-node-end.ensures) in
    let within : (b : ℕ) → NodeReads c.args.self.now.reads.items c.loop-node.node b → b < length c.loop-node.heights.items =
    λ b reads. omega (arith, c.requires.within c.loop-node.node b reads, c.loop-node.invariant.count, c.requires.count) in
    let at : (b : ℕ) → get_or c.as_slice.result.now b 0 ≡ get_or c.loop-node.heights.items b 0 = λ b. ap (λ (l : List ℕ). get_or l b 0) c.as_slice.ensures.value in
    elim c.if-reads_high.branch [
      | then-reads_high w ↦ (
          let found = c.reads_high.ensures.0 w.if-reads_high.true in
          subst (λ (l : List ℕ). IsRaisedUpto c.args.self.now.reads.items (c.args.height - 1) (c.loop-node.node + 1) l) (sym (ap (λ v. v.items) w.heights-is))
          (IsRaisedUpto-raised c.args.self.now.reads.items (c.args.height - 1) c.loop-node.node c.loop-node.heights.items c.loop-node.invariant found.0 c.args.height inside (within found.0 found.1) is found.1
          (omega (arith, found.2, at found.0))))
      | else-reads_high w ↦ (
          subst (λ (l : List ℕ). IsRaisedUpto c.args.self.now.reads.items (c.args.height - 1) (c.loop-node.node + 1) l) (sym (ap (λ v. v.items) w.heights-is))
          (IsRaisedUpto-kept c.args.self.now.reads.items (c.args.height - 1) c.loop-node.node c.loop-node.heights.items c.loop-node.invariant c.args.height inside within is
          (λ b reads high. true≢false (sym (c.reads_high.ensures.1 (b, reads, omega (arith, high, at b))) ∙ w.if-reads_high.false))))
    ]

pub returns : goal.returns
returns c =
    AreHeights-raised c.args.self.now.reads.items (c.args.height - 1) c.loop-node.node c.args.height c.loop-node.heights.items c.loop-node.invariant
    (omega (arith, c.loop-node-test.false, c.loop-node.invariant.count, c.requires.count, c.len-node-end.ensures)) (omega (arith, c.requires.low))
