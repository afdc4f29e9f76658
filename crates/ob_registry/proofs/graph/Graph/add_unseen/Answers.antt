use Rattle.std.proofs.Common.{◌≡◌, ◌<◌, ℕ, List, Some, length, get_or, take, refl, sym, ap, subst, ◌∙◌, arith}
use Rattle.std.proofs.lemmas.List.{take_all, take_more}
use Rattle.std.proofs.lemmas.Option.{slice_get_read}
use Rattle.std.specs.Prelude.{Contains}
use Rattle.ob_registry.specs.Graphs.{NodeReads}
use Rattle.ob_registry.proofs.Heights.{Contains-from_reads, NodeReads-from, NodeReads-place}
use Rattle.ob_registry.proofs.Seen.{IsSeen-known, IsSeen-new, IsSeen-none, IsSeen-on, IsSeen-same}
use Rattle.ob_registry.proofs.graph.Graph.add_unseen.Goals as goal
use Rattle.ob_registry.proofs.graph.Graph.add_unseen.Goals.{then-not-index+in_ok-push, else-not-index}

pub loop-read-init : goal.loop-read-init
loop-read-init c = IsSeen-none c.args.is_seen.now.items c.args.waiting.now.items

pub index-requires-in-loop-read : goal.index-requires-in-loop-read
index-requires-in-loop-read c =
    let inside = c.requires.within (get_or c.deref-read-items.result.now c.loop-read.read-index 0)
    (NodeReads-place c.args.self.now.reads.items c.args.node c.index.result.now c.deref-read-items.result.now c.requires.node c.index.ensures c.deref-read-items.ensures.value c.loop-read.read-index c.loop-read-test.true) in
    omega (arith, inside, c.loop-read.invariant.count, c.loop-read.is_seen.ok.0)

pub index_mut-requires : goal.index_mut-requires
index_mut-requires c =
    let inside = c.requires.within (get_or c.deref-read-items.result.now c.loop-read.read-index 0)
    (NodeReads-place c.args.self.now.reads.items c.args.node c.index.result.now c.deref-read-items.result.now c.requires.node c.index.ensures c.deref-read-items.ensures.value c.loop-read.read-index c.loop-read-test.true) in
    omega (arith, inside, c.loop-read.invariant.count, c.loop-read.is_seen.ok.0)

pub loop-read-preserved : goal.loop-read-preserved
loop-read-preserved c =
    let row = c.deref-read-items.result.now in
    let read = get_or row c.loop-read.read-index 0 in
    let inside : read < length c.loop-read.is_seen.items =
    let within = c.requires.within read
    (NodeReads-place c.args.self.now.reads.items c.args.node c.index.result.now row c.requires.node c.index.ensures c.deref-read-items.ensures.value c.loop-read.read-index c.loop-read-test.true) in
    omega (arith, within, c.loop-read.invariant.count) in
    let mark = slice_get_read c.loop-read.is_seen.items (length c.loop-read.is_seen.items) read c.index-in-loop-read.result.now refl inside c.index-in-loop-read.ensures in
    let more = take_more row c.loop-read.read-index 0 c.loop-read-test.true in
    elim c.if-not-index.branch [
      | then-not-index+in_ok-push w ↦ IsSeen-on _ _ c.args.is_seen.now.items c.args.waiting.now.items _ _ _ _ more (ap (λ v. v.items) w.is_seen-is) (ap (λ v. v.items) w.waiting-is ∙ w.in_ok-push.ensures.items)
          (IsSeen-new (take c.loop-read.read-index row) c.args.is_seen.now.items c.args.waiting.now.items c.loop-read.is_seen.items c.loop-read.waiting.items read c.loop-read.invariant (mark ∙ ap Some w.if-not-index.true))
      | else-not-index w ↦ IsSeen-on _ _ c.args.is_seen.now.items c.args.waiting.now.items _ _ _ _ more (ap (λ v. v.items) w.is_seen-is) (ap (λ v. v.items) w.waiting-is)
          (IsSeen-known (take c.loop-read.read-index row) c.args.is_seen.now.items c.args.waiting.now.items c.loop-read.is_seen.items c.loop-read.waiting.items read c.loop-read.invariant (mark ∙ ap Some w.if-not-index.false))
    ]

pub returns : goal.returns
returns c =
    let row = c.deref-read-items.result.now in
    let all : take c.loop-read.read-index row ≡ row = take_all c.loop-read.read-index row c.loop-read-test.false in
    let stands = slice_get_read c.args.self.now.reads.items (length c.args.self.now.reads.items) c.args.node c.index.result.now refl c.requires.node c.index.ensures in
    let is = IsSeen-same (Contains (take c.loop-read.read-index row)) (NodeReads c.args.self.now.reads.items c.args.node) c.args.is_seen.now.items c.args.waiting.now.items c.loop-read.is_seen.items c.loop-read.waiting.items
    (λ b among. let at : Contains row b = subst (λ (l : List ℕ). Contains l b) all among in
    NodeReads-from c.args.self.now.reads.items c.args.node b c.index.result.now stands
    (subst (λ (l : List ℕ). Contains l b) c.deref-read-items.ensures.value at))
    (λ b reads. subst (λ (l : List ℕ). Contains l b) (sym all) (subst (λ (l : List ℕ). Contains l b) (sym c.deref-read-items.ensures.value)
    (Contains-from_reads c.args.self.now.reads.items c.args.node b c.index.result.now stands reads)))
    c.loop-read.invariant in
    record { seen = is.marked; waiting = is.waits; count = is.count; fewer = is.fewer }
