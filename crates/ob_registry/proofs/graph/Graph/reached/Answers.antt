use Rattle.std.proofs.Common.{◌≡◌, ◌+◌, ◌++◌, ℕ, false, List, [], ◌∷◌, length, length-append, replicate, refl, sym, ap, subst, ◌∙◌, arith}
use Rattle.std.proofs.lemmas.List.Elements.{Contains-push}
use Rattle.ob_registry.specs.Graphs.{NodeReads}
use Rattle.ob_registry.proofs.Seen.{IsSeen}
use Rattle.ob_registry.proofs.Searches.{IsMarked-reached, IsSearch, IsSearch-more, IsSearch-none}
use Rattle.ob_registry.proofs.graph.Graph.reached.Goals as goal

pub loop-next-init : goal.loop-next-init
loop-next-init c =
    IsSearch-none (NodeReads c.args.self.now.reads.items) (length c.args.self.now.reads.items) c.args.node c.in_ok-is_seen.is_seen.items c.push.new.self.items
    (omega (arith, c.requires.node, c.requires.count))
    (c.in_ok-is_seen.ensures ∙ ap (λ (n : ℕ). replicate n false) (c.len.ensures ∙ sym c.requires.count))
    (c.in_ok-push.ensures.items ∙ ap (λ (l : List ℕ). l ++ c.args.node ∷ []) c.new-waiting.ensures.items)

pub add_unseen-requires-clause-node : goal.add_unseen-requires-clause-node
add_unseen-requires-clause-node c =
    let was = subst (λ (l : List ℕ). IsSearch (NodeReads c.args.self.now.reads.items) (length c.args.self.now.reads.items) c.args.node c.loop-next.is_seen.items l) c.in-Some.ensures.items c.loop-next.invariant in
    was.within c.in-Some.next (Contains-push c.pop.new.self.items c.in-Some.next)

pub loop-next-preserved : goal.loop-next-preserved
loop-next-preserved c =
    let was = subst (λ (l : List ℕ). IsSearch (NodeReads c.args.self.now.reads.items) (length c.args.self.now.reads.items) c.args.node c.loop-next.is_seen.items l) c.in-Some.ensures.items c.loop-next.invariant in
    let is : IsSeen (NodeReads c.args.self.now.reads.items c.in-Some.next) c.loop-next.is_seen.items c.pop.new.self.items c.add_unseen.new.is_seen.items c.add_unseen.new.waiting.items = record {
      count = c.in_ok-add_unseen.ensures.count;
      marked = c.in_ok-add_unseen.ensures.seen;
      waits = c.in_ok-add_unseen.ensures.waiting;
      fewer = c.in_ok-add_unseen.ensures.fewer;
    } in
    IsSearch-more (NodeReads c.args.self.now.reads.items) (length c.args.self.now.reads.items) c.args.node c.loop-next.is_seen.items c.pop.new.self.items c.in-Some.next c.add_unseen.new.is_seen.items c.add_unseen.new.waiting.items was is
    (λ b follows. let inside = c.requires.within c.in-Some.next b follows in omega (arith, inside, c.requires.count))

pub loop-next-smaller : goal.loop-next-smaller
loop-next-smaller c =
    let one : length c.loop-next.waiting.items ≡ length c.pop.new.self.items + length (c.in-Some.next ∷ []) = ap length c.in-Some.ensures.items ∙ length-append c.pop.new.self.items (c.in-Some.next ∷ []) in
    omega (arith, one, c.in_ok-add_unseen.ensures.fewer)

empty : (xs : List ℕ) → length xs ≡ 0 → xs ≡ []
empty [] none = refl
empty (x ∷ xs) none = absurd (omega arith)

pub returns-clause-count : goal.returns-clause-count
returns-clause-count c = c.loop-next.invariant.count ∙ c.requires.count

pub returns-clause-each : goal.returns-clause-each
returns-clause-each c =
    let none = empty c.loop-next.waiting.items (omega (arith, c.in_default.ensures.cases.0, c.loop-next.waiting.ok.0)) in
    let done = subst (λ (l : List ℕ). IsSearch (NodeReads c.args.self.now.reads.items) (length c.args.self.now.reads.items) c.args.node c.loop-next.is_seen.items l) none c.loop-next.invariant in
    λ b. (c.loop-next.invariant.reached b, IsMarked-reached (NodeReads c.args.self.now.reads.items) (length c.args.self.now.reads.items) c.args.node c.loop-next.is_seen.items done b)
