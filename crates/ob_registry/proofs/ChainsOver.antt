-- Chains over nodes are chains over the fields at them, and so are circles.
use Rattle.std.proofs.Common.{◌≡◌, ℕ, zero, suc, Bool, true, List, Some, arith}
use Rattle.std.specs.Prelude.{◌↔◌, Contains, slice_get}
use Rattle.std.proofs.lemmas.Option.{slice_get_within}
use Rattle.ob_definition.specs.Gathered.{Gathered}
use Rattle.ob_registry.specs.declared.graph.Graph.{Graph}
use Rattle.ob_schema.specs.declared.info.Step.{Step}
use Rattle.ob_schema.specs.Chains.{HasChain, Reaches, ReachesOver}
use Rattle.ob_registry.specs.Graphs.{AreOnCycles, IsGraph, NodeReads, all_steps}
use Rattle.ob_schema.specs.Strata.{Chain, IsComputedAt, IsOnCycle, MeetsCircle, ReadsAnother}
use Rattle.ob_registry.proofs.AllSteps.{element_at, member-step, place_of}

-- a computed field's step is one of all
pub computed-step : (models : List Gathered) (step : Step) → IsComputedAt models step → Contains (all_steps models) step
computed-step models step (g, m, is, computed) = member-step models step g m is

-- and so is a field in a circle
pub on-cycle_step : (models : List Gathered) (own : Step) → IsOnCycle models own → IsComputedAt models own
on-cycle_step models own (n, reach) = last n own reach
  where
    last : (n : ℕ) (a : Step) → ReachesOver (ReadsAnother models) n a own → IsComputedAt models own
    last zero a reads = reads.0.0
    last (suc n) a (b, reads, rest) = last n b rest

module _ (models : List Gathered) (graph : Graph) (is : IsGraph models graph) where
  -- a chain of nodes is one of their fields, and the other way round
  pub chain-of_nodes : (n a : ℕ) (own : Step) → slice_get (all_steps models) a ≡ Some own → HasChain (NodeReads graph.reads.items) n a → Chain models n own
  chain-of_nodes zero a own here chain = tt
  chain-of_nodes (suc n) a own here (b, reads, chain) =
      let other = element_at (all_steps models) b (is.within a b reads) in
      (other.0, (is.reads a b own other.0 here other.1).0 reads, chain-of_nodes n b other.0 other.1 chain)

  pub nodes-of_chain : (n a : ℕ) (own : Step) → slice_get (all_steps models) a ≡ Some own → Chain models n own → HasChain (NodeReads graph.reads.items) n a
  nodes-of_chain zero a own here chain = tt
  nodes-of_chain (suc n) a own here (other, reads, chain) =
      let node = place_of (all_steps models) other (computed-step models other reads.0.0) in
      (node.0, (is.reads a node.0 own other here node.1).1 reads, nodes-of_chain n node.0 other node.1 chain)

  -- so is what is reached
  reach-of_nodes : (n a c : ℕ) (own last : Step) → slice_get (all_steps models) a ≡ Some own → slice_get (all_steps models) c ≡ Some last
      → ReachesOver (NodeReads graph.reads.items) n a c → ReachesOver (ReadsAnother models) n own last
  reach-of_nodes zero a c own last here there reads = (is.reads a c own last here there).0 reads
  reach-of_nodes (suc n) a c own last here there (b, reads, rest) =
      let other = element_at (all_steps models) b (is.within a b reads) in
      (other.0, (is.reads a b own other.0 here other.1).0 reads, reach-of_nodes n b c other.0 last other.1 there rest)

  nodes-of_reach : (n a c : ℕ) (own last : Step) → slice_get (all_steps models) a ≡ Some own → slice_get (all_steps models) c ≡ Some last
      → ReachesOver (ReadsAnother models) n own last → ReachesOver (NodeReads graph.reads.items) n a c
  nodes-of_reach zero a c own last here there reads = (is.reads a c own last here there).1 reads
  nodes-of_reach (suc n) a c own last here there (other, reads, rest) =
      let node = place_of (all_steps models) other (computed-step models other reads.0.0) in
      (node.0, (is.reads a node.0 own other here node.1).1 reads, nodes-of_reach n node.0 c other last node.1 there rest)

  -- a node is in a circle where its field is
  pub cycle-is : (a : ℕ) (own : Step) → slice_get (all_steps models) a ≡ Some own → Reaches (NodeReads graph.reads.items) a a ↔ IsOnCycle models own
  cycle-is a own here = (λ (n, reach). (n, reach-of_nodes n a a own own here here reach), λ (n, reach). (n, nodes-of_reach n a a own own here here reach))

  -- and meets one where its field does
  pub meets-is : (marks : List Bool) → AreOnCycles graph.reads.items marks → (a : ℕ) (own : Step) → slice_get (all_steps models) a ≡ Some own
      → ((b : ℕ) × Reaches (NodeReads graph.reads.items) a b × (slice_get marks b ≡ Some true)) ↔ MeetsCircle models own
  meets-is marks are a own here = (to, from)
    where
      to : (b : ℕ) × Reaches (NodeReads graph.reads.items) a b × (slice_get marks b ≡ Some true) → MeetsCircle models own
      to (b, (n, reach), on) =
          let other = element_at (all_steps models) b (omega (arith, slice_get_within marks b true on, are.count, is.count)) in
          (other.0, (n, reach-of_nodes n a b own other.0 here other.1 reach), (cycle-is b other.0 other.1).0 ((are.each b).0 on))

      from : MeetsCircle models own → (b : ℕ) × Reaches (NodeReads graph.reads.items) a b × (slice_get marks b ≡ Some true)
      from (other, (n, reach), on) =
          let node = place_of (all_steps models) other (computed-step models other (on-cycle_step models other on)) in
          (node.0, (n, nodes-of_reach n a node.0 own other here node.1 reach), (are.each node.0).1 ((cycle-is node.0 other node.1).1 on))
