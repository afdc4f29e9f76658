use Rattle.std.proofs.Common.{◌≡◌, ◌≢◌, ℕ, ◌+◌, List, length, Option, Some, sym, ap, subst, ◌∙◌, arith}
use Rattle.std.specs.Prelude.{◌↔◌, Contains, IsSomeAnd, Vec, option_map, slice_get}
use Rattle.std.specs.declared.alloc.Global.{Global}
use Rattle.ob_registry.specs.declared.formulas.DraftFormula.{DraftFormula}
use Rattle.ob_schema.specs.declared.info.Step.{Step}
use Rattle.ob_registry.specs.Graphs.{AreStarts, IsReadBy}
use Rattle.ob_schema.specs.Strata.{IsPathOf}
use Rattle.ob_registry.specs.Telling.{steps_in}
use Rattle.ob_registry.proofs.GraphReads.{IsGraph-from, IsReadUpto, IsReadUpto-more, NodeReadsAnother-from, NodeReadsAnother-to}
use Rattle.ob_registry.proofs.Readings.{mapped_from, mapped_to}
use Rattle.ob_registry.proofs.Steps.{model_at-step}
use Rattle.ob_registry.proofs.graph.Graph.add_reads.Goals as goal

pub formula_at-formula-requires : goal.formula_at-formula-requires
formula_at-formula-requires c =
    let at : slice_get c.args.self.now.steps.items c.loop-node.node ≡ Some c.step.result = ap (λ (v : Vec Step Global). slice_get v.items c.loop-node.node) (sym c.loop-node.invariant.steps) ∙ c.step.ensures in
    record {
      model = model_at-step c.args.models.now c.loop-node.node c.step.result (ap (λ (l : List Step). slice_get l c.loop-node.node) (sym c.requires.steps) ∙ at);
      formulas = c.requires.formulas;
    }

pub reads_of-requires-clause-starts : goal.reads_of-requires-clause-starts
reads_of-requires-clause-starts c =
    subst (λ (v : Vec Step Global). AreStarts v.items c.loop-node.self.starts.items) (sym c.loop-node.invariant.steps)
    (subst (λ (v : Vec ℕ Global). AreStarts c.args.self.now.steps.items v.items) (sym c.loop-node.invariant.starts) c.requires.starts)

pub loop-node-preserved : goal.loop-node-preserved
loop-node-preserved c =
    let models = c.args.models.now in
    let steps = c.args.self.now.steps.items in
    let node = c.loop-node.node in
    let found = c.formula_at-formula.result in
    let formula : Option DraftFormula = option_map (λ f. f.now) found in
    let at : slice_get steps node ≡ Some c.step.result = ap (λ (v : Vec Step Global). slice_get v.items node) (sym c.loop-node.invariant.steps) ∙ c.step.ensures in
    let paths : (path : List Step) → IsPathOf models c.step.result path ↔ IsSomeAnd formula (λ f. Contains (steps_in f.depends) path) = λ path. (
      λ is. mapped_from found (λ (f : DraftFormula). Contains (steps_in f.depends) path) ((c.formula_at-formula.ensures path).0 is),
      λ is. (c.formula_at-formula.ensures path).1 (mapped_to found (λ (f : DraftFormula). Contains (steps_in f.depends) path) is),
    ) in
    let reads = subst (λ (v : Vec Step Global). (b : ℕ) → Contains c.in_ok-reads.reads.items b ↔ ((b ≢ node) × IsReadBy models v.items formula b)) c.loop-node.invariant.steps c.in_ok-reads.ensures in
    record {
      steps = c.loop-node.invariant.steps;
      starts = c.loop-node.invariant.starts;
      upto = subst (IsReadUpto models steps (node + 1)) (sym c.in_ok-push.ensures.items) (IsReadUpto-more models steps node c.loop-node.self.reads.items c.in_ok-reads.reads c.loop-node.invariant.upto
          (λ b. (
            λ among. NodeReadsAnother-from models steps c.requires.steps node c.step.result at formula paths b ((reads b).0 among),
            λ another. (reads b).1 (NodeReadsAnother-to models steps c.requires.steps node c.step.result at formula paths b another),
          )));
    }

pub returns : goal.returns
returns c =
    let models = c.args.models.now in
    let inv = c.loop-node.invariant in
    let all : c.loop-node.node ≡ length c.args.self.now.steps.items = omega (arith, c.loop-node-test.false, c.loop-node.auto.node-end, c.len-node-end.ensures) in
    IsGraph-from models c.loop-node.self (ap (λ v. v.items) inv.steps ∙ c.requires.steps)
    (subst (λ (v : Vec Step Global). AreStarts v.items c.loop-node.self.starts.items) (sym inv.steps)
    (subst (λ (v : Vec ℕ Global). AreStarts c.args.self.now.steps.items v.items) (sym inv.starts) c.requires.starts))
    (subst (λ (v : Vec Step Global). IsReadUpto models v.items (length v.items) c.loop-node.self.reads.items) (sym inv.steps)
    (subst (λ (n : ℕ). IsReadUpto models c.args.self.now.steps.items n c.loop-node.self.reads.items) all inv.upto))
