use Rattle.std.proofs.Common.{◌≡◌, ◌≢◌, ℕ, ◌+◌, List, [], ◌∷◌, ◌++◌, Option, take, sym, ap, subst, ◌∙◌}
use Rattle.std.proofs.lemmas.List.{take_all, take_more}
use Rattle.std.proofs.lemmas.Option.{none-some, same_Some}
use Rattle.std.specs.Borrow.{Bor}
use Rattle.std.specs.Prelude.{◌↔◌, Contains, option_map}
use Rattle.ob_registry.specs.declared.formulas.DraftFormula.{DraftFormula}
use Rattle.ob_schema.specs.declared.info.Path.{Path}
use Rattle.ob_registry.specs.Graphs.{IsReadBy}
use Rattle.ob_registry.proofs.GraphReads.{AreRead, AreRead-kept, AreRead-new, AreRead-none}
use Rattle.ob_registry.proofs.graph.Graph.reads_of.Goals as goal
use Rattle.ob_registry.proofs.graph.Graph.reads_of.Goals.{in-Some-end_of+then-read-node+in_ok-push, in-Some-end_of+else-read-node, in_default-end_of}

pub loop-path-init : goal.loop-path-init
loop-path-init c =
    subst (λ (reads : List ℕ). AreRead c.args.models.now c.args.self.now.steps.items c.args.node [] reads) (sym c.new-reads.ensures.items) (AreRead-none c.args.models.now c.args.self.now.steps.items c.args.node)

pub loop-path-preserved : goal.loop-path-preserved
loop-path-preserved c =
    let models = c.args.models.now in
    let steps = c.args.self.now.steps.items in
    let node = c.args.node in
    let paths = take c.loop-path.path-index c.as_slice-path-items.result.now in
    let path = c.path-item.result in
    let more : take (c.loop-path.path-index + 1) c.as_slice-path-items.result.now ≡ paths ++ path ∷ [] =
    take_more c.as_slice-path-items.result.now c.loop-path.path-index path c.loop-path-test.true ∙ ap (λ (p : Path). paths ++ p ∷ []) (sym c.path-item.is) in
    let carried : (reads new : List ℕ) → new ≡ reads → AreRead models steps node (paths ++ path ∷ []) reads → AreRead models steps node (take (c.loop-path.path-index + 1) c.as_slice-path-items.result.now) new =
    λ reads new e are. subst (λ (l : List Path). AreRead models steps node l new) (sym more) (subst (λ (l : List ℕ). AreRead models steps node (paths ++ path ∷ []) l) (sym e) are) in
    elim c.match-end_of.branch [
      | in-Some-end_of+then-read-node+in_ok-push w ↦ carried (c.loop-path.reads.items ++ w.in-Some-end_of.read ∷ []) c.match-end_of.reads.items (ap (λ v. v.items) w.reads-is ∙ w.in_ok-push.ensures.items)
          (AreRead-new models steps node paths c.loop-path.reads.items path c.loop-path.invariant w.in-Some-end_of.read w.if-read-node.true w.in-Some-end_of.ensures)
      | in-Some-end_of+else-read-node w ↦ carried c.loop-path.reads.items c.match-end_of.reads.items (ap (λ v. v.items) w.reads-is)
          (AreRead-kept models steps node paths c.loop-path.reads.items path c.loop-path.invariant
          (λ b apart read. apart (sym (same_Some w.in-Some-end_of.read b ((w.in-Some-end_of.ensures b).1 read)) ∙ w.if-read-node.false)))
      | in_default-end_of w ↦ carried c.loop-path.reads.items c.match-end_of.reads.items (ap (λ v. v.items) w.reads-is)
          (AreRead-kept models steps node paths c.loop-path.reads.items path c.loop-path.invariant
          (λ b apart read. none-some b (sym w.in_default-end_of.is ∙ (c.end_of.ensures b).1 read)))
    ]

pub returns : goal.returns
returns c =
    let all = take_all c.loop-path.path-index c.as_slice-path-items.result.now c.loop-path-test.false ∙ c.as_slice-path-items.ensures in
    let are = subst (λ (l : List Path). AreRead c.args.models.now c.args.self.now.steps.items c.args.node l c.loop-path.reads.items) all c.loop-path.invariant in
    subst (λ (o : Option (Bor DraftFormula)). (b : ℕ) → Contains c.loop-path.reads.items b ↔ ((b ≢ c.args.node) × IsReadBy c.args.models.now c.args.self.now.steps.items (option_map (λ f. f.now) o) b)) (sym c.in-Some.is) are
