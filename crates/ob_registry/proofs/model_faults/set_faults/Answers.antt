use Rattle.std.proofs.Common.{◌≡◌, ◌∙◌, List, ap, subst, take}
use Rattle.std.proofs.lemmas.List.{take_all}
use Rattle.ob_definition.specs.ByName.{sets_of}
use Rattle.ob_definition.specs.Findings.{Adds}
use Rattle.ob_definition.specs.Gathered.{DeclaredSet, Gathered}
use Rattle.ob_registry.specs.ModelFields.{named_in}
use Rattle.ob_registry.specs.Telling.{AreSetFaults}
use Rattle.ob_registry.proofs.ModelRooms.{no_sets_told, set_told}
use Rattle.ob_registry.proofs.model_faults.set_faults.Goals as goal

pub loop-set-init : goal.loop-set-init
loop-set-init c = no_sets_told (named_in c.args.model.now.named c.args.model.now.members.items) c.args.first.now

pub loop-set-preserved : goal.loop-set-preserved
loop-set-preserved c =
    set_told (named_in c.args.model.now.named c.args.model.now.members.items) c.deref-set-items.result.now c.loop-set.set-index c.set-item.result c.wrong_set.result c.args.first.now c.loop-set.first c.at_entry.new.self
    c.loop-set-test.true c.set-item.is c.loop-set.invariant c.wrong_set.ensures c.in_ok-at_entry.ensures.found

pub returns : goal.returns
returns c =
    let all : sets_of (take c.loop-set.set-index c.deref-set-items.result.now) ≡ c.args.model.now.gathered.now.unique =
    ap sets_of (take_all c.loop-set.set-index c.deref-set-items.result.now c.loop-set-test.false ∙ c.deref-set-items.ensures.value) ∙ ap (λ (g : Gathered). g.unique) c.gathered.view_is in
    subst (λ (sets : List DeclaredSet). Adds (AreSetFaults (named_in c.args.model.now.named c.args.model.now.members.items) sets) c.args.first.now c.loop-set.first) all c.loop-set.invariant
