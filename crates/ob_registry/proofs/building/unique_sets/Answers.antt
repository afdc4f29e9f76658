-- One more set, with the numbers of its names.
use Rattle.std.proofs.Common.{◌≡◌, List, ap, subst, sym, ◌∙◌, ◌∷◌, [], ◌++◌, take, ◌+◌}
use Rattle.std.specs.List.{AllZip}
use Rattle.std.proofs.lemmas.List.{map-append}
use Rattle.ob_base.specs.declared.id.FieldNo.{FieldNo}
use Rattle.ob_definition.specs.declared.gathering.UniqueSet.{UniqueSet}
use Rattle.ob_definition.specs.Gathered.{DeclaredSet, set_at}
use Rattle.ob_definition.specs.ByName.{sets_of}
use Rattle.ob_definition.proofs.CallerLemmas.{next_front, zip_push}
use Rattle.ob_registry.specs.Building.{AreNumbers}
use Rattle.ob_registry.specs.ModelFields.{named_in}
use Rattle.ob_registry.proofs.building.unique_sets.Goals as goal

pub loop-set-preserved : goal.loop-set-preserved
loop-set-preserved c =
    let members = named_in c.args.model.now.named c.args.model.now.members.items in
    let R : DeclaredSet → List FieldNo → Type 0 = λ u. AreNumbers members u.names in
    let sets = c.args.sets.now in
    let i = c.loop-set.set-index in
    let item = c.set-item.result in
    let set : DeclaredSet = set_at item.entry item.names.now in
    let grown : sets_of (take i sets) ++ set ∷ [] ≡ sets_of (take (i + 1) sets) =
    sym (map-append (λ (u : UniqueSet). set_at u.entry u.names.now) (take i sets) (item ∷ [])) ∙ ap sets_of (next_front sets i item c.loop-set-test.true c.set-item.is) in
    let pushed = zip_push R (sets_of (take i sets)) c.loop-set.unique set c.in_ok-numbers.field-0 c.loop-set.invariant c.in_ok-numbers.ensures in
    subst (λ (l : List (List FieldNo)). AllZip R (sets_of (take (i + 1) sets)) l) (sym c.in_ok-push.ensures.ok)
    (subst (λ (l : List DeclaredSet). AllZip R l (c.loop-set.unique ++ c.in_ok-numbers.field-0 ∷ [])) grown pushed)
