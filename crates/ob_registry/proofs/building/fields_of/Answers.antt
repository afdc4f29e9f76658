-- One field for each formula, in turn.
use Rattle.std.proofs.Common.{◌≡◌, ◌+◌, ◌<◌, List, Some, [], ◌∷◌, ◌++◌, length, drop, refl, sym, subst, ◌∙◌, arith}
use Rattle.std.specs.Prelude.{slice_get}
use Rattle.std.specs.Vec.Iter.{into_iter_items}
use Rattle.std.proofs.lemmas.List.{length-map}
use Rattle.std.proofs.lemmas.Option.{slice_get_read, slice_get_within}
use Rattle.ob_schema.specs.declared.info.FieldInfo.{FieldInfo}
use Rattle.ob_registry.specs.ModelFields.{member_of, members_in}
use Rattle.ob_registry.proofs.MadeFields.{AreMadeUpto, drop-behind, hidden_made, named_made, slice_get-drop}
use Rattle.ob_registry.proofs.building.fields_of.Goals as goal
use Rattle.ob_registry.proofs.building.fields_of.Goals.{then-place-model+in_ok-push, else-place-model+in_ok-push-2}

pub loop-formula-preserved : goal.loop-formula-preserved
loop-formula-preserved c =
    let models = c.args.models.now in
    let model = c.args.model.now in
    let formulas = c.args.formulas.items in
    let place = c.loop-formula.place in
    let formula = c.in-Some.formula in
    let fields = c.loop-formula.fields in
    let hidden = c.loop-formula.hidden in
    let info = c.in_ok-info.info in
    let rest = into_iter_items c.next.new.self in
    let head : drop place formulas ≡ formula ∷ rest = sym c.loop-formula.invariant.rest ∙ c.in-Some.ensures.steps.0 in
    let given : slice_get formulas place ≡ Some formula = slice_get-drop place formulas formula rest head in
    let within : place < length formulas = slice_get_within formulas place formula given in
    let inside : place < length model.members.items = omega (arith, c.requires) in
    let at : slice_get model.members.items place ≡ Some c.index-member.result.now = slice_get_read model.members.items (length model.members.items) place c.index-member.result.now refl inside c.index-member.ensures in
    let fewer = c.in-Some.ensures.steps.1 in
    let left = c.loop-formula.invariant.left in
    let made = c.loop-formula.invariant.made in
    record {
      rest = sym (drop-behind place formulas formula rest head);
      left = omega arith;
      made = elim c.if-place-model.branch [
        | then-place-model+in_ok-push w ↦
            (let grown : c.if-place-model.fields ≡ fields ++ info ∷ [] = w.fields-is ∙ w.in_ok-push.ensures.ok in
            subst (λ (l : List FieldInfo). AreMadeUpto models model formulas l c.if-place-model.hidden (place + 1)) (sym grown)
            (subst (λ (l : List FieldInfo). AreMadeUpto models model formulas (fields ++ info ∷ []) l (place + 1)) (sym w.hidden-is)
            (named_made models model formulas fields hidden place made c.index-member.result.now formula info at given c.in_ok-info.ensures.of c.in_ok-info.ensures.native w.if-place-model.true)))
        | else-place-model+in_ok-push-2 w ↦
            (let grown : c.if-place-model.hidden ≡ hidden ++ info ∷ [] = w.hidden-is ∙ w.in_ok-push-2.ensures.ok in
            subst (λ (l : List FieldInfo). AreMadeUpto models model formulas l c.if-place-model.hidden (place + 1)) (sym w.fields-is)
            (subst (λ (l : List FieldInfo). AreMadeUpto models model formulas fields l (place + 1)) (sym grown)
            (hidden_made models model formulas fields hidden place made c.index-member.result.now formula info at given c.in_ok-info.ensures.of c.in_ok-info.ensures.native w.if-place-model.false)))
      ];
    }

pub returns-clause-named : goal.returns-clause-named
returns-clause-named c =
    let none = c.in-None.ensures.steps.0 in
    let left = c.loop-formula.invariant.left in
    let within = c.args.model.now.within in
    c.loop-formula.invariant.made.high (omega (arith, c.requires))

pub returns-clause-all : goal.returns-clause-all
returns-clause-all c =
    let none = c.in-None.ensures.steps.0 in
    let left = c.loop-formula.invariant.left in
    let count = c.loop-formula.invariant.made.count in
    omega (arith, c.requires)

pub returns-clause-fields : goal.returns-clause-fields
returns-clause-fields c = λ g number placed k m is.
    let items = c.args.model.now.members.items in
    let none = c.in-None.ensures.steps.0 in
    let left = c.loop-formula.invariant.left in
    let within : k < length (members_in items) = slice_get_within (members_in items) k m is in
    let same : length (members_in items) ≡ length items = length-map items member_of in
    c.loop-formula.invariant.made.each g number placed k m (omega (arith, c.requires)) is

pub returns-clause-native : goal.returns-clause-native
returns-clause-native c = c.loop-formula.invariant.made.native
