-- Each name that is there has its number, in turn.
use Rattle.std.proofs.Common.{◌≡◌, ℕ, List, ◌∷◌, [], ◌++◌, map, ap, sym, subst, ◌∙◌}
use Rattle.std.proofs.lemmas.List.{take_all}
use Rattle.ob_base.specs.declared.id.FieldNo.{FieldNo}
use Rattle.ob_registry.specs.Building.{AreNumbers}
use Rattle.ob_registry.specs.ModelFields.{named_in, number_in}
use Rattle.ob_registry.proofs.NumbersOf.{all_numbers}
use Rattle.ob_registry.proofs.Somes.{none_from, none_more, some_more, somes}
use Rattle.ob_registry.proofs.building.numbers.Goals as goal
use Rattle.ob_registry.proofs.building.numbers.Goals.{in-Some+in_ok-push, in_default}

pub returns : goal.returns
returns c =
    let members = named_in c.args.model.now.named c.args.model.now.members.items in
    let whole = take_all c.loop-name.name-index c.args.names.now c.loop-name-test.false in
    let all : c.loop-name.numbers ≡ somes (map (number_in members) c.args.names.now) = c.loop-name.invariant ∙ ap (λ (l : List (List ℕ)). somes (map (number_in members) l)) whole in
    subst (λ (l : List FieldNo). AreNumbers members c.args.names.now l) (sym all) (all_numbers members c.args.names.now)

pub loop-name-preserved : goal.loop-name-preserved
loop-name-preserved c =
    let names = c.args.names.now in
    let f = number_in (named_in c.args.model.now.named c.args.model.now.members.items) in
    let i = c.loop-name.name-index in
    let name = c.name-item.result in
    let answer : f name ≡ c.number.result = ap f (sym c.as_str.ensures) ∙ sym c.number.ensures.at in
    elim c.match-number.branch [
      | in-Some+in_ok-push w ↦
          w.numbers-is ∙ w.in_ok-push.ensures.ok ∙ ap (λ (l : List FieldNo). l ++ w.in-Some.number ∷ []) c.loop-name.invariant
          ∙ sym (some_more f names i name w.in-Some.number c.loop-name-test.true c.name-item.is (answer ∙ w.in-Some.is))
      | in_default w ↦ w.numbers-is ∙ c.loop-name.invariant ∙ sym (none_more f names i name c.loop-name-test.true c.name-item.is (answer ∙ none_from c.number.result w.in_default.not-Some))
    ]
