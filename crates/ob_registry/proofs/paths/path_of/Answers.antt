use Rattle.std.proofs.Common.{◌≡◌, ℕ, ◌-◌, ◌∷◌, [], List, get_or, take, drop, length, sym, ap, ◌∙◌, Some}
use Rattle.std.specs.Borrow.{Bor}
use Rattle.ob_schema.specs.Paths.{path_from, targets_of}
use Rattle.ob_registry.specs.Telling.{texts_in, told_path}
use Rattle.ob_registry.proofs.PathSteps.{behind}
use Rattle.ob_registry.proofs.TargetModels.{target-there}
use Rattle.ob_registry.proofs.ToldPaths.{ends, ends_not, first-name, goes_on, known, no-names, some-names, stops, unknown}
use Rattle.ob_registry.proofs.paths.path_of.Goals as goal
use Rattle.ob_registry.proofs.paths.path_of.Goals.{then-has_value, else-has_value}

-- no name stands there yet
abbrev none : Bor (List ℕ)
none = record { ref_ptr = (0, 0); now = [] }

pub returns-in_default-find : goal.returns-in_default-find
returns-in_default-find c =
    let rest = c.loop-rest.rest.now in
    let more = texts_in (take (length rest - 1) (drop 1 rest)) in
    sym (ap told_path (c.loop-rest.invariant.tells
    ∙ ap (λ (l : List (List ℕ)). behind c.loop-rest.steps (path_from c.args.models.now c.loop-rest.model l)) (first-name rest none c.in-len1-up.len_at_least)
    ∙ ap (behind c.loop-rest.steps) (unknown c.args.models.now c.loop-rest.model c.model.result.now (get_or rest 0 none).now c.model.ensures c.find.result c.find.ensures c.in_default-find.is more)))

pub add_steps-requires : goal.add_steps-requires
add_steps-requires c = known c.args.models.now c.loop-rest.model c.model.result.now (get_or c.loop-rest.rest.now 0 none).now c.model.ensures c.find.result c.find.ensures c.in-Some.member c.in-Some.is

pub returns-then-is_empty : goal.returns-then-is_empty
returns-then-is_empty c =
    let rest = c.loop-rest.rest.now in
    let model = c.loop-rest.model in
    let name = (get_or rest 0 none).now in
    let last : texts_in rest ≡ name ∷ [] = first-name rest none c.in-len1-up.len_at_least ∙ ap (λ (l : List (List ℕ)). name ∷ l) (no-names (take (length rest - 1) (drop 1 rest)) (sym c.is_empty.ensures ∙ c.if-is_empty.true)) in
    let follows = c.loop-rest.invariant.tells ∙ ap (λ (l : List (List ℕ)). behind c.loop-rest.steps (path_from c.args.models.now model l)) last in
    elim c.if-has_value.branch [
      | then-has_value w ↦ w.result-is ∙ sym (ap told_path (follows
          ∙ ends c.args.models.now model c.model.result.now name c.model.ensures c.find.result c.find.ensures c.in-Some.member c.in-Some.is c.loop-rest.steps c.add_steps.new.steps
          c.in_ok-add_steps.ensures (sym c.has_value.ensures ∙ w.if-has_value.true)))
      | else-has_value w ↦ w.result-is ∙ sym (ap told_path (follows
          ∙ ap (behind c.loop-rest.steps) (ends_not c.args.models.now model c.model.result.now name c.model.ensures c.find.result c.find.ensures c.in-Some.member c.in-Some.is (sym c.has_value.ensures ∙ w.if-has_value.false))))
    ]

pub returns-in-None : goal.returns-in-None
returns-in-None c =
    let rest = c.loop-rest.rest.now in
    let model = c.loop-rest.model in
    let name = (get_or rest 0 none).now in
    let more = some-names (take (length rest - 1) (drop 1 rest)) (sym c.is_empty.ensures ∙ c.if-is_empty.false) in
    let names : texts_in rest ≡ name ∷ more.0 ∷ more.1 = first-name rest none c.in-len1-up.len_at_least ∙ ap (λ (l : List (List ℕ)). name ∷ l) more.2 in
    sym (ap told_path (c.loop-rest.invariant.tells ∙ ap (λ (l : List (List ℕ)). behind c.loop-rest.steps (path_from c.args.models.now model l)) names
    ∙ ap (behind c.loop-rest.steps) (stops c.args.models.now model c.model.result.now name c.model.ensures c.find.result c.find.ensures c.in-Some.member c.in-Some.is more.0 more.1 (sym c.targets_of.ensures ∙ c.in-None.is))))

pub loop-rest-preserved : goal.loop-rest-preserved
loop-rest-preserved c =
    let rest = c.loop-rest.rest.now in
    let model = c.loop-rest.model in
    let target = c.in-Some-targets_of.target in
    let name = (get_or rest 0 none).now in
    let onward = take (length rest - 1) (drop 1 rest) in
    let more = some-names onward (sym c.is_empty.ensures ∙ c.if-is_empty.false) in
    let names : texts_in rest ≡ name ∷ more.0 ∷ more.1 = first-name rest none c.in-len1-up.len_at_least ∙ ap (λ (l : List (List ℕ)). name ∷ l) more.2 in
    let leads : targets_of c.args.models.now c.in-Some.member.now.def.now ≡ Some target = sym c.targets_of.ensures ∙ c.in-Some-targets_of.is in
    record {
      there = target-there c.args.models.now c.in-Some.member.now.def.now target leads;
      tells =
          c.loop-rest.invariant.tells ∙ ap (λ (l : List (List ℕ)). behind c.loop-rest.steps (path_from c.args.models.now model l)) names
          ∙ goes_on c.args.models.now model c.model.result.now name c.model.ensures c.find.result c.find.ensures c.in-Some.member c.in-Some.is
          c.loop-rest.steps c.add_steps.new.steps c.in_ok-add_steps.ensures more.0 more.1 target leads
          ∙ ap (λ (l : List (List ℕ)). behind c.add_steps.new.steps (path_from c.args.models.now target l)) (sym more.2);
    }
