use Rattle.std.proofs.Common.{◌≡◌, List, get_or, Option, Some, None, sym, ap, ◌∙◌}
use Rattle.std.proofs.lemmas.Result.{IfOk-weaker}
use Rattle.ob_definition.specs.ByName.{place_of}
use Rattle.ob_definition.specs.Gathered.{Gathered, model_of, with_opened}
use Rattle.ob_definition.proofs.Places.{model_of-free, model_of-read, put-added}
use Rattle.ob_definition.proofs.Taking.{found-extension, found-no_extension}
use Rattle.ob_definition.proofs.gathering.Gathering.extend.Goals as goal

pub returns-in-Some-clause-models : goal.returns-in-Some-clause-models
returns-in-Some-clause-models c =
    let models = c.self.inside.models.items in
    let base = c.args.base.now in
    let model = c.index_mut-model.result.now in
    let at : place_of models base ≡ Some c.in-Some.place = ap (λ (l : List Gathered). place_of l base) c.self.view_is ∙ sym c.place.ensures.at ∙ c.in-Some.is in
    IfOk-weaker c.add.result _ _
    (λ _ new. put-added models base c.in-Some.place c.args.entry c.args.def.now model c.add.new.self at c.index_mut-model.ensures.value new
    ∙ ap (λ (ms : List Gathered). with_opened c.args.entry c.args.def.now (model_of ms base) ms) c.self.view_is)
    c.add.ensures.model

pub returns-in-Some-clause-faults : goal.returns-in-Some-clause-faults
returns-in-Some-clause-faults c =
    let models = c.args.self.now in
    let base = c.args.base.now in
    let model = c.index_mut-model.result.now in
    let there : model_of models base ≡ Some model =
    model_of-read models base c.in-Some.place model (sym c.place.ensures.at ∙ c.in-Some.is) (c.index_mut-model.ensures.value ∙ ap (λ (l : List Gathered). get_or l c.in-Some.place model) c.self.view_is) in
    IfOk-weaker c.add.result _ _ (λ _ adds. found-extension models c.args.entry c.args.def.now base model c.args.first.now c.add.new.first there adds) c.add.ensures.faults

pub returns-in-None-clause-models : goal.returns-in-None-clause-models
returns-in-None-clause-models c =
    let models = c.args.self.now in
    let free : model_of models c.args.base.now ≡ None = model_of-free models c.args.base.now (sym c.place.ensures.at ∙ c.in-None.is) in
    IfOk-weaker c.at_entry.result _ _ (λ _ _. sym (ap (λ (o : Option Gathered). with_opened c.args.entry c.args.def.now o models) free)) c.at_entry.ensures.found

pub returns-in-None-clause-faults : goal.returns-in-None-clause-faults
returns-in-None-clause-faults c =
    let models = c.args.self.now in
    let free : model_of models c.args.base.now ≡ None = model_of-free models c.args.base.now (sym c.place.ensures.at ∙ c.in-None.is) in
    IfOk-weaker c.at_entry.result _ _ (λ _ adds. found-no_extension models c.args.entry c.args.def.now c.args.base.now c.args.first.now c.at_entry.new.self free adds) c.at_entry.ensures.found
