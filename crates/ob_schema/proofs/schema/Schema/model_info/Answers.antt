-- The model that is read at the number is one of the registry.
use Rattle.std.proofs.Common.{◌≡◌, List, ap, ◌∙◌, ◌-◌, get_or}
use Rattle.ob_schema.specs.declared.info.ModelInfo.{ModelInfo}
use Rattle.ob_schema.proofs.ModelNames.{IsModel-read, numbered-read}
use Rattle.ob_schema.proofs.schema.Schema.model_info.Goals as goal

pub returns-clause-at : goal.returns-clause-at
returns-clause-at c =
    let models = c.args.self.now in
    let info = c.index-as_slice-model.result in
    let same : c.as_slice.result.now ≡ models = c.as_slice.ensures ∙ c.self.view_is in
    let is : info ≡ get_or models (c.args.model.0 - 1) info = c.index-as_slice-model.is ∙ ap (λ (l : List ModelInfo). get_or l (c.args.model.0 - 1) info) same in
    numbered-read models c.args.model.0 info c.requires is

pub returns-clause-fit : goal.returns-clause-fit
returns-clause-fit c =
    let models = c.args.self.now in
    let info = c.index-as_slice-model.result in
    let same : c.as_slice.result.now ≡ models = c.as_slice.ensures ∙ c.self.view_is in
    let is : info ≡ get_or models (c.args.model.0 - 1) info = c.index-as_slice-model.is ∙ ap (λ (l : List ModelInfo). get_or l (c.args.model.0 - 1) info) same in
    IsModel-read c.self.inside.models models c.args.model info c.self.invariant.0 c.self.view_is c.requires is
