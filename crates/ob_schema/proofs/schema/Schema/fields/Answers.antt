-- The model that is read at the number is one of the registry.
use Rattle.std.proofs.Common.{◌≡◌, ◌≤◌, List, length, ap, sym, subst, ◌∙◌, ◌-◌, get_or}
use Rattle.std.specs.Prelude.{All}
use Rattle.ob_base.specs.Limits.{max_fields, max_name_bytes}
use Rattle.ob_schema.specs.declared.info.FieldInfo.{FieldInfo}
use Rattle.ob_schema.specs.declared.info.ModelInfo.{ModelInfo}
use Rattle.ob_schema.specs.Models.{IsModel}
use Rattle.ob_schema.proofs.ModelNames.{IsModel-read}
use Rattle.ob_schema.proofs.schema.Schema.fields.Goals as goal

pub returns-clause-few : goal.returns-clause-few
returns-clause-few c =
    let models = c.args.self.now in
    let info = c.index-as_slice-model.result in
    let same : c.as_slice.result.now ≡ models = c.as_slice.ensures ∙ c.self.view_is in
    let is : info ≡ get_or models (c.args.model.0 - 1) info = c.index-as_slice-model.is ∙ ap (λ (l : List ModelInfo). get_or l (c.args.model.0 - 1) info) same in
    let right : IsModel models c.args.model info = IsModel-read c.self.inside.models models c.args.model info c.self.invariant.0 c.self.view_is c.requires is in
    let P : List FieldInfo → Type 0 = λ (l : List FieldInfo). length l ≤ max_fields in
    subst P (sym (c.as_slice-2.ensures ∙ ap (λ (m : ModelInfo). m.fields) (sym c.index-as_slice-model.is))) right.few

pub returns-clause-short : goal.returns-clause-short
returns-clause-short c =
    let models = c.args.self.now in
    let info = c.index-as_slice-model.result in
    let same : c.as_slice.result.now ≡ models = c.as_slice.ensures ∙ c.self.view_is in
    let is : info ≡ get_or models (c.args.model.0 - 1) info = c.index-as_slice-model.is ∙ ap (λ (l : List ModelInfo). get_or l (c.args.model.0 - 1) info) same in
    let right : IsModel models c.args.model info = IsModel-read c.self.inside.models models c.args.model info c.self.invariant.0 c.self.view_is c.requires is in
    let P : List FieldInfo → Type 0 = λ (l : List FieldInfo). All (λ field. length field.name ≤ max_name_bytes) l in
    subst P (sym (c.as_slice-2.ensures ∙ ap (λ (m : ModelInfo). m.fields) (sym c.index-as_slice-model.is))) right.short
