-- What the search finds is the number of a field.
use Rattle.std.proofs.Common.{◌≡◌, ◌≤◌, List, length, map, sym, subst, ap, ◌∙◌, ◌-◌, get_or}
use Rattle.ob_base.specs.Limits.{max_fields}
use Rattle.ob_schema.specs.declared.info.FieldInfo.{FieldInfo}
use Rattle.ob_schema.specs.declared.info.ModelInfo.{ModelInfo}
use Rattle.ob_schema.specs.Models.{AreInOrder, IsModel, field_named, model_at}
use Rattle.ob_schema.proofs.ModelNames.{IfSome-field_named, IfSome-found, IsModel-read, numbered-read}
use Rattle.ob_schema.proofs.schema.Schema.field.Goals as goal

pub returns-clause-there : goal.returns-clause-there
returns-clause-there c =
    let models = c.args.self.now in
    let info = c.index-as_slice-model.result in
    let same : c.as_slice.result.now ≡ models = c.as_slice.ensures ∙ c.self.view_is in
    let is : info ≡ get_or models (c.args.model.0 - 1) info = c.index-as_slice-model.is ∙ ap (λ (l : List ModelInfo). get_or l (c.args.model.0 - 1) info) same in
    let named = c.field_number.ensures ∙ ap (λ (l : List FieldInfo). field_named l c.args.name.now) c.as_slice-2.ensures in
    IfSome-field_named models c.args.model info c.args.name.now c.field_number.result (numbered-read models c.args.model.0 info c.requires is) named

pub returns-clause-named : goal.returns-clause-named
returns-clause-named c =
    let models = c.args.self.now in
    let info = c.index-as_slice-model.result in
    let same : c.as_slice.result.now ≡ models = c.as_slice.ensures ∙ c.self.view_is in
    let is : info ≡ get_or models (c.args.model.0 - 1) info = c.index-as_slice-model.is ∙ ap (λ (l : List ModelInfo). get_or l (c.args.model.0 - 1) info) same in
    let named = c.field_number.ensures ∙ ap (λ (l : List FieldInfo). field_named l c.args.name.now) c.as_slice-2.ensures in
    IfSome-found (λ (info : ModelInfo). c.field_number.result ≡ field_named info.fields c.args.name.now) (model_at models c.args.model) info (numbered-read models c.args.model.0 info c.requires is) named

pub field_number-requires-clause-few : goal.field_number-requires-clause-few
field_number-requires-clause-few c =
    let models = c.args.self.now in
    let info = c.index-as_slice-model.result in
    let same : c.as_slice.result.now ≡ models = c.as_slice.ensures ∙ c.self.view_is in
    let is : info ≡ get_or models (c.args.model.0 - 1) info = c.index-as_slice-model.is ∙ ap (λ (l : List ModelInfo). get_or l (c.args.model.0 - 1) info) same in
    let right : IsModel models c.args.model info = IsModel-read c.self.inside.models models c.args.model info c.self.invariant.0 c.self.view_is c.requires is in
    let P : List FieldInfo → Type 0 = λ (l : List FieldInfo). length l ≤ max_fields in
    subst P (sym c.as_slice-2.ensures) right.few

pub field_number-requires-clause-ordered : goal.field_number-requires-clause-ordered
field_number-requires-clause-ordered c =
    let models = c.args.self.now in
    let info = c.index-as_slice-model.result in
    let same : c.as_slice.result.now ≡ models = c.as_slice.ensures ∙ c.self.view_is in
    let is : info ≡ get_or models (c.args.model.0 - 1) info = c.index-as_slice-model.is ∙ ap (λ (l : List ModelInfo). get_or l (c.args.model.0 - 1) info) same in
    let right : IsModel models c.args.model info = IsModel-read c.self.inside.models models c.args.model info c.self.invariant.0 c.self.view_is c.requires is in
    let P : List FieldInfo → Type 0 = λ (l : List FieldInfo). AreInOrder (map (λ field. field.name) l) in
    subst P (sym c.as_slice-2.ensures) right.ordered
