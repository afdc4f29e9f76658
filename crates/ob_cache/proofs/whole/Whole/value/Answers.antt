use Rattle.std.proofs.Common.{◌≡◌, Some, IfOk, IfSome, List, ap, sym, subst, ◌∙◌}
use Rattle.std.proofs.lemmas.Result.{IfOk-weaker}
use Rattle.ob_cache.proofs.TypedCells.{plain-told-typed}
use Rattle.ob_codec.specs.Held.{HasFieldType}
use Rattle.ob_schema.specs.Models.{field_at}
use Rattle.ob_schema.specs.Plain.{plain_at}
use Rattle.ob_schema.specs.Tables.{Standing}
use Rattle.ob_schema.specs.declared.info.ModelInfo.{ModelInfo}
use Rattle.ob_cache.proofs.whole.Whole.value.Goals as goal

pub returns-in-Id-clause-typed : goal.returns-in-Id-clause-typed
returns-in-Id-clause-typed c =
    let s = c.args.self.now in
    let cell = c.args.cell in
    let models_are : c.self.inside.schema.now ≡ s.models = sym c.self.invariant.over ∙ ap (λ (t : Standing). t.models) c.self.view_is in
    let at : field_at s.models cell.model cell.field ≡ Some c.info-info.result.now = ap (λ (m : List ModelInfo). field_at m cell.model cell.field) (sym models_are) ∙ c.info-info.ensures in
    IfOk-weaker c.plain.result (λ v. v ≡ plain_at s.tables s.models cell) (λ told. IfSome told (HasFieldType (field_at s.models cell.model cell.field)))
    (λ v is. plain-told-typed s.models s.tables c.laws.ensures.registry c.laws.ensures.readable.sound.fits cell c.info-info.result.now at v is)
    (subst (λ (t : Standing). IfOk c.plain.result (λ v. v ≡ plain_at t.tables t.models cell)) c.self.view_is c.plain.ensures)
