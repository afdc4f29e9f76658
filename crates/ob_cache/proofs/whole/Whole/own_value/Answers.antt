use Rattle.std.proofs.Common.{◌≡◌, true, false, Some, IfOk, IfSome, List, ap, sym, subst, ◌∙◌}
use Rattle.std.proofs.lemmas.Result.{IfOk-weaker}
use Rattle.ob_cache.specs.Rooms.{IsValueIn}
use Rattle.ob_cache.proofs.PlainValues.{own-given, plain-told}
use Rattle.ob_cache.proofs.TypedCells.{plain-told-typed}
use Rattle.ob_codec.specs.Held.{HasFieldType}
use Rattle.ob_schema.specs.Models.{field_at, is_delegated_from, is_given_from}
use Rattle.ob_schema.specs.Plain.{plain_at}
use Rattle.ob_schema.specs.Tables.{Standing}
use Rattle.ob_schema.specs.declared.info.FieldInfo.{FieldInfo}
use Rattle.ob_schema.specs.declared.info.ModelInfo.{ModelInfo}
use Rattle.ob_tables.proofs.CallerLemmas.{known_at}
use Rattle.ob_cache.proofs.whole.Whole.own_value.Goals as goal

pub returns-in_default : goal.returns-in_default
returns-in_default c =
    let s = c.args.self.now in
    let cell = c.args.cell in
    let info = c.info-info.result.now in
    let models_are : c.self.inside.schema.now ≡ s.models = sym c.self.invariant.over ∙ ap (λ (t : Standing). t.models) c.self.view_is in
    let at : field_at s.models cell.model cell.field ≡ Some info = ap (λ (m : List ModelInfo). field_at m cell.model cell.field) (sym models_are) ∙ c.info-info.ensures in
    let given : is_given_from info.origin ≡ true =
    own-given info.origin c.in_default.not-Computed (known_at (field_at s.models cell.model cell.field) info (λ (i : FieldInfo). is_delegated_from i.origin ≡ false) at c.requires) in
    let plain : IfOk c.plain.result (λ v. v ≡ plain_at s.tables s.models cell) = subst (λ (t : Standing). IfOk c.plain.result (λ v. v ≡ plain_at t.tables t.models cell)) c.self.view_is c.plain.ensures in
    record {
      told = IfOk-weaker c.plain.result (λ v. v ≡ plain_at s.tables s.models cell) (IsValueIn s cell) (λ v is. plain-told s.models s.tables cell info v at given is) plain;
      typed = IfOk-weaker c.plain.result (λ v. v ≡ plain_at s.tables s.models cell) (λ told. IfSome told (HasFieldType (field_at s.models cell.model cell.field)))
          (λ v is. plain-told-typed s.models s.tables c.laws.ensures.registry c.laws.ensures.readable.sound.fits cell info at v is) plain;
    }
