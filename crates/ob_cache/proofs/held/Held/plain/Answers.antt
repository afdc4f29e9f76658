use Rattle.std.proofs.Common.{◌≡◌, true, subst}
use Rattle.std.specs.Prelude.{IfOk, IfSome, IsSomeAnd}
use Rattle.std.proofs.lemmas.Result.{IfOk-weaker}
use Rattle.ob_cache.proofs.Seen.{given-typed}
use Rattle.ob_codec.specs.Held.{HasFieldType}
use Rattle.ob_schema.specs.Models.{field_at, is_given_from}
use Rattle.ob_schema.specs.Plain.{plain_at}
use Rattle.ob_schema.specs.Tables.{Standing}
use Rattle.ob_cache.proofs.held.Held.plain.Goals as goal

pub returns-clause-typed : goal.returns-clause-typed
returns-clause-typed c =
    let s = c.staged-staged.result.now in
    let cell = c.args.cell in
    subst (λ (st : Standing). IsSomeAnd (field_at st.models cell.model cell.field) (λ info. is_given_from info.origin ≡ true) → IfOk c.plain.result (λ told. IfSome told (HasFieldType (field_at st.models cell.model cell.field)))) c.staged-staged.ensures
    (λ given. IfOk-weaker c.plain.result (λ told. told ≡ plain_at s.tables s.models cell) (λ told. IfSome told (HasFieldType (field_at s.models cell.model cell.field)))
    (λ told is. given-typed s cell given told is c.fit_together.ensures.registry c.fit_together.ensures.fits) c.plain.ensures) c.requires
