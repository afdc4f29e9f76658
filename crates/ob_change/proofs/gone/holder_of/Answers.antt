-- The list of those that name a row has a first one, or none.
use Rattle.std.proofs.Common.{◌≡◌, ◌∙◌, List, Some, ap, sym, rules}
use Rattle.std.specs.Prelude.{Contains, slice_get}
use Rattle.ob_base.specs.declared.id.RecId.{RecId}
use Rattle.ob_schema.specs.Plain.{naming}
use Rattle.ob_change.specs.Testing.{IsHeldBy}
use Rattle.ob_change.proofs.Turns.{first-told, told-as}
use Rattle.ob_change.proofs.gone.holder_of.Goals as goal

pub returns : goal.returns
returns c =
    let t = c.args.tables.now.tables in
    let ids = naming t c.args.model c.args.number c.args.key.id in
    let leads : c.args.field.now.relation ≡ Some c.args.key.model = search rules in
    let listed = c.as_slice.ensures.same ∙ c.in_ok-holders.ensures in
    told-as (Contains ids) (IsHeldBy t c.args.model c.args.number c.args.field.now c.args.key) c.copied.result
    (λ holder among. record { kept = sym c.is_plain_kept.ensures ∙ c.if-not-is_plain_kept.false; leads = leads; holds = among }) (λ holder held. held.holds)
    (first-told ids c.copied.result (c.copied.ensures ∙ c.first.ensures.value ∙ ap (λ (l : List RecId). slice_get l 0) listed))
