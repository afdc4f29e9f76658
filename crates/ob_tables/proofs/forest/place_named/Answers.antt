use Rattle.std.proofs.Common.{◌≡◌, ◌∙◌, Some, ap, sym}
use Rattle.std.proofs.lemmas.Option.{same_Some}
use Rattle.ob_base.specs.declared.id.RecId.{RecId}
use Rattle.ob_base.specs.declared.value.Value.TheVariants as value
use Rattle.ob_tables.proofs.Places.{place-found}
use Rattle.ob_tables.proofs.forest.place_named.Goals as goal

same_ref : (a b : RecId) → value.Ref a ≡ value.Ref b → a ≡ b
same_ref a b e = cc

pub returns-in-Ref : goal.returns-in-Ref
returns-in-Ref c =
    let id : RecId = c.in-Ref.id in
    let v : Some c.args.value.now ≡ Some (value.Ref id) = ap Some c.in-Ref.is in
    λ at.
    let found = place-found c.args.ids.now c.requires id c.binary_search.result c.binary_search.ensures.bound c.binary_search.ensures.position at in
    (λ e. (id, found.0 (sym c.ok.ensures.value ∙ e), v), λ h. c.ok.ensures.value ∙ found.1 (h.1 ∙ ap Some (same_ref h.0 id (same_Some (value.Ref h.0) (value.Ref id) (sym h.2 ∙ v)))))
