use Rattle.std.proofs.Common.{◌≡◌, ◌++◌, ◌∷◌, [], List, ap, subst, ◌∙◌}
use Rattle.ob_base.specs.declared.place.PathStep.{PathStep}
use Rattle.ob_base.specs.declared.place.PathStep.TheVariants.{Item, Key}
use Rattle.ob_call.specs.Places.{IsMalformedAt, spot_place}
use Rattle.ob_orm.proofs.ObjectPlaces.{deeper}
use Rattle.ob_orm.proofs.objects.ObjectSpot.malformed_below_key.Goals as goal

pub returns-in-Ok : goal.returns-in-Ok
returns-in-Ok c =
    let place = spot_place c.in-Item.spot ++ Item c.in-Item.number ∷ [] in
    let e : place ++ c.in-Ok.below ≡ (place ++ Key c.args.name.now ∷ []) ++ c.args.place.now =
    ap (λ (below : List PathStep). place ++ below) c.in-Ok.ensures ∙ deeper place c.args.place.now (Key c.args.name.now) in
    rw c.in-Item.is (subst (λ (told : List PathStep). IsMalformedAt told c.malformed_below-in-Ok.result) e c.malformed_below-in-Ok.ensures)
