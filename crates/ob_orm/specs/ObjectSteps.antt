-- Objects of values, and where they stand, as the code has them.
use Rattle.std.specs.Prelude.{List, [], ◌∷◌, ◌++◌}
use Rattle.ob_base.specs.declared.place.PathStep.{PathStep}
use Rattle.ob_base.specs.declared.place.PathStep.TheVariants.{Item}
use Rattle.ob_call.specs.Places.{spot_place}
use Rattle.ob_orm.specs.GivenValues.{GivenObject}
use Rattle.ob_orm.specs.declared.creating.given.GivenObject.{GivenObject as Object}
use Rattle.ob_orm.specs.declared.objects.ObjectSpot.{ObjectSpot}
use Rattle.ob_orm.specs.declared.objects.ObjectSpot.TheVariants as spot

-- the place of an object of values: that of the argument, or of its item
abbrev pub object_place : ObjectSpot → List PathStep
object_place (spot.Argument argument) = spot_place argument
object_place (spot.Item argument number) = spot_place argument ++ Item number ∷ []

-- what an object gives, as the code has it
abbrev pub object_view : Object → GivenObject
object_view object = record { fields = object.fields.items; values = object.values; wrong = object.wrong }
