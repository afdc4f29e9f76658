-- The faults of a room that is told by tests, and by parts of it.
use Rattle.std.proofs.Common.{◌≡◌, Bool, true, false, Option, refl}
use Rattle.std.specs.Bool.{then_some}
use Rattle.ob_definition.specs.declared.fault.SchemaFault.{SchemaFault}
use Rattle.ob_definition.specs.declared.fault.Spot.{Spot}
use Rattle.ob_definition.specs.declared.wrong.Wrong.{Wrong}
use Rattle.ob_definition.specs.Findings.{Adds, IsAt, fault_at}
use Rattle.ob_definition.proofs.Adding.{Adds-same}

-- what a test tells
abbrev pub IsTold : Bool → SchemaFault → SchemaFault → Type 0
IsTold test what why = (test ≡ true) × (why ≡ what)

told : (test : Bool) (w : Wrong) (spot : Spot) (why : SchemaFault) → IsAt (then_some test w) spot why → IsTold test (fault_at w spot) why
told true w spot why at = (refl, at)
told false w spot why at = absurd at

untold : (test : Bool) (w : Wrong) (spot : Spot) (why : SchemaFault) → IsTold test (fault_at w spot) why → IsAt (then_some test w) spot why
untold true w spot why is = is.1
untold false w spot why is = absurd (let e : ◌≡◌ {A = Bool} false true = is.0 in cc)

pub Adds-when : (test : Bool) (w : Wrong) (spot : Spot) (a b : Option SchemaFault) → Adds (IsAt (then_some test w) spot) a b → Adds (IsTold test (fault_at w spot)) a b
Adds-when test w spot a b adds = Adds-same (IsAt (then_some test w) spot) (IsTold test (fault_at w spot)) a b (told test w spot) (untold test w spot) adds
