-- What a read is given, where its arguments are right.
use Rattle.std.proofs.Common.{◌≡◌, List, [], ◌∷◌, Option, Some, None, refl}
use Rattle.ob_schema.specs.declared.info.FieldInfo.{FieldInfo}
use Rattle.ob_call.specs.Arguments.{AreFit, Given}
use Rattle.ob_call.specs.Forms.{ids_fault}
use Rattle.ob_query.specs.ReadArguments.{read_expects}

-- the arguments of a read are its ids, its fields, and a way of loading
pub record ReadGiven (gs : List (Option Given)) : Type 0 where
  pub ids : Given
  pub fields : Option Given
  pub load : Option Given
  pub three : gs ≡ Some ids ∷ fields ∷ load ∷ []
  pub form : ids_fault ids.json ≡ None

-- what a read is given
pub read_given : (fields : List FieldInfo) (gs : List (Option Given)) → AreFit (read_expects fields) gs → ReadGiven gs
read_given fields [] h = absurd h
read_given fields (None ∷ gs) h = let e = h.0 in absurd cc
read_given fields (Some ids ∷ []) h = absurd h.1
read_given fields (Some ids ∷ names ∷ []) h = absurd h.1.1
read_given fields (Some ids ∷ names ∷ load ∷ []) h = record { ids = ids; fields = names; load = load; three = refl; form = h.0 }
read_given fields (Some ids ∷ names ∷ load ∷ more ∷ gs) h = absurd h.1.1.1
