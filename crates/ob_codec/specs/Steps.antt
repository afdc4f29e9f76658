-- Reading step by step: each step gives something, or the fault that is told.
use Rattle.std.specs.Prelude.{◌≡◌, ◌≢◌, ℕ, ◌+◌, List, [], ◌∷◌, map, Result, Ok, Err}
use Rattle.ob_base.specs.declared.place.PathStep.{PathStep}
use Rattle.ob_base.specs.declared.place.PathStep.TheVariants.{Item}
use Rattle.ob_base.specs.Chain.{◌>>=◌}
use Rattle.ob_codec.specs.declared.fault.CodecFault.{CodecFault}
use Rattle.ob_codec.specs.declared.fault.CodecFault.TheVariants.{NoMemory}
use Rattle.serde_json.specs.Data.{Data}

-- what each item gives by its number, the first one at this number
abbrev pub each_from : {A : Type 0} → (ℕ → Data → Result A CodecFault) → ℕ → List Data → Result (List A) CodecFault
each_from form n [] = Ok []
each_from form n (d ∷ ds) = do
  x ← form n d
  xs ← each_from form (n + 1) ds
  Ok (x ∷ xs)

-- the place of the items of these numbers, each in the one before it
abbrev pub place_of : List ℕ → List PathStep
place_of numbers = map Item numbers

-- the fault that is wanted, or want of memory
abbrev pub IsFault : CodecFault → CodecFault → Type 0
IsFault fault wanted = fault ≢ NoMemory → fault ≡ wanted

-- An answer, seen by this view, is what is wanted of it; or it is the wanted fault, or
-- want of memory.
abbrev pub IsCodecResult : {A B : Type 0} → (A → B) → Result A CodecFault → Result B CodecFault → Type 0
IsCodecResult seen (Ok x) wanted = wanted ≡ Ok (seen x)
IsCodecResult seen (Err fault) wanted = fault ≢ NoMemory → wanted ≡ Err fault
