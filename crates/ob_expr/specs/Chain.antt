-- Steps that may fail, one behind another.
use Rattle.std.specs.Prelude.{List, [], ◌∷◌, Result, Ok, Err}

-- what follows from the value, or else the fault
abbrev pub and_then : {A B E : Type 0} → Result A E → (A → Result B E) → Result B E
and_then (Ok value) next = next value
and_then (Err fault) next = Err fault

-- a value for each item, or the first fault
abbrev pub each : {A B E : Type 0} → (A → Result B E) → List A → Result (List B) E
each value_of [] = Ok []
each value_of (item ∷ items) = and_then (value_of item) (λ value. and_then (each value_of items) (λ values. Ok (value ∷ values)))
