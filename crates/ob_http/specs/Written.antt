-- What was written to the current connection, the last of those that have come.
use Rattle.std.specs.Prelude.{◌≡◌, ◌≢◌, ℕ, List, [], ◌++◌, Option, option_map}
use Rattle.ob_io.specs.Connections.{extend_last}

-- these bytes were written, where the door tells
abbrev pub Wrote : (before now : Option (List (List ℕ))) → List ℕ → Type 0
Wrote before now bytes = now ≡ option_map (extend_last bytes) before

-- the bytes are a front of the others, and lack something of them
abbrev pub IsCutShort : (part whole : List ℕ) → Type 0
IsCutShort part whole = (rest : List ℕ) × (rest ≢ []) × (whole ≡ part ++ rest)

-- a front of these bytes was written, and not all of them
abbrev pub WrotePart : (before now : Option (List (List ℕ))) → List ℕ → Type 0
WrotePart before now bytes = (part : List ℕ) × IsCutShort part bytes × Wrote before now part

-- these bytes were written but for the last ones, which still wait
abbrev pub WroteFront : (before now : Option (List (List ℕ))) → (bytes waiting : List ℕ) → Type 0
WroteFront before now bytes waiting = (front : List ℕ) × (bytes ≡ front ++ waiting) × Wrote before now front
