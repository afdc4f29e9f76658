-- How a run ends: its status, its last line, and what of a line was written.
use Rattle.std.specs.Prelude.{◌≡◌, ◌≢◌, ℕ, ◌⊎◌, List, [], ◌∷◌, ◌++◌, codes, decimal, Option, option_map, ⊤}
use Rattle.ob_server.specs.declared.ending.Ending.{Ending}
use Rattle.ob_server.specs.declared.ending.Ending.TheVariants as ending

-- the status of each ending
abbrev pub status_of : Ending → ℕ
status_of ending.Done = 0
status_of ending.Differs = 1
status_of ending.Usage = 2
status_of (ending.Module text) = 3
status_of ending.ReadFault = 4
status_of ending.WriteFault = 5
status_of ending.KeeperFault = 6
status_of ending.NoMemory = 7
status_of (ending.Store cell) = 8
status_of (ending.TooLong number) = 9

-- the text of the last line of each ending that has one
abbrev pub last_text : Ending → List ℕ
last_text ending.Usage = codes "usage: stockd call|serve|audit|gen [options]"
last_text (ending.Module text) = text
last_text ending.ReadFault = codes "read fault"
last_text ending.KeeperFault = codes "keeper fault"
last_text ending.NoMemory = codes "no memory"
last_text (ending.Store cell) = codes "store " ++ cell
last_text (ending.TooLong number) = codes "line " ++ decimal number ++ codes " too long"
last_text _ = []

-- the last line of each ending, with its line feed; the others have none: an audit that differs says so in its report
abbrev pub last_line : Ending → List ℕ
last_line ending.Done = []
last_line ending.Differs = []
last_line ending.WriteFault = []
last_line why = last_text why ++ 10 ∷ []

-- how a session may end
abbrev pub IsSessionEnding : Ending → Type 0
IsSessionEnding ending.Done = ⊤
IsSessionEnding ending.ReadFault = ⊤
IsSessionEnding ending.WriteFault = ⊤
IsSessionEnding ending.NoMemory = ⊤
IsSessionEnding (ending.TooLong number) = ⊤
IsSessionEnding _ = ⊥

-- When each ending of a command may come, whatever the objects tell: one that differs of an audit alone, a fault by which of them failed.
abbrev pub HasReason : (audits input_rose output_rose keeper_rose : Type 0) → Ending → Type 0
HasReason audits input_rose output_rose keeper_rose ending.Usage = ⊥
HasReason audits input_rose output_rose keeper_rose ending.Differs = audits
HasReason audits input_rose output_rose keeper_rose ending.ReadFault = input_rose
HasReason audits input_rose output_rose keeper_rose ending.WriteFault = output_rose
HasReason audits input_rose output_rose keeper_rose ending.KeeperFault = keeper_rose
HasReason audits input_rose output_rose keeper_rose _ = ⊤

-- the list is a front of the other, and lacks something of it
abbrev pub IsCutShort : {X : Type 0} → List X → List X → Type 0
IsCutShort {X} part whole = (rest : List X) × (rest ≢ []) × (whole ≡ part ++ rest)

-- a front of the bytes was written, and not all of them
abbrev pub WritesPart : Option (List ℕ) → Option (List ℕ) → List ℕ → Type 0
WritesPart before now bytes = (part : List ℕ) × IsCutShort part bytes × (now ≡ option_map (λ w. w ++ part) before)

-- The last line was written after what stood before; or, where the sink failed, a front of it that lacks something.
abbrev pub WritesLast : Type 0 → Option (List ℕ) → Option (List ℕ) → List ℕ → Type 0
WritesLast rose before now line = (now ≡ option_map (λ w. w ++ line) before) ⊎ (rose × WritesPart before now line)
