-- Which of the rows that a call names are there.
use Rattle.std.specs.Prelude.{ℕ, List, codes, All, IsSome, true, Option, Some, None}
use Rattle.ob_base.specs.declared.id.ModelNo.{ModelNo}
use Rattle.ob_schema.specs.Tables.{Tables, row_at}
use Rattle.ob_call.specs.Arguments.{Expected}
use Rattle.ob_call.specs.Forms.{ids_fault}
use Rattle.ob_call.specs.Ids.{IsLeastMissing}

-- what a write expects of the ids of its rows
abbrev pub ids_expected : Expected
ids_expected = record { name = codes "ids"; required = true; fault = ids_fault }

-- each of the ids has a row
abbrev pub AreThere : ModelNo → Tables → List ℕ → Type 0
AreThere model tables ids = All (λ id. IsSome (row_at tables model (record { 0 = id }))) ids

-- each of the ids has a row, or this is the least that has none
abbrev pub MissesOnly : ModelNo → Tables → List ℕ → Option ℕ → Type 0
MissesOnly model tables ids None = AreThere model tables ids
MissesOnly model tables ids (Some id) = IsLeastMissing model tables ids id
