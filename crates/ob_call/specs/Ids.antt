-- The ids that an argument names, and which of them no row has.
use Rattle.std.specs.Prelude.{◌≡◌, ◌≤◌, ◌==◌, ℕ, List, [], ◌∷◌, filter, not, None, Contains, All}
use Rattle.std.specs.List.{filter_map}
use Rattle.ob_base.specs.declared.id.ModelNo.{ModelNo}
use Rattle.ob_base.specs.declared.refusal.Refusal.{Refusal}
use Rattle.ob_base.specs.declared.refusal.Refusal.TheVariants as refusal
use Rattle.ob_call.specs.Forms.{id_from}
use Rattle.ob_codec.specs.Commands.{listed}
use Rattle.ob_schema.specs.Tables.{Tables, row_at}
use Rattle.serde_json.specs.Data.{Data, number, array}

-- the ids of an argument of their form
abbrev pub ids_in : Data → List ℕ
ids_in (number n) = filter_map id_from (number n ∷ [])
ids_in (array items) = filter_map id_from (listed items)
ids_in _ = []

-- each id once, at its first place
abbrev pub once : List ℕ → List ℕ
once [] = []
once (id ∷ ids) = id ∷ filter (λ other. not (other == id)) (once ids)

-- the ids that an argument names, each once
abbrev pub named_ids : Data → List ℕ
named_ids d = once (ids_in d)

-- the least of the ids that no row has
pub record IsLeastMissing (model : ModelNo) (tables : Tables) (ids : List ℕ) (id : ℕ) : Type 0 where
  pub asked : Contains ids id
  pub missing : row_at tables model (record { 0 = id }) ≡ None
  pub least : All (λ other. row_at tables model (record { 0 = other }) ≡ None → id ≤ other) ids

-- not all of these ids have a row: the least that has none
abbrev pub MissesLeast : ModelNo → Tables → List ℕ → Refusal → Type 0
MissesLeast model tables ids (refusal.Missing m id) = (m ≡ model) × IsLeastMissing model tables ids id.0
MissesLeast model tables ids _ = ⊥

-- an id that is missing is one of these
abbrev pub IsMissingAmong : ModelNo → List ℕ → Refusal → Type 0
IsMissingAmong model ids (refusal.Missing m id) = (m ≡ model) × Contains ids id.0
IsMissingAmong model ids _ = ⊥
