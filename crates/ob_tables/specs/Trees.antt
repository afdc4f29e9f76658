-- Private: steps up a tree, from the places of rows among their ids.
use Rattle.std.specs.Prelude.{◌≡◌, ◌↔◌, ◌<◌, ◌≤◌, ℕ, zero, suc, List, length, Option, Some, None, IfSome, slice_get, option_and_then}
use Rattle.ob_base.specs.declared.id.FieldNo.{FieldNo}
use Rattle.ob_base.specs.declared.id.ModelNo.{ModelNo}
use Rattle.ob_base.specs.declared.id.RecId.{RecId}
use Rattle.ob_base.specs.declared.refusal.Broken.{Broken}
use Rattle.ob_base.specs.declared.refusal.BrokenKind.{BrokenKind}
use Rattle.ob_base.specs.declared.value.Value.{Value}
use Rattle.ob_base.specs.declared.value.Value.TheVariants as value
use Rattle.ob_schema.specs.Tables.{Tables, kept_at}

-- the place to which a step leads from a place; past the end to none
abbrev pub step_of : List (Option ℕ) → ℕ → Option ℕ
step_of steps place = option_and_then (λ step. step) (slice_get steps place)

-- so many steps in turn, where all of them lead on
abbrev pub steps_in : (ℕ → Option ℕ) → ℕ → ℕ → Option ℕ
steps_in step zero place = Some place
steps_in step (suc n) place = option_and_then (steps_in step n) (step place)

-- steps lead to places that there are
abbrev pub LeadsInside : List (Option ℕ) → Type 0
LeadsInside steps = (place : ℕ) → IfSome (step_of steps place) (λ next. next < length steps)

-- so many steps each, from as many places
pub record AreSteps (one : List (Option ℕ)) (count : ℕ) (many : List (Option ℕ)) : Type 0 where
  pub long : length many ≡ length one
  pub inside : LeadsInside many
  pub steps : (place : ℕ) → step_of many place ≡ steps_in (step_of one) count place

-- the place of the row that a value names
abbrev pub Names : List RecId → Option Value → Option ℕ → Type 0
Names ids v place = (at : ℕ) → (place ≡ Some at) ↔ ((id : RecId) × (slice_get ids at ≡ Some id) × (v ≡ Some (value.Ref id)))

-- one step up leads from each row to the one that its field names
pub record AreParents (tables : Tables) (model : ModelNo) (field : FieldNo) (ids : List RecId) (steps : List (Option ℕ)) : Type 0 where
  pub long : length steps ≡ length ids
  pub up : (place : ℕ) (id : RecId) → slice_get ids place ≡ Some id → Names ids (kept_at tables (record { model = model; id = id; field = field })) (step_of steps place)

-- the row at a place is broken in this way, at its parent field
pub record IsAt (kind : BrokenKind) (model : ModelNo) (parent : FieldNo) (ids : List RecId) (place : Option ℕ) (b : Broken) : Type 0 where
  pub at : ℕ
  pub id : RecId
  pub place_is : place ≡ Some at
  pub id_is : slice_get ids at ≡ Some id
  pub is : b ≡ record { kind = kind; cell = record { model = model; id = id; field = parent } }

-- the least place with a property; none where no place has it
abbrev pub IsLeastPlace : (ℕ → Type 0) → Option ℕ → Type 0
IsLeastPlace P None = (place : ℕ) → P place → ⊥
IsLeastPlace P (Some least) = P least × ((place : ℕ) → P place → least ≤ place)
