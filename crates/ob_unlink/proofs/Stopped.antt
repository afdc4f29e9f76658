-- What an unlink of rows answers behind the search for missing ones, from what its steps say.
use Rattle.std.proofs.Common.{◌≡◌, ℕ, List, Option, Some, subst}
use Rattle.std.specs.Prelude.{Contains, IfSome}
use Rattle.ob_base.specs.declared.id.ModelNo.{ModelNo}
use Rattle.ob_base.specs.declared.refusal.Op.TheVariants as op
use Rattle.ob_base.specs.declared.refusal.Refusal.{Refusal}
use Rattle.ob_base.specs.declared.refusal.Refusal.TheVariants as refusal
use Rattle.ob_rows.specs.Settling.{BreaksField}
use Rattle.ob_rows.specs.AskingSteps.{AdmitsBy, DeniesBy}
use Rattle.ob_unlink.specs.DeletionSteps.{HoldsBack, IsStoppedBy, MayHoldBack, MayStopUnlink, StopsUnlink}
use Rattle.ob_rows.specs.Rights.{DeniesOne, rows_named}
use Rattle.ob_rows.specs.There.{AreThere}
use Rattle.ob_rows.specs.declared.asking.Caller.{Caller}
use Rattle.ob_schema.specs.Facts.{told_by}
use Rattle.ob_schema.specs.Tables.{Tables}
use Rattle.ob_schema.specs.declared.info.ModelInfo.{ModelInfo}

-- what holds back rows that are there stops the unlink
pub stopped-unlink : (models : List ModelInfo) (by : Caller) (model : ModelNo) (tables : Tables) (ids : List ℕ) → AreThere model tables ids → (w : Refusal) → HoldsBack models by model tables ids w
    → StopsUnlink models by model tables ids w
stopped-unlink models by model tables ids there (refusal.Missing m id) h = absurd h
stopped-unlink models by model tables ids there (refusal.Rule m operation id name) h = (there, h)
stopped-unlink models by model tables ids there (refusal.Constraint b) h = (there, h)
stopped-unlink models by model tables ids there _ h = absurd h

pub may-stop : (models : List ModelInfo) (model : ModelNo) (ids : List ℕ) (w : Refusal) → MayHoldBack models model ids w → MayStopUnlink models model ids w
may-stop models model ids (refusal.Missing m id) h = absurd h
may-stop models model ids (refusal.Rule m operation id name) h = h
may-stop models model ids (refusal.Constraint b) h = h
may-stop models model ids _ h = absurd h

-- a rule that denies one of them holds them back
pub denied-back : (models : List ModelInfo) (by : Caller) (model : ModelNo) (tables : Tables) (ids : List ℕ) (w : Refusal) → DeniesBy by (told_by models tables) op.Unlink (rows_named model ids) w
    → HoldsBack models by model tables ids w
denied-back models by model tables ids (refusal.Rule m operation id name) h = h
denied-back models by model tables ids _ h = absurd h

pub denied-may : (models : List ModelInfo) (model : ModelNo) (ids : List ℕ) (w : Refusal) → DeniesOne op.Unlink (rows_named model ids) w → MayHoldBack models model ids w
denied-may models model ids (refusal.Rule m operation id name) h = h
denied-may models model ids _ h = absurd h

-- so does what stops the deletion of admitted rows
pub stopped-back : (models : List ModelInfo) (by : Caller) (model : ModelNo) (tables : Tables) (ids : List ℕ) → AdmitsBy by (told_by models tables) op.Unlink (rows_named model ids) → (w : Refusal)
    → IsStoppedBy models tables (rows_named model ids) w → HoldsBack models by model tables ids w
stopped-back models by model tables ids admitted (refusal.Constraint b) h = (admitted, h)
stopped-back models by model tables ids admitted _ h = absurd h

-- it is a cell of the models
pub broken-may : (models : List ModelInfo) (model : ModelNo) (ids : List ℕ) (w : Refusal) → BreaksField models w → MayHoldBack models model ids w
broken-may models model ids (refusal.Constraint b) h = h
broken-may models model ids _ h = absurd h

-- a missing id was asked for
pub missing-asked : (ids : List ℕ) (was : Option ℕ) (id : ℕ) → was ≡ Some id → IfSome was (Contains ids) → Contains ids id
missing-asked ids was id is asked = let own : IfSome (Some id) (Contains ids) = subst (λ (m : Option ℕ). IfSome m (Contains ids)) is asked in own
