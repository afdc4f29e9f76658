-- What a create and a write come to, as their steps have it.
use Rattle.std.specs.Prelude.{◌≡◌, ◌≤◌, ℕ, List, All, Contains, None}
use Rattle.ob_base.specs.declared.id.ModelNo.{ModelNo}
use Rattle.ob_base.specs.declared.id.RecId.{RecId}
use Rattle.ob_base.specs.declared.place.PathStep.{PathStep}
use Rattle.ob_base.specs.declared.refusal.Refusal.{Refusal}
use Rattle.ob_base.specs.declared.refusal.Refusal.TheVariants as refusal
use Rattle.ob_cache.specs.Stages.{Stages, forgotten}
use Rattle.ob_cache.specs.Standing.{IsAtRest, NextIdsUpTo, OfStages, Stands, max_next_id}
use Rattle.ob_cache.specs.declared.engine.Engine.{Engine}
use Rattle.ob_cache.specs.declared.stages.Phase.TheVariants as phase
use Rattle.ob_effect.specs.NextIds.{IsTaken, NextIdsRise}
use Rattle.ob_commands.specs.Changes.{TellsFor}
use Rattle.ob_effect.specs.Effect.{ComesOf, Keeps, LacksRight}
use Rattle.ob_commands.specs.Finding.{TellsFindings}
use Rattle.ob_commands.specs.Judging.{Judges}
use Rattle.ob_effect.specs.declared.asking.Caller.{Caller}
use Rattle.ob_io.specs.declared.keeper.Keeper.{Ghosts}
use Rattle.ob_schema.specs.Tables.{Tables, row_at}
use Rattle.serde_json.specs.Data.{Data}

module _ {K : Type 0} (g : Ghosts K) where
  -- rows of the model took all of these ids by edits
  abbrev pub TakeAll : ModelNo → List RecId → (old new : Engine K) → Type 0
  TakeAll model ids old new = ComesOf g (λ at now. All (λ id. IsTaken model at.staged now.staged id.0) ids) old new

  -- the ids that rows took by edits are told
  abbrev pub TellsTaken : ModelNo → (asked told : Data) → (old new : Engine K) → Type 0
  TellsTaken model asked told old new = ComesOf g (λ at now. TellsFor model at.staged now.staged asked told) old new

  -- edits were made and settled: the tables that were kept last stay, next ids can be kept and none fell, and this holds of the tables
  pub record SettlesTo (Holds : (old new : Tables) → Type 0) (old new : Engine K) : Type 0 where
    pub keeps : Keeps g old new
    pub phase_is : new.held.phase ≡ phase.Settled
    pub next_ids : NextIdsUpTo max_next_id new.held
    pub stands : OfStages (g.kept old.keeper.now) old.held (λ at. (now : Stages) × Stands (g.kept new.keeper.now) new.held now
        × (now.flushed ≡ at.flushed) × (now.staged ≡ now.settled) × NextIdsRise at.staged now.settled × Holds at.staged now.settled)

  -- nothing came of it: the engine rests at the tables that were kept last
  pub record ComesBack (old new : Engine K) : Type 0 where
    pub lender : new.keeper.ghost_name ≡ old.keeper.ghost_name
    pub kept : g.kept new.keeper.now ≡ g.kept old.keeper.now
    pub count : g.faults old.keeper.now ≤ g.faults new.keeper.now
    pub rests : IsAtRest old.held.models new.held
    pub stands : OfStages (g.kept old.keeper.now) old.held (λ at. Stands (g.kept new.keeper.now) new.held (forgotten at))

  -- why a create stops: a right or a field right that the caller lacks, a place below the argument, a rule, or something that is broken
  abbrev pub StopsCreate : Caller → Engine K → List PathStep → Refusal → Type 0
  StopsCreate by old argument (refusal.Right model op) = LacksRight by (refusal.Right model op)
  StopsCreate by old argument (refusal.FieldRight model field) = TellsFindings by argument (refusal.FieldRight model field)
  StopsCreate by old argument (refusal.Request place) = TellsFindings by argument (refusal.Request place)
  StopsCreate by old argument why = Judges g by old why

  -- one of these ids, which no row has
  abbrev pub MissesSome : ModelNo → List ℕ → Engine K → ℕ → Type 0
  MissesSome model ids old id = Contains ids id × OfStages (g.kept old.keeper.now) old.held (λ at. row_at at.staged model (record { 0 = id }) ≡ None)

  -- why a write stops: the same, or an id that no row has
  abbrev pub StopsWrite : Caller → ModelNo → List ℕ → Engine K → List PathStep → Refusal → Type 0
  StopsWrite by model ids old argument (refusal.Missing own id) = (own ≡ model) × MissesSome model ids old id.0
  StopsWrite by model ids old argument why = StopsCreate by old argument why
