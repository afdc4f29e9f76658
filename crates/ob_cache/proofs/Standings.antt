-- Standings of one registry.
use Rattle.std.proofs.Common.{◌≡◌, List, Option, Some, None, ap, refl, subst, sym, ◌∙◌}
use Rattle.std.specs.Prelude.{IfSome, IsSomeAnd}
use Rattle.ob_cache.specs.Rooms.{AreHeldOver, IsUnsoundBy, NamesBrokenField, ShowsUnsettled, held_stages, or_before, settle_fault_of}
use Rattle.ob_cache.specs.Stages.{IsUsable, Stages, StandsOver, StaysUnsettled, with_edits}
use Rattle.ob_cache.specs.Standing.{OfStages, Stands}
use Rattle.ob_cache.specs.declared.fault.SettleFault.{SettleFault}
use Rattle.ob_cache.specs.declared.fault.SettleFault.TheVariants as settle_fault
use Rattle.ob_cache.specs.declared.stages.Phase.{Phase}
use Rattle.ob_cache.specs.declared.stages.Phase.TheVariants as phase
use Rattle.ob_change.proofs.CallerLemmas.{broken-field}
use Rattle.ob_io.specs.Store.{Store}
use Rattle.ob_schema.specs.Broken.{IsBroken}
use Rattle.ob_schema.specs.Models.{HasField, IsRegistry}
use Rattle.ob_schema.specs.Tables.{Fits, Standing, Tables}
use Rattle.ob_schema.specs.declared.info.ModelInfo.{ModelInfo}
use Rattle.ob_tables.specs.After.{after}
use Rattle.ob_tables.specs.declared.edit.Edit.{Edit}
use Rattle.ob_tables.specs.declared.applying.ApplyFault.{ApplyFault}
use Rattle.ob_tables.specs.declared.applying.ApplyFault.TheVariants as apply_fault

staged-is-not-settled : phase.Staged ≡ phase.Settled → ⊥
staged-is-not-settled is = cc

settled-is-not-spoiled : phase.Settled ≡ phase.Spoiled → ⊥
settled-is-not-spoiled is = cc

-- where nothing is staged an engine may be asked
pub settled-usable : (p : Phase) → p ≡ phase.Settled → IsUsable p
settled-usable p is spoiled = settled-is-not-spoiled (sym is ∙ spoiled)

-- a standing is told by its parts
pub standing-over : (s : Standing) (models : List ModelInfo) → s.models ≡ models → s ≡ record { models = models; tables = s.tables }
standing-over s models e = ap (λ (m : List ModelInfo). record { models = m; tables = s.tables }) e

-- what is broken in staged tables is why they aren't settled
pub unsettled : (stages : Stages) (s : Standing) (fault : ApplyFault) → s.models ≡ stages.models → s.tables ≡ stages.staged → IsUnsoundBy s fault → ShowsUnsettled stages (settle_fault_of fault)
unsettled stages s (apply_fault.Broken broken) models tables shown =
    subst (λ (m : List ModelInfo). IsBroken m stages.staged broken) models (subst (λ (t : Tables). IsBroken s.models t broken) tables shown)
unsettled stages s apply_fault.NoMemory models tables shown = tt

-- its cell is one of the models'
pub unsound-field : (s : Standing) (models : List ModelInfo) → s.models ≡ models → IsRegistry s.models → (fault : ApplyFault) → IsUnsoundBy s fault → NamesBrokenField models fault
unsound-field s models over registry (apply_fault.Broken broken) shown = subst (λ (m : List ModelInfo). HasField m broken.cell.model broken.cell.field) over (broken-field s.models s.tables registry broken shown)
unsound-field s models over registry apply_fault.NoMemory shown = tt

-- the same of what is held
pub held-unsettled : (models : List ModelInfo) (flushed : Standing) (settled staged : Option Standing) (p : Phase) (stages : Stages) → held_stages models flushed settled staged p ≡ stages → AreHeldOver models flushed settled staged p
    → (s : Standing) → staged ≡ Some s → (fault : ApplyFault) → IsUnsoundBy s fault → ShowsUnsettled stages (settle_fault_of fault)
held-unsettled models flushed settled staged p stages view over s is fault shown =
    subst (λ (st : Stages). ShowsUnsettled st (settle_fault_of fault)) view
    (unsettled (held_stages models flushed settled staged p) s fault (subst (λ (o : Option Standing). IfSome o (λ t. t.models ≡ models)) is over.staged_over)
    (sym (ap (λ (o : Option Standing). or_before o (or_before settled flushed.tables)) is)) shown)

-- while an engine may be asked, the stages at which it stands are those that it holds
pub stands-are : (kept : Option Store) (held at : Stages) → Stands kept held at → IsUsable held.phase → at ≡ held
stands-are kept held at stands usable =
    λ i. record { models = stands.models_are i; flushed = stands.tables.flushed i; settled = (stands.tables.settled usable) i; staged = (stands.tables.staged usable) i; phase = stands.phase_is i }

-- why what is held isn't settled is why the stages aren't at which an engine stands
stays : (stages : Stages) (rose : Type 0) (fault : SettleFault) → ShowsUnsettled stages fault → StaysUnsettled stages rose fault
stays stages rose (settle_fault.Broken broken) shown = shown
stays stages rose settle_fault.Keeper shown = absurd shown
stays stages rose settle_fault.NoMemory shown = tt

pub held-stays : (held : Stages) (kept : Option Store) (rose : Type 0) → IsUsable held.phase → (fault : SettleFault) → ShowsUnsettled held fault → OfStages kept held (λ at. StaysUnsettled at rose fault)
held-stays held kept rose usable fault shown at stands = subst (λ (h : Stages). StaysUnsettled h rose fault) (sym (stands-are kept held at stands usable)) (stays held rose fault shown)

-- where the tables with edits fit, an engine that holds them stands at the stages with them
pub stands-with_edits : (kept : Option Store) (held new at : Stages) (edits : List Edit) → Stands kept held at → IsUsable held.phase → new ≡ with_edits held edits → Fits new.models new.staged → Stands kept new (with_edits at edits)
stands-with_edits kept held new at edits stands usable is fits =
    let same : at ≡ held = stands-are kept held at stands usable in
    subst (λ (n : Stages). Stands kept n (with_edits at edits)) (sym is)
    (subst (λ (h : Stages). Stands kept (with_edits h edits) (with_edits at edits)) same
    (record {
      models_are = refl;
      phase_is = refl;
      over = over kept stands.over (subst (λ (n : Stages). Fits n.models n.staged) (is ∙ ap (λ (h : Stages). with_edits h edits) (sym same)) fits);
      tables = record { flushed = refl; settled = λ u. refl; staged = λ u. refl };
    }))
  where
    over : (k : Option Store) → IsSomeAnd k (StandsOver at) → Fits at.models (after at.models at.staged edits) → IsSomeAnd k (StandsOver (with_edits at edits))
    over None known fits = absurd known
    over (Some store) known fits = record {
      kept = known.kept;
      sound = known.sound;
      settled = λ u. known.settled (subst IsUsable (sym stands.phase_is) usable);
      fits = λ u. fits;
      at_rest = λ is. absurd (staged-is-not-settled is);
    }
