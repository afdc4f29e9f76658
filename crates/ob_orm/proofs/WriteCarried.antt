-- What becomes of a change, from what its steps say.
use Rattle.std.proofs.Common.{◌≡◌, List, Option, Ok, Err, subst}
use Rattle.std.specs.Prelude.{IfErr, Result}
use Rattle.ob_access.specs.Policies.{PolicyData}
use Rattle.ob_base.specs.declared.id.ModelNo.{ModelNo}
use Rattle.ob_base.specs.declared.id.RecId.{RecId}
use Rattle.ob_base.specs.declared.refusal.Refusal.{Refusal}
use Rattle.ob_base.specs.declared.refusal.Refusal.TheVariants as refusal
use Rattle.ob_cache.proofs.CallerLemmas.{Refuses-weaker}
use Rattle.ob_cache.specs.Calls.{Refuses}
use Rattle.ob_cache.specs.Stages.{resting, settled_of, with_edits}
use Rattle.ob_cache.specs.Standing.{Holding, RestsAt, Stands, Stays}
use Rattle.ob_io.specs.Store.{Store}
use Rattle.ob_rows.specs.Settling.{BreaksField, IsBrokenBy}
use Rattle.ob_orm.specs.Write.{BarsWrite, Change, IsAdmissible, MayBarWrite, MayStopWrite, StopsWrite, edits_of}
use Rattle.ob_rows.specs.declared.author.Author.{Author}
use Rattle.ob_rows.proofs.CallerLemmas.{stays-rests, unasked-cause}
use Rattle.ob_schema.specs.Tables.{Tables}
use Rattle.ob_schema.specs.declared.info.ModelInfo.{ModelInfo}
use Rattle.ob_tables.specs.After.{after}
use Rattle.ob_tables.specs.declared.edit.Edit.{Edit}

module _ (before mid : Option Store) (old held : Holding) (stays : Stays before old mid held) (policy : PolicyData) (by : Author) (model : ModelNo) (own : List RecId) (change : Change) where
  -- why it isn't carried out, over these tables
  abbrev pub Stops : Tables → Refusal → Type 0
  Stops tables = StopsWrite old.models policy by model tables own change

  -- the engine told nothing
  pub unasked-stops : (rose : Type 0) (why : Refusal) → Refuses rose (λ _. ⊥) why → (tables : Tables) → RestsAt before old tables → RestsAt mid held tables × Refuses rose (Stops tables) why
  unasked-stops rose why h tables rests = (stays-rests before mid old held stays tables rests, unasked-cause rose (Stops tables) why h)

  -- what bars it stops it
  bars : (tables : Tables) (w : Refusal) → BarsWrite old.models policy by.user model tables own change w → Stops tables w
  bars tables (refusal.Request place) h = h
  bars tables (refusal.Right m operation) h = h
  bars tables (refusal.FieldRight m field) h = h
  bars tables (refusal.Missing m id) h = h
  bars tables (refusal.Rule m operation id rule) h = h
  bars tables (refusal.Constraint b) h = absurd h
  bars tables refusal.Keeper h = absurd h
  bars tables refusal.NoMemory h = absurd h

  pub barred-stops : (rose : Type 0) (why : Refusal) → ((tables : Tables) → RestsAt before old tables → Refuses rose (BarsWrite old.models policy by.user model tables own change) why)
      → (tables : Tables) → RestsAt before old tables → RestsAt mid held tables × Refuses rose (Stops tables) why
  barred-stops rose why h tables rests = (
    stays-rests before mid old held stays tables rests,
    Refuses-weaker rose rose (BarsWrite old.models policy by.user model tables own change) (Stops tables) why (λ risen. risen) (bars tables) (h tables rests),
  )

  -- so does what may bar it
  may-bar : (w : Refusal) → MayBarWrite old.models policy by.user model change w → MayStopWrite old.models policy by.user model change w
  may-bar (refusal.Request place) h = h
  may-bar (refusal.Right m operation) h = h
  may-bar (refusal.FieldRight m field) h = h
  may-bar (refusal.Missing m id) h = h
  may-bar (refusal.Rule m operation id rule) h = h
  may-bar (refusal.Constraint b) h = absurd h
  may-bar refusal.Keeper h = absurd h
  may-bar refusal.NoMemory h = absurd h

  pub barred-cause : (rose : Type 0) (why : Refusal) → Refuses rose (MayBarWrite old.models policy by.user model change) why → Refuses rose (MayStopWrite old.models policy by.user model change) why
  barred-cause rose why h = Refuses-weaker rose rose (MayBarWrite old.models policy by.user model change) (MayStopWrite old.models policy by.user model change) why (λ risen. risen) may-bar h

  module _ (now : Option Store) (new : Holding) (edits : List Edit) (are : (tables : Tables) → RestsAt before old tables → edits ≡ edits_of old.models by model tables change)
      (passes : (tables : Tables) → RestsAt before old tables → IsAdmissible old.models policy by.user model tables own change) where
    -- the tables with the edits break something
    broken : (tables : Tables) → RestsAt before old tables → (w : Refusal) → IsBrokenBy held.models (after held.models tables edits) w → Stops tables w
    broken tables rests (refusal.Constraint b) h = (
      passes tables rests,
      subst (λ (ms : List ModelInfo). IsBrokenBy ms (after ms tables (edits_of old.models by model tables change)) (refusal.Constraint b)) stays.models
          (subst (λ (es : List Edit). IsBrokenBy held.models (after held.models tables es) (refusal.Constraint b)) (are tables rests) h),
    )
    broken tables rests _ h = absurd h

    edits-stop : (later rose : Type 0) (why : Refusal) → (later → rose)
        → ((tables : Tables) → RestsAt mid held tables → RestsAt now new tables × Refuses later (IsBrokenBy held.models (after held.models tables edits)) why)
        → (tables : Tables) → RestsAt before old tables → RestsAt now new tables × Refuses rose (Stops tables) why
    edits-stop later rose why up refused tables rests =
        let said = refused tables (stays-rests before mid old held stays tables rests) in
        (said.0, Refuses-weaker later rose (IsBrokenBy held.models (after held.models tables edits)) (Stops tables) why up (broken tables rests) said.1)

    -- whatever came of them
    pub edits-stopped : {A : Type 0} (r : Result A Refusal) (later rose : Type 0) → (later → rose)
        → IfErr r (λ why. (tables : Tables) → RestsAt mid held tables → RestsAt now new tables × Refuses later (IsBrokenBy held.models (after held.models tables edits)) why)
        → IfErr r (λ why. (tables : Tables) → RestsAt before old tables → RestsAt now new tables × Refuses rose (Stops tables) why)
    edits-stopped (Ok a) later rose up refused = tt
    edits-stopped (Err why) later rose up refused = edits-stop later rose why up refused

    -- the tables with the edits are settled
    pub edits-settle : ((tables : Tables) → RestsAt mid held tables → Stands now new (settled_of (with_edits (resting held.models tables) edits)))
        → (tables : Tables) → RestsAt before old tables
        → IsAdmissible old.models policy by.user model tables own change × Stands now new (settled_of (with_edits (resting old.models tables) (edits_of old.models by model tables change)))
    edits-settle settled tables rests =
        let said = settled tables (stays-rests before mid old held stays tables rests) in (
          passes tables rests,
          subst (λ (ms : List ModelInfo). Stands now new (settled_of (with_edits (resting ms tables) (edits_of old.models by model tables change)))) stays.models
              (subst (λ (es : List Edit). Stands now new (settled_of (with_edits (resting held.models tables) es))) (are tables rests) said),
        )

  -- what is broken is so at a cell of the models
  breaks : (w : Refusal) → BreaksField held.models w → MayStopWrite old.models policy by.user model change w
  breaks (refusal.Constraint b) h = subst (λ (ms : List ModelInfo). BreaksField ms (refusal.Constraint b)) stays.models h
  breaks _ h = absurd h

  pub edits-causes : {A : Type 0} (r : Result A Refusal) (later rose : Type 0) → (later → rose) → IfErr r (Refuses later (BreaksField held.models)) → IfErr r (Refuses rose (MayStopWrite old.models policy by.user model change))
  edits-causes (Ok a) later rose up h = tt
  edits-causes (Err why) later rose up h = Refuses-weaker later rose (BreaksField held.models) (MayStopWrite old.models policy by.user model change) why up breaks h
