-- What becomes of rows that are asked for, over an engine that is asked what they do and then settles them.
use Rattle.std.proofs.Common.{◌≡◌, ◌≤◌, ◌||◌, ℕ, Bool, true, List, Option, Ok, Err, is_some, refl, sym, ap, subst, eq-eqb}
use Rattle.std.specs.Prelude.{All}
use Rattle.std.proofs.lemmas.List.Elements.{All-weaker}
use Rattle.serde_json.specs.Data.{Data}
use Rattle.ob_base.specs.declared.id.ModelNo.{ModelNo}
use Rattle.ob_base.specs.declared.refusal.Op.{Op}
use Rattle.ob_base.specs.declared.refusal.Op.TheVariants as op
use Rattle.ob_base.specs.declared.refusal.Refusal.{Refusal}
use Rattle.ob_base.specs.declared.refusal.Refusal.TheVariants as refusal
use Rattle.ob_cache.proofs.CallerLemmas.{stays-then}
use Rattle.ob_cache.specs.Calls.{Refuses, settled_over}
use Rattle.ob_cache.specs.Standing.{Holding, RestsAt, Stands, Stays}
use Rattle.ob_io.specs.Cause.{Rose}
use Rattle.ob_io.specs.Store.{Store}
use Rattle.ob_orm.proofs.CreateMade.{allowed-cause, allowed-stops, new-tables, settled-made, settling-cause, settling-stops}
use Rattle.ob_orm.proofs.EditTouches.{set-model, some_and}
use Rattle.ob_rows.proofs.CallerLemmas.{refused_later, stays-rests}
use Rattle.ob_orm.specs.Create.{Asked, MayStopCreate, StopsCreate, ids_told, made, with_rows}
use Rattle.ob_orm.specs.CreateSteps.{AdmitsChanged, AdmitsMade, IsAllowedBy, IsMadeBy, MayStopSettling, StopsSettling}
use Rattle.ob_orm.specs.NewRowSteps.{IsReady, MayFit, so_far}
use Rattle.ob_orm.specs.Touches.{is_parent, may_touch}
use Rattle.ob_orm.specs.TouchSteps.{AreOfModels, IsTouched, IsWithin, MayDo}
use Rattle.ob_rows.specs.declared.asking.Caller.{Caller}
use Rattle.ob_rows.specs.declared.author.Author.{Author}
use Rattle.ob_orm.specs.declared.making.next_ids.Making.{Making}
use Rattle.ob_orm.specs.declared.touching.Touched.{Touched}
use Rattle.ob_schema.specs.Models.{HasModel, model_at}
use Rattle.ob_schema.specs.Tables.{Tables}
use Rattle.ob_schema.specs.declared.info.ModelInfo.{ModelInfo}
use Rattle.ob_tables.specs.Fitting.{AreFitValues}
use Rattle.ob_tables.specs.declared.edit.Edit.{Edit}
use Rattle.ob_tables.specs.declared.edit.Edit.TheVariants as edit

-- ---- which models are touched

-- what is said of whatever may be done
abbrev pub KeepsWithin : ModelNo → List Edit → Touched → Type 0
KeepsWithin model slice done = (may : Op → ModelNo → Bool) → may op.Create model ≡ true → All (MayDo may) slice → IsWithin may done

module _ (models : List ModelInfo) (model : ModelNo) (slice edits : List Edit) (sliced : slice ≡ edits) (done : Touched) (keeps : KeepsWithin model slice done) where
  -- those of the model and its parents
  pub within-parents : All (MayDo (may_touch models model)) edits → IsWithin (may_touch models model) done
  within-parents each =
      keeps (may_touch models model) (ap (λ (b : Bool). b || is_parent models model model) (eq-eqb model.0 model.0 refl)) (subst (λ (es : List Edit). All (MayDo (may_touch models model)) es) (sym sliced) each)

  -- an edit that may be asked for is one of a model
  of-model : (one : Edit) → MayFit models one → MayDo (λ op m. is_some (model_at models m)) one
  of-model (edit.Make m id values) fit = some_and (λ info. AreFitValues info values) (model_at models m) fit.1
  of-model (edit.Set cell v) fit = set-model models cell v fit
  of-model (edit.Gone m id) fit = absurd fit

  -- which are there
  pub within-models : HasModel models model → All (MayFit models) edits → AreOfModels models done
  within-models there fit =
      keeps (λ op m. is_some (model_at models m)) there
      (subst (λ (es : List Edit). All (MayDo (λ op m. is_some (model_at models m))) es) (sym sliced) (All-weaker (MayFit models) (MayDo (λ op m. is_some (model_at models m))) of-model edits fit))

-- a refusal of the rights, the fields and the forms
allowed-refuses : (rose : Type 0) (P : Refusal → Type 0) (by : Caller) (model : ModelNo) (done : Touched) (asked : Asked) (w : Refusal) → IsAllowedBy by model done.askings.items asked.fields asked.wrong (Err w)
    → (IsAllowedBy by model done.askings.items asked.fields asked.wrong (Err w) → P w) → Refuses rose P w
allowed-refuses rose P by model done asked (refusal.Right m operation) h step = step h
allowed-refuses rose P by model done asked (refusal.FieldRight m field) h step = step h
allowed-refuses rose P by model done asked (refusal.Request place) h step = step h
allowed-refuses rose P by model done asked _ h step = absurd h

module _ (by : Caller) (author : Author) (model : ModelNo) (user : by.user ≡ author.user) (asked : Asked) (making : Making) (told : Data) (k0 k1 k2 : Option Store) (h0 h1 h2 : Holding) (one : Stays k0 h0 k1 h1) (two : Stays k1 h1 k2 h2)
    (planned : (tables : Tables) → RestsAt k0 h0 tables → (making.edits.items ≡ (made h0.models author model tables asked).edits) × (told ≡ ids_told asked.is_list (made h0.models author model tables asked).ids))
    (ready : IsReady h0.models making) (slice : List Edit) (sliced : slice ≡ making.edits.items) (done : Touched) (touches : (tables : Tables) → RestsAt k1 h1 tables → IsTouched h1.models tables (op.Create, model) slice done) where
  abbrev Stops : Tables → Refusal → Type 0
  Stops tables w = StopsCreate h0.models by.policy.now author model tables by.groups.now asked w

  abbrev New : Tables → Tables
  New tables = so_far h0.models tables making

  here : (tables : Tables) → RestsAt k0 h0 tables → IsTouched h0.models tables (op.Create, model) making.edits.items done
  here tables rests =
      subst (λ (es : List Edit). IsTouched h0.models tables (op.Create, model) es done) sliced
      (subst (λ (ms : List ModelInfo). IsTouched ms tables (op.Create, model) slice done) one.models (touches tables (stays-rests k0 k1 h0 h1 one tables rests)))

  still : Stays k0 h0 k2 h2
  still = stays-then k0 k1 k2 h0 h1 h2 one two

  -- he may not ask for them
  pub asked-refused : (rose : Type 0) (w : Refusal) → IsAllowedBy by model done.askings.items asked.fields asked.wrong (Err w) → (tables : Tables) → RestsAt k0 h0 tables → RestsAt k2 h2 tables × Refuses rose (Stops tables) w
  asked-refused rose w h tables rests = (
    stays-rests k0 k2 h0 h2 still tables rests,
    allowed-refuses rose (Stops tables) by model done asked w h
        (allowed-stops h0.models by author model user asked tables making.edits.items (planned tables rests).0 ready.fit done (here tables rests) w),
  )

  pub asked-cause : (rose : Type 0) (w : Refusal) → IsWithin (may_touch h0.models model) done → IsAllowedBy by model done.askings.items asked.fields asked.wrong (Err w)
      → Refuses rose (MayStopCreate h0.models by.policy.now author.user model asked) w
  asked-cause rose w within h = allowed-refuses rose (MayStopCreate h0.models by.policy.now author.user model asked) by model done asked w h (allowed-cause h0.models by author model user asked done within w)

  pub settling-causes : (first mid now : ℕ) → first ≤ mid → (w : Refusal) → IsWithin (may_touch h0.models model) done → Refuses (Rose mid now) (MayStopSettling h2.models done) w
      → Refuses (Rose first now) (MayStopCreate h0.models by.policy.now author.user model asked) w
  settling-causes first mid now up w within h =
      refused_later first mid now up (MayStopSettling h2.models done) (MayStopCreate h0.models by.policy.now author.user model asked) w
      (λ v may. settling-cause h0.models by author model user asked done within v (subst (λ (ms : List ModelInfo). MayStopSettling ms done v) still.models may)) h

  -- he may, and they are settled or not
  module _ (u : Unit {0}) (may : IsAllowedBy by model done.askings.items asked.fields asked.wrong (Ok u)) (k3 : Option Store) (h3 : Holding) where
    pub settling-refused : (first mid now : ℕ) → first ≤ mid → (w : Refusal)
        → ((tables : Tables) → RestsAt k2 h2 tables → RestsAt k3 h3 tables × Refuses (Rose mid now) (StopsSettling h2.models by done tables (so_far h2.models tables making)) w)
        → (tables : Tables) → RestsAt k0 h0 tables → RestsAt k3 h3 tables × Refuses (Rose first now) (Stops tables) w
    settling-refused first mid now up w refused tables rests =
        let own = refused tables (stays-rests k0 k2 h0 h2 still tables rests) in (
          own.0,
          refused_later first mid now up (StopsSettling h2.models by done tables (so_far h2.models tables making)) (Stops tables) w
              (λ v stops. settling-stops h0.models by author model user asked tables making.edits.items (planned tables rests).0 ready.fit done (here tables rests) u may v
              (subst (λ (ms : List ModelInfo). StopsSettling ms by done tables (so_far ms tables making) v) still.models stops)) own.1,
        )

    pub rows-made : ((tables : Tables) → RestsAt k2 h2 tables → AdmitsChanged h2.models by done tables × AdmitsMade h2.models by done (so_far h2.models tables making) × Stands k3 h3 (settled_over h2.models tables (so_far h2.models tables making)))
        → (tables : Tables) → RestsAt k0 h0 tables → IsMadeBy h0.models by author model tables asked told × Stands k3 h3 (settled_over h0.models tables (with_rows h0.models author model tables asked))
    rows-made settled tables rests =
        let own = subst (λ (ms : List ModelInfo). AdmitsChanged ms by done tables × AdmitsMade ms by done (so_far ms tables making) × Stands k3 h3 (settled_over ms tables (so_far ms tables making))) still.models
        (settled tables (stays-rests k0 k2 h0 h2 still tables rests)) in
        let (edits, ids) = planned tables rests in (
          settled-made h0.models by author model user asked tables making.edits.items edits ready.fit done (here tables rests) u may told ids own.0 own.1,
          subst (λ (t : Tables). Stands k3 h3 (settled_over h0.models tables t)) (new-tables h0.models by author model user asked tables making.edits.items edits ready.fit done (here tables rests)) own.2,
        )
