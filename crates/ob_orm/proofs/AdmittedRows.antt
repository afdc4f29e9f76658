-- What becomes of rows over an engine that settles them and asks rules of those that are changed and those that are made.
use Rattle.std.proofs.Common.{◌≡◌, ◌≤◌, ℕ, List, Option, Result, Ok, Err, inl, inr, refl, sym, subst}
use Rattle.std.specs.Prelude.{IfErr, OnOk}
use Rattle.ob_base.specs.declared.refusal.Op.TheVariants as op
use Rattle.ob_base.specs.declared.refusal.Refusal.{Refusal}
use Rattle.ob_base.specs.declared.refusal.Refusal.TheVariants as refusal
use Rattle.ob_cache.proofs.CallerLemmas.{Refuses-weaker}
use Rattle.ob_cache.specs.Calls.{Refuses, settled_over}
use Rattle.ob_cache.specs.Stages.{forgotten}
use Rattle.ob_cache.specs.Standing.{Holding, OfStages, RestsAt, Stands, Stays}
use Rattle.ob_cache.specs.Telling.{TellsFacts}
use Rattle.ob_cache.specs.declared.stages.Phase.TheVariants as phase
use Rattle.ob_io.specs.Cause.{Rose}
use Rattle.ob_io.specs.Store.{Store}
use Rattle.ob_rows.proofs.CallerLemmas.{refused_later, rests-tells, sound_in, stays-rests}
use Rattle.ob_rows.specs.AskingSteps.{AdmitsBy, DeniesBy}
use Rattle.ob_orm.specs.CreateSteps.{AdmitsChanged, AdmitsMade, StopsSettling}
use Rattle.ob_rows.specs.Settling.{IsBrokenBy}
use Rattle.ob_orm.specs.NewRowSteps.{so_far}
use Rattle.ob_orm.specs.TouchSteps.{rows_known}
use Rattle.ob_rows.specs.declared.asking.Caller.{Caller}
use Rattle.ob_orm.specs.declared.making.next_ids.Making.{Making}
use Rattle.ob_orm.specs.declared.touching.Touched.{Touched}
use Rattle.ob_schema.specs.Broken.{Sound}
use Rattle.ob_schema.specs.Facts.{OfAllTold, told_by}
use Rattle.ob_schema.specs.Tables.{Tables}
use Rattle.ob_schema.specs.declared.info.ModelInfo.{ModelInfo}

module _ (models : List ModelInfo) (by : Caller) (done : Touched) (old new : Tables) where
  denies-changed : (w : Refusal) → DeniesBy by (told_by models old) op.Write (rows_known (told_by models old) done.changed.keys) w → StopsSettling models by done old new w
  denies-changed (refusal.Rule m operation id rule) h = inl h
  denies-changed _ h = absurd h

  breaks : AdmitsChanged models by done old → (w : Refusal) → IsBrokenBy models new w → StopsSettling models by done old new w
  breaks admits (refusal.Constraint b) h = (admits, h)
  breaks admits _ h = absurd h

  denies-made : AdmitsChanged models by done old → Sound models new → (w : Refusal) → DeniesBy by (told_by models new) op.Create (rows_known (told_by models new) done.made.keys) w → StopsSettling models by done old new w
  denies-made admits sound (refusal.Rule m operation id rule) h = inr (admits, sound, h)
  denies-made admits sound _ h = absurd h

-- a refusal that is this one
pub err-of : {A : Type 0} (r : Result A Refusal) (why : Refusal) (P : Refusal → Type 0) → r ≡ Err why → P why → IfErr r P
err-of {A} r why P is h = subst (λ (q : Result A Refusal). IfErr q P) (sym is) h

-- over an engine that rests at tables, which was asked for the rows that are changed
module _ (by : Caller) (done : Touched) (making : Making) (k0 k1 : Option Store) (h0 h1 : Holding) (stays : Stays k0 h0 k1 h1) where
  abbrev New : Tables → Tables
  New tables = so_far h0.models tables making

  abbrev pub ToldChanged : Type 0
  ToldChanged = OfAllTold (TellsFacts k0 h0) (λ told. AdmitsBy by told op.Write (rows_known told done.changed.keys))

  admits-first : ToldChanged → (tables : Tables) → RestsAt k0 h0 tables → AdmitsChanged h0.models by done tables
  admits-first h tables rests = h (told_by h0.models tables) (rests-tells k0 h0 tables rests)

  -- a rule denies one of them
  pub first-refused : (rose : Type 0) (w : Refusal) → OfAllTold (TellsFacts k0 h0) (λ told. Refuses rose (DeniesBy by told op.Write (rows_known told done.changed.keys)) w) → (tables : Tables) → RestsAt k0 h0 tables
      → RestsAt k1 h1 tables × Refuses rose (StopsSettling h0.models by done tables (New tables)) w
  first-refused rose w h tables rests = (
    stays-rests k0 k1 h0 h1 stays tables rests,
    Refuses-weaker rose rose (DeniesBy by (told_by h0.models tables) op.Write (rows_known (told_by h0.models tables) done.changed.keys)) (StopsSettling h0.models by done tables (New tables)) w (λ risen. risen)
        (denies-changed h0.models by done tables (New tables)) (h (told_by h0.models tables) (rests-tells k0 h0 tables rests)),
  )

  -- the tables break something
  pub second-refused : (k2 : Option Store) (h2 : Holding) (first mid now : ℕ) → first ≤ mid → ToldChanged → (w : Refusal)
      → ((tables : Tables) → RestsAt k1 h1 tables → RestsAt k2 h2 tables × Refuses (Rose mid now) (IsBrokenBy h1.models (so_far h1.models tables making)) w)
      → (tables : Tables) → RestsAt k0 h0 tables → RestsAt k2 h2 tables × Refuses (Rose first now) (StopsSettling h0.models by done tables (New tables)) w
  second-refused k2 h2 first mid now up admits w refused tables rests =
      let own = refused tables (stays-rests k0 k1 h0 h1 stays tables rests) in (
        own.0,
        refused_later first mid now up (IsBrokenBy h1.models (so_far h1.models tables making)) (StopsSettling h0.models by done tables (New tables)) w
            (λ v broken. breaks h0.models by done tables (New tables) (admits-first admits tables rests) v (subst (λ (ms : List ModelInfo). IsBrokenBy ms (so_far ms tables making) v) stays.models broken)) own.1,
      )

  -- the engine is settled with them, and was asked for the rows that are made
  module _ (k2 k3 : Option Store) (h2 h3 : Holding) (settled : (tables : Tables) → RestsAt k1 h1 tables → Stands k2 h2 (settled_over h1.models tables (so_far h1.models tables making))) (later : Stays k2 h2 k3 h3) where
    abbrev IsSettled : Option Store → Holding → Tables → Type 0
    IsSettled kept held tables = Stands kept held (settled_over h0.models tables (New tables))

    stands : (tables : Tables) → RestsAt k0 h0 tables → IsSettled k2 h2 tables
    stands tables rests = subst (λ (ms : List ModelInfo). Stands k2 h2 (settled_over ms tables (so_far ms tables making))) stays.models (settled tables (stays-rests k0 k1 h0 h1 stays tables rests))

    tells : (tables : Tables) → RestsAt k0 h0 tables → TellsFacts k2 h2 (told_by h0.models (New tables))
    tells tables rests = (settled_over h0.models tables (New tables), stands tables rests, (λ is. absurd (let spoiled : phase.Settled ≡ phase.Spoiled = is in cc)), refl)

    -- rules admit all
    pub all-admitted : ToldChanged → OfAllTold (TellsFacts k2 h2) (λ told. AdmitsBy by told op.Create (rows_known told done.made.keys)) → (tables : Tables) → RestsAt k0 h0 tables
        → AdmitsChanged h0.models by done tables × AdmitsMade h0.models by done (New tables) × IsSettled k3 h3 tables
    all-admitted first last tables rests = (
      admits-first first tables rests,
      last (told_by h0.models (New tables)) (tells tables rests),
      later.stands (settled_over h0.models tables (New tables)) (stands tables rests),
    )

    -- or one denies one of those that are made, and the engine forgets them
    pub third-refused : (k4 : Option Store) (h4 : Holding) (first mid now : ℕ) → first ≤ mid → ToldChanged → (w : Refusal)
        → OfAllTold (TellsFacts k2 h2) (λ told. Refuses (Rose mid now) (DeniesBy by told op.Create (rows_known told done.made.keys)) w)
        → OfStages k3 h3 (λ at. Stands k4 h4 (forgotten at)) → h4.models ≡ h0.models
        → (tables : Tables) → RestsAt k0 h0 tables → RestsAt k4 h4 tables × Refuses (Rose first now) (StopsSettling h0.models by done tables (New tables)) w
    third-refused k4 h4 first mid now up admits w denies forgets same tables rests =
        let here = later.stands (settled_over h0.models tables (New tables)) (stands tables rests) in (
          subst (λ (ms : List ModelInfo). Stands k4 h4 (record { models = ms; flushed = tables; settled = tables; staged = tables; phase = phase.Settled })) (sym same) (forgets (settled_over h0.models tables (New tables)) here),
          refused_later first mid now up (DeniesBy by (told_by h0.models (New tables)) op.Create (rows_known (told_by h0.models (New tables)) done.made.keys)) (StopsSettling h0.models by done tables (New tables)) w
              (denies-made h0.models by done tables (New tables) (admits-first admits tables rests) (sound_in h0.models tables (New tables) k2 (stands tables rests).over))
              (denies (told_by h0.models (New tables)) (tells tables rests)),
        )

-- whatever came of the last question
module _ (r : Result (Unit {0}) Refusal) (by : Caller) (done : Touched) (making : Making) (k0 k1 : Option Store) (h0 h1 : Holding) (stays : Stays k0 h0 k1 h1) (k2 k3 : Option Store) (h2 h3 : Holding)
    (settled : (tables : Tables) → RestsAt k1 h1 tables → Stands k2 h2 (settled_over h1.models tables (so_far h1.models tables making))) (later : Stays k2 h2 k3 h3) (admits : ToldChanged by done making k0 k1 h0 h1 stays) where
  pub all-made : OnOk r (OfAllTold (TellsFacts k2 h2) (λ told. AdmitsBy by told op.Create (rows_known told done.made.keys)))
      → OnOk r ((tables : Tables) → RestsAt k0 h0 tables → AdmitsChanged h0.models by done tables × AdmitsMade h0.models by done (so_far h0.models tables making) × Stands k3 h3 (settled_over h0.models tables (so_far h0.models tables making)))
  all-made = from r where
    from : (q : Result (Unit {0}) Refusal) → OnOk q (OfAllTold (TellsFacts k2 h2) (λ told. AdmitsBy by told op.Create (rows_known told done.made.keys)))
        → OnOk q ((tables : Tables) → RestsAt k0 h0 tables → AdmitsChanged h0.models by done tables × AdmitsMade h0.models by done (so_far h0.models tables making) × Stands k3 h3 (settled_over h0.models tables (so_far h0.models tables making)))
    from (Ok u) h = all-admitted by done making k0 k1 h0 h1 stays k2 k3 h2 h3 settled later admits h
    from (Err w) h = tt

  pub third-refusing : (k4 : Option Store) (h4 : Holding) (first mid now last : ℕ) → first ≤ mid → last ≡ now
      → IfErr r (λ why. OfAllTold (TellsFacts k2 h2) (λ told. Refuses (Rose mid now) (DeniesBy by told op.Create (rows_known told done.made.keys)) why))
      → OfStages k3 h3 (λ at. Stands k4 h4 (forgotten at)) → h4.models ≡ h0.models
      → IfErr r (λ why. (tables : Tables) → RestsAt k0 h0 tables → RestsAt k4 h4 tables × Refuses (Rose first last) (StopsSettling h0.models by done tables (so_far h0.models tables making)) why)
  third-refusing k4 h4 first mid now last up end denies forgets same =
      subst (λ (n : ℕ). IfErr r (λ why. (tables : Tables) → RestsAt k0 h0 tables → RestsAt k4 h4 tables × Refuses (Rose first n) (StopsSettling h0.models by done tables (so_far h0.models tables making)) why)) (sym end) (from r denies) where
        from : (q : Result (Unit {0}) Refusal) → IfErr q (λ why. OfAllTold (TellsFacts k2 h2) (λ told. Refuses (Rose mid now) (DeniesBy by told op.Create (rows_known told done.made.keys)) why))
            → IfErr q (λ why. (tables : Tables) → RestsAt k0 h0 tables → RestsAt k4 h4 tables × Refuses (Rose first now) (StopsSettling h0.models by done tables (so_far h0.models tables making)) why)
        from (Ok u) h = tt
        from (Err w) h = third-refused by done making k0 k1 h0 h1 stays k2 k3 h2 h3 settled later k4 h4 first mid now up admits w h forgets same
