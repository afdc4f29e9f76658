-- From a store that was opened to what was served over the tables that it then had.
use Rattle.std.proofs.Common.{◌≡◌, ℕ, ℤ, ◌≤◌, ◌⊎◌, List, Option, Some, refl, sym, ◌∙◌, subst, arith, inl, inr}
use Rattle.std.specs.Option.{IsSome}
use Rattle.ob_cache.specs.Kept.{OthersStay}
use Rattle.ob_cache.specs.Standing.{Holding, RestsAt}
use Rattle.ob_io.specs.Cause.{Rose}
use Rattle.ob_io.specs.Store.{Store}
use Rattle.ob_schema.specs.Tables.{Tables}
use Rattle.ob_schema.specs.declared.info.ModelInfo.{ModelInfo}
use Rattle.ob_schema.specs.declared.preset.PresetRow.{PresetRow}
use Rattle.ob_words.specs.Words.{Command}
use Rattle.ob_server.specs.Ending.{HasReason}
use Rattle.ob_server.specs.Opening.{IsStopped, Opening, ServesDoor, ServesLines, StopsAsking, StopsFilling, StopsUnfilled}
use Rattle.ob_server.specs.Outside.{Doorway, Surroundings}
use Rattle.ob_server.specs.Session.{StandsFor}
use Rattle.ob_server.specs.Setup.{Setup}
use Rattle.ob_server.specs.declared.ending.Ending.{Ending}
use Rattle.ob_server.specs.declared.ending.Ending.TheVariants as ending
use Rattle.ob_server.proofs.CallerLemmas.{Rose-earlier}
use Rattle.stockd.specs.Outside.{Outside}
use Rattle.stockd.specs.Program.{AreLoadedBy, EndsBefore, EndsCall, EndsServe, IsUntouched}
use Rattle.stockd.specs.Store.{EndsOpening}
use Rattle.stockd.proofs.WholeCall.{is_there, read_reason, stands_for}

-- where it isn't known whether the store is new, it isn't opened
asking_stops : (models : List ModelInfo) (store : Store) (rose : Type 0) (why : Ending) → StopsAsking rose why → EndsOpening models store rose why
asking_stops models store rose ending.KeeperFault stops = stops
asking_stops models store rose ending.NoMemory stops = tt
asking_stops models store rose ending.Done stops = absurd stops
asking_stops models store rose ending.Differs stops = absurd stops
asking_stops models store rose ending.Usage stops = absurd stops
asking_stops models store rose (ending.Module line) stops = absurd stops
asking_stops models store rose ending.ReadFault stops = absurd stops
asking_stops models store rose ending.WriteFault stops = absurd stops
asking_stops models store rose (ending.Store cell) stops = absurd stops
asking_stops models store rose (ending.TooLong number) stops = absurd stops

-- an opening that stopped by itself
pub ends_before : (command : Command) (why : Ending) (store : Store) (before after : Outside) (setup : Setup) (preset : List PresetRow) (first : Tables)
    → AreLoadedBy command before.texts setup preset → StandsFor setup.models first store → after.left ≡ before.left → IsStopped setup.models preset why first before.standing after.standing
    → EndsBefore command why store before after
ends_before command why store before after setup preset first loaded stands left stopped = by stopped.stops
  where
    by : StopsUnfilled setup.models preset why first (Rose before.standing.faults after.standing.faults) before.standing.coming after.standing.coming → EndsBefore command why store before after
    by (inl (stops, coming)) = inl (record {
      setup = setup;
      preset = preset;
      loaded = loaded;
      stops = asking_stops setup.models store (Rose before.standing.faults after.standing.faults) why stops;
      same = record { left = left; kept = stopped.kept; coming = coming; written = stopped.written };
    })
    by (inr fails) = inr (record {
      setup = setup;
      preset = preset;
      loaded = loaded;
      new = subst (λ (t : Tables). StandsFor setup.models t store) fails.new stands;
      moment = fails.moment;
      takes = fails.takes;
      stops = fails.stops;
      same = record { left = left; kept = stopped.kept; coming = refl; written = stopped.written };
    })

-- the modules were loaded; what the opening did is what the call did
pub ends_opened : (command : Command) (why : Ending) (store : Store) (audits source output keeper : Type 0) (before after : Outside) (setup : Setup) (preset : List PresetRow)
    → AreLoadedBy command before.texts setup preset → (source → Rose before.source_faults after.source_faults)
    → (EndsOpening setup.models store (Rose before.standing.faults after.standing.faults) why × IsUntouched before.left after.left before.standing after.standing)
    ⊎ ((first : Tables) × StandsFor setup.models first store × ServesLines setup preset first why before.left after.left before.standing after.standing)
    → HasReason audits source output keeper why → EndsCall command why store before after
ends_opened command why store audits source output keeper before after setup preset loaded rose (inl stopped) reason =
    inr (inl (inl (record { setup = setup; preset = preset; loaded = loaded; stops = stopped.0; same = stopped.1 })))
ends_opened command why store audits source output keeper before after setup preset loaded rose (inr (first, stands, inl stopped)) reason =
    inr (inl (ends_before command why store before after setup preset first loaded stands stopped.1 stopped.0))
ends_opened command why store audits source output keeper before after setup preset loaded rose (inr (first, stands, inr (begun, opened, opening, session))) reason =
    inr (inr (record {
      setup = setup;
      preset = preset;
      loaded = loaded;
      first = first;
      stands = stands;
      begun = begun;
      opened = opened;
      opening = opening;
      session = session;
      read_fault = λ is. rose (read_reason audits source output keeper why reason is);
    }))

-- the modules were loaded; what the opening and the connections did is what serving did
pub ends_received : (command : Command) (why : Ending) (store : Store) (before after : Outside) (setup : Setup) (preset : List PresetRow)
    → AreLoadedBy command before.texts setup preset → after.left ≡ before.left → after.standing.written ≡ before.standing.written
    → (EndsOpening setup.models store (Rose before.standing.faults after.standing.faults) why × (after.standing.kept ≡ before.standing.kept) × (after.standing.coming ≡ before.standing.coming) × (after.door ≡ before.door))
    ⊎ ((first : Tables) × StandsFor setup.models first store × ServesDoor setup preset first why command.limit before.door after.door before.standing after.standing)
    → EndsServe command why store before after
ends_received command why store before after setup preset loaded left written (inl (stops, kept, coming, door)) =
    inr (inl (inl (record { setup = setup; preset = preset; loaded = loaded; stops = stops; same = record { left = left; kept = kept; coming = coming; written = written } }), door))
ends_received command why store before after setup preset loaded left written (inr (first, stands, inl stopped)) =
    inr (inl (ends_before command why store before after setup preset first loaded stands left stopped.0, stopped.1))
ends_received command why store before after setup preset loaded left written (inr (first, stands, inr (begun, opened, moments, opening, moments_are, reception))) =
    inr (inr (record {
      setup = setup;
      preset = preset;
      loaded = loaded;
      first = first;
      stands = stands;
      begun = begun;
      opened = opened;
      opening = opening;
      moments = moments;
      moments_are = moments_are;
      reception = reception;
      left = left;
      written = written;
    }))

-- ---- from a keeper under an engine to the keeper as it was before

-- an opening that stops where the count rose from a later moment on stops so where it rose from an earlier one on
asking_since : {rose rose' : Type 0} → (rose → rose') → (why : Ending) → StopsAsking rose why → StopsAsking rose' why
asking_since since ending.KeeperFault stops = since stops
asking_since since ending.NoMemory stops = tt
asking_since since ending.Done stops = absurd stops
asking_since since ending.Differs stops = absurd stops
asking_since since ending.Usage stops = absurd stops
asking_since since (ending.Module line) stops = absurd stops
asking_since since ending.ReadFault stops = absurd stops
asking_since since ending.WriteFault stops = absurd stops
asking_since since (ending.Store cell) stops = absurd stops
asking_since since (ending.TooLong number) stops = absurd stops

filling_since : (models : List ModelInfo) (preset : List PresetRow) (moment : ℤ) {rose rose' : Type 0} → (rose → rose') → (why : Ending) → StopsFilling models preset moment rose why → StopsFilling models preset moment rose' why
filling_since models preset moment since (ending.Module line) stops = stops
filling_since models preset moment since ending.KeeperFault stops = since stops
filling_since models preset moment since ending.NoMemory stops = tt
filling_since models preset moment since ending.Done stops = absurd stops
filling_since models preset moment since ending.Differs stops = absurd stops
filling_since models preset moment since ending.Usage stops = absurd stops
filling_since models preset moment since ending.ReadFault stops = absurd stops
filling_since models preset moment since ending.WriteFault stops = absurd stops
filling_since models preset moment since (ending.Store cell) stops = absurd stops
filling_since models preset moment since (ending.TooLong number) stops = absurd stops

unfilled_since : (models : List ModelInfo) (preset : List PresetRow) (why : Ending) (first : Tables) {rose rose' : Type 0} (coming coming_now : Option (ℕ → ℤ)) → (rose → rose')
    → StopsUnfilled models preset why first rose coming coming_now → StopsUnfilled models preset why first rose' coming coming_now
unfilled_since models preset why first coming coming_now since (inl (stops, same)) = inl (asking_since since why stops, same)
unfilled_since models preset why first coming coming_now since (inr fails) = inr (record { new = fails.new; moment = fails.moment; takes = fails.takes; stops = filling_since models preset fails.moment since why fails.stops })

module _ (setup : Setup) (preset : List PresetRow) (first : Tables) (why : Ending) (before : Surroundings) (faults : ℕ) (kept : Option Store) (count : before.faults ≤ faults) (same : kept ≡ before.kept) where
  -- what a keeper tells that was opened, kept nothing and may have failed
  abbrev past : Surroundings
  past = record before { faults = faults; kept = kept }

  stopped_from : (now : Surroundings) → IsStopped setup.models preset why first past now → IsStopped setup.models preset why first before now
  stopped_from now stopped = record {
    stops = unfilled_since setup.models preset why first before.coming now.coming (Rose-earlier before.faults faults now.faults count) stopped.stops;
    kept = stopped.kept ∙ same;
    written = stopped.written;
  }

  opening_from : (begun : Tables) (opened : Surroundings) → Opening setup.models preset first begun past opened → Opening setup.models preset first begun before opened
  opening_from begun opened opening = record {
    begins = opening.begins;
    store = opening.store;
    kept_is = opening.kept_is;
    stands = opening.stands;
    written = opening.written;
    others = subst (λ (k : Option Store). OthersStay setup.models k opened.kept) same opening.others;
    count = omega (arith, count, opening.count);
  }

  lines_from : (left left_now : Option (List ℕ)) (now : Surroundings) → ServesLines setup preset first why left left_now past now → ServesLines setup preset first why left left_now before now
  lines_from left left_now now (inl (stopped, none)) = inl (stopped_from now stopped, none)
  lines_from left left_now now (inr (begun, opened, opening, session)) = inr (begun, opened, opening_from begun opened opening, session)

  door_from : (limit : ℕ) (door door_now : Doorway) (now : Surroundings) → ServesDoor setup preset first why limit door door_now past now → ServesDoor setup preset first why limit door door_now before now
  door_from limit door door_now now (inl (stopped, none)) = inl (stopped_from now stopped, none)
  door_from limit door door_now now (inr (begun, opened, moments, opening, moments_are, reception)) = inr (begun, opened, moments, opening_from begun opened opening, moments_are, reception)

module _ {D : Type 0} (faults : D → ℕ) (kept : D → Option Store) where
  -- what a keeper, a clock and a sink tell
  abbrev telling : D → Option (ℕ → ℤ) → Option (List ℕ) → Surroundings
  telling keeper coming written = record { faults = faults keeper; kept = kept keeper; coming = coming; written = written }

  module _ (on : List ModelInfo → Setup) (models : List ModelInfo) (preset : List PresetRow) (held : Holding) (store : Store) (coming coming_now : Option (ℕ → ℤ)) (written written_now : Option (List ℕ))
      (before opened last after : D) (why : Ending)
      (ends : after ≡ last) (same : held.models ≡ models) (rests : IsSome (kept before) → (tables : Tables) × RestsAt (kept opened) held tables) (kept_is : kept opened ≡ kept before)
      (count : faults before ≤ faults opened) (told : kept before ≡ Some store) where
    -- the tables at which the engine rested that was opened
    abbrev at_first : (tables : Tables) × RestsAt (kept opened) held tables
    at_first = rests (is_there (kept before) store told)

    abbrev stands_first : StandsFor models at_first.0 store
    stands_first = stands_for models held (kept opened) store at_first.0 same (kept_is ∙ told) at_first.1

    -- An engine was opened over a keeper, and rested; lines were served over it, and the keeper is as they left it.
    pub lines_opened : (left left_now : Option (List ℕ))
        → ((first : Tables) → RestsAt (kept opened) held first → ServesLines (on held.models) preset first why left left_now (telling opened coming written) (telling last coming_now written_now))
        → (first : Tables) × StandsFor models first store × ServesLines (on models) preset first why left left_now (telling before coming written) (telling after coming_now written_now)
    lines_opened left left_now serves =
        let first = at_first.0 in
        let served = subst (λ (m : List ModelInfo). ServesLines (on m) preset first why left left_now (telling opened coming written) (telling last coming_now written_now)) same (serves first at_first.1) in
        let ended = subst (λ (d : D). ServesLines (on models) preset first why left left_now (telling opened coming written) (telling d coming_now written_now)) (sym ends) served in
        (first, stands_first, lines_from (on models) preset first why (telling before coming written) (faults opened) (kept opened) count kept_is left left_now (telling after coming_now written_now) ended)

    -- so were connections
    pub door_opened : (limit : ℕ) (door door_now : Doorway)
        → ((first : Tables) → RestsAt (kept opened) held first → ServesDoor (on held.models) preset first why limit door door_now (telling opened coming written) (telling last coming_now written_now))
        → (first : Tables) × StandsFor models first store × ServesDoor (on models) preset first why limit door door_now (telling before coming written) (telling after coming_now written_now)
    door_opened limit door door_now serves =
        let first = at_first.0 in
        let served = subst (λ (m : List ModelInfo). ServesDoor (on m) preset first why limit door door_now (telling opened coming written) (telling last coming_now written_now)) same (serves first at_first.1) in
        let ended = subst (λ (d : D). ServesDoor (on models) preset first why limit door door_now (telling opened coming written) (telling d coming_now written_now)) (sym ends) served in
        (first, stands_first, door_from (on models) preset first why (telling before coming written) (faults opened) (kept opened) count kept_is limit door door_now (telling after coming_now written_now) ended)
