-- How what was staged is judged, by what the engine told on the way, and what it comes to.
use Rattle.std.proofs.Common.{◌≡◌, ◌≤◌, ◌∷◌, ℕ, List, Option, Some, None, Result, Ok, Err, refl, sym, ap, subst, ◌∙◌, arith}
use Rattle.std.proofs.lemmas.List.Elements.{All-contains, All-head, All-weaker}
use Rattle.std.specs.Prelude.{All, Contains, IfErr, IsSomeAnd, OnErr, OnOk}
use Rattle.ob_access.specs.Admission.{denier}
use Rattle.ob_base.specs.declared.id.ModelNo.{ModelNo}
use Rattle.ob_base.specs.declared.id.RecId.{RecId}
use Rattle.ob_base.specs.declared.id.RowKey.{RowKey}
use Rattle.ob_base.specs.declared.refusal.Op.{Op}
use Rattle.ob_base.specs.declared.refusal.Op.TheVariants as op
use Rattle.ob_base.specs.declared.refusal.Refusal.{Refusal}
use Rattle.ob_base.specs.declared.refusal.Refusal.TheVariants as refusal
use Rattle.ob_cache.proofs.CallerLemmas.{Refuses-weaker}
use Rattle.ob_cache.specs.Calls.{Refuses}
use Rattle.ob_cache.specs.Stages.{IsUsable, Stages, StandsOver, settled_of}
use Rattle.ob_cache.specs.Standing.{NextIdsUpTo, OfStages, Stands, max_next_id}
use Rattle.ob_cache.specs.Telling.{TellsFacts}
use Rattle.ob_cache.specs.declared.engine.Engine.{Engine}
use Rattle.ob_cache.specs.declared.stages.Phase.TheVariants as phase
use Rattle.ob_effect.proofs.CallerLemmas.{asks_edits, asks_keeps, keeps_then, rose_later}
use Rattle.ob_effect.specs.Effect.{Asks, Edits}
use Rattle.ob_commands.specs.Judging.{DeniesBy, DeniesMade, Judges, Settles}
use Rattle.ob_effect.specs.Rights.{IsDeniedBy}
use Rattle.ob_effect.specs.declared.asking.Caller.{Caller}
use Rattle.ob_expr.specs.Meaning.{row_at}
use Rattle.ob_io.specs.Cause.{Rose}
use Rattle.ob_io.specs.Store.{Store}
use Rattle.ob_io.specs.declared.keeper.Keeper.{Ghosts}
use Rattle.ob_schema.specs.Broken.{AreSound}
use Rattle.ob_schema.specs.Facts.{OfAllTold, Told, told_by}
use Rattle.ob_schema.specs.Models.{HasField}
use Rattle.ob_schema.specs.declared.info.ModelInfo.{ModelInfo}

-- ---- refusals

-- what is known of a refusal that is known whatever it is
pub whatever-refused : {A : Type 0} (r : Result A Refusal) (P : Type 0) → P → OnErr r P
whatever-refused (Ok a) P p = tt
whatever-refused (Err why) P p = p

pub whatever-done : {A : Type 0} (r : Result A Refusal) (P : Type 0) → P → OnOk r P
whatever-done (Ok a) P p = p
whatever-done (Err why) P p = tt

-- the causes of one of a later question
pub causes-later : {A : Type 0} (r : Result A Refusal) (first mid now : ℕ) → first ≤ mid → (P Q : Refusal → Type 0)
    → ((why : Refusal) → P why → Q why) → IfErr r (Refuses (Rose mid now) P) → IfErr r (Refuses (Rose first now) Q)
causes-later (Ok a) first mid now low P Q step h = tt
causes-later (Err why) first mid now low P Q step h = Refuses-weaker (Rose mid now) (Rose first now) P Q why (rose_later first mid now low) step h

pub refused-from : (first mid now : ℕ) → first ≤ mid → (P Q : Refusal → Type 0) (why : Refusal) → ((why : Refusal) → P why → Q why) → Refuses (Rose mid now) P why → Refuses (Rose first now) Q why
refused-from first mid now low P Q why step h = Refuses-weaker (Rose mid now) (Rose first now) P Q why (rose_later first mid now low) step h

-- ---- rows

-- what holds of some rows holds of the next of those that are left of them
pub next-holds : {X : Type 0} (P : X → Type 0) (xs rest : List X) (x : X) → xs ≡ x ∷ rest → All P xs → P x
next-holds P xs rest x is all = All-head P x rest (subst (All P) is all)

-- and of each of a set of them
pub set-holds : {X : Type 0} (P : X → Type 0) (xs shown keys left : List X) → shown ≡ xs → All (Contains shown) keys → left ≡ keys → All P xs → All P left
set-holds P xs shown keys left same among is all =
    subst (All P) (sym is) (All-weaker (Contains shown) P (λ x contained. All-contains P shown x (subst (All P) (sym same) all) contained) keys among)

-- ---- tables

-- a rule denies a row, by other names of the same
denied-here : (by : Caller) (told : Told) (operation own : Op) (row : RowKey) (model : ModelNo) (id : RecId) (name : List ℕ) → own ≡ operation → model ≡ row.model → id ≡ row.id
    → IsDeniedBy by operation row name told → IsDeniedBy by own (record { model = model; id = id }) name told
denied-here by told operation own row model id name is here one h =
    ap (λ (o : Op). denier by.policy.now told by.groups.now by.user o (row_at model id)) is
    ∙ ap (λ (m : ModelNo). denier by.policy.now told by.groups.now by.user operation (row_at m id)) here
    ∙ ap (λ (i : RecId). denier by.policy.now told by.groups.now by.user operation (row_at row.model i)) one ∙ h

-- the tables that were settled last are sound
pub settled-sound : (kept : Option Store) (at : Stages) → IsSomeAnd kept (StandsOver at) → IsUsable at.phase → AreSound at.models at.settled
settled-sound None at over usable = absurd over
settled-sound (Some store) at over usable = over.settled usable

pub settled-usable : IsUsable phase.Settled
settled-usable is = cc

module _ {K : Type 0} (g : Ghosts K) where
  -- at these stages it may be asked
  usable-at : (a : Engine K) (at : Stages) → Stands (g.kept a.keeper.now) a.held at → IsUsable a.held.phase → IsUsable at.phase
  usable-at a at stands usable = subst IsUsable (sym stands.phase_is) usable

  -- ---- what is told, before edits and behind questions

  pub told-before : (a b : Engine K) → Edits g a b → (P : Told → Type 0) → OfAllTold (TellsFacts (g.kept b.keeper.now) b.held) P → OfAllTold (TellsFacts (g.kept a.keeper.now) a.held) P
  told-before a b edits P h told tells =
      let (at, stands, usable, is) = tells in
      let (now, there, flushed, settled, rises) = edits.stands at stands in
      let models : at.models ≡ now.models = stands.models_are ∙ sym edits.keeps.models ∙ sym there.models_are in
      h told (now, there, usable-at b now there edits.usable, is ∙ ap (λ (ms : List ModelInfo). told_by ms at.settled) models ∙ ap (told_by now.models) (sym settled))

  pub told-behind : (a b : Engine K) → Asks g a b → (P : Told → Type 0) → OfAllTold (TellsFacts (g.kept a.keeper.now) a.held) P → OfAllTold (TellsFacts (g.kept b.keeper.now) b.held) P
  told-behind a b asked P h told tells = let (at, stands, usable, is) = tells in h told (at, asked.same.only at stands, usable, is)

  pub told-asked : (a b : Engine K) → Asks g a b → (P : Told → Type 0) → OfAllTold (TellsFacts (g.kept b.keeper.now) b.held) P → OfAllTold (TellsFacts (g.kept a.keeper.now) a.held) P
  told-asked a b asked P h told tells = let (at, stands, usable, is) = tells in h told (at, asked.same.stands at stands, usable, is)

  -- ---- what judges

  module _ (by : Caller) where
    -- a rule that denies a row as it was settled last
    pub settled-judges : (a : Engine K) → IsUsable a.held.phase → (operation : Op) (row : RowKey) (why : Refusal) → DeniesBy (TellsFacts (g.kept a.keeper.now) a.held) by operation row why → Judges g by a why
    settled-judges a usable operation row (refusal.Rule model op.Create id (Some name)) h = λ at stands.
        let here = usable-at a at stands usable in
        (at.settled, settled-sound (g.kept a.keeper.now) at stands.over here, denied-here by (told_by at.models at.settled) operation op.Create row model id name h.0 h.1 h.2 (h.3 (told_by at.models at.settled) (at, stands, here, refl)))
    settled-judges a usable operation row (refusal.Rule model op.Read id (Some name)) h = λ told tells. denied-here by told operation op.Read row model id name h.0 h.1 h.2 (h.3 told tells)
    settled-judges a usable operation row (refusal.Rule model op.Write id (Some name)) h = λ told tells. denied-here by told operation op.Write row model id name h.0 h.1 h.2 (h.3 told tells)
    settled-judges a usable operation row (refusal.Rule model op.Unlink id (Some name)) h = λ told tells. denied-here by told operation op.Unlink row model id name h.0 h.1 h.2 (h.3 told tells)
    settled-judges a usable operation row _ h = absurd h

    -- what judges behind edits
    pub judges-before : (a b : Engine K) → Edits g a b → (why : Refusal) → Judges g by b why → Judges g by a why
    judges-before a b edits (refusal.Rule model op.Create id (Some name)) h = λ at stands.
        let (now, there, flushed, settled, rises) = edits.stands at stands in
        let (tables, sound, denied) = h now there in
        let models : now.models ≡ at.models = there.models_are ∙ edits.keeps.models ∙ sym stands.models_are in (
          tables,
          subst (λ (ms : List ModelInfo). AreSound ms tables) models sound,
          subst (λ (ms : List ModelInfo). IsDeniedBy by op.Create (record { model = model; id = id }) name (told_by ms tables)) models denied,
        )
    judges-before a b edits (refusal.Rule model op.Read id (Some name)) h = told-before a b edits (IsDeniedBy by op.Read (record { model = model; id = id }) name) h
    judges-before a b edits (refusal.Rule model op.Write id (Some name)) h = told-before a b edits (IsDeniedBy by op.Write (record { model = model; id = id }) name) h
    judges-before a b edits (refusal.Rule model op.Unlink id (Some name)) h = told-before a b edits (IsDeniedBy by op.Unlink (record { model = model; id = id }) name) h
    judges-before a b edits (refusal.Constraint broken) h = subst (λ (ms : List ModelInfo). HasField ms broken.cell.model broken.cell.field) edits.keeps.models h
    judges-before a b edits _ h = absurd h

    -- a refusal of a row behind questions
    pub asked-judges : (a b : Engine K) → IsUsable a.held.phase → Asks g a b → (now : ℕ) (operation : Op) (row : RowKey) (why : Refusal)
        → Refuses (Rose (g.faults b.keeper.now) now) (DeniesBy (TellsFacts (g.kept b.keeper.now) b.held) by operation row) why → Refuses (Rose (g.faults a.keeper.now) now) (Judges g by a) why
    asked-judges a b usable asked now operation row why h =
        let edits = asks_edits g a b usable asked in
        refused-from (g.faults a.keeper.now) (g.faults b.keeper.now) now asked.count (DeniesBy (TellsFacts (g.kept b.keeper.now) b.held) by operation row) (Judges g by a) why
        (λ w denies. judges-before a b edits w (settled-judges b edits.usable operation row w denies)) h

    denies-made : (a b : Engine K) → Asks g a b → (row : RowKey) (why : Refusal) → DeniesBy (TellsFacts (g.kept b.keeper.now) b.held) by op.Create row why → DeniesMade g by a why
    denies-made a b asked row (refusal.Rule model op.Create id (Some name)) h =
        told-asked a b asked (IsDeniedBy by op.Create (record { model = model; id = id }) name) (λ told tells. denied-here by told op.Create op.Create row model id name h.0 h.1 h.2 (h.3 told tells))
    denies-made a b asked row (refusal.Rule model op.Read id (Some name)) h = absurd (let other = h.0 in cc)
    denies-made a b asked row (refusal.Rule model op.Write id (Some name)) h = absurd (let other = h.0 in cc)
    denies-made a b asked row (refusal.Rule model op.Unlink id (Some name)) h = absurd (let other = h.0 in cc)
    denies-made a b asked row _ h = absurd h

    pub asked-denies : (a b : Engine K) → Asks g a b → (now : ℕ) (row : RowKey) (why : Refusal) → Refuses (Rose (g.faults b.keeper.now) now) (DeniesBy (TellsFacts (g.kept b.keeper.now) b.held) by op.Create row) why
        → Refuses (Rose (g.faults a.keeper.now) now) (DeniesMade g by a) why
    asked-denies a b asked now row why h =
        refused-from (g.faults a.keeper.now) (g.faults b.keeper.now) now asked.count (DeniesBy (TellsFacts (g.kept b.keeper.now) b.held) by op.Create row) (DeniesMade g by a) why (denies-made a b asked row) h

    -- a rule that denies a row once all is settled
    pub made-judges : (a b : Engine K) → OfStages (g.kept a.keeper.now) a.held (λ at. Stands (g.kept b.keeper.now) b.held (settled_of at)) → (why : Refusal) → DeniesMade g by b why → Judges g by a why
    made-judges a b settled (refusal.Rule model op.Create id (Some name)) h = λ at stands.
        let there = settled at stands in
        (at.staged, settled-sound (g.kept b.keeper.now) (settled_of at) there.over settled-usable, h (told_by at.models at.staged) (settled_of at, there, settled-usable, refl))
    made-judges a b settled _ h = absurd h

  -- ---- what is settled

  -- by the engine
  pub engine-settles : (a b : Engine K) → b.keeper.ghost_name ≡ a.keeper.ghost_name → g.kept b.keeper.now ≡ g.kept a.keeper.now → g.faults a.keeper.now ≤ g.faults b.keeper.now → b.held.models ≡ a.held.models
      → b.held.phase ≡ phase.Settled → NextIdsUpTo max_next_id b.held → OfStages (g.kept a.keeper.now) a.held (λ at. Stands (g.kept b.keeper.now) b.held (settled_of at)) → Settles g a b
  engine-settles a b lender kept count models phase_is next_ids settled = record {
    keeps = record { lender = lender; kept = kept; count = count; models = models; stands = λ at is. (settled_of at, settled at is, refl) };
    phase_is = phase_is;
    next_ids = next_ids;
    stands = λ at is. (settled_of at, settled at is, refl, refl, refl);
  }

  -- behind questions
  pub asks-settles : (a b c : Engine K) → Asks g a b → Settles g b c → Settles g a c
  asks-settles a b c asked is = record {
    keeps = keeps_then g a b c (asks_keeps g a b asked) is.keeps;
    phase_is = is.phase_is;
    next_ids = is.next_ids;
    stands = λ at stands. is.stands at (asked.same.stands at stands);
  }

  -- and before them
  pub settles-asks : (a b c : Engine K) → Settles g a b → Asks g b c → Settles g a c
  settles-asks a b c is asked = record {
    keeps = keeps_then g a b c is.keeps (asks_keeps g b c asked);
    phase_is = asked.same.phase_is ∙ is.phase_is;
    next_ids = asked.same.next_ids max_next_id (let low : max_next_id ≤ max_next_id = omega arith in low) is.next_ids;
    stands = λ at stands. let (now, there, flushed, settled, staged) = is.stands at stands in (now, asked.same.stands now there, flushed, settled, staged);
  }
