-- What becomes of an engine by a whole call: its edits are settled, or it comes back to where it rested.
use Rattle.std.proofs.Common.{◌≡◌, ◌≤◌, List, Option, Result, Ok, Err, refl, sym, ap, subst, ◌∙◌, arith}
use Rattle.std.specs.Prelude.{⊤, IfOk, OnErr}
use Rattle.ob_base.specs.declared.refusal.Refusal.{Refusal}
use Rattle.ob_cache.specs.Calls.{HasTables, settled_over, standpoint}
use Rattle.ob_cache.specs.Stages.{forgotten, resting}
use Rattle.ob_cache.specs.Standing.{Holding, IsAtRest, OfStages, RestsAt, Stands, max_next_id}
use Rattle.ob_cache.specs.Telling.{TellsFacts}
use Rattle.ob_cache.specs.declared.engine.Engine.{Engine}
use Rattle.ob_cache.specs.declared.stages.Phase.TheVariants as phase
use Rattle.ob_effect.proofs.CallerLemmas.{keeps_then}
use Rattle.ob_commands.proofs.JudgedEdits.{settled-sound, settled-usable}
use Rattle.ob_effect.specs.NextIds.{NextIdsRise}
use Rattle.ob_effect.specs.Effect.{Asks, ComesOf, Edits, Keeps}
use Rattle.ob_commands.specs.Judging.{Settles}
use Rattle.ob_commands.specs.Making.{ComesBack, SettlesTo}
use Rattle.ob_io.specs.Store.{Store}
use Rattle.ob_io.specs.declared.keeper.Keeper.{Ghosts}
use Rattle.ob_schema.specs.Broken.{AreSound}
use Rattle.ob_schema.specs.Facts.{told_by}
use Rattle.ob_schema.specs.Tables.{Tables}
use Rattle.ob_schema.specs.declared.info.ModelInfo.{ModelInfo}

-- ---- tables at which an engine rests

-- it tells of them
pub rests-tells : (kept : Option Store) (held : Holding) (tables : Tables) → RestsAt kept held tables → TellsFacts kept held (told_by held.models tables)
rests-tells kept held tables rests = (resting held.models tables, rests, settled-usable, refl)

module _ {K : Type 0} (g : Ghosts K) where
  -- still where it was asked
  pub asks-rests : (a b : Engine K) → Asks g a b → (tables : Tables) → HasTables (standpoint g a) tables → HasTables (standpoint g b) tables
  asks-rests a b asked tables rests =
      subst (λ (models : List ModelInfo). Stands (g.kept b.keeper.now) b.held (resting models tables)) (sym asked.same.models) (asked.same.stands (resting a.held.models tables) rests)

  -- ---- edits that are settled

  pub edits-settle : (Holds : (old new : Tables) → Type 0) (a b c : Engine K) → Edits g a b → ComesOf g (λ at now. Holds at.staged now.staged) a b → Settles g b c → SettlesTo g Holds a c
  edits-settle Holds a b c edits comes is = record {
    keeps = keeps_then g a b c edits.keeps is.keeps;
    phase_is = is.phase_is;
    next_ids = is.next_ids;
    stands = λ at stands.
        let (mid, there, flushed, settled, rises, holds) = comes at stands in
        let (now, then, flushed_on, settled_on, staged_on) = is.stands mid there in (
          now,
          then,
          flushed_on ∙ flushed,
          staged_on ∙ sym settled_on,
          subst (λ (tables : Tables). NextIdsRise at.staged tables) (sym settled_on) rises,
          subst (λ (tables : Tables). Holds at.staged tables) (sym settled_on) holds,
        );
  }

  -- what edits come to, whatever holds of the tables
  pub edits-come : (a b : Engine K) → Edits g a b → ComesOf g (λ at now. ⊤) a b
  edits-come a b edits at stands = let (now, there, flushed, settled, rises) = edits.stands at stands in (now, there, flushed, settled, rises, tt)

  -- ---- edits that are forgotten

  pub keeps-back : (a b c : Engine K) → Keeps g a b → c.keeper ≡ b.keeper → OfStages (g.kept b.keeper.now) b.held (λ at. Stands (g.kept c.keeper.now) c.held (forgotten at)) → IsAtRest b.held.models c.held → ComesBack g a c
  keeps-back a b c keeps same forgets rests = record {
    lender = ap (λ k. k.ghost_name) same ∙ keeps.lender;
    kept = ap (λ k. g.kept k.now) same ∙ keeps.kept;
    count = subst (λ k. g.faults a.keeper.now ≤ g.faults k.now) (sym same) keeps.count;
    rests = record { models_are = rests.models_are ∙ keeps.models; phase_is = rests.phase_is; next_ids = rests.next_ids };
    stands = λ at stands.
        let (now, there, flushed) = keeps.stands at stands in
        let models : now.models ≡ at.models = there.models_are ∙ keeps.models ∙ sym stands.models_are in
        subst (λ (ms : List ModelInfo). Stands (g.kept c.keeper.now) c.held (resting ms at.flushed)) models
        (subst (λ (tables : Tables). Stands (g.kept c.keeper.now) c.held (resting now.models tables)) flushed (forgets now there));
  }

  -- so it has its tables
  pub back-rests : (a b : Engine K) → ComesBack g a b → (tables : Tables) → HasTables (standpoint g a) tables → HasTables (standpoint g b) tables
  back-rests a b back tables rests =
      subst (λ (models : List ModelInfo). Stands (g.kept b.keeper.now) b.held (resting models tables)) (sym back.rests.models_are) (back.stands (resting a.held.models tables) rests)

  -- ---- the tables that a call goes on to

  pub record GoesOn (Holds : (old new : Tables) → Type 0) (a b : Engine K) (old : Tables) : Type 0 where
    pub new : Tables
    pub sound : AreSound a.held.models new
    pub rises : NextIdsRise old new
    pub holds : Holds old new
    pub stands : Stands (g.kept b.keeper.now) b.held (settled_over b.held.models old new)

  pub goes-on : (Holds : (old new : Tables) → Type 0) (a b : Engine K) → SettlesTo g Holds a b → (old : Tables) → HasTables (standpoint g a) old → GoesOn Holds a b old
  goes-on Holds a b is old rests =
      let (now, there, flushed, staged, rises, holds) = is.stands (resting a.held.models old) rests in
      let phased : now.phase ≡ phase.Settled = there.phase_is ∙ is.phase_is in
      let whole : now ≡ settled_over b.held.models old now.settled =
      λ i. record { models = there.models_are i; flushed = flushed i; settled = now.settled; staged = staged i; phase = phased i } in
      record {
        new = now.settled;
        sound = subst (λ (ms : List ModelInfo). AreSound ms now.settled) (there.models_are ∙ is.keeps.models)
            (settled-sound (g.kept b.keeper.now) now there.over (λ spoiled. settled-usable (sym phased ∙ spoiled)));
        rises = rises;
        holds = holds;
        stands = subst (Stands (g.kept b.keeper.now) b.held) whole there;
      }

  pub settled-rests : (Holds : (old new : Tables) → Type 0) (a b : Engine K) → SettlesTo g Holds a b → IsAtRest a.held.models b.held
  settled-rests Holds a b is = record { models_are = is.keeps.models; phase_is = is.phase_is; next_ids = is.next_ids }

  -- ---- however a call ends

  -- the keeper is still the lender's and keeps what it kept, its count didn't fall, and the engine rests
  pub record Ends (a b : Engine K) : Type 0 where
    pub lender : b.keeper.ghost_name ≡ a.keeper.ghost_name
    pub kept : g.kept b.keeper.now ≡ g.kept a.keeper.now
    pub count : g.faults a.keeper.now ≤ g.faults b.keeper.now
    pub rests : IsAtRest a.held.models b.held

  -- with edits settled, or with none
  pub ends-settled : (Holds : (old new : Tables) → Type 0) (a b : Engine K) → SettlesTo g Holds a b → Ends a b
  ends-settled Holds a b is = record { lender = is.keeps.lender; kept = is.keeps.kept; count = is.keeps.count; rests = settled-rests Holds a b is }

  pub ends-back : (a b : Engine K) → ComesBack g a b → Ends a b
  ends-back a b back = record { lender = back.lender; kept = back.kept; count = back.count; rests = back.rests }

  pub ends-either : {A : Type 0} (r : Result A Refusal) (Holds : A → (old new : Tables) → Type 0) (a b : Engine K) → IfOk r (λ x. SettlesTo g (Holds x) a b) → OnErr r (ComesBack g a b) → Ends a b
  ends-either (Ok x) Holds a b settled back = ends-settled (Holds x) a b settled
  ends-either (Err why) Holds a b settled back = ends-back a b back

  -- behind questions
  pub ends-asked : (a b c : Engine K) → Asks g a b → Ends b c → Ends a c
  ends-asked a b c asked is = record {
    lender = is.lender ∙ asked.lender;
    kept = is.kept ∙ asked.same.kept;
    count = let one = asked.count in let more = is.count in let all : g.faults a.keeper.now ≤ g.faults c.keeper.now = omega (arith, one, more) in all;
    rests = record { models_are = is.rests.models_are ∙ asked.same.models; phase_is = is.rests.phase_is; next_ids = is.rests.next_ids };
  }

  -- an engine that was only asked rests
  pub asks-at_rest : (a b : Engine K) → Asks g a b → IsAtRest a.held.models a.held → IsAtRest b.held.models b.held
  asks-at_rest a b asked rest = record {
    models_are = refl;
    phase_is = asked.same.phase_is ∙ rest.phase_is;
    next_ids = asked.same.next_ids max_next_id (let low : max_next_id ≤ max_next_id = omega arith in low) rest.next_ids;
  }

  pub asks-still : (a b : Engine K) → Asks g a b → IsAtRest a.held.models a.held → IsAtRest a.held.models b.held
  asks-still a b asked rest = let now = asks-at_rest a b asked rest in record { models_are = asked.same.models; phase_is = now.phase_is; next_ids = now.next_ids }
