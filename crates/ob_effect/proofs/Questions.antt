-- Questions to an engine, and edits of it, one behind another.
use Rattle.std.proofs.Common.{◌≡◌, ◌≤◌, ◌<◌, ◌+◌, ◌-◌, ℕ, List, Option, length, inl, inr, refl, sym, subst, ◌∙◌, arith}
use Rattle.ob_base.specs.declared.refusal.Refusal.{Refusal}
use Rattle.ob_cache.proofs.CallerLemmas.{Refuses-weaker, stays-then}
use Rattle.ob_cache.specs.Calls.{Refuses}
use Rattle.ob_cache.specs.Stages.{IsUsable, spoiled, with_edits}
use Rattle.ob_cache.specs.Standing.{Holding, IsSpoiled, KeepsBounds, OfStages, Stands, Stays, max_next_id}
use Rattle.ob_cache.specs.declared.engine.Engine.{Engine}
use Rattle.ob_cache.specs.declared.stages.Phase.{Phase}
use Rattle.ob_cache.specs.declared.stages.Phase.TheVariants as phase
use Rattle.ob_effect.specs.NextIds.{NextIdsRise}
use Rattle.ob_effect.specs.Effect.{Asks, ChangesSome, Edits, IsNoted, Keeps}
use Rattle.ob_effect.specs.declared.notes.Notes.{Notes}
use Rattle.ob_io.specs.Cause.{Rose}
use Rattle.ob_io.specs.Store.{Store}
use Rattle.ob_io.specs.declared.keeper.Keeper.{Ghosts}
use Rattle.ob_base.specs.declared.id.ModelNo.{ModelNo}
use Rattle.ob_schema.specs.Tables.{Tables, next_of}
use Rattle.ob_schema.specs.declared.info.ModelInfo.{ModelInfo}
use Rattle.ob_tables.specs.After.{after}
use Rattle.ob_tables.specs.declared.edit.Edit.{Edit}

-- ---- counts of faults

-- what rose later rose from before on
pub rose_later : (a b c : ℕ) → a ≤ b → Rose b c → Rose a c
rose_later a b c low (inl rose) = inl (let up : a < c = omega arith in up)
rose_later a b c low (inr far) = inr far

-- a refusal of a later question
pub refused_later : (a b c : ℕ) → a ≤ b → (P : Refusal → Type 0) (why : Refusal) → Refuses (Rose b c) P why → Refuses (Rose a c) P why
refused_later a b c low P why h = Refuses-weaker (Rose b c) (Rose a c) P P why (rose_later a b c low) (λ w known. known) h

-- one that nothing but the keeper or memory causes
pub refused_for : (a b c : ℕ) → a ≤ b → (Q : Refusal → Type 0) (why : Refusal) → Refuses (Rose b c) (λ _. ⊥) why → Refuses (Rose a c) Q why
refused_for a b c low Q why h = Refuses-weaker (Rose b c) (Rose a c) (λ _. ⊥) Q why (rose_later a b c low) (λ w none. absurd none) h

-- one that no keeper causes
pub refused_alone : (rose : Type 0) (Q : Refusal → Type 0) (why : Refusal) → Refuses ⊥ Q why → Refuses rose Q why
refused_alone rose Q why h = Refuses-weaker ⊥ rose Q Q why (λ none. absurd none) (λ w known. known) h

-- ---- what engines hold

no_less : (tables : Tables) → NextIdsRise tables tables
no_less tables model = let same : next_of tables model ≤ next_of tables model = omega arith in same

no_less_then : (x y z : Tables) → NextIdsRise x y → NextIdsRise y z → NextIdsRise x z
no_less_then x y z first second model =
    let one = first model in let more = second model in
    let all : next_of x model ≤ next_of z model = omega (arith, one, more) in all

stays_none : (kept : Option Store) (held : Holding) → Stays kept held kept held
stays_none kept held = record { kept = refl; models = refl; phase_is = refl; next_ids = λ bound low up. up; stands = λ at is. is; only = λ at is. is }

usable_still : (p q : Phase) → q ≡ p → IsUsable p → IsUsable q
usable_still p q same usable = subst IsUsable (sym same) usable

usable_staged : IsUsable phase.Staged
usable_staged is = cc

module _ {K : Type 0} (g : Ghosts K) where
  pub asks_none : (a : Engine K) → Asks g a a
  asks_none a = record { lender = refl; same = stays_none _ _; count = let same : g.faults a.keeper.now ≤ g.faults a.keeper.now = omega arith in same }

  pub asks_then : (a b c : Engine K) → Asks g a b → Asks g b c → Asks g a c
  asks_then a b c first second = record {
    lender = second.lender ∙ first.lender;
    same = stays-then _ _ _ _ _ _ first.same second.same;
    count = let one = first.count in let more = second.count in let all : g.faults a.keeper.now ≤ g.faults c.keeper.now = omega (arith, one, more) in all;
  }

  -- questions are no change
  pub asks_keeps : (a b : Engine K) → Asks g a b → Keeps g a b
  asks_keeps a b asked = record {
    lender = asked.lender;
    kept = asked.same.kept;
    count = asked.count;
    models = asked.same.models;
    stands = λ at stands. (at, asked.same.stands at stands, refl);
  }

  pub asks_edits : (a b : Engine K) → IsUsable a.held.phase → Asks g a b → Edits g a b
  asks_edits a b usable asked = record {
    keeps = asks_keeps a b asked;
    usable = usable_still a.held.phase b.held.phase asked.same.phase_is usable;
    stands = λ at stands. (at, asked.same.stands at stands, refl, refl, no_less at.staged);
  }

  pub asks_changes : (a b : Engine K) → IsUsable a.held.phase → Asks g a b → ChangesSome g a b
  asks_changes a b usable asked = record { edits = asks_edits a b usable asked; bounds = asked.same.next_ids }

  pub keeps_then : (a b c : Engine K) → Keeps g a b → Keeps g b c → Keeps g a c
  keeps_then a b c first second = record {
    lender = second.lender ∙ first.lender;
    kept = second.kept ∙ first.kept;
    count = let one = first.count in let more = second.count in let all : g.faults a.keeper.now ≤ g.faults c.keeper.now = omega (arith, one, more) in all;
    models = second.models ∙ first.models;
    stands = λ at stands. let (mid, there, same) = first.stands at stands in let (now, then, still) = second.stands mid there in (now, then, still ∙ same);
  }

  pub edits_then : (a b c : Engine K) → Edits g a b → Edits g b c → Edits g a c
  edits_then a b c first second = record {
    keeps = keeps_then a b c first.keeps second.keeps;
    usable = second.usable;
    stands = λ at stands.
        let (mid, there, flushed, settled, rises) = first.stands at stands in
        let (now, then, flushed_still, settled_still, rises_more) = second.stands mid there in
        (now, then, flushed_still ∙ flushed, settled_still ∙ settled, no_less_then at.staged mid.staged now.staged rises rises_more);
  }

  -- edits that were staged
  pub staged_edits : (a b : Engine K) (edits : List Edit) → b.keeper.ghost_name ≡ a.keeper.ghost_name → g.kept b.keeper.now ≡ g.kept a.keeper.now → g.faults a.keeper.now ≤ g.faults b.keeper.now
      → b.held.models ≡ a.held.models → b.held.phase ≡ phase.Staged
      → OfStages (g.kept a.keeper.now) a.held (λ at. Stands (g.kept b.keeper.now) b.held (with_edits at edits))
      → ((models : List ModelInfo) (tables : Tables) (es : List Edit) (model : ModelNo) → next_of tables model ≤ next_of (after models tables es) model)
      → Edits g a b
  staged_edits a b edits lender kept count models staged stands rises = record {
    keeps = record { lender = lender; kept = kept; count = count; models = models; stands = λ at is. (with_edits at edits, stands at is, refl) };
    usable = usable_still phase.Staged b.held.phase staged usable_staged;
    stands = λ at is. (with_edits at edits, stands at is, refl, refl, λ model. rises at.models at.staged edits model);
  }

  -- edits that failed
  pub spoiled_keeps : (a b : Engine K) → b.keeper.ghost_name ≡ a.keeper.ghost_name → g.faults a.keeper.now ≤ g.faults b.keeper.now
      → IsSpoiled (g.kept a.keeper.now) a.held (g.kept b.keeper.now) b.held → Keeps g a b
  spoiled_keeps a b lender count is = record { lender = lender; kept = is.kept; count = count; models = is.models; stands = λ at stands. (spoiled at, is.stands at stands, refl) }

  -- ---- what is noted

  -- bounds of next ids stay, and what is noted of them
  pub noted_on : (models : List ModelInfo) (notes : Notes) (x y : Holding) → KeepsBounds x y → IsNoted models notes x → IsNoted models notes y
  noted_on models notes x y bounds noted = record {
    touched = noted.touched;
    made = noted.made;
    gone = noted.gone;
    cells = noted.cells;
    targets = noted.targets;
    broken = noted.broken;
    next_ids = bounds (max_next_id + length notes.made.items) (let low : max_next_id ≤ max_next_id + length notes.made.items = omega arith in low) noted.next_ids;
    low = λ within. bounds max_next_id (let low : max_next_id ≤ max_next_id = omega arith in low) (noted.low within);
  }
  -- ---- steps
