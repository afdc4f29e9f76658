-- Why a call stops, from why its steps do.
use Rattle.std.proofs.Common.{◌≡◌, ℕ, List, Result, Ok, Err, sym, subst}
use Rattle.std.specs.Prelude.{IfErr}
use Rattle.ob_base.specs.declared.id.ModelNo.{ModelNo}
use Rattle.ob_base.specs.declared.place.PathStep.{PathStep}
use Rattle.ob_base.specs.declared.refusal.Refusal.{Refusal}
use Rattle.ob_base.specs.declared.refusal.Refusal.TheVariants as refusal
use Rattle.ob_cache.proofs.CallerLemmas.{Refuses-weaker}
use Rattle.ob_cache.specs.Calls.{Refuses}
use Rattle.ob_cache.specs.declared.engine.Engine.{Engine}
use Rattle.ob_commands.proofs.JudgedEdits.{judges-before}
use Rattle.ob_effect.proofs.CallerLemmas.{rose_later}
use Rattle.ob_effect.specs.Effect.{Edits, LacksRight}
use Rattle.ob_commands.specs.Finding.{TellsFindings}
use Rattle.ob_commands.specs.Judging.{Judges}
use Rattle.ob_commands.specs.Making.{StopsCreate, StopsWrite}
use Rattle.ob_effect.specs.declared.asking.Caller.{Caller}
use Rattle.ob_io.specs.Cause.{Rose}
use Rattle.ob_io.specs.declared.keeper.Keeper.{Ghosts}

-- for want of memory
pub memory-refused : (rose : Type 0) (P : Refusal → Type 0) (why : Refusal) → why ≡ refusal.NoMemory → Refuses rose P why
memory-refused rose P why is = subst (Refuses rose P) (sym is) tt

module _ {K : Type 0} (g : Ghosts K) (by : Caller) (a : Engine K) (place : List PathStep) where
  -- ---- of a create

  -- for a right that the caller lacks
  lacks-stops : (why : Refusal) → LacksRight by why → StopsCreate g by a place why
  lacks-stops (refusal.Right model op) h = h
  lacks-stops _ h = absurd h

  pub lacks-refused : (rose : Type 0) (why : Refusal) → Refuses rose (LacksRight by) why → Refuses rose (StopsCreate g by a place) why
  lacks-refused rose why h = Refuses-weaker rose rose (LacksRight by) (StopsCreate g by a place) why (λ risen. risen) lacks-stops h

  -- for what is found in the objects
  found-stops : (why : Refusal) → TellsFindings by place why → StopsCreate g by a place why
  found-stops (refusal.Request wrong) h = h
  found-stops (refusal.FieldRight model field) h = h
  found-stops _ h = absurd h

  pub found-refused : (rose : Type 0) (why : Refusal) → Refuses ⊥ (TellsFindings by place) why → Refuses rose (StopsCreate g by a place) why
  found-refused rose why h = Refuses-weaker ⊥ rose (TellsFindings by place) (StopsCreate g by a place) why (λ none. absurd none) found-stops h

  -- for what judges
  judged-stops : (why : Refusal) → Judges g by a why → StopsCreate g by a place why
  judged-stops (refusal.Request wrong) h = absurd h
  judged-stops (refusal.Right model op) h = absurd h
  judged-stops (refusal.FieldRight model field) h = absurd h
  judged-stops _ h = h

  pub judged-refused : (b : Engine K) → Edits g a b → (now : ℕ) (why : Refusal) → Refuses (Rose (g.faults b.keeper.now) now) (Judges g by b) why → Refuses (Rose (g.faults a.keeper.now) now) (StopsCreate g by a place) why
  judged-refused b edits now why h =
      Refuses-weaker (Rose (g.faults b.keeper.now) now) (Rose (g.faults a.keeper.now) now) (Judges g by b) (StopsCreate g by a place) why
      (rose_later (g.faults a.keeper.now) (g.faults b.keeper.now) now edits.keeps.count) (λ w judges. judged-stops w (judges-before g by a b edits w judges)) h

  -- ---- of a write

  module _ (model : ModelNo) (ids : List ℕ) where
    create-stops : (why : Refusal) → StopsCreate g by a place why → StopsWrite g by model ids a place why
    create-stops (refusal.Missing own id) h = absurd h
    create-stops _ h = h

    -- for whatever stops a create
    pub write-stopped : (rose : Type 0) (why : Refusal) → Refuses rose (StopsCreate g by a place) why → Refuses rose (StopsWrite g by model ids a place) why
    write-stopped rose why h = Refuses-weaker rose rose (StopsCreate g by a place) (StopsWrite g by model ids a place) why (λ risen. risen) create-stops h

    pub write-judged : {A : Type 0} (r : Result A Refusal) (b : Engine K) → Edits g a b → (now : ℕ)
        → IfErr r (Refuses (Rose (g.faults b.keeper.now) now) (Judges g by b)) → IfErr r (Refuses (Rose (g.faults a.keeper.now) now) (StopsWrite g by model ids a place))
    write-judged (Ok x) b edits now h = tt
    write-judged (Err why) b edits now h = write-stopped (Rose (g.faults a.keeper.now) now) why (judged-refused b edits now why h)
