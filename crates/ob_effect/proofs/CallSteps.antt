-- What a call has done so far, one step behind another, and the steps that fail.
use Rattle.std.proofs.Common.{◌≡◌, ◌≤◌, ◌<◌, List, Result, Ok, Err, sym, subst, ◌∙◌, arith}
use Rattle.std.specs.Prelude.{IfErr, OnErr, OnOk}
use Rattle.std.specs.Result.{IsErrAnd}
use Rattle.ob_base.specs.declared.id.ModelNo.{ModelNo}
use Rattle.ob_base.specs.declared.id.RecId.{RecId}
use Rattle.ob_base.specs.declared.refusal.Refusal.{Refusal}
use Rattle.ob_base.specs.declared.refusal.Refusal.TheVariants as refusal
use Rattle.ob_cache.specs.Calls.{Refuses}
use Rattle.ob_cache.specs.Stages.{IsUsable}
use Rattle.ob_cache.specs.declared.engine.Engine.{Engine}
use Rattle.ob_effect.proofs.Questions.{asks_edits, asks_keeps, asks_none, edits_then, keeps_then, noted_on, refused_alone, refused_for, refused_later}
use Rattle.ob_effect.specs.Effect.{Asks, ChangesSome, Edits, IsNoted, IsStep, Keeps, KeepsNoted, KeepsNotes, LacksRight, Takes}
use Rattle.ob_effect.specs.declared.asking.Caller.{Caller}
use Rattle.ob_effect.specs.declared.notes.Notes.{Notes}
use Rattle.ob_io.specs.Cause.{Rose}
use Rattle.ob_io.specs.declared.keeper.Keeper.{Ghosts}
use Rattle.ob_schema.specs.Tables.{next_of}
use Rattle.ob_schema.specs.declared.info.ModelInfo.{ModelInfo}

module _ {K : Type 0} (g : Ghosts K) where
  -- edits so far, and what is noted of them
  pub record Goes (old new : Engine K) (notes : Notes) : Type 0 where
    pub edits : Edits g old new
    pub noted : IsNoted old.held.models notes new.held

  -- ---- none

  pub keeps_none : (a : Engine K) → Keeps g a a
  keeps_none a = asks_keeps g a a (asks_none g a)

  pub edits_none : (a : Engine K) → IsUsable a.held.phase → Edits g a a
  edits_none a usable = asks_edits g a a usable (asks_none g a)

  pub goes_none : (a : Engine K) (n : Notes) → IsUsable a.held.phase → IsNoted a.held.models n a.held → Goes a a n
  goes_none a n usable noted = record { edits = edits_none a usable; noted = noted }

  -- ---- more

  -- questions
  pub goes_asked : (a b c : Engine K) (n : Notes) → Goes a b n → Asks g b c → Goes a c n
  goes_asked a b c n far asked = record {
    edits = edits_then g a b c far.edits (asks_edits g b c far.edits.usable asked);
    noted = noted_on g a.held.models n b.held c.held asked.same.next_ids far.noted;
  }

  -- edits that make no row
  pub goes_changed : (a b c : Engine K) (n : Notes) → Goes a b n → ChangesSome g b c → Goes a c n
  goes_changed a b c n far changed = record {
    edits = edits_then g a b c far.edits changed.edits;
    noted = noted_on g a.held.models n b.held c.held changed.bounds far.noted;
  }

  -- notes
  pub goes_noted : (a b : Engine K) (n m : Notes) (models : List ModelInfo) → models ≡ a.held.models → Goes a b n → KeepsNoted models n m → Goes a b m
  goes_noted a b n m models over far more = record {
    edits = far.edits;
    noted = let own = subst (λ (ms : List ModelInfo). KeepsNoted ms n m) over more in own b.held far.noted;
  }

  pub goes_kept : (a b : Engine K) (n m : Notes) (models : List ModelInfo) → models ≡ a.held.models → Goes a b n → KeepsNotes models n m → Goes a b m
  goes_kept a b n m models over far more = goes_noted a b n m models over far more.noted

  -- steps
  pub goes_stepped : (a b c : Engine K) (n m : Notes) → Goes a b n → Edits g b c × IsNoted b.held.models m c.held → Goes a c m
  goes_stepped a b c n m far step = record {
    edits = edits_then g a b c far.edits step.0;
    noted = subst (λ (ms : List ModelInfo). IsNoted ms m c.held) far.edits.keeps.models step.1;
  }

  -- ---- what is known later

  -- what goes by the models
  pub later : (P : List ModelInfo → Type 0) (a b : Engine K) (n : Notes) → Goes a b n → P a.held.models → P b.held.models
  later P a b n far own = subst P (sym far.edits.keeps.models) own

  pub noted_later : (a b : Engine K) (n : Notes) → Goes a b n → IsNoted b.held.models n b.held
  noted_later a b n far = subst (λ (ms : List ModelInfo). IsNoted ms n b.held) (sym far.edits.keeps.models) far.noted

  -- an id that is taken between edits is taken
  pub takes_between : (model : ModelNo) (id : RecId) (a b c d : Engine K) → Edits g a b → Takes g model id b c → Edits g c d → Takes g model id a d
  takes_between model id a b c d first taken last = λ at stands.
      let (mid, there, flushed, settled, rises) = first.stands at stands in
      let (now, then, flushed_still, settled_still, more, took) = taken mid there in
      let (end, so, flushed_yet, settled_yet, most) = last.stands now then in
      let low = rises model in
      let high = most model in
      let from = took.0 in
      let below = took.1 in (
        end,
        so,
        flushed_yet ∙ flushed_still ∙ flushed,
        settled_yet ∙ settled_still ∙ settled,
        λ other. (let one = rises other in let two = more other in let three = most other in let all : next_of at.staged other ≤ next_of end.staged other = omega (arith, one, two, three) in all),
        (
          let first_of : next_of at.staged model ≤ id.0 = omega (arith, low, from) in first_of,
          let next : id.0 < next_of end.staged model = omega (arith, high, below) in next,
        ),
      )

  -- ---- a step fails behind edits

  -- it is refused, for a right that the caller lacks
  abbrev pub Stops : Caller → (old new : Engine K) → Refusal → Type 0
  Stops by old new why = Keeps g old new × Refuses (Rose (g.faults old.keeper.now) (g.faults new.keeper.now)) (LacksRight by) why

  -- by a question
  pub unasked : (by : Caller) (a b c : Engine K) (why : Refusal) → Edits g a b → Asks g b c → Refuses (Rose (g.faults b.keeper.now) (g.faults c.keeper.now)) (λ _. ⊥) why → Stops by a c why
  unasked by a b c why far asked h = (keeps_then g a b c far.keeps (asks_keeps g b c asked), refused_for _ _ _ far.keeps.count (LacksRight by) why h)

  -- by edits
  pub unedited : (by : Caller) (a b c : Engine K) (why : Refusal) → Edits g a b → Keeps g b c → Refuses (Rose (g.faults b.keeper.now) (g.faults c.keeper.now)) (λ _. ⊥) why → Stops by a c why
  unedited by a b c why far kept h = (keeps_then g a b c far.keeps kept, refused_for _ _ _ far.keeps.count (LacksRight by) why h)

  -- for want of memory
  pub starved : (by : Caller) (a b : Engine K) (why : Refusal) → Edits g a b → why ≡ refusal.NoMemory → Stops by a b why
  starved by a b why far is = subst (Stops by a b) (sym is) (far.keeps, tt)

  -- for a right
  pub forbidden : (by : Caller) (a b : Engine K) (why : Refusal) → Edits g a b → Refuses ⊥ (LacksRight by) why → Stops by a b why
  forbidden by a b why far h = (far.keeps, refused_alone _ (LacksRight by) why h)

  -- as one of its steps
  pub stopped : (by : Caller) (a b c : Engine K) (why : Refusal) → Edits g a b → Stops by b c why → Stops by a c why
  stopped by a b c why far h = (keeps_then g a b c far.keeps h.0, refused_later _ _ _ far.keeps.count (LacksRight by) why h.1)

  -- ---- as the steps end

  module _ (by : Caller) where
    -- at the exit of a `?`
    pub fails : {A : Type 0} (r : Result A Refusal) (n : Notes) (a b : Engine K) (why : Refusal) → IsErrAnd r (λ w. w ≡ why) → Stops by a b why → IsStep g by a b n r
    fails (Ok x) n a b why is stops = absurd is
    fails (Err w) n a b why is stops = subst (Stops by a b) (sym is) stops

    -- for want of memory
    pub starves : {A : Type 0} (r : Result A Refusal) (n : Notes) (a b : Engine K) → IsErrAnd r (λ w. w ≡ refusal.NoMemory) → Edits g a b → IsStep g by a b n r
    starves (Ok x) n a b is far = absurd is
    starves (Err w) n a b is far = starved by a b w far is

    -- as its last step does
    pub steps_last : {A : Type 0} (r : Result A Refusal) (n m : Notes) (a b c : Engine K) → Goes a b n → IsStep g by b c m r → IsStep g by a c m r
    steps_last (Ok x) n m a b c far step = let now = goes_stepped a b c n m far step in (now.edits, now.noted)
    steps_last (Err why) n m a b c far step = stopped by a b c why far.edits step

    -- as the edits that it makes last
    pub changes_last : {A : Type 0} (r : Result A Refusal) (n : Notes) (a b c : Engine K) → Goes a b n → OnOk r (ChangesSome g b c) → OnErr r (Keeps g b c)
        → IfErr r (Refuses (Rose (g.faults b.keeper.now) (g.faults c.keeper.now)) (λ _. ⊥)) → IsStep g by a c n r
    changes_last (Ok x) n a b c far changed kept causes = let now = goes_changed a b c n far changed in (now.edits, now.noted)
    changes_last (Err why) n a b c far changed kept causes = unedited by a b c why far.edits kept causes
