-- What the questions of a search to an engine do, and how far a walk over its rows has come.
use Rattle.std.specs.Prelude.{◌≡◌, ◌++◌, ◌+◌, ◌*◌, ◌-◌, ◌^◌, ◌≤◌, ℕ, List, [], ◌∷◌, drop, filter, length, nat_lt, Option, Some, None, ⊤}
use Rattle.ob_access.specs.Views.{TellsSeen}
use Rattle.ob_base.specs.declared.id.RecId.{RecId}
use Rattle.ob_cache.specs.Standing.{Stays}
use Rattle.ob_cache.specs.Telling.{TellsFacts}
use Rattle.ob_cache.specs.declared.engine.Engine.{Engine}
use Rattle.ob_io.specs.Cause.{Rose}
use Rattle.ob_io.specs.declared.keeper.KeepFault.{KeepFault}
use Rattle.ob_io.specs.declared.keeper.KeepFault.TheVariants as keep_fault
use Rattle.ob_io.specs.declared.keeper.Keeper.{Ghosts}
use Rattle.ob_query.specs.declared.caller.Caller.{Caller}
use Rattle.ob_query.specs.declared.searching.walk.Walk.{Walk}
use Rattle.ob_schema.specs.Facts.{Told}

-- ---- questions

module _ {K : Type 0} (g : Ghosts K) where
  -- what an engine tells of rows
  abbrev pub TellsOf : Engine K → Told → Type 0
  TellsOf engine = TellsFacts (g.kept engine.keeper.now) engine.held

  -- what it tells a caller: what he sees of what it tells
  abbrev pub TellsTo : Caller → Engine K → Told → Type 0
  TellsTo by engine = TellsSeen (TellsOf engine) engine.held.models by.policy.now by.groups.now by.user

  -- questions alone came between the two: the keeper is still the lender's, all that is told is what it was, and the keeper's count didn't fall
  pub record OnlyAsked (old new : Engine K) : Type 0 where
    pub lender : new.keeper.ghost_name ≡ old.keeper.ghost_name
    pub same : Stays (g.kept old.keeper.now) old.held (g.kept new.keeper.now) new.held
    pub count : g.faults old.keeper.now ≤ g.faults new.keeper.now

  -- a question has no answer since the keeper failed, or memory is wanting
  abbrev pub IsUnanswered : Engine K → Engine K → KeepFault → Type 0
  IsUnanswered old new keep_fault.Failed = Rose (g.faults old.keeper.now) (g.faults new.keeper.now)
  IsUnanswered old new keep_fault.NoMemory = ⊤

-- ---- walks

-- the first of a list, and what is left of it; nothing where there is none
abbrev pub IsTaken : {A : Type 0} → Option A → (old new : List A) → Type 0
IsTaken None old new = (old ≡ []) × (new ≡ [])
IsTaken (Some x) old new = old ≡ x ∷ new

-- of some ids those to which a walk still comes: what is left of its page, and what is above that
abbrev pub ahead : Walk → List RecId → List RecId
ahead walk ids = drop walk.place walk.page ++ filter (λ id. nat_lt walk.last.0 id.0) ids

-- how far it may still go, whatever is told
abbrev pub distance : Walk → ℕ
distance walk = 257 * (2 ^ 64 - walk.last.0) + (length walk.page - walk.place)
