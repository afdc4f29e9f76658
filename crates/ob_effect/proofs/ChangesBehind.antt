-- Changes behind questions, and what is known of a result whatever it is.
use Rattle.std.proofs.Common.{◌≡◌, ◌≤◌, Result, Ok, Err}
use Rattle.std.specs.Prelude.{OnErr, OnOk}
use Rattle.ob_base.specs.declared.refusal.Refusal.{Refusal}
use Rattle.ob_cache.specs.Stages.{IsUsable}
use Rattle.ob_cache.specs.Standing.{Stays}
use Rattle.ob_cache.specs.declared.engine.Engine.{Engine}
use Rattle.ob_effect.specs.Effect.{Asks, ChangesSome, Keeps}
use Rattle.ob_effect.proofs.Questions.{asks_changes, asks_keeps, edits_then, keeps_then}
use Rattle.ob_io.specs.declared.keeper.Keeper.{Ghosts}

-- what is known whatever was answered
pub anyhow_err : {T E P : Type 0} (r : Result T E) → P → OnErr r P
anyhow_err (Ok x) known = tt
anyhow_err (Err why) known = known

module _ {K : Type 0} (g : Ghosts K) where
  -- questions, as the law of questions has them
  pub asks_told : (a b : Engine K) → (b.keeper.ghost_name ≡ a.keeper.ghost_name) × Stays (g.kept a.keeper.now) a.held (g.kept b.keeper.now) b.held × (g.faults a.keeper.now ≤ g.faults b.keeper.now) → Asks g a b
  asks_told a b h = record { lender = h.0; same = h.1; count = h.2 }

  -- changes, one behind another
  changes_then : (a b c : Engine K) → ChangesSome g a b → ChangesSome g b c → ChangesSome g a c
  changes_then a b c first second = record {
    edits = edits_then g a b c first.edits second.edits;
    bounds = λ bound low up. second.bounds bound low (first.bounds bound low up);
  }

  -- a change behind a question, as its result has it
  pub asked_on_ok : {A : Type 0} (a b c : Engine K) (r : Result A Refusal) → IsUsable a.held.phase → Asks g a b → OnOk r (ChangesSome g b c) → OnOk r (ChangesSome g a c)
  asked_on_ok a b c (Ok x) usable asked h = changes_then a b c (asks_changes g a b usable asked) h
  asked_on_ok a b c (Err why) usable asked h = tt

  pub asked_on_err : {A : Type 0} (a b c : Engine K) (r : Result A Refusal) → Asks g a b → OnErr r (Keeps g b c) → OnErr r (Keeps g a c)
  asked_on_err a b c (Ok x) asked h = tt
  asked_on_err a b c (Err why) asked h = keeps_then g a b c (asks_keeps g a b asked) h
