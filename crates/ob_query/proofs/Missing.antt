-- Which of some ids doesn't exist, id by id.
use Rattle.std.proofs.Common.{◌≡◌, ℕ, true, false, List, [], ◌∷◌, ◌++◌, Option, Some, None}
use Rattle.std.specs.Prelude.{Contains, IfSome}
use Rattle.std.proofs.lemmas.List.Elements.{All-push}
use Rattle.ob_base.specs.declared.id.ModelNo.{ModelNo}
use Rattle.ob_cache.specs.declared.engine.Engine.{Engine}
use Rattle.ob_call.proofs.CallerLemmas.{asked-gap, asked-still, least_of}
use Rattle.ob_io.specs.declared.keeper.Keeper.{Ghosts}
use Rattle.ob_query.proofs.Asked.{asked_then, told_back}
use Rattle.ob_query.proofs.LeastFailing.{Passes, failing-first, failing-kept, failing-lesser}
use Rattle.ob_query.specs.ReadParts.{IsLeastMissing}
use Rattle.ob_query.specs.SearchQuestions.{OnlyAsked, TellsOf}
use Rattle.ob_schema.specs.Facts.{OfAllTold, Told}

module _ (told : Told) (model : ModelNo) where
  one_there : (ids : List ℕ) (missing : Option ℕ) (id : ℕ) → IsLeastMissing told model ids missing → told.knows model (record { 0 = id }) ≡ true → IsLeastMissing told model (ids ++ id ∷ []) missing
  one_there ids None id are is = All-push (Passes (told.knows model)) ids id are is
  one_there ids (Some gap) id are is = failing-kept (told.knows model) ids gap id are is

  one_missing : (ids : List ℕ) (missing : Option ℕ) (id : ℕ) → IsLeastMissing told model ids missing → told.knows model (record { 0 = id }) ≡ false → IsLeastMissing told model (ids ++ id ∷ []) (Some (least_of missing id))
  one_missing ids None id are none = failing-first (told.knows model) ids id are none
  one_missing ids (Some gap) id are none = failing-lesser (told.knows model) ids gap id are none

module _ {K : Type 0} (g : Ghosts K) (first : Engine K) (model : ModelNo) where
  -- only questions came since, and of the ids so far this is the least that doesn't exist
  pub record IsSeeking (now : Engine K) (ids : List ℕ) (missing : Option ℕ) : Type 0 where
    pub asked : OnlyAsked g first now
    pub told : OfAllTold (TellsOf g first) (λ told. IsLeastMissing told model ids missing)
    pub among : IfSome missing (Contains ids)

  -- the next id exists
  pub IsSeeking-there : (now next : Engine K) (ids : List ℕ) (missing : Option ℕ) (id : ℕ) → OnlyAsked g now next → OfAllTold (TellsOf g now) (λ told. told.knows model (record { 0 = id }) ≡ true)
      → IsSeeking now ids missing → IsSeeking next (ids ++ id ∷ []) missing
  IsSeeking-there now next ids missing id asked is so_far = record {
    asked = asked_then g first now next so_far.asked asked;
    told = λ told tells. one_there told model ids missing id (so_far.told told tells) (told_back g first now (λ (t : Told). t.knows model (record { 0 = id }) ≡ true) so_far.asked is told tells);
    among = asked-still ids missing id so_far.among;
  }

  -- it doesn't
  pub IsSeeking-gap : (now next : Engine K) (ids : List ℕ) (missing : Option ℕ) (id : ℕ) → OnlyAsked g now next → OfAllTold (TellsOf g now) (λ told. told.knows model (record { 0 = id }) ≡ false)
      → IsSeeking now ids missing → IsSeeking next (ids ++ id ∷ []) (Some (least_of missing id))
  IsSeeking-gap now next ids missing id asked none so_far = record {
    asked = asked_then g first now next so_far.asked asked;
    told = λ told tells. one_missing told model ids missing id (so_far.told told tells) (told_back g first now (λ (t : Told). t.knows model (record { 0 = id }) ≡ false) so_far.asked none told tells);
    among = asked-gap ids missing id so_far.among;
  }
