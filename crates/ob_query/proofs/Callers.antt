-- What is asked on behalf of a caller: answers told apart, and what he sees of what is told.
use Rattle.std.proofs.Common.{◌≡◌, ◌++◌, Bool, true, false, cond, List, [], ◌∷◌, filter, Option, Some, None, Result, Ok, Err, refl, sym, ap, subst, ◌∙◌}
use Rattle.std.specs.Prelude.{IfErr, IfOk, find, not}
use Rattle.std.specs.Option.{option_or}
use Rattle.ob_access.specs.Views.{seen}
use Rattle.ob_cache.specs.Calls.{HasTables, standpoint}
use Rattle.ob_cache.specs.Telling.{FailsFacts}
use Rattle.ob_cache.specs.declared.engine.Engine.{Engine}
use Rattle.ob_cache.specs.declared.fault.ReadFault.{ReadFault}
use Rattle.ob_cache.specs.declared.fault.ReadFault.TheVariants as read_fault
use Rattle.ob_domain.specs.Holding.{IsHoldFault}
use Rattle.ob_domain.specs.declared.fault.HoldFault.{HoldFault}
use Rattle.ob_domain.specs.declared.fault.HoldFault.TheVariants as hold_fault
use Rattle.ob_io.specs.Cause.{Rose}
use Rattle.ob_io.specs.declared.keeper.KeepFault.{KeepFault}
use Rattle.ob_io.specs.declared.keeper.Keeper.{Ghosts}
use Rattle.ob_query.proofs.Asked.{tells_tables}
use Rattle.ob_query.specs.Callers.{IsAnswered, seen_by}
use Rattle.ob_query.specs.SearchQuestions.{IsUnanswered, OnlyAsked, TellsOf, TellsTo}
use Rattle.ob_query.specs.declared.caller.Caller.{Caller}
use Rattle.ob_schema.specs.Facts.{OfAllTold, Told, told_by}
use Rattle.ob_schema.specs.Tables.{Tables}
use Rattle.ob_schema.specs.declared.info.ModelInfo.{ModelInfo}

-- ---- answers told apart

-- an engine that tells of rows, before a question and behind it; a fault of the question
module _ {K : Type 0} (g : Ghosts K) (old now : Engine K) (Fails : ReadFault → Type 0) (law : (why : ReadFault) → Fails why → FailsFacts (TellsOf g old) (Rose (g.faults old.keeper.now) (g.faults now.keeper.now)) why) where
  -- what is told apart is what the facts told
  pub answered_told : {T : Type 0} (r : Result T (HoldFault ReadFault)) (other : T) (told : Result T KeepFault) (P : T → Told → Type 0) → IsAnswered r other told → IfOk r (λ x. OfAllTold (TellsOf g old) (P x))
      → IfErr r (IsHoldFault Fails) → IfOk told (λ x. OfAllTold (TellsOf g old) (P x))
  answered_told (Ok x) other told P is h failed = subst (λ q. IfOk q (λ x. OfAllTold (TellsOf g old) (P x))) (sym is) h
  answered_told (Err (hold_fault.Fact read_fault.Missing)) other told P is h failed = subst (λ q. IfOk q (λ x. OfAllTold (TellsOf g old) (P x))) (sym is) (λ seen tells. absurd (law read_fault.Missing failed seen tells))
  answered_told (Err (hold_fault.Fact read_fault.Keeper)) other told P is h failed = subst (λ q. IfOk q (λ x. OfAllTold (TellsOf g old) (P x))) (sym is) tt
  answered_told (Err (hold_fault.Fact read_fault.NoMemory)) other told P is h failed = subst (λ q. IfOk q (λ x. OfAllTold (TellsOf g old) (P x))) (sym is) tt
  answered_told (Err hold_fault.NoMemory) other told P is h failed = subst (λ q. IfOk q (λ x. OfAllTold (TellsOf g old) (P x))) (sym is) tt

  -- and has no answer only where the keeper failed, or memory is wanting
  pub answered_causes : {T : Type 0} (r : Result T (HoldFault ReadFault)) (other : T) (told : Result T KeepFault) → IsAnswered r other told → IfErr r (IsHoldFault Fails) → IfErr told (IsUnanswered g old now)
  answered_causes (Ok x) other told is failed = subst (λ q. IfErr q (IsUnanswered g old now)) (sym is) tt
  answered_causes (Err (hold_fault.Fact read_fault.Missing)) other told is failed = subst (λ q. IfErr q (IsUnanswered g old now)) (sym is) tt
  answered_causes (Err (hold_fault.Fact read_fault.Keeper)) other told is failed = subst (λ q. IfErr q (IsUnanswered g old now)) (sym is) (law read_fault.Keeper failed)
  answered_causes (Err (hold_fault.Fact read_fault.NoMemory)) other told is failed = subst (λ q. IfErr q (IsUnanswered g old now)) (sym is) tt
  answered_causes (Err hold_fault.NoMemory) other told is failed = subst (λ q. IfErr q (IsUnanswered g old now)) (sym is) tt

-- whatever holds of each answer, also of the one that stands in, holds of what is told apart
pub answered_all : {T : Type 0} (r : Result T (HoldFault ReadFault)) (other : T) (told : Result T KeepFault) (P : T → Type 0) → IsAnswered r other told → IfOk r P → P other → IfOk told P
answered_all (Ok x) other told P is h o = subst (λ q. IfOk q P) (sym is) h
answered_all (Err (hold_fault.Fact read_fault.Missing)) other told P is h o = subst (λ q. IfOk q P) (sym is) o
answered_all (Err (hold_fault.Fact read_fault.Keeper)) other told P is h o = subst (λ q. IfOk q P) (sym is) tt
answered_all (Err (hold_fault.Fact read_fault.NoMemory)) other told P is h o = subst (λ q. IfOk q P) (sym is) tt
answered_all (Err hold_fault.NoMemory) other told P is h o = subst (λ q. IfOk q P) (sym is) tt

-- ---- what he sees of what is told

module _ {K : Type 0} (g : Ghosts K) (by : Caller) where
  -- what he is told behind a question he was told before it, and the other way round
  pub tells_back : (a b : Engine K) → OnlyAsked g a b → (told : Told) → TellsTo g by b told → TellsTo g by a told
  tells_back a b asked told tells =
      (tells.0, (tells.1.0, asked.same.only tells.1.0 tells.1.1, tells.1.2, tells.1.3), subst (λ (models : List ModelInfo). told ≡ seen models by.policy.now by.groups.now by.user tells.0) asked.same.models tells.2)

  pub tells_on : (a b : Engine K) → OnlyAsked g a b → (told : Told) → TellsTo g by a told → TellsTo g by b told
  tells_on a b asked told tells =
      (tells.0, (tells.1.0, asked.same.stands tells.1.0 tells.1.1, tells.1.2, tells.1.3), subst (λ (models : List ModelInfo). told ≡ seen models by.policy.now by.groups.now by.user tells.0) (sym asked.same.models) tells.2)

  -- so what holds of all that he was told holds of all that he is, and the other way round
  pub told_on : (a b : Engine K) (P : Told → Type 0) → OnlyAsked g a b → OfAllTold (TellsTo g by a) P → OfAllTold (TellsTo g by b) P
  told_on a b P asked h told tells = h told (tells_back a b asked told tells)

  pub told_back : (a b : Engine K) (P : Told → Type 0) → OnlyAsked g a b → OfAllTold (TellsTo g by b) P → OfAllTold (TellsTo g by a) P
  told_back a b P asked h told tells = h told (tells_on a b asked told tells)

  -- what holds of what he sees of all that is told holds of all that he is told
  pub told_seen : (a : Engine K) (P : Told → Type 0) → OfAllTold (TellsOf g a) (λ all. P (seen a.held.models by.policy.now by.groups.now by.user all)) → OfAllTold (TellsTo g by a) P
  told_seen a P h told tells = subst P (sym tells.2) (h tells.0 tells.1)

  pub seen_told : (a : Engine K) (P : Told → Type 0) → OfAllTold (TellsTo g by a) P → OfAllTold (TellsOf g a) (λ all. P (seen a.held.models by.policy.now by.groups.now by.user all))
  seen_told a P h all tells = h (seen a.held.models by.policy.now by.groups.now by.user all) (all, tells, refl)

  -- an engine that has tables tells him what he sees of them
  pub tells_tables_to : (a : Engine K) (tables : Tables) → HasTables (standpoint g a) tables → TellsTo g by a (seen_by by a.held.models (told_by a.held.models tables))
  tells_tables_to a tables rests = (told_by a.held.models tables, tells_tables g a tables rests, refl)

-- ---- the first of several lists

module _ {A : Type 0} (p : A → Bool) where
  -- of two lists behind one another the first that has one
  pub find_then : (xs ys : List A) → find p (xs ++ ys) ≡ option_or (find p xs) (find p ys)
  find_then [] ys = refl
  find_then (x ∷ xs) ys = by (p x) (find_then xs ys) where
    by : (b : Bool) → find p (xs ++ ys) ≡ option_or (find p xs) (find p ys) → cond b (Some x) (find p (xs ++ ys)) ≡ option_or (cond b (Some x) (find p xs)) (find p ys)
    by true more = refl
    by false more = more
