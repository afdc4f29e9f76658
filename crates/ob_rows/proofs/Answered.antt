-- Answers of an engine about rows, told apart, and the groups of a caller.
use Rattle.std.proofs.Common.{◌≡◌, List, Result, Ok, Err, sym, subst}
use Rattle.std.specs.Prelude.{◌↔◌, Contains, IfErr, IfOk, Option, Some}
use Rattle.ob_access.proofs.CallerLemmas.{groups_some}
use Rattle.ob_access.specs.Policies.{PolicyData}
use Rattle.ob_access.specs.Users.{AreGroupsOf, IsInGroup, users_of}
use Rattle.ob_access.specs.declared.users.Users.{Users}
use Rattle.ob_base.specs.Rising.{IsRising}
use Rattle.ob_base.specs.declared.id.RecId.{RecId}
use Rattle.ob_base.specs.declared.refusal.Refusal.{Refusal}
use Rattle.ob_cache.specs.Calls.{Refuses}
use Rattle.ob_cache.specs.Standing.{Holding, RestsAt}
use Rattle.ob_cache.specs.Telling.{FailsFacts, TellsFacts}
use Rattle.ob_cache.specs.declared.fault.ReadFault.{ReadFault}
use Rattle.ob_cache.specs.declared.fault.ReadFault.TheVariants as read_fault
use Rattle.ob_domain.specs.Holding.{IsHoldFault}
use Rattle.ob_domain.specs.declared.fault.HoldFault.{HoldFault}
use Rattle.ob_domain.specs.declared.fault.HoldFault.TheVariants as hold_fault
use Rattle.ob_io.specs.Store.{Store}
use Rattle.ob_rows.proofs.MissingRows.{rests-tells}
use Rattle.ob_rows.specs.AskingSteps.{IsAnswered}
use Rattle.ob_schema.specs.Facts.{OfAllTold, Told, told_by}
use Rattle.ob_schema.specs.Tables.{Tables}

-- what is told, whether the keeper failed, and the faults of a question
module _ (tells : Told → Type 0) (rose : Type 0) (Fails : ReadFault → Type 0) (law : (why : ReadFault) → Fails why → FailsFacts tells rose why) where
  -- what is told apart is what the facts told
  pub answered-told : {T : Type 0} (r : Result T (HoldFault ReadFault)) (other : T) (told : Result T Refusal) (P : T → Told → Type 0) → IsAnswered r other told → IfOk r (λ x. OfAllTold tells (P x))
      → IfErr r (IsHoldFault Fails) → IfOk told (λ x. OfAllTold tells (P x))
  answered-told (Ok x) other told P is h failed = subst (λ q. IfOk q (λ x. OfAllTold tells (P x))) (sym is) h
  answered-told (Err (hold_fault.Fact read_fault.Missing)) other told P is h failed = subst (λ q. IfOk q (λ x. OfAllTold tells (P x))) (sym is) (λ seen say. absurd (law read_fault.Missing failed seen say))
  answered-told (Err (hold_fault.Fact read_fault.Keeper)) other told P is h failed = subst (λ q. IfOk q (λ x. OfAllTold tells (P x))) (sym is) tt
  answered-told (Err (hold_fault.Fact read_fault.NoMemory)) other told P is h failed = subst (λ q. IfOk q (λ x. OfAllTold tells (P x))) (sym is) tt
  answered-told (Err hold_fault.NoMemory) other told P is h failed = subst (λ q. IfOk q (λ x. OfAllTold tells (P x))) (sym is) tt

  -- and is refused only where the keeper failed, or memory is wanting
  pub answered-causes : {T : Type 0} (r : Result T (HoldFault ReadFault)) (other : T) (told : Result T Refusal) → IsAnswered r other told → IfErr r (IsHoldFault Fails) → IfErr told (Refuses rose (λ _. ⊥))
  answered-causes (Ok x) other told is failed = subst (λ q. IfErr q (Refuses rose (λ _. ⊥))) (sym is) tt
  answered-causes (Err (hold_fault.Fact read_fault.Missing)) other told is failed = subst (λ q. IfErr q (Refuses rose (λ _. ⊥))) (sym is) tt
  answered-causes (Err (hold_fault.Fact read_fault.Keeper)) other told is failed = subst (λ q. IfErr q (Refuses rose (λ _. ⊥))) (sym is) (law read_fault.Keeper failed)
  answered-causes (Err (hold_fault.Fact read_fault.NoMemory)) other told is failed = subst (λ q. IfErr q (Refuses rose (λ _. ⊥))) (sym is) tt
  answered-causes (Err hold_fault.NoMemory) other told is failed = subst (λ q. IfErr q (Refuses rose (λ _. ⊥))) (sym is) tt

-- the groups of a user, as facts tell them
abbrev pub AreHis : PolicyData → Users → RecId → List RecId → Told → Type 0
AreHis policy users user own told = IsRising own × ((group : RecId) → Contains own group ↔ IsInGroup policy told users user group)

-- both that is known of them
pub his-groups : {E : Type 0} (tells : Told → Type 0) (policy : PolicyData) (users : Users) (user : RecId) (r : Result (List RecId) E)
    → IfOk r (λ own. OfAllTold tells (λ told. (group : RecId) → Contains own group ↔ IsInGroup policy told users user group)) → IfOk r IsRising → IfOk r (λ own. OfAllTold tells (AreHis policy users user own))
his-groups tells policy users user (Ok own) members rising = λ told say. (rising, members told say)
his-groups tells policy users user (Err why) members rising = tt

-- so an engine that rests at tables has told his groups in these
pub groups-at : (kept : Option Store) (held : Holding) (policy : PolicyData) (users : Users) (user : RecId) (own : List RecId) → users_of held.models ≡ Some users
    → OfAllTold (TellsFacts kept held) (AreHis policy users user own) → (tables : Tables) → RestsAt kept held tables → AreGroupsOf held.models policy tables user own
groups-at kept held policy users user own are his tables rests =
    let known = his (told_by held.models tables) (rests-tells kept held tables rests) in
    groups_some held.models policy tables user users own are known.0 known.1
