-- What the refusals of a call say is true of the tables before it, and may come over any keeper.
use Rattle.std.proofs.Common.{◌≡◌, ◌++◌, ℕ, true, false, List, Some, None, sym, subst}
use Rattle.std.specs.Prelude.{Contains}
use Rattle.ob_access.specs.Admission.{denier}
use Rattle.ob_access.specs.Rights.{field_right, right}
use Rattle.ob_access.specs.Users.{AreGroupsOf}
use Rattle.ob_base.specs.declared.id.ModelNo.{ModelNo}
use Rattle.ob_base.specs.declared.id.RecId.{RecId}
use Rattle.ob_base.specs.declared.place.PathStep.{PathStep}
use Rattle.ob_base.specs.declared.refusal.Op.TheVariants as op
use Rattle.ob_base.specs.declared.refusal.Refusal.{Refusal}
use Rattle.ob_base.specs.declared.refusal.Refusal.TheVariants as refusal
use Rattle.ob_cache.specs.Calls.{HasTables, standpoint}
use Rattle.ob_cache.specs.Stages.{resting}
use Rattle.ob_cache.specs.declared.engine.Engine.{Engine}
use Rattle.ob_call.specs.Called.{Called}
use Rattle.ob_commands.proofs.SettledCalls.{rests-tells}
use Rattle.ob_commands.specs.Changes.{IsTrue, MayBeTrue, Names}
use Rattle.ob_commands.specs.Making.{StopsCreate, StopsWrite}
use Rattle.ob_effect.specs.declared.asking.Caller.{Caller}
use Rattle.ob_expr.specs.Meaning.{row_at}
use Rattle.ob_io.specs.declared.keeper.Keeper.{Ghosts}
use Rattle.ob_schema.specs.Facts.{told_by}
use Rattle.ob_schema.specs.Tables.{Tables}
use Rattle.ob_schema.specs.Tables.{row_at as tables_row}
use Rattle.ob_schema.specs.declared.info.ModelInfo.{ModelInfo}

module _ {K : Type 0} (g : Ghosts K) (by : Caller) (called : Called) (user : by.user ≡ called.caller) (a : Engine K) (place : List PathStep) (IsWrong : List PathStep → Type 0)
    (wrong : (below : List PathStep) → IsWrong (place ++ below)) where
  abbrev models : List ModelInfo
  models = a.held.models

  abbrev own : List RecId
  own = by.groups.now

  module _ (tables : Tables) (rests : HasTables (standpoint g a) tables) (groups : AreGroupsOf models by.policy.now tables called.caller own) where
    pub create-true : (why : Refusal) → StopsCreate g by a place why → IsTrue models by.policy.now called IsWrong tables why
    create-true (refusal.Request wrong_at) h = subst IsWrong (sym h.1) (wrong h.0)
    create-true (refusal.Right model operation) h = (own, groups, subst (λ (who : RecId). right by.policy.now own who model operation ≡ false) user h)
    create-true (refusal.FieldRight model field) h = (own, groups, subst (λ (who : RecId). field_right by.policy.now own who model field true ≡ false) user h)
    create-true (refusal.Rule model op.Create id (Some name)) h =
        let (in_tables, sound, denied) = h (resting models tables) rests in
        (own, groups, (in_tables, sound, subst (λ (who : RecId). denier by.policy.now (told_by models in_tables) own who op.Create (row_at model id) ≡ Some name) user denied))
    create-true (refusal.Rule model op.Read id (Some name)) h = (
      own,
      groups,
      subst (λ (who : RecId). denier by.policy.now (told_by models tables) own who op.Read (row_at model id) ≡ Some name) user (h (told_by models tables) (rests-tells (g.kept a.keeper.now) a.held tables rests)),
    )
    create-true (refusal.Rule model op.Write id (Some name)) h = (
      own,
      groups,
      subst (λ (who : RecId). denier by.policy.now (told_by models tables) own who op.Write (row_at model id) ≡ Some name) user (h (told_by models tables) (rests-tells (g.kept a.keeper.now) a.held tables rests)),
    )
    create-true (refusal.Rule model op.Unlink id (Some name)) h = (
      own,
      groups,
      subst (λ (who : RecId). denier by.policy.now (told_by models tables) own who op.Unlink (row_at model id) ≡ Some name) user (h (told_by models tables) (rests-tells (g.kept a.keeper.now) a.held tables rests)),
    )
    create-true (refusal.Constraint broken) h = h
    create-true _ h = absurd h

    pub write-true : (ids : List ℕ) → ((id : ℕ) → Contains ids id → Names called id) → (why : Refusal) → StopsWrite g by called.model ids a place why → IsTrue models by.policy.now called IsWrong tables why
    write-true ids names (refusal.Missing model id) h = (h.0, names id.0 h.1.0, subst (λ (m : ModelNo). tables_row tables m id ≡ None) (sym h.0) (h.1.1 (resting models tables) rests))
    write-true ids names why h = create-true why h

  -- over any keeper
  pub create-may : (why : Refusal) → StopsCreate g by a place why → MayBeTrue models by.policy.now called IsWrong why
  create-may (refusal.Request wrong_at) h = subst IsWrong (sym h.1) (wrong h.0)
  create-may (refusal.Right model operation) h = (own, subst (λ (who : RecId). right by.policy.now own who model operation ≡ false) user h)
  create-may (refusal.FieldRight model field) h = (own, subst (λ (who : RecId). field_right by.policy.now own who model field true ≡ false) user h)
  create-may (refusal.Rule model op.Create id (Some name)) h = tt
  create-may (refusal.Rule model op.Read id (Some name)) h = tt
  create-may (refusal.Rule model op.Write id (Some name)) h = tt
  create-may (refusal.Rule model op.Unlink id (Some name)) h = tt
  create-may (refusal.Constraint broken) h = h
  create-may _ h = absurd h

  pub write-may : (ids : List ℕ) → ((id : ℕ) → Contains ids id → Names called id) → (why : Refusal) → StopsWrite g by called.model ids a place why → MayBeTrue models by.policy.now called IsWrong why
  write-may ids names (refusal.Missing model id) h = (h.0, names id.0 h.1.0)
  write-may ids names why h = create-may why h
