-- After the changes from tables to others a store keeps the others.
use Rattle.std.proofs.Common.{◌≡◌, List, Option, Some, None, Result, Ok, Err, is_some, refl, sym, ap, subst, ◌∙◌}
use Rattle.std.specs.Prelude.{IfSome, IsSomeAnd, OnErr, OnOk, option_and_then, option_map}
use Rattle.ob_base.specs.declared.id.RecId.{RecId}
use Rattle.ob_cache.specs.Changing.{ChangesTo, form_of, next_made, row_made}
use Rattle.ob_cache.specs.Kept.{Kept, KeepsModel, OthersStay, kept_row}
use Rattle.ob_cache.proofs.Changing.{next-changed, rows-changed}
use Rattle.ob_cache.proofs.Standings.{stands-are}
use Rattle.ob_cache.specs.Stages.{IsUsable, Stages, StandsOver}
use Rattle.ob_cache.specs.Standing.{Stands}
use Rattle.ob_io.specs.Store.{Store, all_changed, next_of as kept_next_of, row_at as kept_row_at}
use Rattle.ob_io.specs.declared.store.Change.{Change}
use Rattle.ob_schema.specs.Models.{HasModel, model_at}
use Rattle.ob_schema.specs.Tables.{Standing, key_of, row_at}
use Rattle.ob_schema.specs.declared.info.ModelInfo.{ModelInfo}
use Rattle.ob_tables.proofs.CallerLemmas.{known_if, rows_total}

module _ (old new : Standing) (same : old.models ≡ new.models) (changes : List Change) (to : ChangesTo old new changes) where
  pub kept-after : (store : Store) → Kept old.models old.tables store → Kept new.models new.tables (all_changed changes store)
  kept-after store kept model = by (model_at new.models model) refl
    where
      by : (o : Option ModelInfo) → model_at new.models model ≡ o → IfSome o (KeepsModel new.models new.tables (all_changed changes store) model)
      by None is = tt
      by (Some info) is = record { rows = rows; next = next-changed changes store model ∙ ap (next_made changes model) before.next ∙ to.next model there }
        where
          is_old : model_at old.models model ≡ Some info
          is_old = ap (λ (models : List ModelInfo). model_at models model) same ∙ is

          there : HasModel old.models model
          there = ap is_some is_old

          before : KeepsModel old.models old.tables store model info
          before = known_if (model_at old.models model) info (KeepsModel old.models old.tables store model) is_old (kept model)

          form : (s : Standing) → model_at s.models model ≡ Some info → (id : RecId) → form_of s (key_of model id) ≡ option_map (kept_row s.models s.tables model info id) (row_at s.tables model id)
          form s s_is id = ap (λ (o : Option ModelInfo). option_and_then (λ i. option_map (kept_row s.models s.tables model i id) (row_at s.tables model id)) o) s_is

          rows : (id : RecId) → kept_row_at (all_changed changes store) model id ≡ option_map (kept_row new.models new.tables model info id) (row_at new.tables model id)
          rows id =
              rows-changed rows_total changes store (key_of model id)
              ∙ ap (row_made changes (key_of model id)) (before.rows id ∙ sym (form old is_old id))
              ∙ to.rows (key_of model id) there ∙ form new is id

  -- rows and next ids of other models stay
  pub others-after : (before : Option Store) → OthersStay old.models before (option_map (all_changed changes) before)
  others-after None = record { rows = λ model id none. refl; next = λ model none. refl }
  others-after (Some store) = record {
    rows = λ model id none. ap Some (rows-changed rows_total changes store (key_of model id) ∙ to.other_rows (key_of model id) (kept_row_at store model id) none);
    next = λ model none. ap Some (next-changed changes store model ∙ to.other_next model (kept_next_of store model) none);
  }

-- what an engine held is kept after the changes to it
pub held-kept : (before now : Option Store) (held at : Stages) (changes : List Change) → Stands before held at → IsUsable held.phase
    → ChangesTo (record { models = held.models; tables = held.flushed }) (record { models = held.models; tables = held.settled }) changes → now ≡ option_map (all_changed changes) before
    → IsSomeAnd now (Kept at.models at.settled)
held-kept before now held at changes stands usable to is =
    subst (λ (n : Option Store). IsSomeAnd n (Kept at.models at.settled)) (sym is)
    (by before stands.over (subst (λ (s : Stages). ChangesTo (record { models = s.models; tables = s.flushed }) (record { models = s.models; tables = s.settled }) changes) (sym (stands-are before held at stands usable)) to))
  where
    by : (b : Option Store) → IsSomeAnd b (StandsOver at) → ChangesTo (record { models = at.models; tables = at.flushed }) (record { models = at.models; tables = at.settled }) changes
        → IsSomeAnd (option_map (all_changed changes) b) (Kept at.models at.settled)
    by None over to = absurd over
    by (Some store) over to = kept-after (record { models = at.models; tables = at.flushed }) (record { models = at.models; tables = at.settled }) refl changes to store over.kept

-- others stay, whether the changes are carried out or not
pub others-stay : {X E : Type 0} (r : Result X E) (old new : Standing) (before now : Option Store) (changes : List Change) → old.models ≡ new.models → ChangesTo old new changes
    → OnOk r (now ≡ option_map (all_changed changes) before) → OnErr r (now ≡ before) → OthersStay old.models before now
others-stay (Ok x) old new before now changes same to ok err = subst (OthersStay old.models before) (sym ok) (others-after old new same changes to before)
others-stay (Err e) old new before now changes same to ok err = subst (OthersStay old.models before) (sym err) (record { rows = λ model id none. refl; next = λ model none. refl })
