-- From a store that was filled, or left as it was, to one that was opened.
use Rattle.std.proofs.Common.{◌≡◌, ℕ, ℤ, ◌≤◌, List, Option, Some, ap, ◌∙◌, subst, inl, inr}
use Rattle.std.specs.Prelude.{option_map}
use Rattle.ob_cache.specs.Kept.{OthersStay}
use Rattle.ob_cache.specs.Standing.{Holding, RestsAt}
use Rattle.ob_io.specs.Moments.{later}
use Rattle.ob_schema.specs.Tables.{Tables}
use Rattle.ob_schema.specs.declared.info.ModelInfo.{ModelInfo}
use Rattle.ob_schema.specs.declared.preset.PresetRow.{PresetRow}
use Rattle.ob_server.specs.Opening.{Begins, Opening}
use Rattle.ob_server.specs.Outside.{Surroundings}
use Rattle.ob_server.specs.Session.{StandsFor}
use Rattle.ob_server.proofs.SessionOn.{told_rows}

-- an engine that rests at the tables from which requests are answered has its store opened so
pub opened_at : (models : List ModelInfo) (preset : List PresetRow) (first begun : Tables) (held : Holding) (before now : Surroundings) → held.models ≡ models
    → Begins models preset first begun before.coming now.coming → RestsAt now.kept held begun → now.written ≡ before.written → OthersStay models before.kept now.kept → before.faults ≤ now.faults
    → Opening models preset first begun before now
opened_at models preset first begun held before now same begins rests written others count =
    let rows = told_rows now.kept held begun rests in record {
      begins = begins;
      store = rows.0;
      kept_is = rows.1;
      stands = subst (λ (m : List ModelInfo). StandsFor m begun rows.0) same rows.2;
      written = written;
      others = others;
      count = count;
    }

-- a clock that told moments tells the later ones behind it
pub still_coming : (models : List ModelInfo) (preset : List PresetRow) (first begun : Tables) (coming coming_now : Option (ℕ → ℤ)) (moments : ℕ → ℤ)
    → Begins models preset first begun coming coming_now → coming ≡ Some moments → (rest : ℕ → ℤ) × (coming_now ≡ Some rest)
still_coming models preset first begun coming coming_now moments (inl filled) given = (later moments, filled.takes.rest ∙ ap (option_map later) given)
still_coming models preset first begun coming coming_now moments (inr left) given = (moments, left.unasked ∙ given)
