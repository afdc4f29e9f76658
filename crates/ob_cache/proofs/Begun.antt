-- An engine that was opened stands at the tables whose rows its keeper keeps.
use Rattle.std.proofs.Common.{◌≡◌, List, Option, Some, None, ap, refl, subst, sym, ◌∙◌}
use Rattle.std.specs.Prelude.{IfSome, IsSome, IsSomeAnd}
use Rattle.ob_cache.specs.Kept.{Kept}
use Rattle.ob_cache.specs.Stages.{Stages, StandsOver, resting}
use Rattle.ob_cache.specs.Standing.{Stands}
use Rattle.ob_io.specs.Store.{Store}
use Rattle.ob_schema.specs.Broken.{AreSound}
use Rattle.ob_schema.specs.Tables.{Standing, Tables}
use Rattle.ob_schema.specs.declared.info.ModelInfo.{ModelInfo}

none-is-not-some : (o : Option Store) → o ≡ None → IsSome o → ⊥
none-is-not-some o is some = cc

pub begun : (before now : Option Store) (whole : Standing) (models : List ModelInfo) (held : Stages) → now ≡ before → whole.models ≡ models → held ≡ resting models whole.tables → IfSome before (Kept whole.models whole.tables)
    → AreSound held.models held.flushed → IsSome before → (tables : Tables) × Stands now held (resting held.models tables)
begun None now whole models held same over is kept sound some = absurd (none-is-not-some None refl some)
begun (Some store) now whole models held same over is kept sound some = (
  whole.tables,
  record {
    models_are = refl;
    phase_is = sym (ap (λ (h : Stages). h.phase) is);
    over = subst (λ (o : Option Store). IsSomeAnd o (StandsOver (resting held.models whole.tables))) (sym same) (record {
      kept = subst (λ (m : List ModelInfo). Kept m whole.tables store) (over ∙ sym (ap (λ (h : Stages). h.models) is)) kept;
      sound = are_sound;
      settled = λ u. are_sound;
      fits = λ u. are_sound.fits;
      at_rest = λ u. refl;
    });
    tables = record { flushed = sym (ap (λ (h : Stages). h.flushed) is); settled = λ u. sym (ap (λ (h : Stages). h.settled) is); staged = λ u. sym (ap (λ (h : Stages). h.staged) is) };
  },
)
  where
    are_sound : AreSound held.models whole.tables
    are_sound = subst (λ (t : Tables). AreSound held.models t) (ap (λ (h : Stages). h.flushed) is) sound
