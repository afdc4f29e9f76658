-- What staging the edits of a create or a write asks and leaves, beside the edits themselves: these are `made_row` and `edits_of_row`.
use Rattle.std.specs.Prelude.{◌≡◌, List, All, IsSome, Option}
use Rattle.ob_cache.specs.Stages.{Stages}
use Rattle.ob_cache.specs.Standing.{Holding, OfStages, Stands}
use Rattle.ob_io.specs.Store.{Store}
use Rattle.ob_orm.specs.NewRows.{Values, linked}
use Rattle.ob_schema.specs.declared.info.ParentInfo.{ParentInfo}

-- of each parent a row is given by an id, so that none is made with the row
abbrev pub AreLinked : Values → List ParentInfo → Type 0
AreLinked values parents = All (λ parent. IsSome (linked values parent.link)) parents

-- it failed: what is kept is what it was, and the tables to which `forget` leads back are too
pub record KeepsFlushed (before : Option Store) (old : Holding) (now : Option Store) (new : Holding) : Type 0 where
  pub kept : now ≡ before
  pub models : new.models ≡ old.models
  pub stands : OfStages before old (λ at. (last : Stages) × Stands now new last × (last.flushed ≡ at.flushed))
