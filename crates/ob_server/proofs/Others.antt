-- Rows of other models stay through each step.
use Rattle.std.proofs.Common.{◌≡◌, Option, refl, ◌∙◌, List}
use Rattle.ob_cache.specs.Kept.{OthersStay}
use Rattle.ob_io.specs.Store.{Store}
use Rattle.ob_schema.specs.declared.info.ModelInfo.{ModelInfo}

-- where nothing changed
pub others_same : (models : List ModelInfo) (before now : Option Store) → now ≡ before → OthersStay models before now
others_same models before now same = rw same (record { rows = λ other id apart. refl; next = λ other apart. refl })

-- one step after another
pub others_on : (models : List ModelInfo) (before mid now : Option Store) → OthersStay models before mid → OthersStay models mid now → OthersStay models before now
others_on models before mid now first then = record {
  rows = λ other id apart. then.rows other id apart ∙ first.rows other id apart;
  next = λ other apart. then.next other apart ∙ first.next other apart;
}
