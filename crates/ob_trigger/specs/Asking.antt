-- Private: what questions to links leave of them.
use Rattle.std.specs.Prelude.{◌≡◌, List}
use Rattle.ob_schema.specs.Facts.{Asked, OfAllTold}
use Rattle.ob_schema.specs.Links.{Sides}
use Rattle.ob_schema.specs.declared.info.ModelInfo.{ModelInfo}

-- between these, links were asked alone: they are between rows of the same models, what they told they tell, and nothing else
pub record AskedAlone {S : Type 0} (asks : S → S → Type 0) (registry : S → List ModelInfo) (tells : S → Sides → Type 0) (old new : S) : Type 0 where
  pub asked : Asked asks old new
  pub same : registry new ≡ registry old
  pub kept : OfAllTold (tells old) (tells new)
  pub only : OfAllTold (tells new) (tells old)
