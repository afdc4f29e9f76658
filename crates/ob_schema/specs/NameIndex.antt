-- The index of models by name.
use Rattle.std.specs.Prelude.{◌≡◌, ℕ, List}
use Rattle.std.specs.BTreeMap.{BTreeMap, get_by_text}
use Rattle.std.specs.declared.alloc.Global.{Global}
use Rattle.std.specs.declared.string.String.{String}
use Rattle.ob_base.specs.declared.id.ModelNo.{ModelNo}
use Rattle.ob_schema.specs.declared.info.ModelInfo.{ModelInfo}
use Rattle.ob_schema.specs.Models.{model_named}

-- the index has the number of the first model of each name, and no other name
abbrev pub IsIndexOf : BTreeMap (String Global) ModelNo → List ModelInfo → Type 0
IsIndexOf index models = (name : List ℕ) → get_by_text index name ≡ model_named models name
