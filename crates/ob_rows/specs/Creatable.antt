-- Of which models calls make and change rows so far.
use Rattle.std.specs.Prelude.{◌&&◌, Bool, List, false, bytes_eq, codes, not}
use Rattle.std.specs.List.{list_all, list_any}
use Rattle.std.specs.Option.{option_map_or}
use Rattle.ob_schema.specs.Models.{model_at}
use Rattle.ob_schema.specs.declared.info.ModelInfo.{ModelInfo}

-- whether rows of a model may be made and changed, its fixed fields aside: it isn't managed, and no condition locks its rows
abbrev pub is_open : ModelInfo → Bool
is_open info = not info.managed && not (list_any (λ field. bytes_eq field.name (codes "locked")) info.hidden)

-- whether they may be changed: and no field is fixed
abbrev pub is_changeable : ModelInfo → Bool
is_changeable info = is_open info && not (list_any (λ field. field.fixed) info.fields)

module _ (models : List ModelInfo) where
  -- whether rows of a model's parents may be made and changed with its own
  abbrev pub has_open_parents : ModelInfo → Bool
  has_open_parents info = list_all (λ parent. option_map_or is_open (model_at models parent.model) false) info.inherits

  -- whether a create makes rows of a model: it isn't managed, and rows of its parents may be made and changed with its own
  abbrev pub is_creatable : ModelInfo → Bool
  is_creatable info = not info.managed && has_open_parents info

  -- whether a write changes rows of a model: they may be changed, and those of its parents with them
  abbrev pub is_writable : ModelInfo → Bool
  is_writable info = is_changeable info && has_open_parents info
