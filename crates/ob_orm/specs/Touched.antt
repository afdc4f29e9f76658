-- Which rows a write touches: those that it names, and with each the rows of its parents for whose fields something is given.
use Rattle.std.specs.Prelude.{ℕ, List, [], ◌∷◌, map, filter, Bool, true, false, Option, option_and_then, option_map}
use Rattle.std.specs.List.{filter_map, flat_map}
use Rattle.std.specs.Option.{option_map_or, option_or}
use Rattle.ob_base.specs.declared.id.FieldNo.{FieldNo}
use Rattle.ob_base.specs.declared.id.ModelNo.{ModelNo}
use Rattle.ob_base.specs.declared.id.RecId.{RecId}
use Rattle.ob_base.specs.declared.id.RowKey.{RowKey}
use Rattle.ob_orm.specs.NewRows.{Values, behind, parents_of, row_named, value_for}
use Rattle.ob_schema.specs.Plain.{plain_at}
use Rattle.ob_schema.specs.Tables.{Tables, key_of, row_at}
use Rattle.ob_schema.specs.declared.info.ModelInfo.{ModelInfo}
use Rattle.ob_schema.specs.declared.info.ParentInfo.{ParentInfo}

-- the row that a link of a row names behind a change: by what is given for it, false too, else by what it has
abbrev pub linked_in : List ModelInfo → ModelNo → Tables → Values → ℕ → FieldNo → Option RecId
linked_in models model old given id link = option_and_then row_named (option_or (value_for given link.0) (plain_at old models (record { model = model; id = record { 0 = id }; field = link })))

-- something is given
abbrev pub is_any : Values → Bool
is_any [] = false
is_any (one ∷ more) = true

module _ (models : List ModelInfo) (model : ModelNo) (given : Values) where
  -- the parents of a model for whose fields something is given
  abbrev pub given_parents : List ParentInfo
  given_parents = filter (λ parent. is_any (behind models model parent.link given)) (parents_of models model)

  -- the models whose rows a write may touch so: its own, and those of these parents
  abbrev pub touched_models : List ModelNo
  touched_models = model ∷ map (λ parent. parent.model) given_parents

  module _ (old : Tables) where
    -- the row of a parent that the link to it names behind the change of a row, where there is one
    abbrev pub parent_row : ℕ → ParentInfo → Option RowKey
    parent_row id parent = option_and_then (λ row. option_map (λ there. key_of parent.model row) (row_at old parent.model row)) (linked_in models model old given id parent.link)

    -- the rows of those parents that are changed with a row, where that is there
    abbrev pub parent_rows : ℕ → List RowKey
    parent_rows id = option_map_or (λ there. filter_map (parent_row id) given_parents) (row_at old model (record { 0 = id })) []

    -- row by row, each followed by those of its parents
    abbrev pub touched : List ℕ → List RowKey
    touched ids = flat_map (λ id. key_of model (record { 0 = id }) ∷ parent_rows id) ids
