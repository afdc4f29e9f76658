-- What a create and a write are handed: objects of values, whose keys are names of the model's fields, and ids.
use Rattle.std.specs.Prelude.{ℕ, ◌+◌, List, [], ◌∷◌, codes, is_some, if◌then◌else◌, true, Option, Some, None}
use Rattle.std.specs.Option.{option_map_or}
use Rattle.ob_base.specs.declared.place.PathStep.{PathStep}
use Rattle.ob_base.specs.declared.place.PathStep.TheVariants.{Item, Key}
use Rattle.ob_call.specs.Arguments.{Expected, entries}
use Rattle.ob_call.specs.Forms.{ids_fault}
use Rattle.ob_codec.specs.Commands.{listed}
use Rattle.ob_schema.specs.Models.{field_named}
use Rattle.ob_schema.specs.declared.info.FieldInfo.{FieldInfo}
use Rattle.serde_json.specs.Data.{Data, array, object}

module _ (fields : List FieldInfo) where
  -- the place of the first key that is no field's name
  abbrev pub unknown_key : List (List ℕ × Data) → Option (List PathStep)
  unknown_key [] = None
  unknown_key (e ∷ es) = if is_some (field_named fields e.0) then unknown_key es else Some (Key e.0 ∷ [])

  -- an object of values, each for one of these fields
  abbrev pub object_fault : Data → Option (List PathStep)
  object_fault (object members) = unknown_key (entries members)
  object_fault _ = Some []

  -- where the first item of a list that is no such object is wrong, numbered from one on
  abbrev pub wrong_item : ℕ → List Data → Option (List PathStep)
  wrong_item n [] = None
  wrong_item n (d ∷ ds) = option_map_or (λ below. Some (Item n ∷ below)) (object_fault d) (wrong_item (n + 1) ds)

  -- such an object, or a list of such objects
  abbrev pub objects_fault : Data → Option (List PathStep)
  objects_fault (array items) = wrong_item 0 (listed items)
  objects_fault d = object_fault d

  -- what a create is called with
  abbrev pub create_expects : List Expected
  create_expects = record { name = codes "vals"; required = true; fault = objects_fault } ∷ []

  -- what a write is called with
  abbrev pub write_expects : List Expected
  write_expects = record { name = codes "ids"; required = true; fault = ids_fault } ∷ record { name = codes "vals"; required = true; fault = object_fault } ∷ []
