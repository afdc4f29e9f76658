-- Objects of values that one argument gives: one object, or a list of them.
use Rattle.std.specs.Prelude.{ℕ, ◌+◌, List, [], ◌∷◌, ◌++◌, codes, true, Option, Some, None}
use Rattle.std.specs.Option.{option_map_or}
use Rattle.ob_base.specs.declared.place.PathStep.{PathStep}
use Rattle.ob_base.specs.declared.place.PathStep.TheVariants.{Item}
use Rattle.ob_call.specs.Arguments.{Expected, Given}
use Rattle.ob_codec.specs.Commands.{listed}
use Rattle.ob_schema.specs.declared.info.FieldInfo.{FieldInfo}
use Rattle.ob_schema.specs.declared.info.ModelInfo.{ModelInfo}
use Rattle.serde_json.specs.Data.{Data, array}
use Rattle.ob_rows.specs.Values.{new_values_fault}

-- where the first item that breaks a form breaks it: the number of the item, counted from one on, and the steps below it
abbrev pub first_wrong : (Data → Option (List PathStep)) → ℕ → List Data → Option (List PathStep)
first_wrong fault n [] = None
first_wrong fault n (d ∷ ds) = option_map_or (λ below. Some (Item n ∷ below)) (fault d) (first_wrong fault (n + 1) ds)

-- an object of values for these fields of a row that is made, or a list of such objects
abbrev pub objects_fault : List ModelInfo → List FieldInfo → Data → Option (List PathStep)
objects_fault models fields (array items) = first_wrong (new_values_fault models fields) 0 (listed items)
objects_fault models fields d = new_values_fault models fields d

-- what calls expect of the values of one row, or of several
abbrev pub objects_expected : List ModelInfo → List FieldInfo → Expected
objects_expected models fields = record { name = codes "vals"; required = true; fault = objects_fault models fields }

-- the items of a list at a place, each at its own: its number, counted from one on
abbrev pub items_at : List PathStep → ℕ → List Data → List Given
items_at place n [] = []
items_at place n (d ∷ ds) = record { place = place ++ Item n ∷ []; json = d } ∷ items_at place (n + 1) ds
